use Rattle.std.proofs.Common.{◌∙◌, sym, subst, List}
use Rattle.std.specs.Prelude.{All}
use Rattle.escrow_units.specs.OpenDays.{IsBy2190}
use Rattle.payment_schedule.specs.Schedule.{IsShort}
use Rattle.payment_schedule.specs.declared.schedule.ScheduledPayment.{ScheduledPayment}
use Rattle.market_notes.proofs.FlowFacts.{schedule-is, schedule-short}
use Rattle.market_notes.proofs.flows.note_schedule.Goals as goal

pub returns-clause-value : goal.returns-clause-value
returns-clause-value c =
    schedule-is c.args.note.now c.args.closed.now c.loop-date.schedule.items c.loop-date.date-index c.as_slice-date-items.result.now c.loop-date.invariant
    c.loop-date-test.false (c.as_slice-date-items.ensures.value ∙ c.dates_of-dates.ensures.after)

pub returns-clause-short : goal.returns-clause-short
returns-clause-short c =
    subst (λ (schedule : List ScheduledPayment). All (λ payment. IsShort payment.accrual) schedule) (sym (returns-clause-value c)) (schedule-short c.args.note.now c.args.closed.now)

pub payment_on-requires : goal.payment_on-requires
payment_on-requires c =
    let by : All IsBy2190 c.as_slice-date-items.result.now = rw c.as_slice-date-items.ensures.value c.dates_of-dates.ensures.by in
    subst IsBy2190 (sym c.date-item.is) (by c.loop-date.date-index c.date-item.result c.loop-date-test.true)
