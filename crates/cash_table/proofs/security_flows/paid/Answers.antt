use Rattle.std.proofs.Common.{◌≡◌, ◌∙◌, ◌*◌, ◌^◌, ◌≤◌, ◌==◌, All, false, arith, sym, subst}
use Rattle.std.proofs.lemmas.Bool.Decides.{nat_tests}
use Rattle.escrow_units.specs.Flows.{total, FallWithinFortyYears}
use Rattle.offer_book.specs.Schedule.{kind_rate, schedule_of}
use Rattle.offer_book.proofs.LineFacts.{line_par-at_most, line_payments-total, line_payments-within, rate-low}
use Rattle.offer_book.proofs.ScheduleFacts.{schedule-short}
use Rattle.payment_schedule.proofs.ScheduleFacts.{flows_by}
use Rattle.payment_schedule.specs.Schedule.{IsShort}
use Rattle.payment_schedule.specs.declared.schedule.ScheduledPayment.{ScheduledPayment}
use Rattle.cash_table.proofs.ScheduledFacts.{kept-all, kept-few}
use Rattle.cash_table.proofs.security_flows.paid.Goals as goal

all-kept : (c : goal.After-par) → c.args.kept.now ≡ schedule_of c.args.days.now c.args.line.now
all-kept c =
    let some : (kind_rate c.args.line.now.kind == 0) ≡ false = grind (arith, nat_tests) in
    c.requires.kept ∙ kept-all c.args.days.now c.args.line.now some

pub scheduled_flows-requires-clause-few : goal.scheduled_flows-requires-clause-few
scheduled_flows-requires-clause-few c = rw c.requires.kept (kept-few c.args.days.now c.args.line.now c.requires.settlement c.requires.line)

pub scheduled_flows-requires-clause-rate : goal.scheduled_flows-requires-clause-rate
scheduled_flows-requires-clause-rate c = omega (arith, c.rate-else-rate-eq0.ensures, rate-low c.args.days.now c.args.line.now c.requires.line)

pub scheduled_flows-requires-clause-amount : goal.scheduled_flows-requires-clause-amount
scheduled_flows-requires-clause-amount c = omega (arith, c.par.ensures, line_par-at_most c.args.days.now c.args.line.now c.args.units c.requires.line c.requires.units)

pub scheduled_flows-requires-clause-short : goal.scheduled_flows-requires-clause-short
scheduled_flows-requires-clause-short c =
    subst (All (λ (payment : ScheduledPayment). IsShort payment.accrual)) (sym (all-kept c)) (schedule-short c.args.days.now c.args.line.now c.requires.settlement c.requires.line)

pub returns-else-rate-eq0-clause-value : goal.returns-else-rate-eq0-clause-value
returns-else-rate-eq0-clause-value c =
    let some : (kind_rate c.args.line.now.kind == 0) ≡ false = grind (arith, nat_tests) in
    let all : c.args.kept.now ≡ schedule_of c.args.days.now c.args.line.now = c.requires.kept ∙ kept-all c.args.days.now c.args.line.now some in
    c.scheduled_flows.ensures ∙ (λ i. flows_by (c.rate-else-rate-eq0.ensures i) (c.par.ensures i) (all i))

pub returns-else-rate-eq0-clause-within : goal.returns-else-rate-eq0-clause-within
returns-else-rate-eq0-clause-within c =
    subst (FallWithinFortyYears c.args.days.now.settle) (sym (returns-else-rate-eq0-clause-value c)) (line_payments-within c.args.days.now c.args.line.now c.args.units c.requires.settlement c.requires.line)

pub returns-else-rate-eq0-clause-bound : goal.returns-else-rate-eq0-clause-bound
returns-else-rate-eq0-clause-bound c =
    subst (λ flows. total flows ≤ 2 * 10 ^ 13) (sym (returns-else-rate-eq0-clause-value c))
    (omega (arith, line_payments-total c.args.days.now c.args.line.now c.args.units c.requires.settlement c.requires.line c.requires.units))
