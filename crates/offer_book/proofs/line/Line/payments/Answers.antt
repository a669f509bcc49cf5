use Rattle.std.proofs.Common.{◌∙◌, ◌^◌, ◌*◌, ◌≤◌, arith, sym, subst}
use Rattle.escrow_units.specs.Flows.{total, FallWithinFortyYears}
use Rattle.offer_book.proofs.LineFacts.{line_par-at_most, line_payments-total, line_payments-within, rate-low}
use Rattle.payment_schedule.proofs.ScheduleFacts.{flows_by}
use Rattle.offer_book.proofs.line.Line.payments.Goals as goal

pub scheduled_flows-requires-clause-rate : goal.scheduled_flows-requires-clause-rate
scheduled_flows-requires-clause-rate c = omega (arith, c.rate.ensures, rate-low c.args.days.now c.args.self.now c.requires.line)

pub scheduled_flows-requires-clause-amount : goal.scheduled_flows-requires-clause-amount
scheduled_flows-requires-clause-amount c =
    omega (arith, c.par.ensures, line_par-at_most c.args.days.now c.args.self.now c.args.units c.requires.line c.requires.units)

pub returns-clause-value : goal.returns-clause-value
returns-clause-value c =
    c.scheduled_flows.ensures ∙ (λ i. flows_by (c.rate.ensures i) (c.par.ensures i) ((c.as_slice.ensures.value ∙ c.schedule-schedule.ensures.value) i))

pub returns-clause-within : goal.returns-clause-within
returns-clause-within c =
    subst (FallWithinFortyYears c.args.days.now.settle) (sym (returns-clause-value c)) (line_payments-within c.args.days.now c.args.self.now c.args.units c.requires.settlement c.requires.line)

pub returns-clause-bound : goal.returns-clause-bound
returns-clause-bound c =
    subst (λ flows. total flows ≤ 2 * 10 ^ 13) (sym (returns-clause-value c))
    (omega (arith, line_payments-total c.args.days.now c.args.self.now c.args.units c.requires.settlement c.requires.line c.requires.units))
