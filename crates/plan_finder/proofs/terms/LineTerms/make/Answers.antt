use Rattle.std.proofs.Common.{◌∙◌, ap, map}
use Rattle.payment_schedule.specs.declared.schedule.ScheduledPayment.{ScheduledPayment}
use Rattle.dual_bound.specs.Columns.{kind_power}
use Rattle.dual_bound.proofs.FormFacts.{schedule-within}
use Rattle.plan_finder.proofs.terms.LineTerms.make.Goals as goal

pub powers_of-requires-clause-within : goal.powers_of-requires-clause-within
powers_of-requires-clause-within c =
    rw (c.as_slice.ensures.value ∙ c.schedule-schedule.ensures.value) (schedule-within c.args.days.now c.args.line.now c.requires.settlement c.requires.line)

pub returns : goal.returns
returns c = record {
  accrued = c.accrued.ensures.value;
  few = c.accrued.ensures.days;
  schedule = c.schedule-schedule.ensures.value;
  short = c.schedule-schedule.ensures.short;
  powers = c.in_ok-powers.ensures.value ∙ ap (map (λ (payment : ScheduledPayment). kind_power c.args.powers.now.yield_units c.args.days.now.settle c.args.line.now.kind payment.day)) c.as_slice.ensures.value;
  small = c.in_ok-powers.ensures.small;
}
