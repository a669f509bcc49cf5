use Rattle.std.proofs.Common.{◌≡◌, ◌≤◌, All, map, take}
use Rattle.fixed_powers.specs.DiscountPowers.{one}
use Rattle.dual_bound.specs.Columns.{kind_power}
use Rattle.payment_schedule.specs.declared.schedule.ScheduledPayment.{ScheduledPayment}
use Rattle.plan_finder.proofs.terms.powers_of.Given as goal

abbrev pub invariant-loop-payment : goal.invariant-loop-payment
invariant-loop-payment l = record {
  value : l.factors.items ≡ map (λ (payment : ScheduledPayment). kind_power l.powers.yield_units l.settle l.line.kind payment.day) (take l.payment-index l.schedule);
  small : All (λ power. power ≤ one) l.factors.items;
}
