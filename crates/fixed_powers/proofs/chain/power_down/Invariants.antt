use Rattle.std.proofs.Common.{◌≡◌, ◌≤◌}
use Rattle.fixed_powers.specs.DiscountPowers.{one, down}
use Rattle.fixed_powers.proofs.chain.power_down.Given as goal

abbrev pub invariant-loop : goal.invariant-loop
invariant-loop l = record {
  value : l.power ≡ down l.factor l.counter;
  within : l.power ≤ one;
}
