use Rattle.std.proofs.Common.{◌≡◌, ◌≤◌}
use Rattle.fixed_powers.specs.DiscountPowers.{one, up}
use Rattle.fixed_powers.proofs.chain.power_up.Given as goal

abbrev pub invariant-loop : goal.invariant-loop
invariant-loop l = record {
  value : l.power ≡ up l.factor l.counter;
  within : l.power ≤ one;
}
