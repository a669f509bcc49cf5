use Rattle.std.proofs.Common.{◌≡◌, true, ◌≤◌, ◌<◌, ◌-◌, ◌*◌, ℕ}
use Rattle.fixed_powers.specs.DiscountPowers.{one}
use Rattle.fixed_powers.specs.PresentValues.{present_value}
use Rattle.fixed_powers.specs.declared.side.Side.TheVariants.{Low}
use Rattle.yield_enclosure.proofs.enclosure.lower_end.Given as goal

-- the flows are worth the cost at `worth`, and at no yield above `most`
abbrev pub invariant-loop-worth : goal.invariant-loop-worth
invariant-loop-worth l = record {
  order : l.worth ≤ l.most;
  within : l.most < 3_000_000_000;
  worth : one * l.fn.cost.0 ≤ present_value Low l.worth l.flows;
  dearer : l.is_dearer ≡ true → one * l.fn.cost.0 < present_value Low l.worth l.flows;
  greatest : (n : ℕ) → one * l.fn.cost.0 ≤ present_value Low n l.flows → n ≤ l.most;
}

abbrev pub decreases-loop-worth : goal.decreases-loop-worth
decreases-loop-worth l = l.most - l.worth
