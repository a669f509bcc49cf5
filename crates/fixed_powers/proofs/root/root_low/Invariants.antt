use Rattle.std.proofs.Common.{◌≤◌, ◌+◌, ◌-◌, ◌*◌, ℕ}
use Rattle.escrow_units.specs.PresentValue.{half_year, two_hundred_percent}
use Rattle.fixed_powers.specs.DiscountPowers.{one, up}
use Rattle.fixed_powers.proofs.root.root_low.Given as goal

-- the number in `enough` is low enough, and none above `most` is
abbrev pub invariant-loop-enough : goal.invariant-loop-enough
invariant-loop-enough l = record {
  order : l.enough ≤ l.most;
  within : l.most ≤ one;
  enough : up l.enough half_year * (two_hundred_percent + l.n.0) ≤ one * two_hundred_percent;
  greatest : (p : ℕ) → p ≤ one → up p half_year * (two_hundred_percent + l.n.0) ≤ one * two_hundred_percent → p ≤ l.most;
}

abbrev pub decreases-loop-enough : goal.decreases-loop-enough
decreases-loop-enough l = l.most - l.enough
