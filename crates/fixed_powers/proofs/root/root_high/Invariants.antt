use Rattle.std.proofs.Common.{◌≤◌, ◌+◌, ◌-◌, ◌*◌, ℕ}
use Rattle.escrow_units.specs.PresentValue.{half_year, two_hundred_percent}
use Rattle.fixed_powers.specs.DiscountPowers.{one, down}
use Rattle.fixed_powers.proofs.root.root_high.Given as goal

-- the number in `enough` is high enough, and none below `least` is
abbrev pub invariant-loop-least : goal.invariant-loop-least
invariant-loop-least l = record {
  order : l.least ≤ l.enough;
  within : l.enough ≤ one;
  enough : one * two_hundred_percent ≤ down l.enough half_year * (two_hundred_percent + l.n.0);
  least : (p : ℕ) → one * two_hundred_percent ≤ down p half_year * (two_hundred_percent + l.n.0) → l.least ≤ p;
}

abbrev pub decreases-loop-least : goal.decreases-loop-least
decreases-loop-least l = l.enough - l.least
