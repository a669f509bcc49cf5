use Rattle.std.proofs.Common.{◌≡◌, ◌⊎◌, ◌-◌, ◌≤◌, true, false}
use Rattle.backward_build.proofs.bisection.least_passing.Given as goal

abbrev pub invariant-loop-from : goal.invariant-loop-from
invariant-loop-from g l = record {
  low : l.low ≤ l.from;
  ordered : l.from ≤ l.to;
  high : l.to ≤ l.high;
  passes : (l.to ≡ l.high) ⊎ goal.F-post g l.passes l.to true;
  least : (l.from ≡ l.low) ⊎ goal.F-post g l.passes (l.from - 1) false;
}

abbrev pub decreases-loop-from : goal.decreases-loop-from
decreases-loop-from g l = l.to - l.from
