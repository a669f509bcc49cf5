use Rattle.std.proofs.Common.{◌≡◌, ℕ, ◌+◌, ◌≤◌, ◌^◌, ◌<◌, length}
use Rattle.roll_plan.proofs.ValueFacts.{AreAllWith}
use Rattle.roll_plan.proofs.planning.rolls_along.Given as goal

pub record IsSoFar (l : goal.Live-loop-place) : Type 0 where
  pub value : (p : ℕ) → l.place ≡ p + 1 → p < length l.entries → AreAllWith l.closed l.terms l.entries l.paid.sums p l.back l.rolls.items
  pub small : l.back ≤ 10 ^ 16

abbrev pub invariant-loop-place : goal.invariant-loop-place
invariant-loop-place l = IsSoFar l
