use Rattle.std.proofs.Common.{◌≡◌, ◌<◌, ℕ, [], get_or, length}
use Rattle.dual_tune.proofs.sweep.copy_leaf.Given as goal

abbrev pub invariant-loop-place : goal.invariant-loop-place
invariant-loop-place l =
    (l.into.rho ≡ l.from.rho) × (l.into.mu ≡ l.from.mu) × (l.into.weights ≡ []) × (length l.into.prices ≡ length l.from.prices)
    × ((k : ℕ) → k < l.place → get_or l.into.prices k 0 ≡ get_or l.from.prices k 0)
