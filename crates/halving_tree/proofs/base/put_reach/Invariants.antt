use Rattle.std.proofs.Common.{◌≡◌, [], length, map, take}
use Rattle.halving_tree.proofs.Reach.{reach_price}
use Rattle.halving_tree.proofs.base.put_reach.Given as goal

abbrev pub invariant-loop-place : goal.invariant-loop-place
invariant-loop-place l =
    (l.leaf.rho ≡ 0) × (l.leaf.mu ≡ 0) × (l.leaf.weights ≡ []) × (length l.leaf.prices ≡ length l.book.needs) × (take l.place l.leaf.prices ≡ take l.place (map (reach_price l.day) l.book.needs))
