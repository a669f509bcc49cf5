use Rattle.std.proofs.Common.{◌<◌, ℕ, All, length}
use Rattle.certificate_packing.specs.Packing.{IsLeafPlace}
use Rattle.certificate_packing.proofs.vector_choice.list_leaves.Given as goal

abbrev pub invariant-loop-place : goal.invariant-loop-place
invariant-loop-place l = record {
  leaves : All (IsLeafPlace l.nodes) l.leaves.items;
  some : (place : ℕ) → place < l.place → IsLeafPlace l.nodes place → 0 < length l.leaves.items;
}
