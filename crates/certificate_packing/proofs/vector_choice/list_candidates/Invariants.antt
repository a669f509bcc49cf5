use Rattle.std.proofs.Common.{◌<◌, All, length}
use Rattle.certificate_packing.specs.Packing.{IsCandidateOf}
use Rattle.certificate_packing.proofs.vector_choice.list_candidates.Given as goal

abbrev pub invariant-loop-leaf : goal.invariant-loop-leaf
invariant-loop-leaf l = record {
  candidates : All (IsCandidateOf l.nodes) l.candidates.items;
  some : 0 < l.leaf-index → 0 < length l.candidates.items;
}
