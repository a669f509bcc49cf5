use Rattle.std.proofs.Common.{◌≤◌, ◌-◌, length}
use Rattle.certificate_packing.specs.Packing.{AreLeafPrices}
use Rattle.bound_certificate.specs.declared.limits.TheConstants.{MOST_VECTORS}
use Rattle.certificate_packing.proofs.vector_choice.choose.Given as goal

abbrev pub invariant-loop-alloc : goal.invariant-loop-alloc
invariant-loop-alloc l = record {
  prices : AreLeafPrices l.nodes l.vectors;
  few : length l.vectors ≤ MOST_VECTORS;
}

abbrev pub decreases-loop-alloc : goal.decreases-loop-alloc
decreases-loop-alloc l = MOST_VECTORS - length l.vectors
