use Rattle.certificate_packing.proofs.PackedOfFacts.{ArePacked, AreVectorsFor}
use Rattle.certificate_packing.proofs.packing.pack.Given as goal

abbrev pub invariant-loop-node : goal.invariant-loop-node
invariant-loop-node l = record {
  vectors : AreVectorsFor l.stairs l.cert l.vectors-inside.vectors.items;
  nodes : ArePacked l.stairs l.cert l.vectors-inside.vectors.items l.node-index l.nodes.items;
}
