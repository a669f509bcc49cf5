use Rattle.std.proofs.Common.{◌≡◌, map, take}
use Rattle.bound_certificate.specs.Packed.{unpacked_node}
use Rattle.bound_certificate.proofs.face_write.unpack.Given as goal

abbrev pub invariant-loop-node : goal.invariant-loop-node
invariant-loop-node l = l.nodes.items ≡ map (unpacked_node l.dates l.packed.vectors) (take l.node-index l.packed.nodes)
