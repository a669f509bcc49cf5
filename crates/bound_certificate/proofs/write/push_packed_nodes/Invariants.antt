use Rattle.std.proofs.Common.{◌≡◌, ◌++◌, map, drop}
use Rattle.std.specs.List.{flat_map}
use Rattle.bound_certificate.specs.Text.{line_text, packed_line}
use Rattle.bound_certificate.proofs.write.push_packed_nodes.Given as goal

abbrev pub invariant-loop-node : goal.invariant-loop-node
invariant-loop-node l = l.text.items ++ flat_map line_text (map (packed_line l.weighing) (drop l.node-index l.nodes)) ≡ l.fn.text.items ++ flat_map line_text (map (packed_line l.weighing) l.nodes)
