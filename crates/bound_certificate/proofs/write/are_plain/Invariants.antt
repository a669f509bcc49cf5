use Rattle.std.proofs.Common.{◌≡◌, drop}
use Rattle.std.specs.List.{list_all}
use Rattle.bound_certificate.specs.Text.{is_plain}
use Rattle.bound_certificate.proofs.write.are_plain.Given as goal

abbrev pub invariant-loop-node : goal.invariant-loop-node
invariant-loop-node l = list_all is_plain (drop l.node-index l.nodes) ≡ list_all is_plain l.nodes
