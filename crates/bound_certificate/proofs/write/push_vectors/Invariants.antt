use Rattle.std.proofs.Common.{◌≡◌, ◌++◌, map, drop}
use Rattle.std.specs.List.{flat_map}
use Rattle.bound_certificate.specs.declared.line.Line.TheVariants as line
use Rattle.bound_certificate.specs.Text.{line_text}
use Rattle.bound_certificate.proofs.write.push_vectors.Given as goal

abbrev pub invariant-loop-vector : goal.invariant-loop-vector
invariant-loop-vector l = l.text.items ++ flat_map line_text (map line.Vector (drop l.vector-index l.vectors)) ≡ l.fn.text.items ++ flat_map line_text (map line.Vector l.vectors)
