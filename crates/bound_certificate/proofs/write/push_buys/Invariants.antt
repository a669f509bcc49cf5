use Rattle.std.proofs.Common.{◌≡◌, ◌++◌, map, drop}
use Rattle.std.specs.List.{flat_map}
use Rattle.bound_certificate.specs.declared.line.Line.TheVariants as line
use Rattle.bound_certificate.specs.Text.{line_text}
use Rattle.bound_certificate.proofs.write.push_buys.Given as goal

abbrev pub invariant-loop-buy : goal.invariant-loop-buy
invariant-loop-buy l = l.text.items ++ flat_map line_text (map line.Purchase (drop l.buy-index l.buys)) ≡ l.fn.text.items ++ flat_map line_text (map line.Purchase l.buys)
