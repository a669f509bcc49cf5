-- A certificate as its lines come, and a packed one. It is this project's own.
use Rattle.std.specs.Prelude.{[], ◌∷◌, ◌++◌, Some, None, option_map}
use Rattle.proof_tree.specs.declared.tree.Leaf.{Leaf}
use Rattle.proof_tree.specs.declared.tree.TreeNode.TheVariants as node
use Rattle.bound_certificate.specs.declared.certificate.Certificate.{Certificate}
use Rattle.bound_certificate.specs.declared.item.Item.{Item}
use Rattle.bound_certificate.specs.declared.item.Item.TheVariants as item
use Rattle.bound_certificate.specs.declared.line.Line.{Line}
use Rattle.bound_certificate.specs.declared.line.Line.TheVariants as line
use Rattle.bound_certificate.specs.declared.packed.Packed.{Packed}
use Rattle.bound_certificate.specs.declared.packed.PackedNode.TheVariants as packed_node

-- before the first line
abbrev pub no_lines : Certificate
no_lines = record { buys = None; gap = 0; nodes = [] }

-- with what one more line says, and the leaf of a leaf's line
abbrev pub with_item : Certificate → Item → Leaf → Certificate
with_item cert (item.Portfolio None) leaf = record cert { buys = None }
with_item cert (item.Portfolio (Some count)) leaf = record cert { buys = Some [] }
with_item cert (item.Buy buy) leaf = record cert { buys = option_map (λ buys. buys ++ buy ∷ []) cert.buys }
with_item cert (item.Gap cents) leaf = record cert { gap = cents }
with_item cert (item.Split part at) leaf = record cert { nodes = cert.nodes ++ node.Split part at ∷ [] }
with_item cert item.Point leaf = record cert { nodes = cert.nodes ++ node.Point ∷ [] }
with_item cert item.Leaf leaf = record cert { nodes = cert.nodes ++ node.Closed leaf ∷ [] }
with_item cert other leaf = cert

-- a packed certificate before the first line
abbrev pub no_packed : Packed
no_packed = record { buys = None; gap = 0; vectors = []; nodes = [] }

-- with what one more line says
abbrev pub with_line : Packed → Line → Packed
with_line packed (line.Portfolio None) = record packed { buys = None }
with_line packed (line.Portfolio (Some count)) = record packed { buys = Some [] }
with_line packed (line.Purchase buy) = record packed { buys = option_map (λ buys. buys ++ buy ∷ []) packed.buys }
with_line packed (line.Gap cents) = record packed { gap = cents }
with_line packed (line.Vector prices) = record packed { vectors = packed.vectors ++ prices ∷ [] }
with_line packed (line.Split part at) = record packed { nodes = packed.nodes ++ packed_node.Split part at ∷ [] }
with_line packed line.Point = record packed { nodes = packed.nodes ++ packed_node.Point ∷ [] }
with_line packed (line.Closed w rho mu vector changes weights) = record packed { nodes = packed.nodes ++ packed_node.Closed rho mu vector changes weights ∷ [] }
with_line packed other = packed
