-- The text of a certificate, of each version. It is this project's own.
use Rattle.std.specs.Prelude.{◌≡◌, ◌≢◌, ℕ, ◌+◌, ◌≤◌, Bool, true, false, ◌==◌, ◌&&◌, ◌||◌, nat_le, if◌then◌else◌, List, [], ◌∷◌, ◌++◌, All, length, map, Option, Some, None, codes}
use Rattle.std.specs.Fmt.{decimal}
use Rattle.std.specs.List.{flat_map, list_all}
use Rattle.proof_tree.specs.declared.prices.TheConstants.{PRICE_SCALE}
use Rattle.proof_tree.specs.declared.tree.Part.{Part}
use Rattle.proof_tree.specs.declared.tree.Part.TheVariants as part
use Rattle.proof_tree.specs.declared.tree.TreeNode.{TreeNode}
use Rattle.proof_tree.specs.declared.tree.TreeNode.TheVariants as tree
use Rattle.proof_tree.specs.declared.weights.SumWeight.{SumWeight}
use Rattle.bound_certificate.specs.declared.certificate.Buy.{Buy}
use Rattle.bound_certificate.specs.declared.certificate.Certificate.{Certificate}
use Rattle.bound_certificate.specs.declared.line.Line.{Line}
use Rattle.bound_certificate.specs.declared.line.Line.TheVariants as line
use Rattle.bound_certificate.specs.declared.packed.Change.{Change}
use Rattle.bound_certificate.specs.declared.packed.Packed.{Packed}
use Rattle.bound_certificate.specs.declared.packed.PackedNode.{PackedNode}
use Rattle.bound_certificate.specs.declared.packed.PackedNode.TheVariants as node
use Rattle.bound_certificate.specs.declared.version.Version.{Version}
use Rattle.bound_certificate.specs.declared.version.Version.TheVariants as version
use Rattle.bound_certificate.specs.declared.weighing.Weighing.{Weighing}
use Rattle.bound_certificate.specs.declared.weighing.Weighing.TheVariants as weighing
use Rattle.bound_certificate.specs.Certificate.{IsWellFormed}
use Rattle.bound_certificate.specs.Grammar.{title_word}
use Rattle.bound_certificate.specs.Packed.{IsPackedWellFormed}
use Rattle.bound_certificate.specs.Weights.{AreSayable, IsSayable, IsSayablePart, least_vector, rho_number, side_number}

-- numbers, with a space before each
abbrev pub spaced_numbers : List ℕ → List ℕ
spaced_numbers numbers = flat_map (λ number. 32 ∷ decimal number) numbers

-- a line: its first word, numbers, and a line feed
abbrev pub numbered : List ℕ → List ℕ → List ℕ
numbered word numbers = word ++ spaced_numbers numbers ++ 10 ∷ []

-- changes as numbers: place and price of each
abbrev pub change_numbers : List Change → List ℕ
change_numbers changes = flat_map (λ change. change.place ∷ change.price ∷ []) changes

-- weights of sums as numbers: the need date of the sum, counted from 1, the side and the weight of each
abbrev pub weight_numbers : List SumWeight → List ℕ
weight_numbers weights = flat_map (λ own. (own.sum + 1) ∷ side_number own.side ∷ own.weight ∷ []) weights

-- the tail of a leaf's line: the word `t` and the weights of sums, where there are any
abbrev pub tail_text : List SumWeight → List ℕ
tail_text [] = []
tail_text (own ∷ weights) = codes " t" ++ spaced_numbers (weight_numbers (own ∷ weights))

-- the first word of the line of a split, and the number of what is split: a line counts from 0, and the need date of a sum from 1
abbrev pub split_word : Part → List ℕ
split_word (part.Line line) = codes "s"
split_word (part.Sum sum) = codes "t"

-- the number by which the line of a split names its line, or its need date, counted from 1
abbrev pub split_number : Part → ℕ
split_number (part.Line line) = line
split_number (part.Sum sum) = sum + 1

-- the text of a line
abbrev pub line_text : Line → List ℕ
line_text (line.Title v) = title_word v ++ 10 ∷ []
line_text (line.Portfolio None) = codes "portfolio none" ++ 10 ∷ []
line_text (line.Portfolio (Some count)) = numbered (codes "portfolio") (count ∷ [])
line_text (line.Purchase buy) = numbered (codes "buy") (buy.line ∷ buy.units ∷ [])
line_text (line.Gap cents) = numbered (codes "gap") (cents ∷ [])
line_text (line.Vectors count) = numbered (codes "vectors") (count ∷ [])
line_text (line.Vector prices) = numbered (codes "v") prices
line_text (line.Nodes count) = numbered (codes "nodes") (count ∷ [])
line_text (line.Split part at) = numbered (split_word part) (split_number part ∷ at ∷ [])
line_text line.Point = numbered (codes "p") []
line_text (line.Closed w rho mu vector changes weights) =
    codes "l" ++ spaced_numbers (rho_number w rho ∷ mu ∷ vector ∷ change_numbers changes) ++ tail_text weights ++ 10 ∷ []
line_text (line.Leaf leaf) = numbered (codes "l") (rho_number weighing.WholeOrNone leaf.rho ∷ leaf.mu ∷ leaf.prices)
line_text line.End = numbered (codes "end") []

-- the lines of a portfolio
abbrev pub portfolio_lines : Option (List Buy) → List Line
portfolio_lines None = line.Portfolio None ∷ []
portfolio_lines (Some buys) = line.Portfolio (Some (length buys)) ∷ map line.Purchase buys

-- the lines of vectors, where the version has them
abbrev pub vector_lines : Version → List (List ℕ) → List Line
vector_lines version.One vectors = []
vector_lines (version.Packed w) vectors = line.Vectors (length vectors) ∷ map line.Vector vectors

-- the lines of a text, of which these are the nodes
abbrev pub lines_of : Version → Option (List Buy) → ℕ → List (List ℕ) → List Line → List Line
lines_of v buys gap vectors nodes =
    line.Title v ∷ (portfolio_lines buys ++ line.Gap gap ∷ (vector_lines v vectors ++ line.Nodes (length nodes) ∷ (nodes ++ line.End ∷ [])))

-- the line of a node whose leaf has all its prices
abbrev pub tree_line : TreeNode → Line
tree_line (tree.Split part at) = line.Split part at
tree_line tree.Point = line.Point
tree_line (tree.Closed leaf) = line.Leaf leaf

-- the one text of a certificate in version 1
abbrev pub text_of : Certificate → List ℕ
text_of cert = flat_map line_text (lines_of version.One cert.buys cert.gap [] (map tree_line cert.nodes))

-- the line of a node whose leaf has changes
abbrev pub packed_line : Weighing → PackedNode → Line
packed_line w (node.Split part at) = line.Split part at
packed_line w node.Point = line.Point
packed_line w (node.Closed rho mu vector changes weights) = line.Closed w rho mu vector changes weights

-- the text of a packed certificate in version 2, or in version 3
abbrev pub packed_text_in : Weighing → Packed → List ℕ
packed_text_in w packed =
    flat_map line_text (lines_of (version.Packed w) packed.buys packed.gap packed.vectors (map (packed_line w) packed.nodes))

-- what a node splits, and the weights and the vector of a leaf, can be said
abbrev pub IsSayableNode : Weighing → PackedNode → Type 0
IsSayableNode w (node.Split part at) = IsSayablePart w part
IsSayableNode w (node.Closed rho mu vector changes weights) = IsSayable w rho × (least_vector w ≤ vector) × AreSayable w weights
IsSayableNode w other = Unit {0}

-- a node that version 2 can say: the split of a line, a point, or a leaf of a vector, without weights of sums, at which the cost counts wholly or not at all
abbrev pub is_plain : PackedNode → Bool
is_plain (node.Split (part.Sum sum) at) = false
is_plain (node.Closed rho mu vector changes []) = (rho == 0 || rho == PRICE_SCALE) && nat_le 1 vector
is_plain (node.Closed rho mu vector changes weights) = false
is_plain other = true

-- the version that is written: 2 where it can say each node, and else 3
abbrev pub packed_weighing : List PackedNode → Weighing
packed_weighing nodes = if list_all is_plain nodes then weighing.WholeOrNone else weighing.Number

-- the text of a packed certificate that is written
abbrev pub packed_text_of : Packed → List ℕ
packed_text_of packed = packed_text_in (packed_weighing packed.nodes) packed

-- bytes are the text of a well-formed certificate for so many need dates
pub record IsTextOf (dates : ℕ) (cert : Certificate) (bytes : List ℕ) : Type 0 where
  pub well_formed : IsWellFormed dates cert
  pub text : bytes ≡ text_of cert

-- and of a packed one, in a version that can say each of its nodes
pub record IsPackedTextOf (dates : ℕ) (packed : Packed) (bytes : List ℕ) : Type 0 where
  pub version : Weighing
  pub well_formed : IsPackedWellFormed dates packed
  pub sayable : All (IsSayableNode version) packed.nodes
  pub text : bytes ≡ packed_text_in version packed

-- bytes without a line feed
abbrev pub NotFeed : ℕ → Type 0
NotFeed byte = byte ≢ 10

abbrev pub IsOneLine : List ℕ → Type 0
IsOneLine bytes = All NotFeed bytes
