-- Certificates whose leaves share their prices. The form and the limits are this project's own.
use Rattle.std.specs.Prelude.{◌≡◌, ℕ, ◌-◌, ◌*◌, ◌<◌, ◌≤◌, Bool, false, ◌==◌, ◌||◌, if◌then◌else◌, List, [], ◌∷◌, ◌++◌, length, map, replicate, take, All, AllPairs, slice_index, slice_index_or, slice_set, Option, Some, None}
use Rattle.std.specs.List.{fold, list_any}
use Rattle.proof_tree.specs.Tree.{AreTrees, IsLeaf, IsNode, IsPart}
use Rattle.proof_tree.specs.declared.prices.TheConstants.{PRICE_SCALE}
use Rattle.proof_tree.specs.declared.tree.Leaf.{Leaf}
use Rattle.proof_tree.specs.declared.weights.SumWeight.{SumWeight}
use Rattle.proof_tree.specs.declared.tree.TreeNode.{TreeNode}
use Rattle.proof_tree.specs.declared.tree.TreeNode.TheVariants as tree
use Rattle.bound_certificate.specs.declared.certificate.Certificate.{Certificate}
use Rattle.bound_certificate.specs.declared.packed.Change.{Change}
use Rattle.bound_certificate.specs.declared.packed.Packed.{Packed}
use Rattle.bound_certificate.specs.declared.packed.PackedNode.{PackedNode}
use Rattle.bound_certificate.specs.declared.packed.PackedNode.TheVariants as node
use Rattle.bound_certificate.specs.declared.limits.TheConstants.{MOST_DATES, MOST_NODES, MOST_PACKED_BUYS, MOST_VECTORS}
use Rattle.bound_certificate.specs.Certificate.{IsPortfolio}
use Rattle.proof_tree.specs.declared.tree.TheConstants.{GREATEST_UNITS}

-- the vector of a number, from 1; 0 names none, and stands for stairs
abbrev pub vector_of : List (List ℕ) → ℕ → Option (List ℕ)
vector_of vectors number = if number == 0 then None else Some (slice_index_or vectors (number - 1) [])

-- prices, with that of a change from its place on, which counts from 1
abbrev pub from_place : List ℕ → Change → List ℕ
from_place prices change = take (change.place - 1) prices ++ replicate (length prices - (change.place - 1)) change.price

-- the prices of a leaf: those of a vector, with another price at some places, from 1; or stairs: the greatest price, and from each place on its own
abbrev pub changed : ℕ → Option (List ℕ) → List Change → List ℕ
changed dates (Some prices) changes = fold (λ (before : List ℕ) (change : Change). slice_set before (change.place - 1) change.price) prices changes
changed dates None changes = fold from_place (replicate dates (2 * PRICE_SCALE)) changes

-- a price is the one before it, and the first one this price
abbrev pub repeats : ℕ → List Change → Bool
repeats before [] = false
repeats before (change ∷ changes) = change.price == before || repeats change.price changes

-- a change is to the price that stands there without it: the vector's own, or of stairs the one before, which first is the greatest
abbrev pub restates : Option (List ℕ) → List Change → Bool
restates (Some prices) changes = list_any (λ change. change.price == slice_index prices (change.place - 1)) changes
restates None changes = repeats (2 * PRICE_SCALE) changes

-- the leaf that a vector, or stairs, changes and weights of sums are
abbrev pub leaf_with : ℕ → List (List ℕ) → ℕ → ℕ → ℕ → List Change → List SumWeight → Leaf
leaf_with dates vectors rho mu vector changes weights =
    record { rho = rho; mu = mu; prices = changed dates (vector_of vectors vector) changes; weights = weights }

-- a node with the prices of its leaf written out
abbrev pub unpacked_node : ℕ → List (List ℕ) → PackedNode → TreeNode
unpacked_node dates vectors (node.Split part at) = tree.Split part at
unpacked_node dates vectors node.Point = tree.Point
unpacked_node dates vectors (node.Closed rho mu vector changes weights) = tree.Closed (leaf_with dates vectors rho mu vector changes weights)

-- the certificate with the prices of each leaf written out, for so many need dates
abbrev pub unpacked : ℕ → Packed → Certificate
unpacked dates packed = record { buys = packed.buys; gap = packed.gap; nodes = map (unpacked_node dates packed.vectors) packed.nodes }

-- a vector: one price for each need date, from 0 to 2, that never rises with time
pub record IsVector (dates : ℕ) (prices : List ℕ) : Type 0 where
  pub every_date : length prices ≡ dates
  pub range : All (λ price. price ≤ 2 * PRICE_SCALE) prices
  pub falling : AllPairs (λ earlier later. later ≤ earlier) prices

-- a change on one of so many need dates
pub record IsChange (dates : ℕ) (change : Change) : Type 0 where
  pub first : 1 ≤ change.place
  pub last : change.place ≤ dates
  pub range : change.price ≤ 2 * PRICE_SCALE

-- changes at rising places, each to another price than stands there without it
pub record AreChanges (dates : ℕ) (vector : Option (List ℕ)) (changes : List Change) : Type 0 where
  pub all : All (IsChange dates) changes
  pub rising : AllPairs (λ earlier later. earlier.place < later.place) changes
  pub other : restates vector changes ≡ false

-- a leaf of stairs, or of a vector that is there
pub record IsPackedLeaf (dates : ℕ) (vectors : List (List ℕ)) (rho mu vector : ℕ) (changes : List Change) (weights : List SumWeight) : Type 0 where
  pub last : vector ≤ length vectors
  pub changes_are : AreChanges dates (vector_of vectors vector) changes
  pub leaf : IsLeaf dates (leaf_with dates vectors rho mu vector changes weights)

-- a node as it may stand: a split or a point, or a leaf of stairs or of a vector that is there
abbrev pub IsPackedNode : ℕ → List (List ℕ) → PackedNode → Type 0
IsPackedNode dates vectors (node.Split part at) = IsPart dates part × (at ≤ GREATEST_UNITS)
IsPackedNode dates vectors node.Point = Unit {0}
IsPackedNode dates vectors (node.Closed rho mu vector changes weights) = IsPackedLeaf dates vectors rho mu vector changes weights

-- a packed certificate for so many need dates: its portfolio, of at most 513 purchases, at most 64 vectors, and the nodes of one tree, from 1 to 10,000
pub record IsPackedWellFormed (dates : ℕ) (packed : Packed) : Type 0 where
  pub portfolio : IsPortfolio MOST_PACKED_BUYS packed.buys packed.gap
  pub few_vectors : length packed.vectors ≤ MOST_VECTORS
  pub vectors_are : All (IsVector dates) packed.vectors
  pub few : length packed.nodes ≤ MOST_NODES
  pub nodes_are : All (IsPackedNode dates packed.vectors) packed.nodes
  pub tree : AreTrees 1 (map (unpacked_node dates packed.vectors) packed.nodes)

-- a packed certificate is well formed for some number of need dates, at most 480
abbrev pub IsPackedWritable : Packed → Type 0
IsPackedWritable packed = (dates : ℕ) × (dates ≤ MOST_DATES) × IsPackedWellFormed dates packed

-- a certificate for so many need dates that may be packed: as one that is written, with up to 513 purchases
pub record IsPackable (dates : ℕ) (cert : Certificate) : Type 0 where
  pub portfolio : IsPortfolio MOST_PACKED_BUYS cert.buys cert.gap
  pub few : length cert.nodes ≤ MOST_NODES
  pub nodes_are : All (IsNode dates) cert.nodes
  pub tree : AreTrees 1 cert.nodes

-- a certificate may be packed for some number of need dates, at most 480
abbrev pub IsPackableCert : Certificate → Type 0
IsPackableCert cert = (dates : ℕ) × (dates ≤ MOST_DATES) × IsPackable dates cert

-- a vector, where there is one, has so many prices
abbrev pub HasLength : ℕ → Option (List ℕ) → Type 0
HasLength dates (Some prices) = length prices ≡ dates
HasLength dates None = Unit {0}

-- the vector of a leaf, where it has one, is there for so many need dates, and its changes stand at rising places in it
abbrev pub IsUnpackable : ℕ → List (List ℕ) → PackedNode → Type 0
IsUnpackable dates vectors (node.Closed rho mu vector changes weights) =
    (vector ≤ length vectors) × HasLength dates (vector_of vectors vector) × All (IsChange dates) changes
    × AllPairs (λ earlier later. earlier.place < later.place) changes
IsUnpackable dates vectors other = Unit {0}
