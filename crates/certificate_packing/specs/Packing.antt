-- A certificate packed node by node: its leaves share prices. The form is this project's own.
use Rattle.std.specs.Prelude.{◌≡◌, ℕ, ◌-◌, ◌<◌, ◌≤◌, Bool, false, Option, List, [], length, All, AllPairs, slice_index, slice_index_or}
use Rattle.proof_tree.specs.declared.tree.Leaf.{Leaf}
use Rattle.proof_tree.specs.declared.tree.TreeNode.{TreeNode}
use Rattle.proof_tree.specs.declared.tree.TreeNode.TheVariants as tree
use Rattle.bound_certificate.specs.declared.certificate.Certificate.{Certificate}
use Rattle.bound_certificate.specs.declared.limits.TheConstants.{MOST_DATES, MOST_VECTORS}
use Rattle.bound_certificate.specs.declared.packed.Change.{Change}
use Rattle.bound_certificate.specs.declared.packed.Packed.{Packed}
use Rattle.bound_certificate.specs.declared.packed.PackedNode.{PackedNode}
use Rattle.bound_certificate.specs.declared.packed.PackedNode.TheVariants as node
use Rattle.bound_certificate.specs.declared.weighing.Weighing.TheVariants as weighing
use Rattle.bound_certificate.specs.Certificate.{IsPlainNode}
use Rattle.bound_certificate.specs.Packed.{IsPackable, IsPackedWellFormed, changed, restates, unpacked, vector_of}
use Rattle.bound_certificate.specs.Text.{packed_weighing}
use Rattle.certificate_packing.specs.declared.vector_choice.Candidate.{Candidate}

-- a packed certificate is that of a certificate, for whatever number of need dates, and version 2 can say it where it can say the certificate
pub record IsPackedOf (cert : Certificate) (packed : Packed) : Type 0 where
  pub same : (dates : ℕ) → IsPackable dates cert → unpacked dates packed ≡ cert
  pub well_formed : (dates : ℕ) → IsPackable dates cert → IsPackedWellFormed dates packed
  pub plain : All IsPlainNode cert.nodes → packed_weighing packed.nodes ≡ weighing.WholeOrNone

-- changes are to the prices of a list: at the places at which it differs from a vector, or as stairs at those at which it differs from the price
-- before
pub record IsDifference (vector : Option (List ℕ)) (prices : List ℕ) (changes : List Change) : Type 0 where
  pub same : changed (length prices) vector changes ≡ prices
  pub places : All (λ change. (1 ≤ change.place) × (change.place ≤ length prices)) changes
  pub values : All (λ change. change.price ≡ slice_index prices (change.place - 1)) changes
  pub other : restates vector changes ≡ false
  pub rising : AllPairs (λ earlier later. earlier.place < later.place) changes

-- each vector has so many prices
abbrev pub HaveLength : ℕ → List (List ℕ) → Type 0
HaveLength count vectors = All (λ vector. length vector ≡ count) vectors

-- a node is a leaf, with its weights, and its differences from a vector that is there, or, where stairs may be, as stairs
abbrev pub IsLeafPacked : Bool → List (List ℕ) → Leaf → PackedNode → Type 0
IsLeafPacked stairs vectors leaf (node.Closed rho mu vector changes weights) =
    (rho ≡ leaf.rho) × (mu ≡ leaf.mu) × (stairs ≡ false → 1 ≤ vector) × (vector ≤ length vectors)
    × IsDifference (vector_of vectors vector) leaf.prices changes × (weights ≡ leaf.weights)
IsLeafPacked stairs vectors leaf other = ⊥

-- ---- packing, node by node
-- the prices of a leaf; another node has none
abbrev pub node_prices : TreeNode → List ℕ
node_prices (tree.Closed leaf) = leaf.prices
node_prices other = []

-- a node is a leaf
abbrev pub IsLeafNode : TreeNode → Type 0
IsLeafNode (tree.Closed leaf) = Unit {0}
IsLeafNode other = ⊥

-- a leaf stands at a place among the nodes
abbrev pub IsLeafPlace : List TreeNode → ℕ → Type 0
IsLeafPlace nodes place = (place < length nodes) × ((d : TreeNode) → IsLeafNode (slice_index_or nodes place d))

-- so many are one at least, where one of these nodes is a leaf
abbrev pub IsSomeForLeaf : List TreeNode → ℕ → Type 0
IsSomeForLeaf nodes count = (place : ℕ) → IsLeafPlace nodes place → 0 < count

-- a candidate is of one of these leaves
abbrev pub IsCandidateOf : List TreeNode → Candidate → Type 0
IsCandidateOf nodes candidate = IsLeafPlace nodes candidate.leaf

-- vectors are prices of these leaves
abbrev pub AreLeafPrices : List TreeNode → List (List ℕ) → Type 0
AreLeafPrices nodes vectors =
    All (λ prices. (place : ℕ) × IsLeafPlace nodes place × ((d : TreeNode) → prices ≡ node_prices (slice_index_or nodes place d))) vectors

-- vectors from which a leaf may take one: some, unless it may have stairs, few, and as long as its prices
pub record IsPackingLeaf (stairs : Bool) (vectors : List (List ℕ)) (leaf : Leaf) : Type 0 where
  pub some : stairs ≡ false → 0 < length vectors
  pub few : length vectors ≤ MOST_VECTORS
  pub same : HaveLength (length leaf.prices) vectors
  pub short : length leaf.prices ≤ MOST_DATES

-- and a node, where it is a leaf
abbrev pub IsPackingAt : Bool → List (List ℕ) → TreeNode → Type 0
IsPackingAt stairs vectors (tree.Closed leaf) = IsPackingLeaf stairs vectors leaf
IsPackingAt stairs vectors other = Unit {0}

-- a node is packed
abbrev pub IsNodePacked : Bool → List (List ℕ) → TreeNode → PackedNode → Type 0
IsNodePacked stairs vectors (tree.Split part at) said = said ≡ node.Split part at
IsNodePacked stairs vectors tree.Point said = said ≡ node.Point
IsNodePacked stairs vectors (tree.Closed leaf) said = IsLeafPacked stairs vectors leaf said
