-- Trees of lower bounds. The form is this project's own.
use Rattle.std.specs.Prelude.{◌≡◌, ℕ, zero, suc, ◌*◌, ◌<◌, ◌≤◌, List, [], ◌∷◌, length, All, AllPairs, slice_set}
use Rattle.proof_tree.specs.declared.prices.TheConstants.{PRICE_SCALE}
use Rattle.proof_tree.specs.declared.tree.Leaf.{Leaf}
use Rattle.proof_tree.specs.declared.tree.Part.{Part}
use Rattle.proof_tree.specs.declared.tree.Part.TheVariants.{Line, Sum}
use Rattle.proof_tree.specs.declared.tree.TheConstants.{GREATEST_UNITS}
use Rattle.proof_tree.specs.declared.weights.SumWeight.{SumWeight}
use Rattle.proof_tree.specs.declared.weights.TheConstants.{MOST_WEIGHTS}
use Rattle.proof_tree.specs.declared.tree.TreeNode.{TreeNode}
use Rattle.proof_tree.specs.declared.tree.TreeNode.TheVariants as node

-- a weight of a sum that is there: above 0, and at most 1
pub record IsSumWeight (dates : ℕ) (own : SumWeight) : Type 0 where
  pub sum : own.sum < dates
  pub some : 1 ≤ own.weight
  pub most : own.weight ≤ PRICE_SCALE

-- few weights, by rising sums
pub record AreSumWeights (dates : ℕ) (weights : List SumWeight) : Type 0 where
  pub few : length weights ≤ MOST_WEIGHTS
  pub each : All (IsSumWeight dates) weights
  pub rising : AllPairs (λ earlier later. earlier.sum < later.sum) weights

-- a leaf's weights of the cost, the limit and sums, each from 0 to 1, and a price for each need date, from 0 to 2, that never rises
pub record IsLeaf (dates : ℕ) (leaf : Leaf) : Type 0 where
  pub cost : leaf.rho ≤ PRICE_SCALE
  pub limit : leaf.mu ≤ PRICE_SCALE
  pub every_date : length leaf.prices ≡ dates
  pub range : All (λ price. price ≤ 2 * PRICE_SCALE) leaf.prices
  pub falling : AllPairs (λ earlier later. later ≤ earlier) leaf.prices
  pub weights : AreSumWeights dates leaf.weights

-- a leaf with another price at a place
abbrev pub with_price : Leaf → ℕ → ℕ → Leaf
with_price leaf place price = record { rho = leaf.rho; mu = leaf.mu; prices = slice_set leaf.prices place price; weights = leaf.weights }

-- nodes are so many trees in preorder, one after another
abbrev pub AreTrees : ℕ → List TreeNode → Type 0
AreTrees zero nodes = nodes ≡ []
AreTrees (suc others) [] = ⊥
AreTrees (suc others) (node.Split part at ∷ nodes) = AreTrees (suc (suc others)) nodes
AreTrees (suc others) (node.Point ∷ nodes) = AreTrees others nodes
AreTrees (suc others) (node.Closed leaf ∷ nodes) = AreTrees others nodes

-- a split is of a line, or of the sum of a need date
abbrev pub IsPart : ℕ → Part → Type 0
IsPart dates (Line line) = line ≤ 65_535
IsPart dates (Sum sum) = sum < dates

-- a node, whose leaf has one price for each need date
abbrev pub IsNode : ℕ → TreeNode → Type 0
IsNode dates (node.Split part at) = IsPart dates part × (at ≤ GREATEST_UNITS)
IsNode dates node.Point = Unit {0}
IsNode dates (node.Closed leaf) = IsLeaf dates leaf

-- a tree bears out its claim by prices alone: it has no point, and no leaf gives the limit a multiplier
abbrev pub IsPriced : TreeNode → Type 0
IsPriced (node.Split part at) = Unit {0}
IsPriced node.Point = ⊥
IsPriced (node.Closed leaf) = leaf.mu ≡ 0
