-- What the nodes of a search's tree show. This is this project's own.
use Rattle.std.specs.Prelude.{◌≡◌, ℕ, ◌-◌, ◌*◌, ◌≤◌, false, true, List, All, length, Some, ℤ, pos, ◌≤ℤ◌}
use Rattle.case_file.specs.Case.{CaseContents}
use Rattle.cash_table.specs.Points.{is_within_limit}
use Rattle.dual_bound.specs.LeafBound.{least_cost_of}
use Rattle.dual_bound.specs.Closing.{is_weak}
use Rattle.node_ranges.specs.Ranges.{RangesContents}
use Rattle.node_ranges.specs.Claims.{IsProper, bears_out, low_ends, placed_nodes}
use Rattle.proof_tree.specs.Tree.{AreTrees, IsNode}
use Rattle.proof_tree.specs.declared.tree.Leaf.{Leaf}
use Rattle.proof_tree.specs.declared.tree.TreeNode.{TreeNode}
use Rattle.proof_tree.specs.declared.tree.TreeNode.TheVariants as node
use Rattle.dual_tune.specs.Steps.{IsImproved, IsStep}
use Rattle.halving_tree.specs.Base.{base_leaf}
use Rattle.offer_book.specs.Portfolio.{Meets}
use Rattle.offer_book.specs.declared.coefficients.TheConstants.{COEFFICIENT_SCALE}

-- ---- what leaves and splits show
-- a leaf that weighs the cost: over the ranges of its node it shows a least cost below that of neither the base leaf nor any of its steps
abbrev pub IsRaised : CaseContents → TreeNode × RangesContents → Type 0
IsRaised case (node.Closed leaf, ranges) = 1 ≤ leaf.rho → IsImproved (case.limit - 1) case.book ranges (base_leaf case.book) leaf
IsRaised case (node.Split part at, ranges) = Unit {0}
IsRaised case (node.Point, ranges) = Unit {0}

-- a least cost isn't above a number of cents
abbrev pub IsWorthAtMost : ℕ → ℤ → Type 0
IsWorthAtMost cents shown = shown ≤ℤ pos (COEFFICIENT_SCALE * cents)

-- over ranges neither the base leaf nor any of its steps shows a least cost of more than a number of cents
pub record AreStepsAtMost (case : CaseContents) (cents : ℕ) (ranges : RangesContents) : Type 0 where
  pub base : IsWorthAtMost cents (least_cost_of (case.limit - 1) case.book ranges (base_leaf case.book))
  pub steps : (step : Leaf) → IsStep (base_leaf case.book) step → IsWorthAtMost cents (least_cost_of (case.limit - 1) case.book ranges step)

-- so it is at each split
abbrev pub IsNeededSplit : CaseContents → ℕ → TreeNode × RangesContents → Type 0
IsNeededSplit case cents (node.Split part at, ranges) = AreStepsAtMost case cents ranges
IsNeededSplit case cents (node.Closed leaf, ranges) = Unit {0}
IsNeededSplit case cents (node.Point, ranges) = Unit {0}

-- a point doesn't both meet the needs and keep within the limit
abbrev pub IsNoPlan : CaseContents → TreeNode × RangesContents → Type 0
IsNoPlan case (node.Point, ranges) = Meets case.book (low_ends ranges) → is_within_limit case.limit case.book (low_ends ranges) ≡ true → ⊥
IsNoPlan case (node.Split part at, ranges) = Unit {0}
IsNoPlan case (node.Closed leaf, ranges) = Unit {0}

-- ---- a bound of the whole tree
-- a tree holds a bound, in cents: its splits are proper, and each of its leaves and points shows that no rival costs less
pub record HoldsBound (case : CaseContents) (nodes : List TreeNode) (cents : ℕ) : Type 0 where
  pub proper : All IsProper (placed_nodes case.book nodes)
  pub closed : All (λ p. is_weak case (Some (pos cents)) p ≡ false) (placed_nodes case.book nodes)

-- a number of cents is the greatest that a least cost bears out
pub record IsBoundOf (bound : ℤ) (cents : ℕ) : Type 0 where
  pub borne : bears_out bound (Some (pos cents)) ≡ true
  pub most : IsWorthAtMost cents bound
  pub greatest : (more : ℕ) → bears_out bound (Some (pos more)) ≡ true → more ≤ cents

-- what every tree of a search shows as the nodes of a certificate: they are one tree within its limits, whose splits are proper, and
-- whose leaves are raised where they weigh the cost
pub record IsWell (case : CaseContents) (nodes : List TreeNode) : Type 0 where
  pub proper : All IsProper (placed_nodes case.book nodes)
  pub raised : All (IsRaised case) (placed_nodes case.book nodes)
  pub limited : All (IsNode (length case.book.needs)) nodes
  pub trees : AreTrees 1 nodes
