-- What a tree has to show, and its nodes with their ranges. The form of the proof that a tree gives is this project's own.
use Rattle.std.specs.Prelude.{◌≡◌, ℕ, zero, suc, ◌+◌, ◌*◌, ◌/◌, Bool, false, true, not, List, [], ◌∷◌, map, Option, Some, None, ℤ, pos, negsuc, neg_ℤ, ◌-ℤ◌, ◌*ℤ◌, int_le, int_lt}
use Rattle.node_ranges.specs.Ranges.{RangesContents, is_proper, narrowed, root_of}
use Rattle.offer_book.specs.Book.{BookContents}
use Rattle.offer_book.specs.Portfolio.{cost}
use Rattle.offer_book.specs.declared.coefficients.TheConstants.{COEFFICIENT_SCALE}
use Rattle.proof_tree.specs.declared.tree.TreeNode.{TreeNode}
use Rattle.proof_tree.specs.declared.tree.TreeNode.TheVariants as node

-- what a tree has to show: that no rival costs less than this, in cents; without a portfolio, that there is no rival at all
abbrev pub Claim : Type 0
Claim = Option ℤ

-- each node with its ranges: a split narrows those of the subtrees that follow it, first the left one; `waiting` are the ranges of
-- the subtrees that are to come
abbrev pub placed : BookContents → List RangesContents → List TreeNode → List (TreeNode × RangesContents)
placed book waiting [] = []
placed book [] (next ∷ nodes) = []
placed book (ranges ∷ waiting) (node.Split part at ∷ nodes) =
    (node.Split part at, ranges) ∷ placed book (narrowed book ranges part at false ∷ narrowed book ranges part at true ∷ waiting) nodes
placed book (ranges ∷ waiting) (node.Point ∷ nodes) = (node.Point, ranges) ∷ placed book waiting nodes
placed book (ranges ∷ waiting) (node.Closed leaf ∷ nodes) = (node.Closed leaf, ranges) ∷ placed book waiting nodes

-- the nodes of a tree over a book, whose root has all units up to each line's most
abbrev pub placed_nodes : BookContents → List TreeNode → List (TreeNode × RangesContents)
placed_nodes book nodes = placed book (root_of book ∷ []) nodes

-- a split that isn't proper
abbrev pub is_bad_split : TreeNode × RangesContents → Bool
is_bad_split (node.Split part at, ranges) = not (is_proper ranges part at)
is_bad_split (node.Point, ranges) = false
is_bad_split (node.Closed leaf, ranges) = false

-- so a node that is no split is proper, and a split where both its sides have numbers
abbrev pub IsProper : TreeNode × RangesContents → Type 0
IsProper p = is_bad_split p ≡ false

-- a leaf bears out a claim, by how much it weighs a cent of cost, where its bound is more than that of a cent less
abbrev pub bears_out_by : ℕ → ℤ → Claim → Bool
bears_out_by rho bound None = false
bears_out_by rho bound (Some least) = int_lt (pos (COEFFICIENT_SCALE * rho) *ℤ (least -ℤ pos 1)) bound

-- what a leaf shows that a rival costs at least, by how much it weighs the cost, and its bound: the bound divided by that weight, rounded
-- up, in units of 1 / COEFFICIENT_SCALE of a cent. Of a leaf that doesn't weigh the cost it is the bound itself
abbrev pub least_cost : ℕ → ℤ → ℤ
least_cost zero bound = bound
least_cost (suc less) (pos zero) = pos 0
least_cost (suc less) (pos (suc below)) = pos (below / suc less + 1)
least_cost (suc less) (negsuc above) = neg_ℤ (pos (suc above / suc less))

-- a least cost bears out a claim where it is more than a cent less
abbrev pub bears_out : ℤ → Claim → Bool
bears_out cost None = false
bears_out cost (Some least) = int_lt (pos COEFFICIENT_SCALE *ℤ (least -ℤ pos 1)) cost

-- the portfolio of the lines' low ends, which is the one that single ranges hold
abbrev pub low_ends : RangesContents → List ℕ
low_ends ranges = map (λ interval. interval.low) ranges.lines

-- a single portfolio costs no less than is claimed
abbrev pub costs_enough : BookContents → Claim → List ℕ → Bool
costs_enough book None plan = false
costs_enough book (Some least) plan = int_le least (pos (cost book plan))
