-- When a leaf or a point of a tree is closed. This is this project's own.
use Rattle.std.specs.Prelude.{◌-◌, ◌==◌, Bool, false, not, ◌&&◌, ◌||◌, if◌then◌else◌, pos, int_lt}
use Rattle.case_file.specs.Case.{CaseContents}
use Rattle.cash_table.specs.Points.{is_excluded}
use Rattle.node_ranges.specs.Claims.{Claim, bears_out_by, costs_enough, low_ends}
use Rattle.node_ranges.specs.Ranges.{RangesContents, is_single}
use Rattle.proof_tree.specs.declared.tree.Leaf.{Leaf}
use Rattle.proof_tree.specs.declared.tree.TreeNode.{TreeNode}
use Rattle.proof_tree.specs.declared.tree.TreeNode.TheVariants as node
use Rattle.dual_bound.specs.LeafBound.{bound_of}

-- a leaf is closed: it bears out the claim; or it doesn't weigh the cost, and its bound above 0 shows that there is no rival
abbrev pub is_closed_leaf : CaseContents → Claim → RangesContents → Leaf → Bool
is_closed_leaf case claim ranges leaf =
    if leaf.rho == 0 then int_lt (pos 0) (bound_of (case.limit - 1) case.book ranges leaf)
    else bears_out_by leaf.rho (bound_of (case.limit - 1) case.book ranges leaf) claim

-- a point is closed: its ranges hold one portfolio, which is no rival, or costs no less than is claimed
abbrev pub is_closed_point : CaseContents → Claim → RangesContents → Bool
is_closed_point case claim ranges =
    is_single ranges && (is_excluded case.book (case.limit - 1) (low_ends ranges) || costs_enough case.book claim (low_ends ranges))

-- a leaf or a point that isn't closed
abbrev pub is_weak : CaseContents → Claim → TreeNode × RangesContents → Bool
is_weak case claim (node.Split part at, ranges) = false
is_weak case claim (node.Point, ranges) = not (is_closed_point case claim ranges)
is_weak case claim (node.Closed leaf, ranges) = not (is_closed_leaf case claim ranges leaf)
