-- How the growth of a tree goes on, and ends. This is this project's own.
use Rattle.std.specs.Prelude.{◌≡◌, ℕ, ◌+◌, ◌-◌, ◌*◌, ◌<◌, ◌≤◌, true, Bool, List, length, Option, Some, None, ℤ, ◌≤ℤ◌}
use Rattle.std.specs.List.{count_by}
use Rattle.case_file.specs.Case.{CaseContents}
use Rattle.dual_bound.specs.LeafBound.{least_cost_of}
use Rattle.node_ranges.specs.Ranges.{RangesContents, narrowed, root_of}
use Rattle.proof_tree.specs.declared.tree.Leaf.{Leaf}
use Rattle.proof_tree.specs.declared.tree.Part.TheVariants as part
use Rattle.node_pool.specs.Pool.{PoolContents, is_waiting}
use Rattle.node_pool.specs.Tree.{AreEnded}
use Rattle.search_tree.specs.Growing.{HasGrown, IsPriced, IsStuck}
use Rattle.search_tree.specs.Tree.{TreeContents, new_tree}
use Rattle.branch_search.specs.declared.growing.Growth.{Growth}
use Rattle.branch_search.specs.declared.growing.Growth.TheVariants as growth
use Rattle.search_tree.specs.declared.node.Priced.{Priced}

-- a side of a split is priced: its leaf shows no lower least cost than the parent's there
pub record IsSide (case : CaseContents) (ranges : RangesContents) (line at : ℕ) (right : Bool) (parent : Leaf) (priced : Priced) : Type 0 where
  pub own : IsPriced case (narrowed case.book ranges (part.Line line) at right) priced
  pub no_less : 1 ≤ parent.rho → least_cost_of (case.limit - 1) case.book (narrowed case.book ranges (part.Line line) at right) parent ≤ℤ priced.bound

-- a tree of a case begins: its root alone stands, with room for the budget
pub record IsBegun (case : CaseContents) (tree : TreeContents) : Type 0 where
  pub root : Priced
  pub priced : IsPriced case (root_of case.book) root
  pub alone : tree ≡ new_tree case.budget root

-- what is left to do: each node that waits, and two more for each node that there is room for
abbrev pub left_to_do : PoolContents → ℕ
left_to_do pool = 2 * (pool.capacity - length pool.states) + count_by is_waiting pool.states

-- each node is closed or split
pub record IsClosedTree (case : CaseContents) (Obeys : RangesContents → ℕ → ℕ → Type 0) (best : Option ℕ) (tree : TreeContents) : Type 0 where
  pub grown : HasGrown case Obeys best tree.pool.states tree.nodes
  pub ended : AreEnded tree.pool.states

-- there is no room for the sides of a node that is to be split
pub record IsFullTree (case : CaseContents) (Obeys : RangesContents → ℕ → ℕ → Type 0) (best : Option ℕ) (bound : ℤ) (tree : TreeContents) : Type 0 where
  pub stuck : IsStuck case Obeys best bound tree.pool.states tree.nodes
  pub full : case.budget < length tree.pool.states + 2

-- how a tree has ended
abbrev pub IsGrowth : CaseContents → (RangesContents → ℕ → ℕ → Type 0) → Option ℕ → TreeContents → Growth → Type 0
IsGrowth case Obeys best tree growth.Closed = IsClosedTree case Obeys best tree
IsGrowth case Obeys best tree (growth.Spent bound) = IsFullTree case Obeys best bound tree

-- after a node is taken, the growth has ended or goes on
abbrev pub IsTakenTo : CaseContents → (RangesContents → ℕ → ℕ → Type 0) → Option ℕ → TreeContents → Option Growth → Type 0
IsTakenTo case Obeys best tree None = HasGrown case Obeys best tree.pool.states tree.nodes
IsTakenTo case Obeys best tree (Some ended) = IsGrowth case Obeys best tree ended
