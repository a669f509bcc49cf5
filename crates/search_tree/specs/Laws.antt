-- What a search's tree keeps while it grows, and what it shows in the end, as laws. This is this project's own.
use Rattle.std.specs.Prelude.{◌≡◌, ℕ, ◌+◌, ◌-◌, ◌<◌, ◌≤◌, false, true, List, [], All, length, replicate, Option, Some, option_map, IsTrue, Bool, ℤ, pos, ◌≤ℤ◌}
use Rattle.case_file.specs.Case.{CaseContents}
use Rattle.dual_bound.specs.LeafBound.{bound_of, least_cost_of}
use Rattle.dual_bound.specs.Closing.{is_closed_point, is_weak}
use Rattle.node_ranges.specs.Ranges.{AreTight, RangesContents, is_proper, narrowed, root_of}
use Rattle.node_ranges.specs.Claims.{Claim, bears_out, placed_nodes}
use Rattle.proof_tree.specs.declared.tree.Leaf.{Leaf}
use Rattle.proof_tree.specs.declared.prices.TheConstants.{PRICE_SCALE}
use Rattle.proof_tree.specs.declared.tree.Part.{Part}
use Rattle.proof_tree.specs.declared.tree.TreeNode.{TreeNode}
use Rattle.proof_tree.specs.declared.tree.Part.TheVariants as part
use Rattle.halving_tree.specs.Halving.{HasMoreNodes, is_end}
use Rattle.halving_tree.specs.Base.{base_leaf}
use Rattle.halving_tree.specs.declared.rule.SplitRule.{SplitRule}
use Rattle.node_pool.specs.Pool.{IsLeast, IsOneTree, SplitsAreWhole, with_state}
use Rattle.node_pool.specs.Tree.{AreEnded}
use Rattle.node_pool.specs.Way.{IsWay, Step}
use Rattle.node_pool.specs.declared.node.State.{State}
use Rattle.node_pool.specs.declared.node.State.TheVariants as state
use Rattle.offer_book.specs.Book.{BookContents, IsBook}
use Rattle.offer_book.specs.Portfolio.{cost}
use Rattle.offer_book.specs.Rival.{IsRival}
use Rattle.search_tree.specs.Best.{CoversBackward, IsNoDearer}
use Rattle.search_tree.specs.Growing.{GoesOn, HasGrown, IsClosedBy, IsGrown, IsHalvingSplit, IsHeld, IsKept, IsPopped, IsPriced, IsSplitNode, IsStuck, node_of, obeys}
use Rattle.search_tree.specs.Shows.{AreStepsAtMost, HoldsBound, IsBoundOf, IsNeededSplit, IsWell}
use Rattle.search_tree.specs.Tree.{AreNodesOf, IsDrained, TreeContents, closed_tree, split_tree}
use Rattle.search_tree.specs.declared.node.Closing.{Closing}
use Rattle.search_tree.specs.declared.node.Closing.TheVariants as closing
use Rattle.search_tree.specs.declared.node.Priced.{Priced}
use Rattle.search_tree.specs.declared.node.SearchNode.{SearchNode}

-- ---- leaves
-- the bound of a leaf doesn't fall on a side of a split
abbrev pub BoundsRise : Type 0
BoundsRise =
    (n : ℕ) (book : BookContents) (leaf : Leaf) (ranges : RangesContents) (part : Part) (at : ℕ) (right : Bool) → IsBook book → AreTight book ranges → IsTrue (is_proper ranges part at)
    → bound_of n book ranges leaf ≤ℤ bound_of n book (narrowed book ranges part at right) leaf

-- the leaf of prices of 0, which weighs the cost, has no bound below 0
abbrev pub ZerosAreSome : Type 0
ZerosAreSome =
    (n : ℕ) (book : BookContents) (count : ℕ) (ranges : RangesContents) → IsBook book → AreTight book ranges
    → pos 0 ≤ℤ bound_of n book ranges (record { rho = PRICE_SCALE; mu = 0; prices = replicate count 0; weights = [] })

-- ---- growing
-- a cheaper best plan leaves each closed node closed
abbrev pub CheaperIsKept : Type 0
CheaperIsKept =
    (case : CaseContents) (rule : SplitRule) (best after : Option ℕ) (popped : ℤ) (states : List State) (nodes : List SearchNode) → IsNoDearer best after
    → IsGrown case (obeys case rule) best popped states nodes → IsGrown case (obeys case rule) after popped states nodes

-- every node has a way to the root
abbrev pub NodesHaveWays : Type 0
NodesHaveWays = (states : List State) (child : ℕ) → IsOneTree states → child < length states → (way : List Step) × IsWay states child way

-- the node of the least bound is taken
abbrev pub PoppedIsKept : Type 0
PoppedIsKept =
    (case : CaseContents) (rule : SplitRule) (best : Option ℕ) (popped : ℤ) (states : List State) (nodes : List SearchNode) (number : ℕ) (way : List Step) → IsKept case (obeys case rule) best popped states nodes → number < length states
    → IsWay states number way → IsLeast states number → IsPopped case (obeys case rule) best (with_state states number state.InHand) nodes number

-- the node in hand is closed
abbrev pub ClosedIsKept : Type 0
ClosedIsKept =
    (case : CaseContents) (rule : SplitRule) (best : Option ℕ) (tree : TreeContents) (number : ℕ) (ranges : RangesContents) (how : Closing) → IsHeld case (obeys case rule) best tree.pool.states tree.nodes number ranges
    → IsClosedBy case best ranges (node_of tree.nodes number).priced.bound how
    → HasGrown case (obeys case rule) best (closed_tree tree number how).pool.states (closed_tree tree number how).nodes

-- it is split
abbrev pub SplitIsKept : Type 0
SplitIsKept =
    (case : CaseContents) (rule : SplitRule) (best : Option ℕ) (tree : TreeContents) (number line at : ℕ) (ranges : RangesContents) (left right : Priced) → IsHeld case (obeys case rule) best tree.pool.states tree.nodes number ranges
    → SplitsAreWhole tree.pool.states → IsSplitNode case (obeys case rule) (node_of tree.nodes number).priced.bound ranges (node_of tree.nodes number).priced line at
    → IsPriced case (narrowed case.book ranges (part.Line line) at false) left → (node_of tree.nodes number).priced.bound ≤ℤ left.bound
    → IsPriced case (narrowed case.book ranges (part.Line line) at true) right → (node_of tree.nodes number).priced.bound ≤ℤ right.bound
    → HasGrown case (obeys case rule) best (split_tree tree number line at left right).pool.states (split_tree tree number line at left right).nodes

-- or it waits again, since there is no room for its sides
abbrev pub StuckIsKept : Type 0
StuckIsKept =
    (case : CaseContents) (rule : SplitRule) (best : Option ℕ) (states : List State) (nodes : List SearchNode) (number : ℕ) (ranges : RangesContents) (up : List Step) → IsWay states number up → IsHeld case (obeys case rule) best states nodes number ranges
    → GoesOn case best ranges (node_of nodes number).priced.bound → (line at : ℕ) → obeys case rule ranges line at
    → IsStuck case (obeys case rule) best (node_of nodes number).priced.bound (with_state states number (state.Waiting (node_of nodes number).priced.bound)) nodes

-- a node that isn't closed is no end of the halving tree
abbrev pub OpenGoesOn : Type 0
OpenGoesOn =
    (case : CaseContents) (best : Option ℕ) (ranges : RangesContents) (bound : ℤ) → CoversBackward case best → least_cost_of (case.limit - 1) case.book ranges (base_leaf case.book) ≤ℤ bound
    → GoesOn case best ranges bound → is_end case ranges ≡ false

-- ---- a tree without a waiting node
pub record IsClosedTree (case : CaseContents) (Obeys : RangesContents → ℕ → ℕ → Type 0) (best : Option ℕ) (popped : ℤ) (tree : TreeContents) (nodes : List TreeNode) : Type 0 where
  pub limits : IsBook case.book
  pub one : IsOneTree tree.pool.states
  pub whole : SplitsAreWhole tree.pool.states
  pub ended : AreEnded tree.pool.states
  pub kept : IsKept case Obeys best popped tree.pool.states tree.nodes
  pub written : AreNodesOf case.book.needs tree nodes

-- such a tree bears out every claim that each leaf which closes its own node bears out, and each point
pub record ShowsClaim (case : CaseContents) (tree : TreeContents) (nodes : List TreeNode) (claim : Claim) : Type 0 where
  pub well : IsWell case nodes
  pub count : length nodes ≡ length tree.pool.states
  pub closed : All (λ p. is_weak case claim p ≡ false) (placed_nodes case.book nodes)

abbrev pub ClosedTreesShow : Type 0
ClosedTreesShow =
    (case : CaseContents) (rule : SplitRule) (best : Option ℕ) (popped : ℤ) (tree : TreeContents) (nodes : List TreeNode) (claim : Claim) → IsClosedTree case (obeys case rule) best popped tree nodes
    → ((number : ℕ) → (node_of tree.nodes number).closing ≡ closing.Borne → bears_out (node_of tree.nodes number).priced.bound claim ≡ true)
    → ((ranges : RangesContents) → is_closed_point case (option_map pos best) ranges ≡ true → is_closed_point case claim ranges ≡ true)
    → ShowsClaim case tree nodes claim

-- ---- a tree whose budget is spent
-- a node is stuck, as there is no room for its sides; then each node that waits is closed by its own leaf
pub record IsFull (case : CaseContents) (Obeys : RangesContents → ℕ → ℕ → Type 0) (best : Option ℕ) (bound : ℤ) (before after : TreeContents) : Type 0 where
  pub limits : IsBook case.book
  pub tree : IsOneTree before.pool.states
  pub stuck : IsStuck case Obeys best bound before.pool.states before.nodes
  pub full : case.budget < length before.pool.states + 2
  pub drained : IsDrained before after
  pub one : IsOneTree after.pool.states
  pub whole : SplitsAreWhole after.pool.states
  pub ended : AreEnded after.pool.states

-- what such a tree shows: the bound, which is the greatest that it holds, so that no rival costs less; each of its splits was needed,
-- the best plan costs more by more than the allowance; and where each split is one of the halving tree, that has more nodes than the
-- budget
pub record ShowsBound (case : CaseContents) (Obeys : RangesContents → ℕ → ℕ → Type 0) (best : Option ℕ) (cents : ℕ) (before : TreeContents) (nodes : List TreeNode) : Type 0 where
  pub well : IsWell case nodes
  pub count : length nodes ≡ length before.pool.states
  pub holds : HoldsBound case nodes cents
  pub greatest : (more : ℕ) → HoldsBound case nodes more → more ≤ cents
  pub no_rival : (rival : List ℕ) → IsRival case.limit case.book rival → cents ≤ cost case.book rival
  pub needed : All (IsNeededSplit case cents) (placed_nodes case.book nodes)
  pub root : AreStepsAtMost case cents (root_of case.book)
  pub over : (own : ℕ) → best ≡ Some own → cents + case.allowance < own
  pub larger : ((ranges : RangesContents) (line at : ℕ) → Obeys ranges line at → IsHalvingSplit case ranges line at) → HasMoreNodes case case.budget

abbrev pub FullTreesShow : Type 0
FullTreesShow =
    (case : CaseContents) (rule : SplitRule) (best : Option ℕ) (bound : ℤ) (cents : ℕ) (before after : TreeContents) (nodes : List TreeNode) → IsFull case (obeys case rule) best bound before after → AreNodesOf case.book.needs after nodes
    → IsBoundOf bound cents → ShowsBound case (obeys case rule) best cents before nodes
