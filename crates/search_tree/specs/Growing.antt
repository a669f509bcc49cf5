-- What a search keeps while its tree grows. It is this project's own.
use Rattle.std.specs.Prelude.{◌≡◌, ℕ, ◌-◌, ◌<◌, ◌≤◌, true, false, List, [], length, slice_index_or, Option, None, option_map, ℤ, pos, ◌-ℤ◌, ◌≤ℤ◌, ◌<ℤ◌}
use Rattle.case_file.specs.Case.{CaseContents}
use Rattle.cash_table.specs.Points.{is_within_limit}
use Rattle.dual_bound.specs.LeafBound.{bound_of, least_cost_of}
use Rattle.dual_bound.specs.Closing.{is_closed_point}
use Rattle.node_ranges.specs.Ranges.{RangesContents, is_proper, is_single}
use Rattle.node_ranges.specs.Claims.{Claim, bears_out, low_ends}
use Rattle.proof_tree.specs.declared.prices.TheConstants.{PRICE_SCALE}
use Rattle.proof_tree.specs.Tree.{IsLeaf}
use Rattle.proof_tree.specs.declared.tree.Leaf.{Leaf}
use Rattle.proof_tree.specs.declared.tree.Part.TheVariants as part
use Rattle.dual_tune.specs.Steps.{IsImproved}
use Rattle.price_lp.specs.declared.proposing.TheConstants.{LEAST_WEIGHT}
use Rattle.halving_tree.specs.Base.{base_leaf, reach_leaf}
use Rattle.halving_tree.specs.Halving.{IsHalved, is_end, is_unreached}
use Rattle.halving_tree.specs.declared.rule.SplitRule.{SplitRule}
use Rattle.halving_tree.specs.declared.rule.SplitRule.TheVariants as rules
use Rattle.node_pool.specs.Pool.{IsInHand, NoneInHand, Waits, state_at}
use Rattle.node_pool.specs.Way.{IsWay, Step, ranges_at}
use Rattle.node_pool.specs.declared.node.State.{State}
use Rattle.node_pool.specs.declared.node.State.TheVariants as state
use Rattle.offer_book.specs.Book.{BookContents}
use Rattle.offer_book.specs.Portfolio.{IsPermitted, Meets, cost}
use Rattle.search_tree.specs.declared.node.Closing.{Closing}
use Rattle.search_tree.specs.declared.node.Closing.TheVariants as closing
use Rattle.search_tree.specs.declared.node.Priced.{Priced}
use Rattle.search_tree.specs.declared.node.SearchNode.{SearchNode}

-- what the best plan so far claims: that no rival costs less than it by more than the allowance; without a plan, that there is none
abbrev pub claim_of_best : CaseContents → Option ℕ → Claim
claim_of_best case best = option_map (λ cents. pos cents -ℤ pos case.allowance) best

-- a plan that can be bought, with what it costs
pub record IsBought (limit : ℕ) (book : BookContents) (plan : List ℕ) (cents : ℕ) : Type 0 where
  pub permitted : IsPermitted book plan
  pub meets : Meets book plan
  pub within : is_within_limit limit book plan ≡ true
  pub priced : cents ≡ cost book plan

-- the leaf of a node: it weighs the cost by a hundredth at least, and over the node's ranges it shows no lower least cost than the base
-- leaf and each of its steps, nor one below 0
pub record IsPriced (case : CaseContents) (ranges : RangesContents) (priced : Priced) : Type 0 where
  pub improved : IsImproved (case.limit - 1) case.book ranges (base_leaf case.book) priced.leaf
  pub weighs : LEAST_WEIGHT ≤ priced.leaf.rho
  pub bound : priced.bound ≡ least_cost_of (case.limit - 1) case.book ranges priced.leaf
  pub some : pos 0 ≤ℤ priced.bound

-- a point: the one portfolio of its ranges is no rival, or costs no less than the best plan; and without a best plan it doesn't meet
-- the needs within the limit
pub record IsLostPoint (case : CaseContents) (best : Option ℕ) (ranges : RangesContents) : Type 0 where
  pub closed : is_closed_point case (option_map pos best) ranges ≡ true
  pub lost : best ≡ None → Meets case.book (low_ends ranges) → is_within_limit case.limit case.book (low_ends ranges) ≡ true → ⊥

-- a leaf that doesn't weigh the cost shows that no permitted portfolio of ranges meets the needs within the limit
pub record ShowsNone (case : CaseContents) (ranges : RangesContents) (leaf : Leaf) : Type 0 where
  pub well_formed : IsLeaf (length case.book.needs) leaf
  pub without_cost : leaf.rho ≡ 0
  pub above : pos 0 <ℤ bound_of (case.limit - 1) case.book ranges leaf

-- how a node is closed
abbrev pub IsClosedBy : CaseContents → Option ℕ → RangesContents → ℤ → Closing → Type 0
IsClosedBy case best ranges bound closing.Open = ⊥
IsClosedBy case best ranges bound closing.Borne = bears_out bound (claim_of_best case best) ≡ true
IsClosedBy case best ranges bound (closing.Unreached day) = pos 0 <ℤ bound_of (case.limit - 1) case.book ranges (reach_leaf case.book.needs day)
IsClosedBy case best ranges bound (closing.Infeasible leaf) = ShowsNone case ranges leaf
IsClosedBy case best ranges bound closing.Point = IsLostPoint case best ranges

-- a node isn't closed: it holds several portfolios, its leaf doesn't bear the best plan out, and its needs may be reached
pub record GoesOn (case : CaseContents) (best : Option ℕ) (ranges : RangesContents) (bound : ℤ) : Type 0 where
  pub several : is_single ranges ≡ false
  pub reached : is_unreached case ranges ≡ false
  pub not_borne : bears_out bound (claim_of_best case best) ≡ false

-- what is found of a node that is tried
abbrev pub IsTried : CaseContents → Option ℕ → RangesContents → ℤ → Closing → Type 0
IsTried case best ranges bound closing.Open = GoesOn case best ranges bound
IsTried case best ranges bound closing.Borne = IsClosedBy case best ranges bound closing.Borne
IsTried case best ranges bound (closing.Unreached day) = IsClosedBy case best ranges bound (closing.Unreached day)
IsTried case best ranges bound (closing.Infeasible leaf) = IsClosedBy case best ranges bound (closing.Infeasible leaf)
IsTried case best ranges bound closing.Point = IsClosedBy case best ranges bound closing.Point

-- a split is one of the halving tree
pub record IsHalvingSplit (case : CaseContents) (ranges : RangesContents) (line at : ℕ) : Type 0 where
  pub goes_on : is_end case ranges ≡ false
  pub halved : IsHalved case.book.lines ranges.lines line at

-- what is known of the splits of a rule: those of the halving tree's rule are splits of that tree; of others, nothing
abbrev pub obeys : CaseContents → SplitRule → RangesContents → ℕ → ℕ → Type 0
obeys case rules.Halving ranges line at = IsHalvingSplit case ranges line at
obeys case rules.Relaxation ranges line at = Unit {0}

-- a split: it is proper, its node's bound isn't above the last one that was taken, and it obeys the rule of the search
pub record IsSplitNode (case : CaseContents) (Obeys : RangesContents → ℕ → ℕ → Type 0) (popped : ℤ) (ranges : RangesContents) (priced : Priced) (line at : ℕ) : Type 0 where
  pub proper : is_proper ranges (part.Line line) at ≡ true
  pub few : line < length case.book.lines
  pub low : priced.bound ≤ℤ popped
  pub obeys : Obeys ranges line at

-- what holds at a node's ranges, by its state, its number being given
abbrev pub IsAt : CaseContents → (RangesContents → ℕ → ℕ → Type 0) → Option ℕ → ℤ → ℕ → RangesContents → SearchNode → State → Type 0
IsAt case Obeys best popped number ranges node (state.Waiting key) = (key ≡ node.priced.bound) × (popped ≤ℤ key) × (node.closing ≡ closing.Open)
IsAt case Obeys best popped number ranges node state.InHand = (node.priced.bound ≡ popped) × (node.closing ≡ closing.Open)
IsAt case Obeys best popped number ranges node (state.Split line at left right) = IsSplitNode case Obeys popped ranges node.priced line at × (node.closing ≡ closing.Open)
IsAt case Obeys best popped number ranges node (state.Closed leaf) = (leaf ≡ number) × IsClosedBy case best ranges node.priced.bound node.closing

-- a node that stands for a number that isn't there
abbrev pub no_node : SearchNode
no_node = record { priced = record { leaf = record { rho = PRICE_SCALE; mu = 0; prices = []; weights = [] }; bound = pos 0 }; closing = closing.Open }

abbrev pub node_of : List SearchNode → ℕ → SearchNode
node_of nodes number = slice_index_or nodes number no_node

pub record IsNodeAt (case : CaseContents) (Obeys : RangesContents → ℕ → ℕ → Type 0) (best : Option ℕ) (popped : ℤ) (number : ℕ) (ranges : RangesContents) (node : SearchNode) (own : State) : Type 0 where
  pub priced : IsPriced case ranges node.priced
  pub stands : IsAt case Obeys best popped number ranges node own

-- so it is at each node's ranges, which the way to the root gives
pub record IsGrown (case : CaseContents) (Obeys : RangesContents → ℕ → ℕ → Type 0) (best : Option ℕ) (popped : ℤ) (states : List State) (nodes : List SearchNode) : Type 0 where
  pub same : length nodes ≡ length states
  pub each : (number : ℕ) (way : List Step) → number < length states → IsWay states number way
      → IsNodeAt case Obeys best popped number (ranges_at case.book way) (node_of nodes number) (state_at states number)

-- a tree as a search keeps it between two nodes
pub record IsKept (case : CaseContents) (Obeys : RangesContents → ℕ → ℕ → Type 0) (best : Option ℕ) (popped : ℤ) (states : List State) (nodes : List SearchNode) : Type 0 where
  pub grown : IsGrown case Obeys best popped states nodes
  pub none : NoneInHand states

abbrev pub HasGrown : CaseContents → (RangesContents → ℕ → ℕ → Type 0) → Option ℕ → List State → List SearchNode → Type 0
HasGrown case Obeys best states nodes = (popped : ℤ) × IsKept case Obeys best popped states nodes

-- a node in hand, the only one, whose bound no node that waits is below
pub record IsPopped (case : CaseContents) (Obeys : RangesContents → ℕ → ℕ → Type 0) (best : Option ℕ) (states : List State) (nodes : List SearchNode) (number : ℕ) : Type 0 where
  pub grown : IsGrown case Obeys best (node_of nodes number).priced.bound states nodes
  pub held : IsInHand states number
  pub others : (other : ℕ) → other < length states → state_at states other ≡ state.InHand → other ≡ number

-- a node in hand, of the ranges at hand
pub record IsHeld (case : CaseContents) (Obeys : RangesContents → ℕ → ℕ → Type 0) (best : Option ℕ) (states : List State) (nodes : List SearchNode) (number : ℕ) (ranges : RangesContents) : Type 0 where
  pub popped : IsPopped case Obeys best states nodes number
  pub ranged : (way : List Step) → IsWay states number way → ranges ≡ ranges_at case.book way

-- a node waits which is to be split, and has the least bound of those that wait
pub record IsStuck (case : CaseContents) (Obeys : RangesContents → ℕ → ℕ → Type 0) (best : Option ℕ) (bound : ℤ) (states : List State) (nodes : List SearchNode) : Type 0 where
  pub number : ℕ
  pub there : number < length states
  pub waits : Waits states number bound
  pub kept : IsKept case Obeys best bound states nodes
  pub goes_on : (way : List Step) → IsWay states number way → GoesOn case best (ranges_at case.book way) bound
  pub line : ℕ
  pub at : ℕ
  pub obeys : (way : List Step) → IsWay states number way → Obeys (ranges_at case.book way) line at
