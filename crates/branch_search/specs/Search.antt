-- What a search comes to: a portfolio with a tree that shows how much cheaper others can be; a tree that shows that there is no rival;
-- or, where its budget is spent, a tree and the bound that it shows. The search is this project's own.
use Rattle.std.specs.Prelude.{◌≡◌, ℕ, ◌+◌, ◌<◌, ◌≤◌, false, true, List, All, length, Option, Result, Err, Ok, Some, None, IfSome, MatchOption}
use Rattle.backward_build.specs.BackwardPlan.{backward_plan}
use Rattle.backward_build.specs.Trim.{HasNoMore, IsTrimmed}
use Rattle.bound_certificate.specs.Packed.{IsPackable}
use Rattle.bound_certificate.specs.declared.limits.TheConstants.{MOST_NODES}
use Rattle.case_file.specs.Case.{CaseContents}
use Rattle.cash_table.specs.First.{first_short_of}
use Rattle.cash_table.specs.Points.{is_within_limit}
use Rattle.cash_table.specs.Reach.{AreAllShort, IsInReach, plan_of_most}
use Rattle.node_ranges.specs.Ranges.{root_of}
use Rattle.node_ranges.specs.Claims.{placed_nodes}
use Rattle.proof_tree.specs.Tree.{AreTrees, IsNode}
use Rattle.proof_tree.specs.declared.tree.TreeNode.{TreeNode}
use Rattle.escrow_check.specs.Reasons.{IsSoundTree, IsUnopposed}
use Rattle.escrow_units.specs.declared.limits.TheConstants.{AMOUNT_LIMIT, GREATEST_YIELD}
use Rattle.halving_tree.specs.Halving.{HasMoreNodes}
use Rattle.offer_book.specs.Book.{BookContents}
use Rattle.offer_book.specs.Portfolio.{IsPermitted, Meets, cost}
use Rattle.offer_book.specs.Rival.{IsRival}
use Rattle.search_tree.specs.Shows.{AreStepsAtMost, HoldsBound, IsNeededSplit, IsNoPlan, IsRaised}
use Rattle.branch_search.specs.Purchases.{certificate_of, certificate_of_none}
use Rattle.branch_search.specs.declared.found.Found.{Found}
use Rattle.branch_search.specs.declared.found.SearchEnd.{SearchEnd}
use Rattle.branch_search.specs.declared.found.SearchEnd.TheVariants as ended
use Rattle.branch_search.specs.declared.found.Spent.{Spent}

-- the case that a search is of
abbrev pub searched : BookContents → ℕ → ℕ → ℕ → CaseContents
searched book limit allowance budget = record { book = book; limit = limit; allowance = allowance; budget = budget }

-- the cases that are searched: the limit is above 0, and all is within what an issue may say
pub record IsSearchable (case : CaseContents) : Type 0 where
  pub limit_from : 1 ≤ case.limit
  pub limit_to : case.limit ≤ GREATEST_YIELD
  pub allowed : case.allowance ≤ AMOUNT_LIMIT
  pub budget_from : 1 ≤ case.budget
  pub budget_to : case.budget ≤ MOST_NODES

-- ---- the backward plan and the one that it is trimmed to
-- a plan to which another is trimmed: it costs no more, and no line of it can go down alone
pub record IsTrimmedFrom (book : BookContents) (built trimmed : List ℕ) : Type 0 where
  pub permitted : IsPermitted book trimmed
  pub meets : Meets book trimmed
  pub no_more : HasNoMore trimmed built
  pub costs : cost book trimmed ≤ cost book built
  pub local : IsTrimmed book trimmed

-- this holds of a plan, and of one that it is trimmed to
pub record HoldsOfBoth (Holds : List ℕ → Type 0) (book : BookContents) (built : List ℕ) : Type 0 where
  pub trimmed : List ℕ
  pub from_built : IsTrimmedFrom book built trimmed
  pub of_built : Holds built
  pub of_trimmed : Holds trimmed

-- where there is a backward plan, this holds of it, and of one that it is trimmed to
abbrev pub OfBackward : (List ℕ → Type 0) → BookContents → Type 0
OfBackward Holds book = (built : List ℕ) → backward_plan book ≡ Ok built → HoldsOfBoth Holds book built

-- another plan costs no less than so much, where it is within the limit
abbrev pub CostsNoLess : ℕ → BookContents → ℕ → List ℕ → Type 0
CostsNoLess limit book cents other = is_within_limit limit book other ≡ true → cents ≤ cost book other

-- what the best plan costs is no more than the backward plan and one that it is trimmed to; without one, both are beyond the limit
abbrev pub IsNoDearerThanBackward : ℕ → BookContents → Option ℕ → Type 0
IsNoDearerThanBackward limit book None = OfBackward (λ plan. is_within_limit limit book plan ≡ false) book
IsNoDearerThanBackward limit book (Some cents) = OfBackward (CostsNoLess limit book cents) book

-- ---- what is found
-- a portfolio with a gap and a tree, as a certificate that is accepted; and no smaller gap is supported by the tree
pub record IsFound (case : CaseContents) (plan : List ℕ) (nodes : List TreeNode) (gap : ℕ) : Type 0 where
  pub permitted : IsPermitted case.book plan
  pub meets : Meets case.book plan
  pub within : is_within_limit case.limit case.book plan ≡ true
  pub packable : IsPackable (length case.book.needs) (certificate_of plan nodes gap)
  pub unopposed : IsUnopposed case (certificate_of plan nodes gap)
  pub least : (less : ℕ) → less < gap → ¬ IsSoundTree case (certificate_of plan nodes less)

-- how it is found: the tree keeps the budget, its leaves are raised, and the portfolio costs no more than the backward plan and one
-- that it is trimmed to, each where it is within the limit
pub record IsFoundBy (case : CaseContents) (plan : List ℕ) (nodes : List TreeNode) : Type 0 where
  pub in_reach : IsInReach case.book
  pub few : length nodes ≤ case.budget
  pub raised : All (IsRaised case) (placed_nodes case.book nodes)
  pub no_dearer : OfBackward (CostsNoLess case.limit case.book (cost case.book plan)) case.book

-- ---- no rival
-- a tree that shows that there is no rival: as a certificate without a portfolio it is accepted. The backward plan and one that it is
-- trimmed to are beyond the limit, and so is, or is short, the portfolio of each point
pub record IsNoneFound (case : CaseContents) (nodes : List TreeNode) : Type 0 where
  pub in_reach : IsInReach case.book
  pub packable : IsPackable (length case.book.needs) (certificate_of_none nodes)
  pub unopposed : IsUnopposed case (certificate_of_none nodes)
  pub few : length nodes ≤ case.budget
  pub beyond : OfBackward (λ plan. is_within_limit case.limit case.book plan ≡ false) case.book
  pub points : All (IsNoPlan case) (placed_nodes case.book nodes)

-- ---- a budget that is spent
-- a plan that can be bought within the limit, and costs more than the bound by more than the allowance
pub record IsOverBound (case : CaseContents) (cents : ℕ) (plan : List ℕ) : Type 0 where
  pub permitted : IsPermitted case.book plan
  pub meets : Meets case.book plan
  pub within : is_within_limit case.limit case.book plan ≡ true
  pub over : cents + case.allowance < cost case.book plan

-- what a tree shows whose budget is spent: it has as many nodes as the budget has room for, and in cents this is the greatest bound
-- that it holds, so that no rival costs less; each split was needed
pub record IsShown (case : CaseContents) (tree : List TreeNode) (cents : ℕ) : Type 0 where
  pub trees : AreTrees 1 tree
  pub nodes : All (IsNode (length case.book.needs)) tree
  pub few : length tree ≤ case.budget
  pub full : case.budget < length tree + 2
  pub holds : HoldsBound case tree cents
  pub greatest : (more : ℕ) → HoldsBound case tree more → more ≤ cents
  pub no_rival : (rival : List ℕ) → IsRival case.limit case.book rival → cents ≤ cost case.book rival
  pub raised : All (IsRaised case) (placed_nodes case.book tree)
  pub needed : All (IsNeededSplit case cents) (placed_nodes case.book tree)
  pub root : AreStepsAtMost case cents (root_of case.book)

-- what stands then: such a tree with its bound, and the best plan; and a greater budget is needed, as the halving tree has more nodes
pub record IsSpent (case : CaseContents) (spent : Spent) : Type 0 where
  pub in_reach : IsInReach case.book
  pub shown : IsShown case spent.tree spent.bound.0
  pub best : IfSome spent.best (IsOverBound case spent.bound.0)
  pub no_dearer : MatchOption spent.best (IsNoDearerThanBackward case.limit case.book None) (λ plan. IsNoDearerThanBackward case.limit case.book (Some (cost case.book plan)))
  pub larger : HasMoreNodes case case.budget

-- when each end comes: no permitted portfolio meets the needs, which shows first on this day; there is no rival; or the budget is
-- spent. Want of memory may come at any time
abbrev pub EndsOf : CaseContents → SearchEnd → Type 0
EndsOf case (ended.Short day) = (first_short_of case.book (plan_of_most case.book) ≡ Some day) × AreAllShort case.book day
EndsOf case (ended.NoneWithinYield nodes) = IsNoneFound case nodes
EndsOf case (ended.BudgetSpent spent) = IsSpent case spent
EndsOf case ended.NoMemory = Unit {0}

-- what a search of a case answers: a portfolio, as it is found, or its end
abbrev pub IsOutcome : CaseContents → Result Found SearchEnd → Type 0
IsOutcome case (Ok found) = IsFound case found.plan found.tree found.gap × IsFoundBy case found.plan found.tree
IsOutcome case (Err ended) = EndsOf case ended
