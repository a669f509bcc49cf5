-- Cases whose budget is enough, whatever their allowance. The search is this project's own.
use Rattle.std.specs.Prelude.{◌⊎◌, ℕ, ◌*◌, ◌≤◌, List, length}
use Rattle.std.specs.List.{Contains}
use Rattle.case_file.specs.Case.{CaseContents}
use Rattle.cash_table.specs.Reach.{IsInReach}
use Rattle.node_ranges.specs.Ranges.{root_of}
use Rattle.halving_tree.specs.Halving.{IsHalvingTree, Splits, node_count}
use Rattle.offer_book.specs.Portfolio.{IsPermitted}

-- the halving tree of a case has no more nodes than the budget
pub record CoversTree (case : CaseContents) : Type 0 where
  pub tree : Splits
  pub halving : IsHalvingTree case (root_of case.book) tree
  pub enough : node_count tree ≤ case.budget

-- the budget is at least twice the number of permitted portfolios: twice the length of a list of them all
pub record CoversPortfolios (case : CaseContents) : Type 0 where
  pub portfolios : List (List ℕ)
  pub all : (plan : List ℕ) → IsPermitted case.book plan → Contains portfolios plan
  pub enough : 2 * length portfolios ≤ case.budget

-- the needs can be met, and the budget covers the halving tree, or all permitted portfolios
pub record IsCovered (case : CaseContents) : Type 0 where
  pub in_reach : IsInReach case.book
  pub covers : CoversTree case ⊎ CoversPortfolios case
