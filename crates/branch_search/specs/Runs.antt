-- How the runs of a search end: in each a tree grows from the root by one rule, until it is closed or its budget is spent. This is
-- this project's own.
use Rattle.std.specs.Prelude.{◌≡◌, ℕ, ◌+◌, ◌<◌, ◌≤◌, Option, Some}
use Rattle.case_file.specs.Case.{CaseContents}
use Rattle.halving_tree.specs.Halving.{HasMoreNodes}
use Rattle.halving_tree.specs.declared.rule.SplitRule.{SplitRule}
use Rattle.halving_tree.specs.declared.rule.SplitRule.TheVariants as rules
use Rattle.search_tree.specs.Best.{IsNoDearer}
use Rattle.branch_search.specs.Search.{IsFound, IsFoundBy, IsNoneFound, IsShown}
use Rattle.branch_search.specs.declared.found.SearchEnd.{SearchEnd}
use Rattle.branch_search.specs.declared.found.SearchEnd.TheVariants as ended
use Rattle.branch_search.specs.declared.growing.RunEnd.{RunEnd}
use Rattle.branch_search.specs.declared.growing.RunEnd.TheVariants as run
use Rattle.branch_search.specs.declared.growing.Shown.{Shown}

-- what a run's tree shows whose budget is spent, towards a best plan of so many cents: that costs more by more than the allowance; and
-- where the rule is that of the halving tree, that has more nodes than the budget
pub record IsSpentRun (case : CaseContents) (rule : SplitRule) (best : Option ℕ) (spent : Shown) : Type 0 where
  pub shown : IsShown case spent.tree spent.bound.0
  pub over : (own : ℕ) → best ≡ Some own → spent.bound.0 + case.allowance < own
  pub larger : rule ≡ rules.Halving → HasMoreNodes case case.budget

-- how a run ends by a rule; where its budget is spent, the best plan is none dearer than before
abbrev pub IsRunEnd : CaseContents → SplitRule → Option ℕ → Option ℕ → RunEnd → Type 0
IsRunEnd case rule before after (run.Found found) = IsFound case found.plan found.tree found.gap × IsFoundBy case found.plan found.tree
IsRunEnd case rule before after (run.NoRival nodes) = IsNoneFound case nodes
IsRunEnd case rule before after (run.Spent spent) = IsNoDearer before after × IsSpentRun case rule after spent

-- where the budget is spent, the bound is none less than each of two
abbrev pub IsNoLessThan : ℕ → ℕ → SearchEnd → Type 0
IsNoLessThan first second (ended.BudgetSpent spent) = (first ≤ spent.bound.0) × (second ≤ spent.bound.0)
IsNoLessThan first second (ended.Short day) = Unit {0}
IsNoLessThan first second (ended.NoneWithinYield nodes) = Unit {0}
IsNoLessThan first second ended.NoMemory = Unit {0}
