use Rattle.case_file.specs.Case.{case_view}
use Rattle.escrow_top.proofs.StructureLaws.{short_end, spent_end}
use Rattle.escrow_top.proofs.structure.draft_of_end.Goals as goal

pub returns-in_ok-budget_spent-in-BudgetSpent-clause-draft : goal.returns-in_ok-budget_spent-in-BudgetSpent-clause-draft
returns-in_ok-budget_spent-in-BudgetSpent-clause-draft c =
    let is = rw c.in-BudgetSpent.is at c.requires.ended in
    spent_end (case_view c.args.case.now) c.in-BudgetSpent.spent c.in_ok-budget_spent-in-BudgetSpent.field-0 c.halving_laws.ensures.within c.halving_laws.ensures.few
    c.requires.book is c.in_ok-budget_spent-in-BudgetSpent.ensures.answer

pub returns-in_ok-infeasible-in-Short-clause-draft : goal.returns-in_ok-infeasible-in-Short-clause-draft
returns-in_ok-infeasible-in-Short-clause-draft c =
    let is = rw c.in-Short.is at c.requires.ended in
    short_end (case_view c.args.case.now) c.in-Short.day c.in_ok-infeasible-in-Short.field-0 c.requires.book is c.in_ok-infeasible-in-Short.ensures.answer
