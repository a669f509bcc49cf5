use Rattle.std.proofs.Common.{◌≡◌, Ok, inl, inr}
use Rattle.std.proofs.lemmas.Result.{IfOk-weaker}
use Rattle.case_file.specs.Case.{case_view}
use Rattle.escrow_top.specs.Making.{IsMadeAnswer, none_answer}
use Rattle.escrow_top.specs.Structure.{budget_spent, infeasible}
use Rattle.escrow_top.proofs.MakingLaws.{made_none}
use Rattle.escrow_top.proofs.StructureLaws.{short_end, spent_end}
use Rattle.escrow_top.proofs.making.answer_of_end.Goals as goal

pub returns-in-NoneWithinYield-clause-answer : goal.returns-in-NoneWithinYield-clause-answer
returns-in-NoneWithinYield-clause-answer c =
    let none = rw c.in-NoneWithinYield.is at c.requires.ended in
    let case = case_view c.args.case.now in
    IfOk-weaker c.none_answer.result (λ answer. answer ≡ none_answer c.in-NoneWithinYield.nodes) (IsMadeAnswer c.args.number (Ok case))
    (λ answer is. inr (inl (made_none case c.in-NoneWithinYield.nodes answer c.requires.book c.requires.terms none is))) c.none_answer.ensures

pub returns-in-BudgetSpent-clause-answer : goal.returns-in-BudgetSpent-clause-answer
returns-in-BudgetSpent-clause-answer c =
    let spent = rw c.in-BudgetSpent.is at c.requires.ended in
    let case = case_view c.args.case.now in
    IfOk-weaker c.budget_spent.result (λ answer. answer ≡ budget_spent case.book c.in-BudgetSpent.spent) (IsMadeAnswer c.args.number (Ok case))
    (λ answer is. inr (inr (spent_end case c.in-BudgetSpent.spent answer c.halving_laws.ensures.within c.halving_laws.ensures.few c.requires.book spent is))) c.budget_spent.ensures.answer

pub returns-in-Short-clause-answer : goal.returns-in-Short-clause-answer
returns-in-Short-clause-answer c =
    let is = rw c.in-Short.is at c.requires.ended in
    let case = case_view c.args.case.now in
    IfOk-weaker c.infeasible.result (λ answer. answer ≡ infeasible c.in-Short.day) (IsMadeAnswer c.args.number (Ok case))
    (λ answer said. inr (inr (short_end case c.in-Short.day answer c.requires.book is said))) c.infeasible.ensures.answer
