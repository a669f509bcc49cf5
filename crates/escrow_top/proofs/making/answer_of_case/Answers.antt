use Rattle.std.proofs.Common.{◌≡◌, Ok, inl}
use Rattle.std.proofs.lemmas.Result.{IfOk-weaker}
use Rattle.case_file.specs.Case.{case_view}
use Rattle.escrow_top.specs.Making.{IsMadeAnswer, made_answer}
use Rattle.escrow_top.proofs.MakingLaws.{made_of}
use Rattle.escrow_top.proofs.making.answer_of_case.Goals as goal

pub returns-in-Ok-clause-answer : goal.returns-in-Ok-clause-answer
returns-in-Ok-clause-answer g c =
    let case = case_view c.args.case.now in
    let found = c.in-Ok.found in
    IfOk-weaker c.found_answer.result (λ answer. answer ≡ made_answer c.args.number case found.plan found.gap found.tree) (IsMadeAnswer c.args.number (Ok case))
    (λ answer is. inl (made_of c.args.number case found.plan found.tree found.gap answer c.requires.book c.requires.terms c.in-Ok.ensures.outcome.0 c.in-Ok.ensures.outcome.1 is)) c.found_answer.ensures
