use Rattle.std.proofs.Common.{◌∙◌, sym}
use Rattle.line_words.proofs.CutFacts.{cut_none, cut_some}
use Rattle.line_words.proofs.cut.cut_by.Goals as goal

pub returns-in-Some : goal.returns-in-Some
returns-in-Some c = λ mark is. cut_some mark c.args.bytes.now c.in-Some.place (sym is ∙ c.in-Some.is)

pub returns-in-None : goal.returns-in-None
returns-in-None c = λ mark is. cut_none mark c.args.bytes.now (sym is ∙ c.in-None.is)
