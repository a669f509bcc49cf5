use Rattle.std.proofs.Common.{arith}
use Rattle.line_words.proofs.NumberFacts.{first-digit, first-zero}
use Rattle.line_words.proofs.digits.few_digits.Goals as goal

pub more_digits-requires-clause-number : goal.more_digits-requires-clause-number
more_digits-requires-clause-number c = first-digit c.args.piece.now c.in-Some.begun c.in-Some.ensures

pub returns-in-None : goal.returns-in-None
returns-in-None c = first-zero c.args.piece.now (grind (arith, c.is_empty.ensures, c.if-not-is_empty.true)) c.if-piece-eq48.true
