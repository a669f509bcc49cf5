use Rattle.line_words.proofs.NumberFacts.{IsSoFar}
use Rattle.line_words.proofs.digits.slow_number.Given as goal

abbrev pub invariant-loop-byte : goal.invariant-loop-byte
invariant-loop-byte l = IsSoFar l.word l.byte-index l.number
