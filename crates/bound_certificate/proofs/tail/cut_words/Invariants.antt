use Rattle.std.proofs.Common.{length}
use Rattle.bound_certificate.proofs.TailLoops.{IsSearched}
use Rattle.line_words.specs.Words.{parts_behind}
use Rattle.bound_certificate.proofs.tail.cut_words.Given as goal

abbrev pub invariant-loop-rest : goal.invariant-loop-rest
invariant-loop-rest l = IsSearched l.line l.rest

abbrev pub decreases-loop-rest : goal.decreases-loop-rest
decreases-loop-rest l = length (parts_behind 32 l.rest)
