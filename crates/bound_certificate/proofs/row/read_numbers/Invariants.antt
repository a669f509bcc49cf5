use Rattle.std.proofs.Common.{length}
use Rattle.bound_certificate.specs.Row.{AreReadTo, row_range}
use Rattle.line_words.specs.Words.{parts_behind}
use Rattle.bound_certificate.proofs.row.read_numbers.Given as goal

abbrev pub invariant-loop-rest : goal.invariant-loop-rest
invariant-loop-rest l = AreReadTo (row_range l.dates l.vectors l.row) (parts_behind 32 l.words) l.numbers.items (parts_behind 32 l.rest)

abbrev pub decreases-loop-rest : goal.decreases-loop-rest
decreases-loop-rest l = length (parts_behind 32 l.rest)
