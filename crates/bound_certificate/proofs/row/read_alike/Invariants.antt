use Rattle.std.proofs.Common.{◌≤◌, ◌-◌, length}
use Rattle.bound_certificate.specs.Row.{ArePricesBehind, AreReadTo, row_range}
use Rattle.line_words.specs.Words.{parts_behind}
use Rattle.bound_certificate.specs.declared.limits.TheConstants.{MOST_NUMBERS}
use Rattle.bound_certificate.proofs.row.read_alike.Given as goal

abbrev pub invariant-loop-rest : goal.invariant-loop-rest
invariant-loop-rest l = record {
  prices : ArePricesBehind (row_range l.dates l.vectors l.fn.row) (length l.numbers.items);
  read : AreReadTo (row_range l.dates l.vectors l.fn.row) (parts_behind 32 l.words) l.numbers.items (parts_behind 32 l.rest);
  left : length (parts_behind 32 l.rest) ≤ length (parts_behind 32 l.begun);
}

abbrev pub decreases-loop-rest : goal.decreases-loop-rest
decreases-loop-rest l = MOST_NUMBERS - length l.numbers.items
