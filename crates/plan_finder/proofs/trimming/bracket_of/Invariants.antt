use Rattle.std.proofs.Common.{◌≤◌, get_or}
use Rattle.offer_book.specs.Portfolio.{line_payments}
use Rattle.offer_book.specs.declared.line.Line.{Line}
use Rattle.backward_build.specs.Spare.{Cover}
use Rattle.plan_finder.proofs.trimming.bracket_of.Given as goal

abbrev pub invariant-loop-doublings : goal.invariant-loop-doublings
invariant-loop-doublings l = record {
  least : l.least ≤ l.high;
  most : l.high ≤ l.units;
  enough : (d : Line) → Cover l.ledger.book.needs l.duty.due (line_payments l.ledger.book.days (get_or l.ledger.book.lines l.duty.line d) l.high);
}
