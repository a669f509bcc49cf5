use Rattle.std.proofs.Common.{◌≡◌, drop, max}
use Rattle.offer_book.specs.Sums.{greatest_step}
use Rattle.offer_book.proofs.sums.greatest_step.Given as goal

abbrev pub invariant-loop-line : goal.invariant-loop-line
invariant-loop-line l = max l.step (greatest_step (drop l.line-index l.lines)) ≡ greatest_step l.lines
