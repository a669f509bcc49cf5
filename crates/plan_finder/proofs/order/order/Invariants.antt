use Rattle.std.proofs.Common.{◌<◌, All, length}
use Rattle.plan_finder.proofs.order.order.Given as goal

abbrev pub invariant-loop-line : goal.invariant-loop-line
invariant-loop-line l = All (λ ranked. ranked.line < length l.book.lines) l.order.items
