use Rattle.offer_book.proofs.MarketFacts.{IsSoldUpTo}
use Rattle.offer_book.proofs.market.note_lines.Given as goal

abbrev pub invariant-loop-place : goal.invariant-loop-place
invariant-loop-place l = IsSoldUpTo l.fn.days l.terms l.fn.file.notes l.place l.lines.items
