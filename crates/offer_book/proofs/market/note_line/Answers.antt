use Rattle.offer_book.proofs.MarketFacts.{note-by}
use Rattle.offer_book.proofs.market.note_line.Goals as goal

pub ending_in_time-requires-clause-maturity : goal.ending_in_time-requires-clause-maturity
ending_in_time-requires-clause-maturity c = note-by c.args.note.now c.requires.note
