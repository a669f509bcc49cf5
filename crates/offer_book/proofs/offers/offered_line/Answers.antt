use Rattle.offer_book.proofs.OfferFacts.{slgs-by}
use Rattle.offer_book.proofs.offers.offered_line.Goals as goal

pub ending_in_time-requires-clause-maturity : goal.ending_in_time-requires-clause-maturity
ending_in_time-requires-clause-maturity c =
    slgs-by c.args.days.now.settle c.in-Ok.slgs c.requires.settlement c.in-Ok.ensures.answer.settle c.in-Ok.ensures.terms
