use Rattle.offer_book.proofs.OfferFacts.{IsSoldUpTo}
use Rattle.offer_book.proofs.offers.slgs_lines.Given as goal

abbrev pub invariant-loop-offer : goal.invariant-loop-offer
invariant-loop-offer l = IsSoldUpTo l.fn.days l.fn.rates.ranges l.terms l.fn.rates.offers l.offer-index l.lines.items
