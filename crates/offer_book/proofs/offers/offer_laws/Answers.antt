use Rattle.offer_book.proofs.OfferFacts.{lines-count, lines-keep_rules, refusals-name_first_fault}
use Rattle.offer_book.proofs.offers.offer_laws.Goals as goal

pub returns-clause-lines : goal.returns-clause-lines
returns-clause-lines c = lines-keep_rules

pub returns-clause-refusals : goal.returns-clause-refusals
returns-clause-refusals c = refusals-name_first_fault

pub returns-clause-count : goal.returns-clause-count
returns-clause-count c = lines-count
