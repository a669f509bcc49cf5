use Rattle.backward_build.proofs.OfferFacts.{ends_by_payments}
use Rattle.backward_build.proofs.laws.offer_laws.Goals as goal

pub returns : goal.returns
returns c = ends_by_payments
