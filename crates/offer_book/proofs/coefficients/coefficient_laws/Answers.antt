use Rattle.offer_book.proofs.CoefficientFacts.{coefficients-enclose}
use Rattle.offer_book.proofs.coefficients.coefficient_laws.Goals as goal

pub returns : goal.returns
returns c = coefficients-enclose
