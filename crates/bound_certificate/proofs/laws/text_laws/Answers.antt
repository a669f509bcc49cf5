use Rattle.bound_certificate.proofs.ToldFacts.{texts-say}
use Rattle.bound_certificate.proofs.WrittenFacts.{text-found, text-good, text-one}
use Rattle.bound_certificate.proofs.laws.text_laws.Goals as goal

pub returns-clause-exact : goal.returns-clause-exact
returns-clause-exact c dates bytes = (λ none. text-found dates bytes none, λ some. text-good dates some.0 bytes some.1)

pub returns-clause-one : goal.returns-clause-one
returns-clause-one c = text-one

pub returns-clause-said : goal.returns-clause-said
returns-clause-said c = texts-say
