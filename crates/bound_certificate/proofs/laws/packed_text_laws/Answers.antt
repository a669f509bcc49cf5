use Rattle.bound_certificate.proofs.VersionFacts.{packed-text-found, packed-text-good, packed-text-one}
use Rattle.bound_certificate.proofs.laws.packed_text_laws.Goals as goal

pub returns-clause-exact : goal.returns-clause-exact
returns-clause-exact c dates bytes short = (λ none. packed-text-found dates bytes none, λ some. packed-text-good dates some.0 bytes short some.1)

pub returns-clause-one : goal.returns-clause-one
returns-clause-one c = packed-text-one
