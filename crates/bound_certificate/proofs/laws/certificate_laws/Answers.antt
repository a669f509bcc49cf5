use Rattle.bound_certificate.proofs.ToldFacts.{lines-tell}
use Rattle.bound_certificate.proofs.VersionFacts.{texts-are-of-one, texts-have-no-fault}
use Rattle.bound_certificate.proofs.laws.certificate_laws.Goals as goal

pub returns : goal.returns
returns c = record { exact = texts-have-no-fault; one = texts-are-of-one; told = lines-tell }
