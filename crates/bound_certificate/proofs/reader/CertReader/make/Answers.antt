use Rattle.bound_certificate.proofs.ReadFacts.{read-start}
use Rattle.bound_certificate.proofs.reader.CertReader.make.Goals as goal

pub returns-clause-read : goal.returns-clause-read
returns-clause-read c = read-start c.args.dates c.in_ok-make.field-0 c.in_ok-make-2.field-0 _ c.requires c.in_ok-make-3.ensures c.in_ok-make-2.ensures c.in_ok-make.ensures
