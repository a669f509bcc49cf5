use Rattle.std.proofs.Common.{◌==◌, Option, ℕ, subst}
use Rattle.memchr.specs.Find.{IsFirstByte}
use Rattle.bound_certificate.proofs.TailLoops.{no-letter-tail}
use Rattle.bound_certificate.proofs.tail.cut_tail.Goals as goal

pub returns-in-None : goal.returns-in-None
returns-in-None c =
    let P : Option ℕ → Type 0 = λ o. IsFirstByte (λ byte. byte == 116) c.args.line.now o in no-letter-tail c.args.line.now (subst P c.in-None.is c.memchr.ensures)
