use Rattle.std.proofs.Common.{sym, subst}
use Rattle.bound_certificate.specs.declared.due.Due.TheVariants as due
use Rattle.bound_certificate.specs.declared.text_reading.Stage.{Stage}
use Rattle.bound_certificate.specs.declared.version.Version.TheVariants as version
use Rattle.bound_certificate.specs.Moves.{Stops}
use Rattle.bound_certificate.proofs.LongFacts.{long-version}
use Rattle.bound_certificate.proofs.MoveFacts.{first-stops, line-stops}
use Rattle.bound_certificate.proofs.line_step.long_step.Goals as goal

pub returns-in-First : goal.returns-in-First
returns-in-First c = λ vectors line long.
    let P : Stage → Type 0 = λ s. Stops c.args.dates s vectors line c.long_fault.result in
    subst P (sym c.in-First.is)
    (first-stops version.One c.args.dates vectors line c.long_fault.result (long-version c.args.head.now line c.args.seen long)
    (line-stops version.One c.args.dates due.Title vectors line c.long_fault.result (c.long_fault.ensures vectors line long)))
