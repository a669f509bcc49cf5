use Rattle.std.proofs.Common.{sym, subst}
use Rattle.bound_certificate.specs.declared.text_reading.TextReading.{TextReading}
use Rattle.bound_certificate.specs.TextReading.{EndsText, HasRead}
use Rattle.bound_certificate.proofs.ReadFacts.{ends-early, ends-stopped, ends-text, no-fault}
use Rattle.bound_certificate.proofs.reader.CertReader.finish.Goals as goal

pub returns-in-Some : goal.returns-in-Some
returns-in-Some c = λ dates bytes read.
    let P : TextReading → Type 0 = λ r. HasRead dates bytes r in
    ends-stopped dates bytes c.self.inside.reading c.in-Some.fault c.in-Some.is (subst P (sym c.self.view_is) read)

pub returns-then-is_over : goal.returns-then-is_over
returns-then-is_over c = λ dates bytes read.
    let P : TextReading → Type 0 = λ r. HasRead dates bytes r in
    let Q : TextReading → Type 0 = λ r. EndsText dates bytes r in
    subst Q c.self.view_is
    (ends-text dates bytes c.self.inside.reading (no-fault c.self.inside.reading.fault c.in_default.not-Some) (sym c.if-is_over.ensures) (subst P (sym c.self.view_is) read))

pub returns : goal.returns
returns c = λ dates bytes read.
    let P : TextReading → Type 0 = λ r. HasRead dates bytes r in
    ends-early dates bytes c.self.inside.reading (no-fault c.self.inside.reading.fault c.in_default.not-Some) (sym c.if-is_over.ensures) (subst P (sym c.self.view_is) read)
