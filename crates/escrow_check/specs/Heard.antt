-- What a checker has heard of a certificate's text.
use Rattle.std.specs.Prelude.{◌≡◌, ℕ, Bool, true, false, List, length, None}
use Rattle.bound_certificate.specs.TextReading.{HasRead, stage_due}
use Rattle.bound_certificate.specs.Told.{certificate_told, told_in}
use Rattle.bound_certificate.specs.declared.certificate.Certificate.{Certificate}
use Rattle.bound_certificate.specs.declared.due.Due.{Due}
use Rattle.bound_certificate.specs.declared.due.Due.TheVariants as due
use Rattle.case_file.specs.Case.{CaseContents}
use Rattle.escrow_check.specs.Knows.{Knows}
use Rattle.escrow_check.specs.declared.hearing.Hearing.{Hearing}

-- the line of the gap, or one before it, is due
abbrev pub is_before_gap : Due → Bool
is_before_gap due.Title = true
is_before_gap due.Portfolio = true
is_before_gap (due.Buy left least) = true
is_before_gap (due.Gap most) = true
is_before_gap other = false

-- the line of the gap ended
pub record EndsGap (old new : Hearing) : Type 0 where
  pub before : is_before_gap (stage_due old.reader.stage) ≡ true
  pub behind : stage_due new.reader.stage ≡ due.Count

-- the certificate that the whole lines of bytes say, up to the first that is at fault
abbrev pub cert_in : CaseContents → List ℕ → Certificate
cert_in case bytes = certificate_told (told_in (length case.book.needs) bytes)

-- these bytes came, and unless a line is at fault what their lines say is known
pub record HasHeard (case : CaseContents) (hearing : Hearing) (bytes : List ℕ) : Type 0 where
  pub read : HasRead (length case.book.needs) bytes hearing.reader
  pub lines : hearing.reader.fault ≡ None → Knows case (cert_in case bytes) (stage_due hearing.reader.stage) hearing.trial
