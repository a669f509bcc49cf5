-- The verdict on bytes, computed.
use Rattle.std.specs.Prelude.{◌≡◌, ℕ, ◌≤◌, List, length, Option, Some, None}
use Rattle.bound_certificate.specs.Told.{certificate_told, told_in}
use Rattle.bound_certificate.specs.Versions.{certificate_fault}
use Rattle.bound_certificate.specs.declared.fault.CertFault.{CertFault}
use Rattle.bound_certificate.specs.declared.limits.TheConstants.{MOST_DATES}
use Rattle.case_file.specs.Case.{CaseContents}
use Rattle.escrow_check.specs.Acceptance.{IsVerdict, judged}
use Rattle.escrow_check.specs.declared.verdict.Reason.TheVariants as reason
use Rattle.escrow_check.specs.declared.verdict.Verdict.{Verdict}
use Rattle.escrow_check.specs.declared.verdict.Verdict.TheVariants as verdict

-- by the first fault of a text, or else by the certificate that its lines say
abbrev pub verdict_by_fault : CaseContents → List ℕ → Option CertFault → Verdict
verdict_by_fault case bytes (Some fault) = verdict.No (reason.Grammar fault)
verdict_by_fault case bytes None = judged case (certificate_told (told_in (length case.book.needs) bytes))

-- the verdict on bytes: the first fault of the text, or else the verdict on the certificate that it says
unfoldable pub verdict_of : CaseContents → List ℕ → Verdict
verdict_of case bytes = verdict_by_fault case bytes (certificate_fault (length case.book.needs) bytes)

-- it is the verdict on the bytes, and there is no other
abbrev pub BytesHaveVerdict : Type 0
BytesHaveVerdict = (case : CaseContents) (bytes : List ℕ) → length case.book.needs ≤ MOST_DATES → IsVerdict case bytes (verdict_of case bytes)

abbrev pub VerdictsAreOne : Type 0
VerdictsAreOne =
    (case : CaseContents) (bytes : List ℕ) (told : Verdict) → length case.book.needs ≤ MOST_DATES → IsVerdict case bytes told → told ≡ verdict_of case bytes
