-- What a verdict on the bytes of a certificate means, proved.
use Rattle.std.proofs.Common.{◌≡◌, ℕ, List, length, sym}
use Rattle.bound_certificate.specs.Versions.{IsCertificateText}
use Rattle.bound_certificate.specs.declared.certificate.Certificate.{Certificate}
use Rattle.bound_certificate.proofs.PackableFacts.{text-packable}
use Rattle.case_file.specs.Case.{CaseContents, HasTerms}
use Rattle.offer_book.specs.Book.{IsBook}
use Rattle.escrow_check.specs.Acceptance.{IsVerdict, judged}
use Rattle.escrow_check.specs.Meaning.{IsHeard}
use Rattle.escrow_check.specs.TextMeaning.{IsMeant, Opposes}
use Rattle.escrow_check.specs.declared.verdict.Reason.{Reason}
use Rattle.escrow_check.specs.declared.verdict.Reason.TheVariants as reason
use Rattle.escrow_check.specs.declared.verdict.Verdict.{Verdict}
use Rattle.escrow_check.specs.declared.verdict.Verdict.TheVariants as verdict
use Rattle.escrow_check.proofs.ReasonFacts.{no_names_reason}
use Rattle.escrow_check.proofs.VerdictFacts.{none-told, yes_is_right, yes_none_is_right}

-- a case that keeps its limits
abbrev pub KeepsLimits : CaseContents → Type 0
KeepsLimits case = IsBook case.book × HasTerms case

-- a certificate of a text may be judged for it
pub heard : (case : CaseContents) (bytes : List ℕ) (certificate : Certificate) → KeepsLimits case → IsCertificateText (length case.book.needs) certificate bytes → IsHeard case certificate
heard case bytes certificate keeps text = record { book = keeps.0; terms = keeps.1; written = text-packable (length case.book.needs) certificate bytes text }

-- a reason of the verdict on a text stands against its certificate
opposes : (case : CaseContents) (bytes : List ℕ) (why : Reason) → KeepsLimits case → (certificate : Certificate) × IsCertificateText (length case.book.needs) certificate bytes × (verdict.No why ≡ judged case certificate) → Opposes case bytes why
opposes case bytes why keeps (certificate, text, is) = record {
  certificate = certificate;
  is_certificate = text;
  stands = no_names_reason case certificate why (heard case bytes certificate keeps text) (sym is);
}

pub is_meant : (case : CaseContents) (bytes : List ℕ) (told : Verdict) → KeepsLimits case → IsVerdict case bytes told → IsMeant case bytes told
is_meant case bytes (verdict.Yes portfolio) keeps (certificate, text, is) = record {
  certificate = certificate;
  is_certificate = text;
  right = yes_is_right case certificate portfolio (heard case bytes certificate keeps text) (sym is);
}
is_meant case bytes verdict.YesNone keeps (certificate, text, is) = record {
  certificate = certificate;
  is_certificate = text;
  none = (none-told case certificate (sym is)).1;
  no_rival = yes_none_is_right case certificate (heard case bytes certificate keeps text) (sym is);
}
is_meant case bytes (verdict.No (reason.Grammar fault)) keeps on = on
is_meant case bytes (verdict.No (reason.NotPermitted line)) keeps on = opposes case bytes (reason.NotPermitted line) keeps on
is_meant case bytes (verdict.No (reason.ShortOn day)) keeps on = opposes case bytes (reason.ShortOn day) keeps on
is_meant case bytes (verdict.No reason.YieldAbove) keeps on = opposes case bytes reason.YieldAbove keeps on
is_meant case bytes (verdict.No (reason.BadSplit node)) keeps on = opposes case bytes (reason.BadSplit node) keeps on
is_meant case bytes (verdict.No (reason.WeakLeaf node)) keeps on = opposes case bytes (reason.WeakLeaf node) keeps on
is_meant case bytes (verdict.No reason.GapAbove) keeps on = opposes case bytes reason.GapAbove keeps on
