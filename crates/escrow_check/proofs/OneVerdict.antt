-- Each text has one verdict.
use Rattle.std.proofs.Common.{◌≡◌, ◌∙◌, List, ℕ, ℤ, length, ◌≤◌, refl, sym, ap, subst, Bool, true, false, Option, Some, None}
use Rattle.std.specs.Prelude.{option_map}
use Rattle.std.specs.Bool.{then_some}
use Rattle.std.specs.Option.{option_or}
use Rattle.bound_certificate.proofs.ToldFacts.{lines-tell}
use Rattle.bound_certificate.proofs.VersionFacts.{texts-have-no-fault}
use Rattle.bound_certificate.specs.Versions.{IsCertificateText, certificate_fault}
use Rattle.bound_certificate.specs.declared.certificate.Buy.{Buy}
use Rattle.bound_certificate.specs.declared.certificate.Certificate.{Certificate}
use Rattle.bound_certificate.specs.declared.fault.CertFault.{CertFault}
use Rattle.bound_certificate.specs.declared.limits.TheConstants.{MOST_DATES}
use Rattle.case_file.specs.Case.{CaseContents}
use Rattle.escrow_check.specs.Acceptance.{IsVerdict, judged, portfolio_reason, reason_by, reason_of, tree_reason, verdict_by, yes_of}
use Rattle.escrow_check.specs.Heard.{cert_in}
use Rattle.escrow_check.specs.Verdicts.{BytesHaveVerdict, VerdictsAreOne, verdict_by_fault, verdict_of}
use Rattle.escrow_check.specs.declared.verdict.Reason.{Reason}
use Rattle.escrow_check.specs.declared.verdict.Reason.TheVariants as reason
use Rattle.escrow_check.specs.declared.verdict.Verdict.{Verdict}
use Rattle.escrow_check.specs.declared.verdict.Verdict.TheVariants as verdict

-- what the certificate of a text is told
OfCertificate : CaseContents → List ℕ → Verdict → Type 0
OfCertificate case bytes told = (cert : Certificate) × IsCertificateText (length case.book.needs) cert bytes × (told ≡ judged case cert)

of-certificate : (case : CaseContents) (bytes : List ℕ) (told : Verdict) → length case.book.needs ≤ MOST_DATES → OfCertificate case bytes told → told ≡ verdict_of case bytes
unfolding OfCertificate verdict_of
of-certificate case bytes told few of =
    let good : certificate_fault (length case.book.needs) bytes ≡ None = (texts-have-no-fault (length case.book.needs) bytes few).1 (of.0, of.1) in
    of.2 ∙ ap (judged case) (sym (lines-tell (length case.book.needs) bytes of.0 few of.1)) ∙ ap (verdict_by_fault case bytes) (sym good)

-- a reason, of grammar or else of a certificate
by-reason : (case : CaseContents) (bytes : List ℕ) (why : Reason) → length case.book.needs ≤ MOST_DATES → IsVerdict case bytes (verdict.No why) → verdict.No why ≡ verdict_of case bytes
unfolding OfCertificate verdict_of
by-reason case bytes (reason.Grammar fault) few is = ap (verdict_by_fault case bytes) (sym is)
by-reason case bytes (reason.NotPermitted line) few is = of-certificate case bytes (verdict.No (reason.NotPermitted line)) few is
by-reason case bytes (reason.ShortOn day) few is = of-certificate case bytes (verdict.No (reason.ShortOn day)) few is
by-reason case bytes reason.YieldAbove few is = of-certificate case bytes (verdict.No reason.YieldAbove) few is
by-reason case bytes (reason.BadSplit node) few is = of-certificate case bytes (verdict.No (reason.BadSplit node)) few is
by-reason case bytes (reason.WeakLeaf node) few is = of-certificate case bytes (verdict.No (reason.WeakLeaf node)) few is
by-reason case bytes reason.GapAbove few is = of-certificate case bytes (verdict.No reason.GapAbove) few is

pub one_verdict : VerdictsAreOne
unfolding OfCertificate
one_verdict case bytes (verdict.Yes portfolio) few is = of-certificate case bytes (verdict.Yes portfolio) few is
one_verdict case bytes verdict.YesNone few is = of-certificate case bytes verdict.YesNone few is
one_verdict case bytes (verdict.No why) few is = by-reason case bytes why few is

-- ---- the verdict by computing is one
-- a reason that isn't of grammar, or none
IsOfCertificate : Option Reason → Type 0
IsOfCertificate (Some (reason.Grammar fault)) = ⊥
IsOfCertificate other = Unit {0}

or-of : (first second : Option Reason) → IsOfCertificate first → IsOfCertificate second → IsOfCertificate (option_or first second)
or-of None second one other = other
or-of (Some why) second one other = one

then-of : (test : Bool) (why : Reason) → IsOfCertificate (Some why) → IsOfCertificate (then_some test why)
unfolding IsOfCertificate
then-of true why one = one
then-of false why one = tt

missing-of : (found : Option Buy) → IsOfCertificate (option_map (λ buy. reason.NotPermitted buy.line) found)
unfolding IsOfCertificate
missing-of None = tt
missing-of (Some buy) = tt

short-of : (found : Option ℤ) → IsOfCertificate (option_map reason.ShortOn found)
unfolding IsOfCertificate
short-of None = tt
short-of (Some day) = tt

split-of : (found : Option ℕ) → IsOfCertificate (option_map reason.BadSplit found)
unfolding IsOfCertificate
split-of None = tt
split-of (Some node) = tt

leaf-of : (found : Option ℕ) → IsOfCertificate (option_map reason.WeakLeaf found)
unfolding IsOfCertificate
leaf-of None = tt
leaf-of (Some node) = tt

yield-of : IsOfCertificate (Some reason.YieldAbove)
unfolding IsOfCertificate
yield-of = tt

gap-of : IsOfCertificate (Some reason.GapAbove)
unfolding IsOfCertificate
gap-of = tt

reasons-of : (case : CaseContents) (cert : Certificate) → IsOfCertificate (reason_of case cert)
reasons-of case cert = by cert.buys
  where
    tree : IsOfCertificate (tree_reason case cert)
    tree = or-of _ _ (split-of _) (leaf-of _)

    by : (buys : Option (List Buy)) → IsOfCertificate (reason_by case cert buys)
    by None = tree
    by (Some buys) =
        or-of (portfolio_reason case buys) _ (or-of _ _ (missing-of _) (or-of _ _ (short-of _) (then-of _ reason.YieldAbove yield-of)))
        (or-of (tree_reason case cert) _ tree (then-of _ reason.GapAbove gap-of))

-- what is judged of a certificate is the verdict on its text
judged-is : (case : CaseContents) (bytes : List ℕ) (cert : Certificate) → IsCertificateText (length case.book.needs) cert bytes → (found : Option Reason) → IsOfCertificate found
    → verdict_by case cert found ≡ judged case cert → IsVerdict case bytes (verdict_by case cert found)
unfolding IsOfCertificate
judged-is case bytes cert text None of same = by cert.buys same
  where
    by : (buys : Option (List Buy)) → yes_of case buys cert.gap ≡ judged case cert → IsVerdict case bytes (yes_of case buys cert.gap)
    by None told = (cert, text, told)
    by (Some buys) told = (cert, text, told)
judged-is case bytes cert text (Some (reason.Grammar fault)) of same = absurd of
judged-is case bytes cert text (Some (reason.NotPermitted line)) of same = (cert, text, same)
judged-is case bytes cert text (Some (reason.ShortOn day)) of same = (cert, text, same)
judged-is case bytes cert text (Some reason.YieldAbove) of same = (cert, text, same)
judged-is case bytes cert text (Some (reason.BadSplit node)) of same = (cert, text, same)
judged-is case bytes cert text (Some (reason.WeakLeaf node)) of same = (cert, text, same)
judged-is case bytes cert text (Some reason.GapAbove) of same = (cert, text, same)

pub judged-by : (case : CaseContents) (cert : Certificate) → judged case cert ≡ verdict_by case cert (reason_of case cert)
unfolding judged
judged-by case cert = refl

pub bytes_have : BytesHaveVerdict
unfolding verdict_of
bytes_have case bytes few = by (certificate_fault (length case.book.needs) bytes) refl
  where
    by : (found : Option CertFault) → certificate_fault (length case.book.needs) bytes ≡ found → IsVerdict case bytes (verdict_by_fault case bytes found)
    by (Some fault) is = is
    by None is =
        let text = (texts-have-no-fault (length case.book.needs) bytes few).0 is in
        let same : judged case (cert_in case bytes) ≡ verdict_by case text.0 (reason_of case text.0) =
        ap (judged case) (lines-tell (length case.book.needs) bytes text.0 few text.1) ∙ judged-by case text.0 in
        subst (IsVerdict case bytes) (sym same) (judged-is case bytes text.0 text.1 (reason_of case text.0) (reasons-of case text.0) (sym (judged-by case text.0)))
