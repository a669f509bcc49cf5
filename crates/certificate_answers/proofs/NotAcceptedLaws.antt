-- What `no` means, proved.
use Rattle.std.proofs.Common.{◌≡◌, ◌∙◌, ℕ, List, Option, Some, None, Ok, length, refl, sym, ap, subst, inl, inr}
use Rattle.escrow_desk.specs.declared.refusal.FileKind.TheVariants as file
use Rattle.escrow_desk.specs.declared.refusal.RefusalKind.TheVariants as kind
use Rattle.row_fields.specs.RowForm.{refusal_of}
use Rattle.bound_certificate.proofs.VersionFacts.{texts-have-no-fault}
use Rattle.case_file.specs.Case.{CaseContents}
use Rattle.escrow_check.specs.Acceptance.{IsVerdict}
use Rattle.escrow_check.specs.TextMeaning.{StandsAgainst}
use Rattle.escrow_check.specs.declared.verdict.Portfolio.{Portfolio}
use Rattle.escrow_check.specs.declared.verdict.Reason.{Reason}
use Rattle.escrow_check.specs.declared.verdict.Reason.TheVariants as reason
use Rattle.escrow_check.specs.declared.verdict.Verdict.{Verdict}
use Rattle.escrow_check.specs.declared.verdict.Verdict.TheVariants as verdict
use Rattle.escrow_check.proofs.TextFacts.{KeepsLimits, is_meant}
use Rattle.certificate_answers.specs.InputFiles.{InputFiles}
use Rattle.certificate_answers.specs.Answer.{Answer, answer_for, answer_with, certificate_answer, judged_case, portfolio_text, reason_text, refused, verdict_answer, yes_text}
use Rattle.certificate_answers.specs.CaseOf.{GiveCase}
use Rattle.rate_cap.specs.CaseAt.{case_at}
use Rattle.escrow_desk.specs.Rows.{rows_of}
use Rattle.escrow_units.specs.declared.amount.Rate.{Rate}
use Rattle.escrow_units.specs.declared.security.Flow.{Flow}
use Rattle.held_escrow.specs.HeldCase.{held_case_of}
use Rattle.held_escrow.specs.HeldForm.{held_of}
use Rattle.certificate_answers.specs.NotAccepted.{Denies, NotAccepted}
use Rattle.certificate_answers.specs.AtCap.{NotAcceptedAt}
use Rattle.certificate_answers.specs.Holding.{NotAcceptedBeside, NotAcceptedHolding}
use Rattle.certificate_answers.specs.Judged.{IsJudged}
use Rattle.certificate_answers.specs.Meaning.{MeansNo}
use Rattle.certificate_answers.specs.declared.inquiry.Inquiry.{Inquiry}
use Rattle.certificate_answers.specs.declared.inquiry.Inquiry.TheVariants as inquiry
use Rattle.certificate_answers.specs.declared.status.Status.TheVariants as status
use Rattle.certificate_answers.proofs.AcceptedLaws.{IsAnswered, answered-by, few-dates, gives_holding}
use Rattle.certificate_answers.proofs.CapFacts.{given_at}
use Rattle.certificate_answers.proofs.JudgedFacts.{beside_is, one-case}

-- a reason that stands by the first fault of a text stands by what it means
denies : (case : CaseContents) (cert : List ℕ) (why : Reason) → KeepsLimits case → StandsAgainst case cert why → Denies case cert why
denies case cert (reason.Grammar fault) keeps is = λ certificate text.
    let none = (texts-have-no-fault (length case.book.needs) cert (few-dates case keeps)).1 (certificate, text) in
    let clash = sym none ∙ is in cc
denies case cert why keeps is = is

-- an answer of `no` has a reason that stands
record IsDenied (case : CaseContents) (cert : List ℕ) (text : List ℕ) : Type 0 where
  why : Reason
  stands : Denies case cert why
  said : text ≡ reason_text why

denied-by : (words : Portfolio → List ℕ) (case : CaseContents) (cert : List ℕ) (told : Verdict) → KeepsLimits case → IsVerdict case cert told → (verdict_answer words told).status ≡ status.No
    → IsDenied case cert (verdict_answer words told).text
denied-by words case cert (verdict.Yes portfolio) keeps on denied = absurd (cc)
denied-by words case cert verdict.YesNone keeps on denied = absurd (cc)
denied-by words case cert (verdict.No why) keeps on denied = record { why = why; stands = denies case cert why keeps (is_meant case cert (verdict.No why) keeps on); said = refl }

is_denied : (words : Portfolio → List ℕ) (case : CaseContents) (cert : List ℕ) → KeepsLimits case → (answer_with words case cert).status ≡ status.No → IsDenied case cert (answer_with words case cert).text
is_denied words case cert keeps denied =
    elim (answered-by words case cert keeps) [
      | inl long ↦ absurd (refusing long)
      | inr found ↦ from found
    ]
  where
    refusing : answer_with words case cert ≡ refused (refusal_of file.Cert 0 kind.TooLong) → ⊥
    refusing long = let both : status.Refused ≡ status.No = sym (ap (λ (a : Answer). a.status) long) ∙ denied in cc

    from : IsAnswered words case cert → IsDenied case cert (answer_with words case cert).text
    from found =
        subst (λ (a : Answer). IsDenied case cert a.text) (sym found.is)
        (denied-by words case cert found.told keeps found.on (sym (ap (λ (a : Answer). a.status) found.is) ∙ denied))

not_accepted : (words : Portfolio → List ℕ) (files : InputFiles) (cert : List ℕ) (case : CaseContents) → GiveCase files case → KeepsLimits case → (answer_with words case cert).status ≡ status.No
    → NotAccepted files cert (answer_with words case cert).text
not_accepted words files cert case gives keeps denied =
    let no = is_denied words case cert keeps denied in
    record { case = case; gives = gives; why = no.why; stands = no.stands; said = no.said }

-- at a cap
not_accepted_at : (cap : Rate) (files : InputFiles) (cert : List ℕ) (case : CaseContents) → GiveCase files case → KeepsLimits (case_at cap case) → (certificate_answer (case_at cap case) cert).status ≡ status.No
    → NotAcceptedAt cap files cert (certificate_answer (case_at cap case) cert).text
not_accepted_at cap files cert case gives keeps denied =
    let at = case_at cap case in
    let no = is_denied (yes_text at) at cert keeps denied in
    record { case = at; gives = given_at cap files case gives; why = no.why; stands = no.stands; said = no.said }

-- beside holdings
not_accepted_holding : (files : InputFiles) (cert : List ℕ) (case : CaseContents) (bytes : List ℕ) (held : List Flow) → GiveCase files case → held_of case.book.days.settle (rows_of bytes) ≡ Ok held
    → KeepsLimits (held_case_of case held) → (certificate_answer (held_case_of case held) cert).status ≡ status.No → NotAcceptedHolding bytes files cert (certificate_answer (held_case_of case held) cert).text
not_accepted_holding files cert case bytes held gives says keeps denied =
    let kept = held_case_of case held in
    let no = is_denied (yes_text kept) kept cert keeps denied in
    record { kept = kept; gives = gives_holding files case bytes held gives says; why = no.why; stands = no.stands; said = no.said }

beside-denied : (files : InputFiles) (cert : List ℕ) (case judged : CaseContents) (bytes : Option (List ℕ)) → GiveCase files case → judged_case inquiry.Check bytes case ≡ Ok judged → KeepsLimits judged
    → (certificate_answer judged cert).status ≡ status.No → NotAcceptedBeside bytes files cert (certificate_answer judged cert).text
beside-denied files cert case judged None gives is keeps denied = not_accepted (yes_text judged) files cert judged (subst (GiveCase files) (one-case case judged is) gives) keeps denied
beside-denied files cert case judged (Some bytes) gives is keeps denied =
    let own = beside_is case bytes judged is in
    subst (λ (c : CaseContents). KeepsLimits c → (certificate_answer c cert).status ≡ status.No → NotAcceptedHolding bytes files cert (certificate_answer c cert).text) own.is
    (not_accepted_holding files cert case bytes own.held gives own.says) keeps denied

-- by what is asked, of the case by which the certificate is judged
pub means_no : (asked : Inquiry) (files : InputFiles) (cert : List ℕ) (judged : CaseContents) → IsJudged asked files judged → (answer_for asked files judged cert).status ≡ status.No
    → MeansNo asked files cert (answer_for asked files judged cert).text
means_no inquiry.Check files cert judged own denied = beside-denied files cert own.case judged files.held own.given.0 own.is (own.book, own.terms) denied
means_no inquiry.Savings files cert judged own denied = not_accepted (portfolio_text inquiry.Savings files judged) files cert judged (subst (GiveCase files) (one-case own.case judged own.is) own.given.0) (own.book, own.terms) denied
means_no inquiry.Roll files cert judged own denied = not_accepted (portfolio_text inquiry.Roll files judged) files cert judged (subst (GiveCase files) (one-case own.case judged own.is) own.given.0) (own.book, own.terms) denied
means_no (inquiry.AtCap cap) files cert judged own denied =
    subst (λ (c : CaseContents). KeepsLimits c → (certificate_answer c cert).status ≡ status.No → NotAcceptedAt cap files cert (certificate_answer c cert).text) (one-case (case_at cap own.case) judged own.is)
    (not_accepted_at cap files cert own.case own.given.0) (own.book, own.terms) denied
