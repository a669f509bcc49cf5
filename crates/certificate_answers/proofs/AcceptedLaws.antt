-- What an answer of `Done` means, proved.
use Rattle.std.proofs.Common.{◌≡◌, ◌⊎◌, ℕ, ◌≤◌, Bool, true, false, nat_lt, ◌∙◌, Option, Some, None, Ok, List, Result, length, refl, sym, ap, subst, inl, inr, arith}
use Rattle.std.proofs.lemmas.Bool.Decides.{nat_tests}
use Rattle.escrow_desk.specs.declared.limits.TheConstants.{CERTIFICATE_LIMIT}
use Rattle.escrow_desk.specs.declared.refusal.FileKind.TheVariants as file
use Rattle.escrow_desk.specs.declared.refusal.RefusalKind.TheVariants as kind
use Rattle.row_fields.specs.RowForm.{refusal_of}
use Rattle.bound_certificate.specs.Versions.{IsCertificateText}
use Rattle.bound_certificate.specs.declared.certificate.Buy.{Buy}
use Rattle.bound_certificate.specs.declared.certificate.Certificate.{Certificate}
use Rattle.bound_certificate.specs.declared.limits.TheConstants.{MOST_DATES}
use Rattle.escrow_desk.specs.Rows.{rows_of}
use Rattle.escrow_desk.specs.declared.refusal.Refusal.{Refusal}
use Rattle.issue_schedule.specs.IssueForm.{issue_of}
use Rattle.issue_schedule.specs.declared.issue.Issue.{Issue}
use Rattle.escrow_units.specs.declared.security.Flow.{Flow}
use Rattle.escrow_units.specs.declared.security.Terms.{Terms}
use Rattle.held_escrow.specs.HeldCase.{held_case_of}
use Rattle.held_escrow.specs.HeldForm.{held_of}
use Rattle.held_escrow.proofs.CaseFacts.{cases-are_alike, cases-are_one}
use Rattle.rate_table.specs.RateForm.{rate_file_of}
use Rattle.roll_plan.specs.Steps.{stated_by}
use Rattle.offer_book.specs.Book.{AreWithoutInterest, IsBook}
use Rattle.offer_book.specs.Portfolio.{security_cost}
use Rattle.offer_book.specs.Rival.{IsRival}
use Rattle.case_file.specs.Case.{CaseContents}
use Rattle.case_file.specs.Limit.{RestsOn}
use Rattle.escrow_check.specs.Acceptance.{IsVerdict, judged, reason_of, verdict_by, yes_of}
use Rattle.escrow_check.specs.Verdicts.{verdict_of}
use Rattle.escrow_check.specs.declared.verdict.Portfolio.{Portfolio}
use Rattle.escrow_check.specs.declared.verdict.Verdict.{Verdict}
use Rattle.escrow_check.specs.declared.verdict.Verdict.TheVariants as verdict
use Rattle.escrow_check.proofs.TextFacts.{KeepsLimits, heard}
use Rattle.escrow_check.proofs.OneVerdict.{bytes_have, judged-by, one_verdict}
use Rattle.escrow_check.proofs.ReasonFacts.{yes_where_unopposed}
use Rattle.escrow_check.proofs.VerdictFacts.{none-told, yes-told, yes_is_right, yes_none_is_right}
use Rattle.certificate_answers.specs.InputFiles.{InputFiles}
use Rattle.certificate_answers.specs.Answer.{Answer, answer_for, answer_with, certificate_answer, files_answer, judged_case, judged_of, portfolio_text, refused, verdict_answer, yes_text}
use Rattle.certificate_answers.proofs.YieldFacts.{certified, printed_yield}
use Rattle.escrow_units.specs.declared.amount.Rate.{Rate}
use Rattle.rate_cap.specs.CaseAt.{case_at}
use Rattle.certificate_answers.proofs.CapFacts.{given_at}
use Rattle.certificate_answers.proofs.CaseLaws.{gives_book}
use Rattle.certificate_answers.proofs.SaidIssueLaws.{said-issue}
use Rattle.certificate_answers.proofs.SaidRateLaws.{said-rates}
use Rattle.certificate_answers.proofs.JudgedFacts.{beside_is, one-case}
use Rattle.certificate_answers.proofs.RollingFacts.{has_rolls}
use Rattle.certificate_answers.proofs.SavingsFacts.{savings_are}
use Rattle.certificate_answers.specs.AtCap.{AcceptedAt}
use Rattle.certificate_answers.specs.Accepted.{Accepted, HasNoReason, HasNoRival, HasPortfolio, IsAcceptedText, IsCertified, YesExactly, yield_without_interest}
use Rattle.certificate_answers.specs.Meaning.{MeansYes}
use Rattle.certificate_answers.specs.Holding.{AcceptedBeside, AcceptedHolding, GiveCaseHolding, HasNoHeldRival, HasPortfolioHolding, IsAcceptedTextBeside, IsAcceptedTextHolding}
use Rattle.certificate_answers.specs.Judged.{IsJudged}
use Rattle.certificate_answers.specs.Rolled.{HasPlan, Rolled}
use Rattle.certificate_answers.specs.Saved.{HasSavings, Saved}
use Rattle.certificate_answers.specs.SavingsText.{saved_text}
use Rattle.certificate_answers.specs.CaseOf.{GiveCase, GiveWorkedCase}
use Rattle.certificate_answers.specs.declared.inquiry.Inquiry.{Inquiry}
use Rattle.certificate_answers.specs.declared.inquiry.Inquiry.TheVariants as inquiry
use Rattle.certificate_answers.specs.declared.status.Status.TheVariants as status

pub few-dates : (case : CaseContents) → KeepsLimits case → length case.book.needs ≤ MOST_DATES
few-dates case keeps = let few = keeps.0.needs.few in omega (arith, few)

-- the answer to a certificate within its limit is that to the verdict on it
answer-within : (words : Portfolio → List ℕ) (case : CaseContents) (cert : List ℕ) → nat_lt CERTIFICATE_LIMIT (length cert) ≡ false → answer_with words case cert ≡ verdict_answer words (verdict_of case cert)
answer-within words case cert short = rw short refl

-- an answer is to a verdict on the bytes
pub record IsAnswered (words : Portfolio → List ℕ) (case : CaseContents) (cert : List ℕ) : Type 0 where
  pub told : Verdict
  pub is : answer_with words case cert ≡ verdict_answer words told
  pub on : IsVerdict case cert told

pub answered-by : (words : Portfolio → List ℕ) (case : CaseContents) (cert : List ℕ) → KeepsLimits case
    → (answer_with words case cert ≡ refused (refusal_of file.Cert 0 kind.TooLong)) ⊎ IsAnswered words case cert
answered-by words case cert keeps = by (nat_lt CERTIFICATE_LIMIT (length cert)) refl
  where
    by : (long : Bool) → nat_lt CERTIFICATE_LIMIT (length cert) ≡ long → (answer_with words case cert ≡ refused (refusal_of file.Cert 0 kind.TooLong)) ⊎ IsAnswered words case cert
    by true long = inl (rw long refl)
    by false short = inr (record {
      told = verdict_of case cert;
      is = answer-within words case cert short;
      on = bytes_have case cert (few-dates case keeps);
    })

-- what a portfolio of a yes is
record IsTakenPortfolio (case : CaseContents) (certificate : Certificate) (portfolio : Portfolio) : Type 0 where
  right : IsCertified case certificate portfolio
  without_interest : AreWithoutInterest case.book.lines → portfolio.answer ≡ yield_without_interest (security_cost case.book portfolio.plan)

-- a yes without one
record IsTakenNone (case : CaseContents) (certificate : Certificate) : Type 0 where
  none : certificate.buys ≡ None
  no_rival : (rival : List ℕ) → ¬ IsRival case.limit case.book rival

-- what a verdict of yes means of its certificate
abbrev IsTakenAs : CaseContents → Certificate → Verdict → Type 0
IsTakenAs case certificate (verdict.Yes portfolio) = IsTakenPortfolio case certificate portfolio
IsTakenAs case certificate verdict.YesNone = IsTakenNone case certificate
IsTakenAs case certificate (verdict.No why) = ⊥

-- the bytes are a text that is accepted, by a verdict
record IsTaken (case : CaseContents) (cert : List ℕ) (told : Verdict) : Type 0 where
  certificate : Certificate
  is_certificate : IsCertificateText (length case.book.needs) certificate cert
  none : reason_of case certificate ≡ None
  means : IsTakenAs case certificate told

taken-by : (words : Portfolio → List ℕ) (case : CaseContents) (cert : List ℕ) (told : Verdict) → KeepsLimits case → IsVerdict case cert told → (verdict_answer words told).status ≡ status.Done → IsTaken case cert told
taken-by words case cert (verdict.Yes portfolio) keeps (certificate, text, is) done =
    let right = yes_is_right case certificate portfolio (heard case cert certificate keeps text) (sym is) in
    record {
      certificate = certificate;
      is_certificate = text;
      none = (yes-told case certificate portfolio (sym is)).none;
      means = record {
        right = certified case certificate portfolio keeps.0 right;
        without_interest = λ interest. right.answer ∙ printed_yield case.book portfolio.plan keeps.0 interest right.right.permitted;
      };
    }
taken-by words case cert verdict.YesNone keeps (certificate, text, is) done =
    let told = none-told case certificate (sym is) in
    record {
      certificate = certificate;
      is_certificate = text;
      none = told.0;
      means = record { none = told.1; no_rival = yes_none_is_right case certificate (heard case cert certificate keeps text) (sym is) };
    }
taken-by words case cert (verdict.No why) keeps on done = absurd (cc)

-- an answer of `Done` is to such a verdict
record IsDone (words : Portfolio → List ℕ) (case : CaseContents) (cert : List ℕ) : Type 0 where
  told : Verdict
  is : answer_with words case cert ≡ verdict_answer words told
  taken : IsTaken case cert told

done-by : (words : Portfolio → List ℕ) (case : CaseContents) (cert : List ℕ) → KeepsLimits case → (answer_with words case cert).status ≡ status.Done → IsDone words case cert
done-by words case cert keeps done =
    elim (answered-by words case cert keeps) [
      | inl long ↦ absurd (refusing long)
      | inr found ↦ from found
    ]
  where
    refusing : answer_with words case cert ≡ refused (refusal_of file.Cert 0 kind.TooLong) → ⊥
    refusing long = let both : status.Refused ≡ status.Done = sym (ap (λ (a : Answer). a.status) long) ∙ done in cc

    from : IsAnswered words case cert → IsDone words case cert
    from found = record {
      told = found.told;
      is = found.is;
      taken = taken-by words case cert found.told keeps found.on (sym (ap (λ (a : Answer). a.status) found.is) ∙ done);
    }

-- a certificate that is answered with yes has no more bytes than its limit
fits : (case : CaseContents) (cert : List ℕ) → (certificate_answer case cert).status ≡ status.Done → length cert ≤ CERTIFICATE_LIMIT
fits case cert done = by (nat_lt CERTIFICATE_LIMIT (length cert)) refl
  where
    by : (long : Bool) → nat_lt CERTIFICATE_LIMIT (length cert) ≡ long → length cert ≤ CERTIFICATE_LIMIT
    by true long = absurd (let clash : status.Refused ≡ status.Done = rw long at done in cc)
    by false short = grind (arith, nat_tests)

-- what `check` says of it
accepted-as : (case : CaseContents) (certificate : Certificate) (told : Verdict) → IsTakenAs case certificate told
    → HasPortfolio case certificate (verdict_answer (yes_text case) told).text ⊎ HasNoRival case certificate (verdict_answer (yes_text case) told).text
accepted-as case certificate (verdict.Yes portfolio) means =
    inl (record { portfolio = portfolio; right = means.right; without_interest = means.without_interest; said = refl })
accepted-as case certificate verdict.YesNone means = inr (record { none = means.none; no_rival = means.no_rival; said = refl })
accepted-as case certificate (verdict.No why) means = absurd means

pub accepted : (files : InputFiles) (cert : List ℕ) (case : CaseContents) → GiveCase files case → KeepsLimits case → (certificate_answer case cert).status ≡ status.Done
    → Accepted files cert (certificate_answer case cert).text
accepted files cert case gives keeps done =
    let yes = done-by (yes_text case) case cert keeps done in
    let certificate = yes.taken.certificate in
    record {
      case = case;
      gives = gives;
      certificate = certificate;
      is_certificate = yes.taken.is_certificate;
      right =
          subst (λ (a : Answer). HasPortfolio case certificate a.text ⊎ HasNoRival case certificate a.text) (sym yes.is)
          (accepted-as case certificate yes.told yes.taken.means);
    }

-- what `savings` says of it: that of its portfolio by the issue of the files
saved-as : (files : InputFiles) (issue : Issue) (case : CaseContents) (certificate : Certificate) (told : Verdict) → issue_of (rows_of files.issue) ≡ Ok issue → RestsOn issue case.limit
    → IsTakenAs case certificate told
    → HasSavings issue case certificate (verdict_answer (portfolio_text inquiry.Savings files case) told).text ⊎ HasNoRival case certificate (verdict_answer (portfolio_text inquiry.Savings files case) told).text
saved-as files issue case certificate (verdict.Yes portfolio) read rests means = inl (record {
  yes = yes_text case portfolio;
  accepted = record { portfolio = portfolio; right = means.right; without_interest = means.without_interest; said = refl };
  saves = savings_are issue case portfolio.plan rests;
  said = ap (λ (found : Result Issue Refusal). saved_text found case portfolio.plan) read;
})
saved-as files issue case certificate verdict.YesNone read rests means = inr (record { none = means.none; no_rival = means.no_rival; said = refl })
saved-as files issue case certificate (verdict.No why) read rests means = absurd means

-- what `roll` says of it: the rolls of its portfolio, by the denominations of the files
rolled-as : (files : InputFiles) (terms : Option Terms) (case : CaseContents) (certificate : Certificate) (told : Verdict) → stated_by (rate_file_of (rows_of files.rates)) ≡ Ok terms → IsBook case.book
    → IsTakenAs case certificate told
    → HasPlan terms case certificate (verdict_answer (portfolio_text inquiry.Roll files case) told).text ⊎ HasNoRival case certificate (verdict_answer (portfolio_text inquiry.Roll files case) told).text
rolled-as files terms case certificate (verdict.Yes portfolio) read limits means = inl (record {
  yes = yes_text case portfolio;
  accepted = record { portfolio = portfolio; right = means.right; without_interest = means.without_interest; said = refl };
  planned = has_rolls files terms case portfolio.plan read limits means.right.permitted means.right.covered;
})
rolled-as files terms case certificate verdict.YesNone read limits means = inr (record { none = means.none; no_rival = means.no_rival; said = refl })
rolled-as files terms case certificate (verdict.No why) read limits means = absurd means

saved : (files : InputFiles) (cert : List ℕ) (case : CaseContents) → GiveWorkedCase files case → KeepsLimits case → (answer_for inquiry.Savings files case cert).status ≡ status.Done
    → Saved files cert (answer_for inquiry.Savings files case cert).text
saved files cert case (gives, rests) keeps done =
    let yes = done-by (portfolio_text inquiry.Savings files case) case cert keeps done in
    let certificate = yes.taken.certificate in
    let issue = gives.read.issue in
    record {
      case = case;
      gives = gives;
      certificate = certificate;
      is_certificate = yes.taken.is_certificate;
      right =
          subst (λ (a : Answer). HasSavings issue case certificate a.text ⊎ HasNoRival case certificate a.text) (sym yes.is)
          (saved-as files issue case certificate yes.told (said-issue (rows_of files.issue) issue gives.says.issue) rests yes.taken.means);
    }

rolled : (files : InputFiles) (cert : List ℕ) (case : CaseContents) → GiveCase files case → KeepsLimits case → (answer_for inquiry.Roll files case cert).status ≡ status.Done
    → Rolled files cert (answer_for inquiry.Roll files case cert).text
rolled files cert case gives keeps done =
    let yes = done-by (portfolio_text inquiry.Roll files case) case cert keeps done in
    let certificate = yes.taken.certificate in
    let terms = gives.read.rates.terms in
    record {
      case = case;
      gives = gives;
      certificate = certificate;
      is_certificate = yes.taken.is_certificate;
      right =
          subst (λ (a : Answer). HasPlan terms case certificate a.text ⊎ HasNoRival case certificate a.text) (sym yes.is)
          (rolled-as files terms case certificate yes.told (ap stated_by (said-rates (rows_of files.rates) gives.read.rates gives.says.rates)) keeps.0 yes.taken.means);
    }

-- and `check-cap`, of the case at the cap
accepted_at : (cap : Rate) (files : InputFiles) (cert : List ℕ) (case : CaseContents) → GiveCase files case → KeepsLimits (case_at cap case)
    → (certificate_answer (case_at cap case) cert).status ≡ status.Done → AcceptedAt cap files cert (certificate_answer (case_at cap case) cert).text
accepted_at cap files cert case gives keeps done =
    let at = case_at cap case in
    let yes = done-by (yes_text at) at cert keeps done in
    let certificate = yes.taken.certificate in
    record {
      case = at;
      gives = given_at cap files case gives;
      certificate = certificate;
      is_certificate = yes.taken.is_certificate;
      right =
          subst (λ (a : Answer). HasPortfolio at certificate a.text ⊎ HasNoRival at certificate a.text) (sym yes.is)
          (accepted-as at certificate yes.told yes.taken.means);
    }

-- and `check-held`, of the case beside the holdings
holding-as : (case : CaseContents) (held : List Flow) (certificate : Certificate) (told : Verdict) → IsBook case.book → IsTakenAs (held_case_of case held) certificate told
    → HasPortfolioHolding case held (held_case_of case held) certificate (verdict_answer (yes_text (held_case_of case held)) told).text
    ⊎ HasNoHeldRival case held (held_case_of case held) certificate (verdict_answer (yes_text (held_case_of case held)) told).text
holding-as case held certificate (verdict.Yes portfolio) limits means =
    let alike = cases-are_alike held case limits in
    inl (record {
      accepted = record { portfolio = portfolio; right = means.right; without_interest = means.without_interest; said = refl };
      meets = (alike.meet portfolio.plan).0 means.right.covered;
      least = λ rival own. means.right.cheapest rival ((alike.rivals rival).1 own);
    })
holding-as case held certificate verdict.YesNone limits means =
    let alike = cases-are_alike held case limits in
    inr (record {
      none = record { none = means.none; no_rival = means.no_rival; said = refl };
      no_rival = λ rival own. means.no_rival rival ((alike.rivals rival).1 own);
    })
holding-as case held certificate (verdict.No why) limits means = absurd means

pub gives_holding : (files : InputFiles) (case : CaseContents) (bytes : List ℕ) (held : List Flow) → GiveCase files case → held_of case.book.days.settle (rows_of bytes) ≡ Ok held → GiveCaseHolding files bytes (held_case_of case held)
gives_holding files case bytes held gives says = record { case = case; gives = gives; held = held; says = says; is = (cases-are_one held case (held_case_of case held) (gives_book files case gives)).1 refl }

accepted_holding : (files : InputFiles) (cert : List ℕ) (case : CaseContents) (bytes : List ℕ) (held : List Flow) → GiveCase files case → held_of case.book.days.settle (rows_of bytes) ≡ Ok held
    → KeepsLimits (held_case_of case held) → (certificate_answer (held_case_of case held) cert).status ≡ status.Done → AcceptedHolding bytes files cert (certificate_answer (held_case_of case held) cert).text
unfolding gives_holding
accepted_holding files cert case bytes held gives says keeps done =
    let kept = held_case_of case held in
    let yes = done-by (yes_text kept) kept cert keeps done in
    let certificate = yes.taken.certificate in
    record {
      kept = kept;
      gives = gives_holding files case bytes held gives says;
      certificate = certificate;
      is_certificate = yes.taken.is_certificate;
      right =
          subst (λ (a : Answer). HasPortfolioHolding case held kept certificate a.text ⊎ HasNoHeldRival case held kept certificate a.text) (sym yes.is)
          (holding-as case held certificate yes.told (gives_book files case gives) yes.taken.means);
    }

-- whether holdings are given or not
beside-accepted : (files : InputFiles) (cert : List ℕ) (case judged : CaseContents) (bytes : Option (List ℕ)) → GiveCase files case → judged_case inquiry.Check bytes case ≡ Ok judged → KeepsLimits judged
    → (certificate_answer judged cert).status ≡ status.Done → AcceptedBeside bytes files cert (certificate_answer judged cert).text
beside-accepted files cert case judged None gives is keeps done = accepted files cert judged (subst (GiveCase files) (one-case case judged is) gives) keeps done
beside-accepted files cert case judged (Some bytes) gives is keeps done =
    let own = beside_is case bytes judged is in
    subst (λ (c : CaseContents). KeepsLimits c → (certificate_answer c cert).status ≡ status.Done → AcceptedHolding bytes files cert (certificate_answer c cert).text) own.is
    (accepted_holding files cert case bytes own.held gives own.says) keeps done

-- by what is asked
pub means_yes : (asked : Inquiry) (files : InputFiles) (cert : List ℕ) (judged : CaseContents) → IsJudged asked files judged → (answer_for asked files judged cert).status ≡ status.Done
    → MeansYes asked files cert (answer_for asked files judged cert).text
means_yes inquiry.Check files cert judged own done = beside-accepted files cert own.case judged files.held own.given.0 own.is (own.book, own.terms) done
means_yes inquiry.Savings files cert judged own done = saved files cert judged (subst (GiveWorkedCase files) (one-case own.case judged own.is) own.given) (own.book, own.terms) done
means_yes inquiry.Roll files cert judged own done = rolled files cert judged (subst (GiveCase files) (one-case own.case judged own.is) own.given.0) (own.book, own.terms) done
means_yes (inquiry.AtCap cap) files cert judged own done =
    subst (λ (c : CaseContents). KeepsLimits c → (certificate_answer c cert).status ≡ status.Done → AcceptedAt cap files cert (certificate_answer c cert).text) (one-case (case_at cap own.case) judged own.is)
    (accepted_at cap files cert own.case own.given.0) (own.book, own.terms) done

-- where no reason stands, `yes` is said

under-test : (a b : ℕ) → a ≤ b → nat_lt b a ≡ false
under-test a b h = grind (arith, nat_tests)

-- a yes is the verdict on the text of the certificate
yes-is : (case : CaseContents) (cert : List ℕ) (certificate : Certificate) → IsCertificateText (length case.book.needs) certificate cert → reason_of case certificate ≡ None
    → (buys : Option (List Buy)) → certificate.buys ≡ buys → IsVerdict case cert (yes_of case buys certificate.gap)
yes-is case cert certificate text none None named = (certificate, text, by-none)
  where
    by-none : verdict.YesNone ≡ judged case certificate
    by-none = sym (judged-by case certificate ∙ ap (verdict_by case certificate) none ∙ ap (λ buys. yes_of case buys certificate.gap) named)
yes-is case cert certificate text none (Some buys) named = (certificate, text, by-some)
  where
    by-some : yes_of case (Some buys) certificate.gap ≡ judged case certificate
    by-some = sym (judged-by case certificate ∙ ap (verdict_by case certificate) none ∙ ap (λ found. yes_of case found certificate.gap) named)

yes-done : (words : Portfolio → List ℕ) (case : CaseContents) (buys : Option (List Buy)) (gap : ℕ) → (verdict_answer words (yes_of case buys gap)).status ≡ status.Done
yes-done words case None gap = refl
yes-done words case (Some buys) gap = refl

done-where_none : (words : Portfolio → List ℕ) (case : CaseContents) (cert : List ℕ) → KeepsLimits case → length cert ≤ CERTIFICATE_LIMIT → HasNoReason case cert → (answer_with words case cert).status ≡ status.Done
done-where_none words case cert keeps within found =
    let short = under-test (length cert) CERTIFICATE_LIMIT within in
    let none = (yes_where_unopposed case found.certificate (heard case cert found.certificate keeps found.is_certificate)).1 found.unopposed in
    let is = one_verdict case cert (yes_of case found.certificate.buys found.certificate.gap) (few-dates case keeps) (yes-is case cert found.certificate found.is_certificate none found.certificate.buys refl) in
    ap (λ (a : Answer). a.status) (answer-within words case cert short) ∙ ap (λ told. (verdict_answer words told).status) (sym is) ∙ yes-done words case found.certificate.buys found.certificate.gap

none-where_done : (words : Portfolio → List ℕ) (case : CaseContents) (cert : List ℕ) → KeepsLimits case → (answer_with words case cert).status ≡ status.Done → HasNoReason case cert
none-where_done words case cert keeps done =
    let yes = (done-by words case cert keeps done).taken in
    record {
      certificate = yes.certificate;
      is_certificate = yes.is_certificate;
      unopposed = (yes_where_unopposed case yes.certificate (heard case cert yes.certificate keeps yes.is_certificate)).0 yes.none;
    }

-- so is a certificate accepted that is written
pub accepted_text : (files : InputFiles) (cert : List ℕ) (case : CaseContents) → GiveWorkedCase files case → KeepsLimits case → (certificate_answer case cert).status ≡ status.Done → IsAcceptedText files cert
unfolding accepted
accepted_text files cert case (gives, rests) keeps done = record {
  text = (certificate_answer case cert).text;
  accepted = accepted files cert case gives keeps done;
  worked_out = rests;
  fits = fits case cert done;
  unopposed = none-where_done (yes_text case) case cert keeps done;
}

-- the same beside holdings
accepted_text_holding : (files : InputFiles) (cert : List ℕ) (case : CaseContents) (bytes : List ℕ) (held : List Flow) → GiveWorkedCase files case → held_of case.book.days.settle (rows_of bytes) ≡ Ok held
    → KeepsLimits (held_case_of case held) → (certificate_answer (held_case_of case held) cert).status ≡ status.Done → IsAcceptedTextHolding bytes files cert
unfolding accepted_holding gives_holding
accepted_text_holding files cert case bytes held (gives, rests) says keeps done =
    let kept = held_case_of case held in
    record {
      text = (certificate_answer kept cert).text;
      accepted = accepted_holding files cert case bytes held gives says keeps done;
      worked_out = rests;
      fits = fits kept cert done;
      unopposed = none-where_done (yes_text kept) kept cert keeps done;
    }

text-beside : (files : InputFiles) (cert : List ℕ) (case judged : CaseContents) (bytes : Option (List ℕ)) → GiveWorkedCase files case → judged_case inquiry.Check bytes case ≡ Ok judged → KeepsLimits judged
    → (certificate_answer judged cert).status ≡ status.Done → IsAcceptedTextBeside bytes files cert
text-beside files cert case judged None gives is keeps done = accepted_text files cert judged (subst (GiveWorkedCase files) (one-case case judged is) gives) keeps done
text-beside files cert case judged (Some bytes) gives is keeps done =
    let own = beside_is case bytes judged is in
    subst (λ (c : CaseContents). KeepsLimits c → (certificate_answer c cert).status ≡ status.Done → IsAcceptedTextHolding bytes files cert) own.is
    (accepted_text_holding files cert case bytes own.held gives own.says) keeps done

-- of the case that is searched
pub searched_text : (files : InputFiles) (cert : List ℕ) (judged : CaseContents) → IsJudged inquiry.Check files judged → (certificate_answer judged cert).status ≡ status.Done → IsAcceptedTextBeside files.held files cert
searched_text files cert judged own done = text-beside files cert own.case judged files.held own.given own.is (own.book, own.terms) done

-- `yes` exactly where no reason stands, of files that give the case by which it is judged
pub yes_exactly : (asked : Inquiry) (files : InputFiles) (cert : List ℕ) → ((case : CaseContents) → judged_of asked files ≡ Ok case → KeepsLimits case) → YesExactly (files_answer asked files cert).status asked files cert
yes_exactly asked files cert keep case is_case within =
    let keeps = keep case is_case in
    let words = portfolio_text asked files case in
    rw is_case ((λ done. none-where_done words case cert keeps done), (λ found. done-where_none words case cert keeps within found))
