-- The case by which a certificate is judged, proved.
use Rattle.std.proofs.Common.{◌≡◌, ℕ, List, Ok, Err, Result, refl, subst}
use Rattle.escrow_desk.specs.Rows.{rows_of}
use Rattle.escrow_desk.specs.declared.refusal.Refusal.{Refusal}
use Rattle.escrow_units.specs.declared.security.Flow.{Flow}
use Rattle.case_file.specs.Case.{CaseContents, IsKept}
use Rattle.held_escrow.specs.HeldCase.{held_case_of}
use Rattle.held_escrow.specs.HeldForm.{held_of}
use Rattle.escrow_check.proofs.TextFacts.{KeepsLimits}
use Rattle.certificate_answers.specs.Answer.{held_case_by, judged_case, judged_of}
use Rattle.certificate_answers.specs.InputFiles.{InputFiles}
use Rattle.certificate_answers.specs.Judged.{IsJudged}
use Rattle.certificate_answers.specs.Reading.{IsKeptFor}
use Rattle.certificate_answers.specs.declared.inquiry.Inquiry.{Inquiry}
use Rattle.certificate_answers.specs.declared.inquiry.Inquiry.TheVariants as inquiry
use Rattle.certificate_answers.proofs.CaseLaws.{gives_is}

abbrev pub given : CaseContents → Result CaseContents Refusal
given case = Ok case

pub one-case : (a b : CaseContents) → given a ≡ given b → a ≡ b
one-case a b is = cc

-- it keeps its limits
pub judged-keeps : (asked : Inquiry) (files : InputFiles) (judged : CaseContents) → IsJudged asked files judged → KeepsLimits judged
judged-keeps asked files judged own = (own.book, own.terms)

-- and is what is worked out of the files
pub judged_is : (asked : Inquiry) (files : InputFiles) (judged : CaseContents) → IsJudged asked files judged → judged_of asked files ≡ Ok judged
judged_is asked files judged own = rw (gives_is files own.case own.given) own.is

-- savings and rolls can be said of it, where they are asked for
pub kept_for : (asked : Inquiry) (files : InputFiles) (case judged : CaseContents) → IsKept (rows_of files.issue) (rows_of files.rates) (rows_of files.prices) case → judged_case asked files.held case ≡ Ok judged
    → IsKeptFor asked files judged
kept_for inquiry.Check files case judged kept is = tt
kept_for inquiry.Savings files case judged kept is = subst (λ (c : CaseContents). IsKept (rows_of files.issue) (rows_of files.rates) (rows_of files.prices) c) (one-case case judged is) kept
kept_for inquiry.Roll files case judged kept is = subst (λ (c : CaseContents). IsKept (rows_of files.issue) (rows_of files.rates) (rows_of files.prices) c) (one-case case judged is) kept
kept_for (inquiry.AtCap cap) files case judged kept is = tt

-- the case beside holdings comes of the holdings that their file says
pub record IsBeside (case : CaseContents) (bytes : List ℕ) (judged : CaseContents) : Type 0 where
  pub held : List Flow
  pub says : held_of case.book.days.settle (rows_of bytes) ≡ Ok held
  pub is : held_case_of case held ≡ judged

pub beside_is : (case : CaseContents) (bytes : List ℕ) (judged : CaseContents) → held_case_by case (held_of case.book.days.settle (rows_of bytes)) ≡ Ok judged → IsBeside case bytes judged
beside_is case bytes judged is = by (held_of case.book.days.settle (rows_of bytes)) refl is
  where
    by : (found : Result (List Flow) Refusal) → held_of case.book.days.settle (rows_of bytes) ≡ found → held_case_by case found ≡ Ok judged → IsBeside case bytes judged
    by (Ok held) says own = record { held = held; says = says; is = one-case (held_case_of case held) judged own }
    by (Err refusal) says own = absurd (let clash : Err refusal ≡ Ok judged = own in cc)
