-- What `make` comes to, proved.
use Rattle.std.proofs.Common.{◌≡◌, ◌∙◌, ℕ, List, length, Ok, Err, Result, subst, sym, ap, inl, inr}
use Rattle.std.specs.Prelude.{IfOk, IsTrue}
use Rattle.escrow_desk.specs.declared.refusal.Refusal.{Refusal}
use Rattle.certificate_packing.proofs.FormFacts.{HasPackedForm, packed-form}
use Rattle.branch_search.proofs.FoundFacts.{found_are_accepted, none_found_are_accepted}
use Rattle.branch_search.specs.Purchases.{certificate_of, certificate_of_none}
use Rattle.branch_search.specs.Search.{IsFound, IsFoundBy, IsNoneFound}
use Rattle.case_file.specs.Case.{CaseContents, HasTerms}
use Rattle.proof_tree.specs.declared.tree.TreeNode.{TreeNode}
use Rattle.offer_book.specs.Book.{IsBook}
use Rattle.certificate_answers.specs.Answer.{Answer, case_of}
use Rattle.escrow_top.specs.Covered.{IsCovered}
use Rattle.certificate_answers.specs.InputFiles.{InputFiles}
use Rattle.certificate_answers.specs.CaseOf.{GiveWorkedCase}
use Rattle.escrow_top.specs.Making.{HasAcceptedText, IsAnswerToNumber, IsMadeAnswer, IsMadeNone, IsMadeOf, made_answer, made_files, none_answer}
use Rattle.certificate_answers.specs.Stopping.{is_structured}
use Rattle.escrow_top.specs.MakeWords.{Making}
use Rattle.escrow_top.specs.Means.{IsFoundStatus, MakeMeans}
use Rattle.escrow_top.specs.Settling.{SaysReach, SettlesCovered, SettlesPlain}
use Rattle.escrow_top.specs.Structure.{IsEnd}
use Rattle.certificate_answers.specs.declared.status.Status.{Status}
use Rattle.certificate_answers.specs.declared.status.Status.TheVariants as status
use Rattle.certificate_answers.proofs.AcceptedLaws.{accepted_text}
use Rattle.escrow_top.proofs.StructureLaws.{none_accepted, text_accepted, unreached}

-- what was found is what is answered
pub made_of : (number : ℕ) (case : CaseContents) (plan : List ℕ) (nodes : List TreeNode) (gap : ℕ) (answer : Answer) → IsBook case.book → HasTerms case → IsFound case plan nodes gap → IsFoundBy case plan nodes
    → answer ≡ made_answer number case plan gap nodes → IsMadeOf number case answer
made_of number case plan nodes gap answer book terms found found_by is = record {
  plan = plan;
  nodes = nodes;
  gap = gap;
  found = found;
  found_by = found_by;
  accepted = record {
    text = form.text;
    is_text = inr form.is;
    accepted = λ bytes is_one. text_accepted case plan nodes gap bytes found_are_accepted book terms found is_one;
  };
  is_answer = is;
}
  where
    form : HasPackedForm (length case.book.needs) (certificate_of plan nodes gap)
    form = packed-form (length case.book.needs) (certificate_of plan nodes gap) found.packable

pub made_none : (case : CaseContents) (nodes : List TreeNode) (answer : Answer) → IsBook case.book → HasTerms case → IsNoneFound case nodes → answer ≡ none_answer nodes → IsMadeNone case answer
made_none case nodes answer book terms none is = record {
  nodes = nodes;
  none = none;
  accepted = record {
    text = form.text;
    is_text = inr form.is;
    accepted = λ bytes is_one. none_accepted case nodes bytes none_found_are_accepted book terms none is_one;
  };
  is_answer = is;
}
  where
    form : HasPackedForm (length case.book.needs) (certificate_of_none nodes)
    form = packed-form (length case.book.needs) (certificate_of_none nodes) none.packable

-- a certificate of it is accepted for the files
end_undone : (case : CaseContents) (answer : Answer) → IsEnd case answer → (reached : Status) → answer.status ≡ reached → (status.Infeasible ≡ reached → ⊥) → (status.BudgetSpent ≡ reached → ⊥) → ⊥
end_undone case answer (inl own) reached is short spent = short (sym (ap (λ (a : Answer). a.status) own.is_answer) ∙ is)
end_undone case answer (inr own) reached is short spent = spent (sym (ap (λ (a : Answer). a.status) own.is_answer) ∙ is)

has_accepted : (files : InputFiles) (number : ℕ) (case : CaseContents) (answer : Answer) → GiveWorkedCase files case → IsBook case.book → HasTerms case
    → IsMadeAnswer number (Ok case) answer → (reached : Status) → answer.status ≡ reached → (status.Infeasible ≡ reached → ⊥) → (status.BudgetSpent ≡ reached → ⊥) → HasAcceptedText files
has_accepted files number case answer gives book terms (inl own) reached ends short spent = record {
  cert = own.accepted.text;
  is = accepted_text files own.accepted.text case gives (book, terms) (ap (λ (a : Answer). a.status) (own.accepted.accepted own.accepted.text own.accepted.is_text));
}
has_accepted files number case answer gives book terms (inr (inl own)) reached ends short spent = record {
  cert = own.accepted.text;
  is = accepted_text files own.accepted.text case gives (book, terms) (ap (λ (a : Answer). a.status) (own.accepted.accepted own.accepted.text own.accepted.is_text));
}
has_accepted files number case answer gives book terms (inr (inr own)) reached ends short spent = absurd (end_undone case answer own reached ends short spent)

pub made_accepted : (files : InputFiles) (number : ℕ) (case : CaseContents) (answer : Answer) → GiveWorkedCase files case → IsBook case.book → HasTerms case
    → IsMadeAnswer number (Ok case) answer → answer.status ≡ status.Done → HasAcceptedText files
made_accepted files number case answer gives book terms own done = has_accepted files number case answer gives book terms own status.Done done (λ clash. cc) (λ clash. cc)

pub made_accepted_none : (files : InputFiles) (number : ℕ) (case : CaseContents) (answer : Answer) → GiveWorkedCase files case → IsBook case.book → HasTerms case
    → IsMadeAnswer number (Ok case) answer → answer.status ≡ status.NoneWithinYield → HasAcceptedText files
made_accepted_none files number case answer gives book terms own none = has_accepted files number case answer gives book terms own status.NoneWithinYield none (λ clash. cc) (λ clash. cc)

-- a case that its budget covers is settled
covers_case : (number : ℕ) (gives : Result CaseContents Refusal) (answer : Answer) → IsMadeAnswer number gives answer → IfOk gives (SettlesCovered answer.status)
covers_case number (Err refusal) answer is = tt
covers_case number (Ok case) answer (inl own) = λ covered. inl (ap (λ (a : Answer). a.status) own.is_answer)
covers_case number (Ok case) answer (inr (inl own)) = λ covered. inr (ap (λ (a : Answer). a.status) own.is_answer)
covers_case number (Ok case) answer (inr (inr end)) = λ covered. absurd (by end covered)
  where
    by : IsEnd case answer → IsCovered case → ⊥
    by (inl own) covered = unreached case own.day own.short.all_short covered.in_reach
    by (inr own) covered = own.uncovered covered

made_covered : (number : ℕ) (answer : Answer) (reached : Status) → IsAnswerToNumber number answer → reached ≡ answer.status → IfOk (case_of (made_files number)) (SettlesCovered reached)
made_covered number answer reached is ends =
    subst (λ (s : Status). IfOk (case_of (made_files number)) (SettlesCovered s)) (sym ends) (covers_case number (case_of (made_files number)) answer is)

-- and that the needs can't be met is said where it is so
reach_case : (number : ℕ) (gives : Result CaseContents Refusal) (answer : Answer) → IsMadeAnswer number gives answer → IfOk gives (SaysReach answer.status)
reach_case number (Err refusal) answer is = tt
reach_case number (Ok case) answer (inl own) =
    let done : answer.status ≡ status.Done = ap (λ (a : Answer). a.status) own.is_answer in
    ((λ none. absurd (let clash : status.Done ≡ status.Infeasible = sym done ∙ none in cc)), (λ lost. absurd (lost own.found_by.in_reach)))
reach_case number (Ok case) answer (inr (inl own)) =
    let within : answer.status ≡ status.NoneWithinYield = ap (λ (a : Answer). a.status) own.is_answer in
    ((λ none. absurd (let clash : status.NoneWithinYield ≡ status.Infeasible = sym within ∙ none in cc)), (λ lost. absurd (lost own.none.in_reach)))
reach_case number (Ok case) answer (inr (inr end)) = by end
  where
    by : IsEnd case answer → SaysReach answer.status case
    by (inl own) = ((λ none reach. unreached case own.day own.short.all_short reach), (λ lost. ap (λ (a : Answer). a.status) own.is_answer))
    by (inr own) =
        let spent : answer.status ≡ status.BudgetSpent = ap (λ (a : Answer). a.status) own.is_answer in
        ((λ none. absurd (let clash : status.BudgetSpent ≡ status.Infeasible = sym spent ∙ none in cc)), (λ lost. absurd (lost own.is_spent.in_reach)))

made_reach : (number : ℕ) (answer : Answer) (reached : Status) → IsAnswerToNumber number answer → reached ≡ answer.status → IfOk (case_of (made_files number)) (SaysReach reached)
made_reach number answer reached is ends =
    subst (λ (s : Status). IfOk (case_of (made_files number)) (SaysReach s)) (sym ends) (reach_case number (case_of (made_files number)) answer is)

-- ---- what the status means
made_either : (files : InputFiles) (answer : Answer) (reached : Status) → (answer.status ≡ status.Done → HasAcceptedText files) → (answer.status ≡ status.NoneWithinYield → HasAcceptedText files)
    → reached ≡ answer.status → IsFoundStatus reached → HasAcceptedText files
made_either files answer reached accepted accepted_none ends (inl done) = accepted (sym ends ∙ done)
made_either files answer reached accepted accepted_none ends (inr none) = accepted_none (sym ends ∙ none)

pub make_means : (making : Making) (answer : Answer) (reached : Status) → IsTrue (is_structured answer.status) → (answer.status ≡ status.Done → HasAcceptedText (made_files making.number))
    → (answer.status ≡ status.NoneWithinYield → HasAcceptedText (made_files making.number)) → IfOk (case_of (made_files making.number)) (SettlesPlain answer.status)
    → IsAnswerToNumber making.number answer → reached ≡ answer.status → MakeMeans making reached
make_means making answer reached structured accepted accepted_none plain is ends = record {
  structured = subst (λ (s : Status). IsTrue (is_structured s)) (sym ends) structured;
  made = made_either (made_files making.number) answer reached accepted accepted_none ends;
  plain = subst (λ (s : Status). IfOk (case_of (made_files making.number)) (SettlesPlain s)) (sym ends) plain;
  covered = made_covered making.number answer reached is ends;
  reach = made_reach making.number answer reached is ends;
}
