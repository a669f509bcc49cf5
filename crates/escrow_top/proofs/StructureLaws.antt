-- What `structure` puts out, proved.
use Rattle.std.proofs.Common.{◌≡◌, ◌∙◌, ◌⊎◌, ℕ, ℤ, ◌≤◌, List, length, true, Some, None, Ok, Err, refl, subst, sym, ap, inl, inr, arith}
use Rattle.std.specs.Prelude.{IsSomeAnd, IsTrue, Option, Result}
use Rattle.std.proofs.lemmas.Bool.{le-ltb}
use Rattle.escrow_desk.specs.Content.{Content, Told}
use Rattle.escrow_desk.proofs.FilesFacts.{get_inserted}
use Rattle.escrow_desk.specs.declared.limits.TheConstants.{CERTIFICATE_LIMIT}
use Rattle.bound_certificate.specs.Versions.{IsCertificateText}
use Rattle.branch_search.specs.Accepted.{FoundAreAccepted, NoneFoundAreAccepted, portfolio_with}
use Rattle.branch_search.specs.Purchases.{certificate_of, certificate_of_none}
use Rattle.branch_search.specs.Search.{EndsOf, IsFound, IsNoneFound, IsSpent}
use Rattle.branch_search.specs.declared.found.SearchEnd.TheVariants.{Short}
use Rattle.branch_search.specs.declared.found.Spent.{Spent}
use Rattle.cash_table.specs.Reach.{AreAllShort, IsInReach, plan_of_most}
use Rattle.cash_table.proofs.DayFacts.{first_short_is}
use Rattle.halving_tree.specs.Halving.{PartsAreFew, PartsAreWithin}
use Rattle.case_file.specs.Case.{CaseContents, HasTerms}
use Rattle.proof_tree.specs.declared.tree.TreeNode.{TreeNode}
use Rattle.escrow_check.proofs.OneVerdict.{one_verdict}
use Rattle.escrow_check.specs.Verdicts.{verdict_of}
use Rattle.escrow_check.specs.declared.verdict.Verdict.TheVariants as verdict
use Rattle.offer_book.specs.Book.{IsBook}
use Rattle.escrow_desk.specs.declared.refusal.Refusal.{Refusal}
use Rattle.branch_search.specs.Plain.{IsPlainWithin}
use Rattle.certificate_answers.specs.Answer.{Answer, certificate_answer, searched_of}
use Rattle.certificate_answers.specs.Holding.{IsAcceptedTextBeside}
use Rattle.certificate_answers.specs.InputFiles.{FileNames, InputFiles, inputs_of}
use Rattle.escrow_top.specs.Covered.{CoversPortfolios, CoversTree, IsCovered}
use Rattle.escrow_top.specs.Effects.{IsDone, saying}
use Rattle.escrow_top.specs.Means.{IsFoundStatus, StructureMeans}
use Rattle.escrow_top.specs.Settling.{OfSearched, SaysReach, SettlesCovered, SettlesPlain}
use Rattle.certificate_answers.specs.Stopping.{is_reached, is_structured, is_unfound}
use Rattle.escrow_top.specs.Structure.{FindsPlain, FindsPlainFor, IsAcceptedDraft, IsAcceptedFor, IsDraft, IsDraftFor, IsDraftOf, IsEnd, IsFoundDraft, IsSearchOutcome, IsShortFrom, IsStructureOutcome, IsStructuredDraft, WroteAccepted, accepted_none, accepted_with, budget_spent, draft_outcome, infeasible, telling_for}
use Rattle.certificate_answers.specs.Judged.{IsJudged}
use Rattle.certificate_answers.proofs.AcceptedLaws.{searched_text}
use Rattle.certificate_answers.proofs.InputFacts.{read-all}
use Rattle.certificate_answers.specs.CaseOf.{AreWithin}
use Rattle.certificate_answers.specs.Reading.{AreRead}
use Rattle.bound_certificate.proofs.SizeFacts.{certificate_fits}
use Rattle.escrow_top.specs.declared.draft.Draft.{Draft}
use Rattle.escrow_top.specs.declared.draft.Draft.TheVariants as draft
use Rattle.escrow_top.specs.declared.draft.Telling.{Telling}
use Rattle.certificate_answers.specs.declared.inquiry.Inquiry.TheVariants as inquiry
use Rattle.certificate_answers.specs.declared.status.Status.{Status}
use Rattle.certificate_answers.specs.declared.status.Status.TheVariants as status

-- a draft was put out
abbrev pub PutsOut : Told → List ℕ → Draft → Status → Told → Type 0
PutsOut told name d reached new = IsDone told (draft_outcome name d) reached new

pub unfound_reached : (s : Status) → IsTrue (is_unfound s) → IsTrue (is_reached s)
unfound_reached status.Refused is = refl
unfound_reached status.Infeasible is = refl
unfound_reached status.BudgetSpent is = refl
unfound_reached s is = absurd (cc)

pub unfound_structured : (s : Status) → IsTrue (is_unfound s) → IsTrue (is_structured s)
unfound_structured status.Refused is = refl
unfound_structured status.Infeasible is = refl
unfound_structured status.BudgetSpent is = refl
unfound_structured s is = absurd (cc)

unfound_undone : (s : Status) → IsTrue (is_unfound s) → s ≡ status.Done → ⊥
unfound_undone s is done = let none : is_unfound status.Done ≡ true = subst (λ t. is_unfound t ≡ true) done is in absurd (cc)

-- `check` accepts the text of the certificate of what was found
portfolio_accepted : (case : CaseContents) (plan : List ℕ) (nodes : List TreeNode) (gap : ℕ) (cert : List ℕ) → FoundAreAccepted → IsBook case.book → HasTerms case → IsFound case plan nodes gap
    → IsCertificateText (length case.book.needs) (certificate_of plan nodes gap) cert → verdict.Yes (portfolio_with case plan gap) ≡ verdict_of case cert
portfolio_accepted case plan nodes gap cert law book terms found is =
    one_verdict case cert (verdict.Yes (portfolio_with case plan gap)) (omega (arith, book.needs.few))
    (certificate_of plan nodes gap, is, sym (law case plan nodes gap book terms found))

pub text_accepted : (case : CaseContents) (plan : List ℕ) (nodes : List TreeNode) (gap : ℕ) (cert : List ℕ) → FoundAreAccepted → IsBook case.book → HasTerms case → IsFound case plan nodes gap
    → IsCertificateText (length case.book.needs) (certificate_of plan nodes gap) cert → certificate_answer case cert ≡ accepted_with case plan gap
text_accepted case plan nodes gap cert law book terms found is =
    let fits : length cert ≤ CERTIFICATE_LIMIT = certificate_fits (length case.book.needs) (certificate_of plan nodes gap) cert (omega (arith, book.needs.few)) is in
    rw (le-ltb CERTIFICATE_LIMIT (length cert) fits, ← (portfolio_accepted case plan nodes gap cert law book terms found is)) refl

-- and that of a tree which shows that there is no rival
pub none_accepted : (case : CaseContents) (nodes : List TreeNode) (cert : List ℕ) → NoneFoundAreAccepted → IsBook case.book → HasTerms case → IsNoneFound case nodes
    → IsCertificateText (length case.book.needs) (certificate_of_none nodes) cert → certificate_answer case cert ≡ accepted_none
none_accepted case nodes cert law book terms found is =
    let fits : length cert ≤ CERTIFICATE_LIMIT = certificate_fits (length case.book.needs) (certificate_of_none nodes) cert (omega (arith, book.needs.few)) is in
    let told : verdict.YesNone ≡ verdict_of case cert = one_verdict case cert verdict.YesNone (omega (arith, book.needs.few))
    (certificate_of_none nodes, is, sym (law case nodes book terms found)) in
    rw (le-ltb CERTIFICATE_LIMIT (length cert) fits, ← told) refl

-- the certificate that was written is accepted
wrote : (told new : Told) (names : FileNames) (d : Draft) (reached : Status) → IsStructuredDraft d → IsAcceptedFor told names d → PutsOut told names.cert d reached new → reached ≡ status.Done → WroteAccepted (λ files. IsAcceptedTextBeside files.held files) told new names
wrote None new names d reached structured accepted put done = tt
wrote (Some content) new names (draft.Said answer) reached structured accepted put done = absurd (unfound_undone answer.status structured (sym put.0 ∙ done))
wrote (Some content) new names (draft.NoneWithinYield texts) reached structured accepted put done = absurd (let clash : status.NoneWithinYield ≡ status.Done = sym put.0 ∙ done in cc)
wrote (Some content) new names (draft.Found texts) reached structured accepted put done =
    rw put.1 (record { files = accepted.0; cert = texts.cert.items; there = accepted.1; written = get_inserted content.files names.cert texts.cert.items; is = accepted.2 })

-- what is about to be written is accepted
pub accepted_draft : (files : InputFiles) (tells : Telling) (case : CaseContents) (d : Draft) → IsJudged inquiry.Check files case → IsDraftOf tells case d → IsAcceptedDraft files d
accepted_draft files tells case (draft.Found texts) judged own = searched_text files texts.cert.items case judged (ap (λ (a : Answer). a.status) own.is_cert.accepted)
accepted_draft files tells case (draft.NoneWithinYield texts) judged own = searched_text files texts.cert.items case judged (ap (λ (a : Answer). a.status) own.accepted)
accepted_draft files tells case (draft.Said answer) judged own = tt

unfound_some : (s : Status) → IsTrue (is_unfound s) → s ≡ status.NoneWithinYield → ⊥
unfound_some s is none = let clash : is_unfound status.NoneWithinYield ≡ true = subst (λ t. is_unfound t ≡ true) none is in absurd (cc)

wrote_none : (told new : Told) (names : FileNames) (d : Draft) (reached : Status) → IsStructuredDraft d → IsAcceptedFor told names d → PutsOut told names.cert d reached new → reached ≡ status.NoneWithinYield → WroteAccepted (λ files. IsAcceptedTextBeside files.held files) told new names
wrote_none None new names d reached structured accepted put none = tt
wrote_none (Some content) new names (draft.Said answer) reached structured accepted put none = absurd (unfound_some answer.status structured (sym put.0 ∙ none))
wrote_none (Some content) new names (draft.Found texts) reached structured accepted put none = absurd (let clash : status.Done ≡ status.NoneWithinYield = sym put.0 ∙ none in cc)
wrote_none (Some content) new names (draft.NoneWithinYield texts) reached structured accepted put none =
    rw put.1 (record { files = accepted.0; cert = texts.cert.items; there = accepted.1; written = get_inserted content.files names.cert texts.cert.items; is = accepted.2 })

-- a plain case is settled
found_done : (told new : Told) (name : List ℕ) (d : Draft) (reached : Status) → IsFoundDraft d → PutsOut told name d reached new → reached ≡ status.Done
found_done told new name (draft.Found texts) reached found put = put.0
found_done told new name (draft.NoneWithinYield texts) reached found put = absurd found
found_done told new name (draft.Said answer) reached found put = absurd found

plain_found : (content : Content) (names : FileNames) (d : Draft) (texts : InputFiles) (case : CaseContents) → FindsPlainFor (Some content) names d → inputs_of content names ≡ Some texts → searched_of texts ≡ Ok case → IsPlainWithin case
    → IsFoundDraft d
plain_found content names d texts case finds read is plain =
    let here : FindsPlain (searched_of texts) d = subst (λ (found : Option InputFiles). IsSomeAnd found (λ ts. FindsPlain (searched_of ts) d)) read finds in
    subst (λ (found : Result CaseContents Refusal). FindsPlain found d) is here plain

settles_plain : (told new : Told) (names : FileNames) (d : Draft) (reached : Status) → FindsPlainFor told names d → PutsOut told names.cert d reached new → OfSearched (SettlesPlain reached) told names
settles_plain None new names d reached finds put = tt
settles_plain (Some content) new names d reached finds put = λ texts case read is plain.
    found_done (Some content) new names.cert d reached (plain_found content names d texts case finds read is plain) put

-- ---- what a case comes to
-- a case whose budget is spent isn't covered by it
pub uncovered : (case : CaseContents) (spent : Spent) → PartsAreWithin → PartsAreFew → IsBook case.book → IsSpent case spent → IsCovered case → ⊥
uncovered case spent within few limits is covered = by covered.covers
  where
    by : CoversTree case ⊎ CoversPortfolios case → ⊥
    by (inl own) = omega (arith, is.larger.more, within case is.larger.part own.tree is.larger.upper own.halving, own.enough)
    by (inr own) = omega (arith, is.larger.more, few case is.larger.part limits is.larger.upper own.portfolios own.all, own.enough)

draft_of : (content : Content) (names : FileNames) (d : Draft) (texts : InputFiles) (case : CaseContents) → IsDraftFor (Some content) names d → inputs_of content names ≡ Some texts → searched_of texts ≡ Ok case → IsDraftOf (telling_for texts.held) case d
draft_of content names d texts case is read gives =
    let here : IsDraft (telling_for texts.held) (searched_of texts) d = subst (λ (found : Option InputFiles). IsSomeAnd found (λ ts. IsDraft (telling_for ts.held) (searched_of ts) d)) read is in
    subst (λ (found : Result CaseContents Refusal). IsDraft (telling_for texts.held) found d) gives here

of_case : (Holds : CaseContents → Type 0) (told : Told) (names : FileNames) (d : Draft) → ((tells : Telling) (case : CaseContents) → IsDraftOf tells case d → Holds case) → IsDraftFor told names d → OfSearched Holds told names
of_case Holds None names d holds is = tt
of_case Holds (Some content) names d holds is = λ texts case read gives. holds (telling_for texts.held) case (draft_of content names d texts case is read gives)

-- where all that is permitted is short, the needs can't be met
pub unreached : (case : CaseContents) (day : ℤ) → AreAllShort case.book day → IsInReach case.book → ⊥
unreached case day short reach = omega (arith, short reach.plan reach.permitted, reach.meets day)

settled : (tells : Telling) (case : CaseContents) (told new : Told) (name : List ℕ) (d : Draft) (reached : Status) → IsDraftOf tells case d → PutsOut told name d reached new → SettlesCovered reached case
settled tells case told new name (draft.Found texts) reached is put = λ covered. inl put.0
settled tells case told new name (draft.NoneWithinYield texts) reached is put = λ covered. inr put.0
settled tells case told new name (draft.Said answer) reached is put = λ covered. absurd (by is covered)
  where
    by : IsEnd case answer → IsCovered case → ⊥
    by (inl own) covered = unreached case own.day own.short.all_short covered.in_reach
    by (inr own) covered = own.uncovered covered

reach_said : (tells : Telling) (case : CaseContents) (told new : Told) (name : List ℕ) (d : Draft) (reached : Status) → IsDraftOf tells case d → PutsOut told name d reached new → SaysReach reached case
reach_said tells case told new name (draft.Found texts) reached is put =
    ((λ none. absurd (let clash : status.Done ≡ status.Infeasible = sym put.0 ∙ none in cc)), (λ lost. absurd (lost is.found_by.in_reach)))
reach_said tells case told new name (draft.NoneWithinYield texts) reached is put =
    ((λ none. absurd (let clash : status.NoneWithinYield ≡ status.Infeasible = sym put.0 ∙ none in cc)), (λ lost. absurd (lost is.none.in_reach)))
reach_said tells case told new name (draft.Said answer) reached is put = by is
  where
    by : IsEnd case answer → SaysReach reached case
    by (inl own) = ((λ none reach. unreached case own.day own.short.all_short reach), (λ lost. put.0 ∙ ap (λ (a : Answer). a.status) own.is_answer))
    by (inr own) =
        ((λ none. absurd (let clash : status.BudgetSpent ≡ status.Infeasible = sym (put.0 ∙ ap (λ (a : Answer). a.status) own.is_answer) ∙ none in cc)), (λ lost. absurd (lost own.is_spent.in_reach)))

settles_covered : (told new : Told) (names : FileNames) (d : Draft) (reached : Status) → IsDraftFor told names d → PutsOut told names.cert d reached new → OfSearched (SettlesCovered reached) told names
settles_covered told new names d reached is put = of_case (SettlesCovered reached) told names d (λ tells case own. settled tells case told new names.cert d reached own put) is

says_reach : (told new : Told) (names : FileNames) (d : Draft) (reached : Status) → IsDraftFor told names d → PutsOut told names.cert d reached new → OfSearched (SaysReach reached) told names
says_reach told new names d reached is put = of_case (SaysReach reached) told names d (λ tells case own. reach_said tells case told new names.cert d reached own put) is

-- ---- what the status means
wrote_either : (told new : Told) (names : FileNames) (d : Draft) (reached : Status) → IsStructuredDraft d → IsAcceptedFor told names d → PutsOut told names.cert d reached new → IsFoundStatus reached → WroteAccepted (λ files. IsAcceptedTextBeside files.held files) told new names
wrote_either told new names d reached ends accepted put (inl done) = wrote told new names d reached ends accepted put done
wrote_either told new names d reached ends accepted put (inr none) = wrote_none told new names d reached ends accepted put none

pub structure_means : (told new : Told) (names : FileNames) (d : Draft) (reached : Status) → IsTrue (is_structured reached) → IsStructuredDraft d → IsAcceptedFor told names d → FindsPlainFor told names d → IsDraftFor told names d
    → PutsOut told names.cert d reached new → StructureMeans told names reached new
structure_means told new names d reached structured ends accepted finds is put = record {
  structured = structured;
  wrote = wrote_either told new names d reached ends accepted put;
  plain = settles_plain told new names d reached finds put;
  covered = settles_covered told new names d reached is put;
  reach = says_reach told new names d reached is put;
}

-- a spent budget, as an answer
pub spent_end : (case : CaseContents) (spent : Spent) (answer : Answer) → PartsAreWithin → PartsAreFew → IsBook case.book → IsSpent case spent → answer ≡ budget_spent case.book spent → IsEnd case answer
spent_end case spent answer within few limits is said = inr (record { spent = spent; is_spent = is; uncovered = uncovered case spent within few limits is; is_answer = said })

-- where all that is permitted is short, this is the first day of it
pub short_from : (case : CaseContents) (day : ℤ) → IsBook case.book → EndsOf case (Short day) → IsShortFrom case day
short_from case day limits is = record { first = rw is.0 at (first_short_is case.book (plan_of_most case.book) limits.needs.rising); all_short = is.1 }

-- and needs that can't be met
pub short_end : (case : CaseContents) (day : ℤ) (answer : Answer) → IsBook case.book → EndsOf case (Short day) → answer ≡ infeasible day → IsEnd case answer
short_end case day answer limits is said = inl (record { day = day; short = short_from case day limits is; is_answer = said })

-- ---- what holds of files that were read holds of those of their names
pub draft_for : (told : Told) (names : FileNames) (texts : InputFiles) (d : Draft) → AreRead told names texts → AreWithin texts → IsDraft (telling_for texts.held) (searched_of texts) d → IsDraftFor told names d
draft_for None names texts d read within is = tt
draft_for (Some content) names texts d read within is = rw (read-all content names texts read within) is

pub finds_plain_for : (told : Told) (names : FileNames) (texts : InputFiles) (d : Draft) → AreRead told names texts → AreWithin texts → FindsPlain (searched_of texts) d → FindsPlainFor told names d
finds_plain_for None names texts d read within is = tt
finds_plain_for (Some content) names texts d read within is = rw (read-all content names texts read within) is

pub accepted_for : (told : Told) (names : FileNames) (texts : InputFiles) (d : Draft) → AreRead told names texts → IsAcceptedDraft texts d → IsAcceptedFor told names d
accepted_for None names texts (draft.Found own) read is = tt
accepted_for None names texts (draft.NoneWithinYield own) read is = tt
accepted_for None names texts (draft.Said answer) read is = tt
accepted_for (Some content) names texts (draft.Found own) read is = (texts, read, is)
accepted_for (Some content) names texts (draft.NoneWithinYield own) read is = (texts, read, is)
accepted_for (Some content) names texts (draft.Said answer) read is = tt

-- ---- a draft as an outcome
outcome_of_case : (name : List ℕ) (tells : Telling) (gives : Result CaseContents Refusal) (d : Draft) → IsDraft tells gives d → IsSearchOutcome name tells gives (draft_outcome name d)
outcome_of_case name tells (Err refusal) (draft.Found texts) is = absurd is
outcome_of_case name tells (Err refusal) (draft.NoneWithinYield texts) is = absurd is
outcome_of_case name tells (Err refusal) (draft.Said answer) is = ap saying is
outcome_of_case name tells (Ok case) (draft.Found texts) is = inl (texts.cert.items, texts.said.items, is, refl)
outcome_of_case name tells (Ok case) (draft.NoneWithinYield texts) is = inr (inl (texts.cert.items, texts.said.items, is, refl))
outcome_of_case name tells (Ok case) (draft.Said answer) is = inr (inr (answer, is, refl))

outcome_of_files : (name : List ℕ) (found : Option InputFiles) (d : Draft) → IsSomeAnd found (λ texts. IsDraft (telling_for texts.held) (searched_of texts) d)
    → IsSomeAnd found (λ texts. IsSearchOutcome name (telling_for texts.held) (searched_of texts) (draft_outcome name d))
outcome_of_files name None d is = absurd is
outcome_of_files name (Some texts) d is = outcome_of_case name (telling_for texts.held) (searched_of texts) d is

pub structure_outcome : (told : Told) (names : FileNames) (d : Draft) → IsDraftFor told names d → IsStructureOutcome told names (draft_outcome names.cert d)
structure_outcome None names d is = tt
structure_outcome (Some content) names d is = outcome_of_files names.cert (inputs_of content names) d is
