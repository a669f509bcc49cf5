-- What `cap` puts out, proved.
use Rattle.std.proofs.Common.{◌≡◌, ◌∙◌, ℕ, List, length, Option, Some, None, Ok, Err, refl, subst, sym, ap, inl, inr, arith}
use Rattle.std.specs.Prelude.{IsSomeAnd, IsTrue, Result}
use Rattle.escrow_desk.specs.Content.{Content, Told}
use Rattle.escrow_desk.specs.declared.refusal.Refusal.{Refusal}
use Rattle.escrow_units.specs.declared.amount.Rate.{Rate}
use Rattle.bound_certificate.specs.Versions.{IsPackedFormOf}
use Rattle.branch_search.specs.Accepted.{FoundAreAccepted, NoneFoundAreAccepted, portfolio_with}
use Rattle.branch_search.specs.Plain.{PlainAreSettled}
use Rattle.branch_search.specs.Purchases.{certificate_of, certificate_of_none}
use Rattle.branch_search.specs.Search.{IsFound, IsNoneFound}
use Rattle.branch_search.specs.declared.found.Found.{Found}
use Rattle.branch_search.specs.declared.found.SearchEnd.TheVariants as ended
use Rattle.cap_finder.proofs.ProgressFacts.{at-top}
use Rattle.cap_finder.specs.Ends.{FailsAt, IsGreatestCap, IsInTheWay, IsNextAbove, IsNoneFound as IsNoneFoundAtZero, end_of}
use Rattle.cap_finder.specs.declared.ends.CappedEscrow.{CappedEscrow}
use Rattle.cap_finder.specs.declared.ends.CaseAtZero.{CaseAtZero}
use Rattle.cap_finder.specs.declared.ends.GreatestCap.{GreatestCap}
use Rattle.cap_finder.specs.declared.ends.Obstacle.{Obstacle}
use Rattle.cap_finder.specs.declared.ends.Obstacle.TheVariants as obstacle
use Rattle.cap_finder.specs.declared.ends.Unfound.{Unfound}
use Rattle.case_file.specs.Case.{CaseContents, HasTerms, case_view}
use Rattle.proof_tree.specs.declared.tree.TreeNode.{TreeNode}
use Rattle.escrow_check.proofs.VerdictFacts.{yes_is_right, yes_none_is_right}
use Rattle.halving_tree.specs.Halving.{PartsAreFew, PartsAreWithin}
use Rattle.offer_book.specs.Book.{IsBook}
use Rattle.offer_book.specs.Rival.{IsRival}
use Rattle.rate_cap.specs.CaseAt.{CasesAtCapsAreOne, IsAtCap, IsTopOf, case_at, slgs_rates}
use Rattle.rate_cap.specs.Search.{zero_cap}
use Rattle.verification_report.specs.Report.{figures_of}
use Rattle.certificate_answers.proofs.CapFacts.{book-at, terms-at}
use Rattle.certificate_answers.specs.Answer.{Answer, case_of, yes_text}
use Rattle.escrow_top.specs.Capping.{AreCapTexts, HasObstacle, IsCapDraft, IsCapDraftFor, IsCapDraftOf, IsCapEnded, IsCapOutcome, IsCapSearchOutcome, IsNextKnown, IsObstacle, IsUncapped, Obstructs, cap_draft_outcome, cap_text, cap_words, obstacle_answer, uncapped}
use Rattle.certificate_answers.specs.Accepted.{HasPortfolio}
use Rattle.escrow_top.specs.Capped.{Capped, HasNoCap, IsCappedDraft, IsCappedFor, SaysNoCap, WroteCapped}
use Rattle.certificate_answers.specs.CaseOf.{AreWithin, GiveCase}
use Rattle.certificate_answers.specs.InputFiles.{FileNames, InputFiles, inputs_of}
use Rattle.certificate_answers.specs.Reading.{AreRead}
use Rattle.certificate_answers.specs.Stopping.{is_structured}
use Rattle.escrow_top.specs.Effects.{IsDone, saying}
use Rattle.escrow_top.specs.Means.{CapMeans}
use Rattle.escrow_top.specs.Settling.{OfCase}
use Rattle.escrow_top.specs.Structure.{IsFoundText}
use Rattle.certificate_answers.proofs.InputFacts.{read-all}
use Rattle.certificate_answers.proofs.YieldFacts.{certified, printed_yield}
use Rattle.escrow_top.proofs.StructureLaws.{short_from, uncovered}
use Rattle.escrow_top.specs.declared.capping.CapDraft.{CapDraft}
use Rattle.escrow_top.specs.declared.capping.CapDraft.TheVariants as draft
use Rattle.certificate_answers.specs.declared.status.Status.{Status}
use Rattle.certificate_answers.specs.declared.status.Status.TheVariants as status

-- what was drawn up was put out
abbrev pub PutsOutCap : Told → List ℕ → CapDraft → Status → Told → Type 0
PutsOutCap told name d reached new = IsDone told (cap_draft_outcome name d) reached new

-- ---- where no escrow is found
no_obstacle : (own : Obstacle) → end_of own ≡ ended.NoMemory → ⊥
no_obstacle (obstacle.Short day) is = cc
no_obstacle (obstacle.NoneWithinYield nodes) is = cc
no_obstacle (obstacle.BudgetSpent spent) is = cc

-- the laws that say what a search comes to
pub record AreSearchLaws : Type 0 where
  pub within : PartsAreWithin
  pub few : PartsAreFew
  pub plain : PlainAreSettled
  pub none : NoneFoundAreAccepted

-- a tree that shows that there is no rival
no_rivals : NoneFoundAreAccepted → (case : CaseContents) (nodes : List TreeNode) → IsBook case.book → HasTerms case → IsNoneFound case nodes
    → (rival : List ℕ) → ¬ IsRival case.limit case.book rival
no_rivals law case nodes book terms is =
    let writable = is.packable in
    yes_none_is_right case (certificate_of_none nodes) (record { book = book; terms = terms; written = writable }) (law case nodes book terms is)

obstructs : AreSearchLaws → (case : CaseContents) (own : Obstacle) → IsBook case.book → HasTerms case → IsInTheWay case own → Obstructs case own
obstructs laws case (obstacle.Short day) book terms is = short_from case day book is
obstructs laws case (obstacle.NoneWithinYield nodes) book terms is = (is, no_rivals laws.none case nodes book terms is)
obstructs laws case (obstacle.BudgetSpent spent) book terms is = (is, uncovered case spent laws.within laws.few book is)

obstacle_of : AreSearchLaws → (case : CaseContents) (own : Obstacle) → IsBook case.book → HasTerms case → IsInTheWay case own → IsObstacle case own
obstacle_of laws case own book terms is = record {
  obstructs = obstructs laws case own book terms is;
  not_plain = λ plain. no_obstacle own (laws.plain case book (omega (arith, terms.least_limit)) terms.most_limit plain (end_of own) is);
}

obstacle_at : AreSearchLaws → (case : CaseContents) (cap : Rate) (own : Obstacle) → IsBook case.book → HasTerms case → IsInTheWay (case_at cap case) own → IsObstacle (case_at cap case) own
obstacle_at laws case cap own book terms is = obstacle_of laws (case_at cap case) own (book-at cap case book) (terms-at cap case terms) is

-- where the case at its top fails, the case itself does
itself_fails : AreSearchLaws → (case : CaseContents) (top : Rate) → IsBook case.book → HasTerms case → IsTopOf (slgs_rates case.book.lines) top → FailsAt case top → HasObstacle case
itself_fails laws case top book terms is_top fails =
    let is : IsInTheWay case fails.obstacle = subst (λ (own : CaseContents). IsInTheWay own fails.obstacle) (at-top case top is_top) fails.is in
    record { obstacle = fails.obstacle; is = obstacle_of laws case fails.obstacle book terms is }

-- a case at a cap keeps its terms
pub capped_terms : CasesAtCapsAreOne → (case at : CaseContents) (cap : Rate) → IsAtCap cap case at → HasTerms case → HasTerms at
capped_terms one case at cap is terms = subst HasTerms (sym ((one cap case at).0 is)) (terms-at cap case terms)

next_known : AreSearchLaws → (case : CaseContents) (top cap : Rate) (next : Option Unfound) → IsBook case.book → HasTerms case → IsNextAbove case top cap next → IsNextKnown case top cap next
next_known laws case top cap None book terms is = is
next_known laws case top cap (Some unfound) book terms is = record {
  below = is.below;
  next = is.next;
  is = obstacle_at laws case unfound.cap unfound.obstacle book terms is.is;
}

-- ---- what is put out for a case
pub cap_texts : AreSearchLaws → (case : CaseContents) (top : Rate) (greatest : GreatestCap) (cert said : List ℕ) → IsBook case.book → HasTerms case
    → IsTopOf (slgs_rates case.book.lines) top → IsGreatestCap case top greatest
    → IsFoundText (case_view greatest.escrow.case) greatest.escrow.found.plan greatest.escrow.found.tree greatest.escrow.found.gap cert → said ≡ cap_text greatest
    → AreCapTexts case cert said
cap_texts laws case top greatest cert said book terms is_top is is_cert is_said = record {
  top = top;
  is_top = is_top;
  greatest = greatest;
  cap = is.cap;
  escrow = is.escrow;
  next = next_known laws case top greatest.escrow.cap greatest.next book terms is.next;
  above = λ below. itself_fails laws case top book terms is_top (is.top_fails below);
  is_cert = is_cert;
  is_said = is_said;
}

pub is_uncapped : AreSearchLaws → CasesAtCapsAreOne → (case : CaseContents) (top : Rate) (zero : CaseAtZero) (answer : Answer) → IsBook case.book → HasTerms case
    → IsTopOf (slgs_rates case.book.lines) top → IsNoneFoundAtZero case top zero → answer ≡ uncapped zero → IsUncapped case answer
is_uncapped laws one case top zero answer book terms is_top is said = record {
  zero = zero;
  at = is.at;
  is = subst (λ (own : CaseContents). IsObstacle own zero.obstacle) (sym same)
      (obstacle_at laws case zero_cap zero.obstacle book terms (subst (λ (own : CaseContents). IsInTheWay own zero.obstacle) same is.is));
  above = itself_fails laws case top book terms is_top is.top_fails;
  is_answer = said;
}
  where
    same : case_view zero.case ≡ case_at zero_cap case
    same = (one zero_cap case (case_view zero.case)).0 is.at

-- ---- what it means
-- what was found is right, as `yes` means it
has_portfolio : FoundAreAccepted → (case : CaseContents) (plan : List ℕ) (nodes : List TreeNode) (gap : ℕ) → IsBook case.book → HasTerms case → IsFound case plan nodes gap
    → HasPortfolio case (certificate_of plan nodes gap) (yes_text case (portfolio_with case plan gap))
has_portfolio law case plan nodes gap book terms found =
    let writable = found.packable in
    let right = yes_is_right case (certificate_of plan nodes gap) (portfolio_with case plan gap) (record { book = book; terms = terms; written = writable })
    (law case plan nodes gap book terms found) in
    record {
      portfolio = portfolio_with case plan gap;
      right = certified case (certificate_of plan nodes gap) (portfolio_with case plan gap) book right;
      without_interest = λ interest. right.answer ∙ printed_yield case.book plan book interest right.right.permitted;
      said = refl;
    }

capped_texts : FoundAreAccepted → CasesAtCapsAreOne → (files : InputFiles) (case : CaseContents) (cert said : List ℕ) → GiveCase files case → IsBook case.book → HasTerms case
    → AreCapTexts case cert said → Capped files cert said
unfolding has_portfolio
capped_texts law one files case cert said gives book terms is = record {
  case = case;
  gives = gives;
  certificate = certificate_of found.plan found.tree found.gap;
  is_certificate = inr (subst (λ (other : CaseContents). IsPackedFormOf (length other.book.needs) (certificate_of found.plan found.tree found.gap) cert) same is.is_cert.is_text);
  right = record {
    top = is.top;
    is_top = is.is_top;
    cap = own.cap;
    up_to = is.cap;
    yes = yes_text (case_at own.cap case) (portfolio_with (case_at own.cap case) found.plan found.gap);
    accepted = has_portfolio law (case_at own.cap case) found.plan found.tree found.gap (book-at own.cap case book) (terms-at own.cap case terms) at;
    least = at.least;
    next = is.greatest.next;
    is_next = is.next;
    above = is.above;
    said = subst (λ (other : CaseContents). said ≡ cap_words own.cap (figures_of other found.plan found.gap) is.greatest.next) same is.is_said;
  };
}
  where
    own : CappedEscrow
    own = is.greatest.escrow

    found : Found
    found = own.found

    same : case_view own.case ≡ case_at own.cap case
    same = (one own.cap case (case_view own.case)).0 is.escrow.at

    at : IsFound (case_at own.cap case) found.plan found.tree found.gap
    at = subst (λ (other : CaseContents). IsFound other found.plan found.tree found.gap) same is.escrow.found

pub capped_draft : FoundAreAccepted → CasesAtCapsAreOne → (files : InputFiles) (case : CaseContents) (d : CapDraft) → GiveCase files case → IsBook case.book → HasTerms case
    → IsCapDraftOf case d → IsCappedDraft files d
capped_draft law one files case (draft.Found texts) gives book terms is = capped_texts law one files case texts.cert.items texts.said.items gives book terms is
capped_draft law one files case (draft.Said answer) gives book terms is = tt

pub capped_for : (told : Told) (names : FileNames) (texts : InputFiles) (d : CapDraft) → AreRead told names texts → IsCappedDraft texts d → IsCappedFor told names d
capped_for None names texts (draft.Found own) read is = tt
capped_for None names texts (draft.Said answer) read is = tt
capped_for (Some content) names texts (draft.Found own) read is = (texts, read, is)
capped_for (Some content) names texts (draft.Said answer) read is = tt

wrote_capped : (told new : Told) (names : FileNames) (d : CapDraft) (reached : Status) → IsCapEnded d → IsCappedFor told names d → PutsOutCap told names.cert d reached new
    → reached ≡ status.Done → WroteCapped told new names
wrote_capped None new names d reached ends is put done = tt
wrote_capped (Some content) new names (draft.Found texts) reached ends is put done =
    rw put.1 (record { files = is.0; cert = texts.cert.items; text = texts.said.items; there = is.1; put = refl; is = is.2 })
wrote_capped (Some content) new names (draft.Said answer) reached ends is put done = absurd (ends.undone (sym put.0 ∙ done))

-- where there is no certificate
no_cap : CasesAtCapsAreOne → (case : CaseContents) (answer : Answer) → IsUncapped case answer → HasNoCap answer.status case
no_cap one case answer is = record {
  zero = is.zero.obstacle;
  is = subst (λ (own : CaseContents). IsObstacle own is.zero.obstacle) same is.is;
  status = ap (λ (own : Answer). own.status) is.is_answer ∙ ap (λ (own : CaseContents). (obstacle_answer own is.zero.obstacle).status) same;
  above = is.above;
}
  where
    same : case_view is.zero.case ≡ case_at zero_cap case
    same = (one zero_cap case (case_view is.zero.case)).0 is.at

said_of : CasesAtCapsAreOne → (told new : Told) (name : List ℕ) (case : CaseContents) (d : CapDraft) (reached : Status) → PutsOutCap told name d reached new → IsCapDraftOf case d
    → SaysNoCap reached case
said_of one told new name case (draft.Found texts) reached put is = λ undone. absurd (undone put.0)
said_of one told new name case (draft.Said answer) reached put is = λ undone. subst (λ (s : Status). HasNoCap s case) (sym put.0) (no_cap one case answer is)

of_files : (content : Content) (names : FileNames) (d : CapDraft) (texts : InputFiles) (case : CaseContents) → IsCapDraftFor (Some content) names d → inputs_of content names ≡ Some texts
    → case_of texts ≡ Ok case → IsCapDraftOf case d
of_files content names d texts case is read gives =
    let here : IsCapDraft (case_of texts) d = subst (λ (found : Option InputFiles). IsSomeAnd found (λ ts. IsCapDraft (case_of ts) d)) read is in
    subst (λ (found : Result CaseContents Refusal). IsCapDraft found d) gives here

says_no_cap : CasesAtCapsAreOne → (told new : Told) (names : FileNames) (d : CapDraft) (reached : Status) → IsCapDraftFor told names d → PutsOutCap told names.cert d reached new
    → OfCase (SaysNoCap reached) told names
says_no_cap one None new names d reached is put = tt
says_no_cap one (Some content) new names d reached is put = λ texts case read gives.
    said_of one (Some content) new names.cert case d reached put (of_files content names d texts case is read gives)

-- ---- what the status means
pub cap_means : CasesAtCapsAreOne → (told new : Told) (names : FileNames) (d : CapDraft) (reached : Status) → IsTrue (is_structured reached) → IsCapEnded d → IsCappedFor told names d → IsCapDraftFor told names d
    → PutsOutCap told names.cert d reached new → CapMeans told names reached new
cap_means one told new names d reached structured ends capped is put = record {
  structured = structured;
  capped = wrote_capped told new names d reached ends capped put;
  uncapped = says_no_cap one told new names d reached is put;
}

-- ---- what holds of files that were read holds of those of their names
pub cap_draft_for : (told : Told) (names : FileNames) (texts : InputFiles) (d : CapDraft) → AreRead told names texts → AreWithin texts → IsCapDraft (case_of texts) d → IsCapDraftFor told names d
cap_draft_for None names texts d read within is = tt
cap_draft_for (Some content) names texts d read within is = rw (read-all content names texts read within) is

-- ---- what was drawn up as an outcome
outcome_of_case : (name : List ℕ) (gives : Result CaseContents Refusal) (d : CapDraft) → IsCapDraft gives d → IsCapSearchOutcome name gives (cap_draft_outcome name d)
outcome_of_case name (Err refusal) (draft.Found texts) is = absurd is
outcome_of_case name (Err refusal) (draft.Said answer) is = ap saying is
outcome_of_case name (Ok case) (draft.Found texts) is = inl (texts.cert.items, texts.said.items, is, refl)
outcome_of_case name (Ok case) (draft.Said answer) is = inr (answer, is, refl)

outcome_of_files : (name : List ℕ) (found : Option InputFiles) (d : CapDraft) → IsSomeAnd found (λ texts. IsCapDraft (case_of texts) d)
    → IsSomeAnd found (λ texts. IsCapSearchOutcome name (case_of texts) (cap_draft_outcome name d))
outcome_of_files name None d is = absurd is
outcome_of_files name (Some texts) d is = outcome_of_case name (case_of texts) d is

pub cap_outcome : (told : Told) (names : FileNames) (d : CapDraft) → IsCapDraftFor told names d → IsCapOutcome told names (cap_draft_outcome names.cert d)
cap_outcome None names d is = tt
cap_outcome (Some content) names d is = outcome_of_files names.cert (inputs_of content names) d is
