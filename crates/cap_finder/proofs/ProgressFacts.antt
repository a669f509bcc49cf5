-- How far the search of the greatest cap comes by each cap that is told, and what it has come to in the end.
use Rattle.std.proofs.Common.{◌≡◌, ◌∙◌, ◌<◌, refl, sym, ap, subst, arith, [], ◌∷◌, ◌++◌, Option, Some, None}
use Rattle.std.specs.Prelude.{IfOk, Result, option_map}
use Rattle.std.proofs.lemmas.Result.{IfOk-weaker}
use Rattle.std.proofs.lemmas.List.Elements.{All-contains, All-push}
use Rattle.escrow_units.specs.declared.amount.Rate.{Rate}
use Rattle.branch_search.specs.Plain.{IsPlainWithin, PlainAreSettled}
use Rattle.branch_search.specs.Search.{EndsOf}
use Rattle.branch_search.specs.declared.found.SearchEnd.{SearchEnd}
use Rattle.branch_search.specs.declared.found.SearchEnd.TheVariants as ended
use Rattle.escrow_desk.specs.declared.refusal.NoMemory.{NoMemory}
use Rattle.case_file.specs.Case.{CaseContents, HasTerms, case_view}
use Rattle.offer_book.specs.Book.{IsBook}
use Rattle.rate_cap.proofs.CaseFacts.{is-itself}
use Rattle.rate_cap.specs.CaseAt.{CasesAtCapsAreOne, IsAtCap, IsTopOf, case_at, slgs_rates}
use Rattle.rate_cap.specs.Search.{CapsTold, IsSearch, IsSettled, SearchesEndAtHundredths, SearchesEndAtZero, zero_cap}
use Rattle.cap_finder.proofs.ToldFacts.{found-next, found-up, next-told, not_found-next, some-told, top-told, zero-told}
use Rattle.cap_finder.specs.Ends.{FailsAt, IsCapEnd, IsCappedEscrow, IsFoundAtTop, IsGreatestCap, IsInTheWay, IsNextAbove, IsPlainAtTop, end_of}
use Rattle.cap_finder.specs.Progress.{IsAsked, IsProgress, IsZeroUnfound}
use Rattle.cap_finder.specs.declared.ends.CapEnd.{CapEnd}
use Rattle.cap_finder.specs.declared.ends.CapEnd.TheVariants as end
use Rattle.cap_finder.specs.declared.ends.CappedEscrow.{CappedEscrow}
use Rattle.cap_finder.specs.declared.ends.Obstacle.{Obstacle}
use Rattle.cap_finder.specs.declared.ends.Obstacle.TheVariants as obstacle
use Rattle.cap_finder.specs.declared.ends.Unfound.{Unfound}
use Rattle.cap_finder.specs.declared.progress.Progress.{Progress}

abbrev escrow_cap : Option CappedEscrow → Option Rate
escrow_cap found = option_map (λ escrow. escrow.cap) found

abbrev unfound_cap : Option Unfound → Option Rate
unfound_cap unfound = option_map (λ own. own.cap) unfound

-- ---- one more cap
pub found-kept : (case : CaseContents) (progress : Progress) (after : CapsTold) (escrow : CappedEscrow)
    → after ≡ record progress.search { found = progress.search.found ++ escrow.cap ∷ [] } → IsAsked progress.search escrow.cap
    → IsProgress case progress → IsCappedEscrow case escrow → IsProgress case (record progress { search = after; found = Some escrow })
found-kept case progress after escrow is asked was own =
    subst (λ (told : CapsTold). IsProgress case (record progress { search = told; found = Some escrow })) (sym is) (record {
      ends = found-next progress.search (escrow_cap progress.found) (unfound_cap progress.unfound) escrow.cap was.ends asked;
      found = own;
      unfound = was.unfound;
      fails = was.fails;
    })

pub unfound-kept : (case : CaseContents) (progress : Progress) (after : CapsTold) (unfound : Unfound)
    → after ≡ record progress.search { not_found = progress.search.not_found ++ unfound.cap ∷ [] } → IsAsked progress.search unfound.cap
    → IsProgress case progress → IsInTheWay (case_at unfound.cap case) unfound.obstacle → IsProgress case (record progress { search = after; unfound = Some unfound })
unfound-kept case progress after unfound is asked was own =
    subst (λ (told : CapsTold). IsProgress case (record progress { search = told; unfound = Some unfound })) (sym is) (record {
      ends = not_found-next progress.search (escrow_cap progress.found) (unfound_cap progress.unfound) unfound.cap was.ends asked;
      found = was.found;
      unfound = own;
      fails = All-push (FailsAt case) progress.search.not_found unfound.cap was.fails (record { obstacle = unfound.obstacle; is = own });
    })

-- how a search of the case at a cap ended
pub in-the_way : CasesAtCapsAreOne → (case at : CaseContents) (cap : Rate) (own : Obstacle) (ended' : SearchEnd) → IsAtCap cap case at → EndsOf at ended' → end_of own ≡ ended'
    → IsInTheWay (case_at cap case) own
in-the_way one case at cap own ended' is ends same =
    subst (λ (other : CaseContents). EndsOf other (end_of own)) ((one cap case at).0 is) (subst (EndsOf at) (sym same) ends)

-- ---- the end
pub zero-in_the_way : CasesAtCapsAreOne → (case at : CaseContents) (cap : Rate) (own : Obstacle) → IsAtCap cap case at → cap ≡ zero_cap → IsInTheWay (case_at zero_cap case) own
    → IsInTheWay at own
zero-in_the_way one case at cap own is zero way =
    let same : at ≡ case_at zero_cap case = subst (λ (c : Rate). at ≡ case_at c case) zero ((one cap case at).0 is) in
    subst (λ (other : CaseContents). IsInTheWay other own) (sym same) way

abbrev progress_of : CapsTold → Option CappedEscrow → Option Unfound → Progress
progress_of told found unfound = record { search = told; found = found; unfound = unfound }

top-failed : (case : CaseContents) (told : CapsTold) (found : Option CappedEscrow) (unfound : Unfound) → IsSearch told
    → IsProgress case (progress_of told found (Some unfound)) → FailsAt case told.top
top-failed case told found unfound kept was =
    All-contains (FailsAt case) told.not_found told.top was.fails (top-told told (escrow_cap found) unfound.cap kept was.ends)

next-above : SearchesEndAtHundredths → (case : CaseContents) (told : CapsTold) (escrow : CappedEscrow) (unfound : Option Unfound) → IsSearch told → IsSettled told
    → IsProgress case (progress_of told (Some escrow) unfound) → IsNextAbove case told.top escrow.cap unfound
next-above law case told escrow None kept settled was = was.ends.top_first refl
next-above law case told escrow (Some unfound) kept settled was =
    let next = next-told law told escrow.cap unfound.cap kept settled was.ends in
    record { below = next.below; next = next.next; is = was.unfound }

top-fails : (case : CaseContents) (told : CapsTold) (escrow : CappedEscrow) (unfound : Option Unfound) → IsSearch told
    → IsProgress case (progress_of told (Some escrow) unfound) → escrow.cap.0 < told.top.0 → FailsAt case told.top
top-fails case told escrow None kept was below =
    let same : escrow.cap.0 ≡ told.top.0 = ap (λ (own : Rate). own.0) (was.ends.top_first refl) in
    absurd (omega (arith, same, below))
top-fails case told escrow (Some unfound) kept was below = top-failed case told (Some escrow) unfound kept was

pub greatest-cap : SearchesEndAtHundredths → (case : CaseContents) (told : CapsTold) (escrow : CappedEscrow) (unfound : Option Unfound) → IsSearch told → IsSettled told
    → IsProgress case (record { search = told; found = Some escrow; unfound = unfound }) → IsGreatestCap case told.top (record { escrow = escrow; next = unfound })
greatest-cap law case told escrow unfound kept settled was = record {
  cap = found-up told escrow.cap kept was.ends.greatest.among;
  escrow = was.found;
  next = next-above law case told escrow unfound kept settled was;
  top_fails = top-fails case told escrow unfound kept was;
}

-- none was found, neither at the top nor at cap 0
pub none-found : SearchesEndAtZero → (case : CaseContents) (told : CapsTold) (unfound : Option Unfound) → IsSearch told → IsSettled told
    → IsProgress case (record { search = told; found = None; unfound = unfound }) → IsZeroUnfound case unfound × FailsAt case told.top
none-found law case told None kept settled was = some-told law told kept settled was.ends
none-found law case told (Some unfound) kept settled was =
    let zero = zero-told law told unfound.cap kept settled was.ends in
    ((zero, subst (λ (cap : Rate). IsInTheWay (case_at cap case) unfound.obstacle) zero was.unfound), top-failed case told None unfound kept was)

-- ---- plain cases
-- at the top a case is itself
pub at-top : (case : CaseContents) (top : Rate) → IsTopOf (slgs_rates case.book.lines) top → case_at top case ≡ case
at-top case top is = is-itself top case (case_at top case).book refl top is (omega arith)

no-obstacle : {A : Type 0} (own : Obstacle) → end_of own ≡ ended.NoMemory → A
no-obstacle (obstacle.Short day) is = absurd (cc)
no-obstacle (obstacle.NoneWithinYield nodes) is = absurd (cc)
no-obstacle (obstacle.BudgetSpent spent) is = absurd (cc)

-- a plain case doesn't fail at its top
no-failure : {A : Type 0} → PlainAreSettled → (case : CaseContents) (top : Rate) → IsBook case.book → HasTerms case → IsTopOf (slgs_rates case.book.lines) top
    → IsPlainWithin case → FailsAt case top → A
no-failure law case top book terms is plain fails =
    let ends : EndsOf case (end_of fails.obstacle) = subst (λ (own : CaseContents). EndsOf own (end_of fails.obstacle)) (at-top case top is) fails.is in
    no-obstacle fails.obstacle (law case book (omega (arith, terms.least_limit)) terms.most_limit plain (end_of fails.obstacle) ends)

found-at_top : CasesAtCapsAreOne → (case : CaseContents) (top : Rate) (escrow : CappedEscrow) → IsTopOf (slgs_rates case.book.lines) top
    → IsCappedEscrow case escrow → escrow.cap ≡ top → IsTopOf (slgs_rates case.book.lines) escrow.cap × (case_view escrow.case ≡ case)
found-at_top one case top escrow is own same =
    let at : IsAtCap top case (case_view escrow.case) = subst (λ (cap : Rate). IsAtCap cap case (case_view escrow.case)) same own.at in
    (subst (IsTopOf (slgs_rates case.book.lines)) (sym same) is, (one top case (case_view escrow.case)).0 at ∙ at-top case top is)

plain-at_top : CasesAtCapsAreOne → PlainAreSettled → (case : CaseContents) (own : CapEnd) → IsBook case.book → HasTerms case → IsCapEnd case own → IsPlainAtTop case own
plain-at_top one law case (end.Found greatest) book terms is plain = by-next greatest.next is.comes_to.next
  where
    by-next : (next : Option Unfound) → IsNextAbove case is.top greatest.escrow.cap next → IsFoundAtTop case (end.Found greatest)
    by-next None same = found-at_top one case is.top greatest.escrow is.is_top is.comes_to.escrow same
    by-next (Some unfound) above = no-failure law case is.top book terms is.is_top plain (is.comes_to.top_fails above.below)
plain-at_top one law case (end.NoneFound zero) book terms is plain = no-failure law case is.top book terms is.is_top plain is.comes_to.top_fails

pub plain-ends : CasesAtCapsAreOne → PlainAreSettled → (case : CaseContents) (ends : Result CapEnd NoMemory) → IsBook case.book → HasTerms case → IfOk ends (IsCapEnd case)
    → IfOk ends (IsPlainAtTop case)
plain-ends one law case ends book terms is = IfOk-weaker ends (IsCapEnd case) (IsPlainAtTop case) (λ own has. plain-at_top one law case own book terms has) is
