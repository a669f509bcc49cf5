-- The case beside holdings, and what it keeps.
use Rattle.std.proofs.Common.{◌≡◌, ◌∙◌, ℕ, ◌+◌, ◌≤◌, refl, sym, ap, subst, arith, ℤ, ◌<ℤ◌, ◌≤ℤ◌, List, [], get_or}
use Rattle.std.proofs.lemmas.Int.{ints}
use Rattle.escrow_units.specs.Calendar.{years_after_of}
use Rattle.escrow_units.specs.Flows.{ComeInOrder, total}
use Rattle.escrow_units.specs.OpenDays.{Closings}
use Rattle.escrow_units.specs.declared.security.Flow.{Flow}
use Rattle.day_sums.specs.Summed.{total_by}
use Rattle.day_sums.proofs.SumFacts.{pairs-from_rising}
use Rattle.cash_table.proofs.DayFacts.{total_by-at_most}
use Rattle.offer_book.specs.Book.{BookContents, IsBook, IsNeeds}
use Rattle.offer_book.specs.Portfolio.{payments}
use Rattle.offer_book.specs.declared.line.Line.{Line}
use Rattle.case_file.specs.Case.{CaseContents}
use Rattle.held_escrow.specs.HeldCase.{AreShortAlike, HeldCasesAreAlike, HeldCasesAreOne, HeldCasesKeepLimits, IsHeldCase, MeetAlike, RivalsAlike, held_case_of, with_needs}
use Rattle.held_escrow.specs.Residual.{IsResidual, residual_of, shortfall}
use Rattle.held_escrow.proofs.DayFacts.{in_order-from_pairs, rise-in_order}
use Rattle.held_escrow.proofs.GrowthFacts.{growths-above, growths-days, growths-few, growths-rise, growths-small}
use Rattle.held_escrow.proofs.ResidualLaws.{needs-met, none-held, residual-is, residual-met, residuals-are_one, short-needs, short-residual, stands}

-- ---- portfolios
pub meet-alike : (held residual : List Flow) (book : BookContents) → IsResidual book.needs held residual → MeetAlike held book (with_needs book residual)
meet-alike held residual book is plan = stands book.needs held residual is (payments book plan)

pub short-alike : (held residual : List Flow) (book : BookContents) → IsResidual book.needs held residual → AreShortAlike held book (with_needs book residual)
short-alike held residual book is plan t =
    let paid = payments book plan in (
      (λ first.
          let before : (s : ℤ) → s <ℤ t → total_by s book.needs ≤ total_by s paid + total_by s held = λ s earlier. needs-met book.needs held residual paid s is (first.before s earlier) in
          record { short = short-needs book.needs held residual paid t is first.short before; before = before }),
      (λ first. record {
        short = short-residual book.needs held residual paid t is first.short;
        before = λ s earlier. residual-met book.needs held residual paid s is (λ u by. first.before u (sooner u s t by earlier));
      }),
    )
  where
    sooner : (a b e : ℤ) → a ≤ℤ b → b <ℤ e → a <ℤ e
    sooner a b e h k = omega (arith, ints, h, k)

pub rivals-alike : (limit : ℕ) (held residual : List Flow) (book : BookContents) → IsResidual book.needs held residual → RivalsAlike limit held book (with_needs book residual)
rivals-alike limit held residual book is plan = (
  (λ rival. record { permitted = record { same_length = rival.permitted.same_length; units = rival.permitted.units }; covered = (meet-alike held residual book is plan).0 rival.covered; yields = rival.yields }),
  (λ rival. record { permitted = record { same_length = rival.permitted.same_length; units = rival.permitted.units }; covered = (meet-alike held residual book is plan).1 rival.covered; yields = rival.yields }),
)

-- ---- the book keeps every limit
lacking-few : (needs held : List Flow) (day : ℤ) → shortfall needs held day ≤ total needs
lacking-few needs held day = omega (arith, total_by-at_most day needs)

pub residual-needs : (settle : ℤ) (needs held : List Flow) → IsNeeds settle needs → IsNeeds settle (residual_of needs held)
residual-needs settle needs held h = record {
  few = omega (arith, growths-few needs held 0 needs, h.few);
  rising = pairs-from_rising (residual_of needs held) (growths-rise needs held 0 needs (in_order-from_pairs needs (rise-in_order needs h.rising)));
  within = growths-days (λ day. (settle ≤ℤ day) × (day ≤ℤ years_after_of settle 40)) needs held 0 needs h.within;
  positive = growths-above needs held 0 needs;
  small = omega (arith, growths-small needs held (total needs) 0 needs (omega arith) (λ k d _. lacking-few needs held (get_or needs k d).day), h.small);
}

pub book-is : (held : List Flow) (book : BookContents) → IsBook book → IsBook (with_needs book (residual_of book.needs held))
book-is held book h = record { settlement = h.settlement; needs = residual-needs book.days.settle book.needs held h.needs; lines = h.lines }

abbrev book_of : ℤ → Closings → List Flow → List Line → BookContents
book_of settle closed needs lines = record { days = record { settle = settle; closed = closed }; needs = needs; lines = lines }

-- a book of such parts
pub parts-are : (held : List Flow) (book : BookContents) (settle : ℤ) (closed : Closings) (needs : List Flow) (lines : List Line) → settle ≡ book.days.settle
    → closed ≡ book.days.closed → needs ≡ residual_of book.needs held → lines ≡ book.lines
    → book_of settle closed needs lines ≡ with_needs book (residual_of book.needs held)
parts-are held book settle closed needs lines settle_is closed_is needs_is lines_is = λ i. book_of (settle_is i) (closed_is i) (needs_is i) (lines_is i)

pub parts-keep : (held : List Flow) (book : BookContents) (settle : ℤ) (closed : Closings) (needs : List Flow) (lines : List Line) → IsBook book → settle ≡ book.days.settle
    → closed ≡ book.days.closed → needs ≡ residual_of book.needs held → lines ≡ book.lines → IsBook (book_of settle closed needs lines)
parts-keep held book settle closed needs lines h settle_is closed_is needs_is lines_is =
    subst IsBook (sym (parts-are held book settle closed needs lines settle_is closed_is needs_is lines_is)) (book-is held book h)

-- ---- the case
pub ordered : (book : BookContents) → IsBook book → ComeInOrder book.needs
ordered book h = rise-in_order book.needs h.needs.rising

pub case-is : (held : List Flow) (case : CaseContents) → IsBook case.book → IsHeldCase held case (held_case_of case held)
case-is held case h = record {
  needs = residual-is case.book.needs held (ordered case.book h);
  days = refl;
  lines = refl;
  limit = refl;
  allowance = refl;
  budget = refl;
}

pub cases-are_alike : HeldCasesAreAlike
cases-are_alike held case h =
    let is = residual-is case.book.needs held (ordered case.book h) in
    let residual = residual_of case.book.needs held in
    record {
      meet = meet-alike held residual case.book is;
      short = short-alike held residual case.book is;
      rivals = rivals-alike case.limit held residual case.book is;
    }

pub cases-keep_limits : HeldCasesKeepLimits
cases-keep_limits held case h = book-is held case.book h

only-case : (held : List Flow) (case kept : CaseContents) → IsBook case.book → IsHeldCase held case kept → kept ≡ held_case_of case held
only-case held case kept h is =
    let needs = (residuals-are_one case.book.needs held kept.book.needs (ordered case.book h)).0 is.needs in
    λ i. record { book = record { days = is.days i; needs = needs i; lines = is.lines i }; limit = is.limit i; allowance = is.allowance i; budget = is.budget i }

pub cases-are_one : HeldCasesAreOne
cases-are_one held case kept h = (only-case held case kept h, λ same. subst (IsHeldCase held case) (sym same) (case-is held case h))

-- ---- a case with a book beside holdings
abbrev IsBeside : List Flow → BookContents → BookContents → Type 0
IsBeside held book kept = kept ≡ with_needs book (residual_of book.needs held)

own-residual : (held : List Flow) (book kept : BookContents) → IsBeside held book kept → IsResidual book.needs held kept.needs → IsResidual book.needs held (residual_of book.needs held)
own-residual held book kept is residual = subst (λ (b : BookContents). IsResidual book.needs held b.needs) is residual

pub kept-is : (held : List Flow) (case : CaseContents) (kept : BookContents) → IsBeside held case.book kept → IsResidual case.book.needs held kept.needs
    → IsHeldCase held case (record case { book = kept })
kept-is held case kept is residual = record {
  needs = residual;
  days = ap (λ (b : BookContents). b.days) is;
  lines = ap (λ (b : BookContents). b.lines) is;
  limit = refl;
  allowance = refl;
  budget = refl;
}

pub kept-meets : (held : List Flow) (book kept : BookContents) → IsBeside held book kept → IsResidual book.needs held kept.needs → MeetAlike held book kept
kept-meets held book kept is residual =
    subst (MeetAlike held book) (sym is) (meet-alike held (residual_of book.needs held) book (own-residual held book kept is residual))

pub kept-short : (held : List Flow) (book kept : BookContents) → IsBeside held book kept → IsResidual book.needs held kept.needs → AreShortAlike held book kept
kept-short held book kept is residual =
    subst (AreShortAlike held book) (sym is) (short-alike held (residual_of book.needs held) book (own-residual held book kept is residual))

pub kept-rivals : (limit : ℕ) (held : List Flow) (book kept : BookContents) → IsBeside held book kept → IsResidual book.needs held kept.needs → RivalsAlike limit held book kept
kept-rivals limit held book kept is residual =
    subst (RivalsAlike limit held book) (sym is) (rivals-alike limit held (residual_of book.needs held) book (own-residual held book kept is residual))

pub kept-itself : (held : List Flow) (book kept : BookContents) → IsBook book → IsBeside held book kept → held ≡ [] → kept ≡ book
kept-itself held book kept h is none =
    is ∙ ap (λ (l : List Flow). with_needs book (residual_of book.needs l)) none ∙ ap (with_needs book) (none-held book.needs h.needs.rising h.needs.positive)
