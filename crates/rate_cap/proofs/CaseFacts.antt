-- Cases at a cap, and their tops.
use Rattle.std.proofs.Common.{◌≡◌, ◌∙◌, ℕ, ◌<◌, ◌≤◌, min, refl, sym, ap, subst, arith, Bool, true, false, if◌then◌else◌, List, [], ◌∷◌, ◌++◌, length, map, take, ℤ, pos, ◌+ℤ◌, ◌≤ℤ◌, Option, Some, None}
use Rattle.std.specs.Prelude.{All, IfSome, ◌==◌}
use Rattle.std.specs.List.{AllZip, cons_option}
use Rattle.std.proofs.lemmas.Bool.Decides.{nat_tests}
use Rattle.std.proofs.lemmas.Int.{ints}
use Rattle.std.proofs.lemmas.List.{append-nil, length-map, take_all}
use Rattle.std.proofs.lemmas.List.Elements.{All-contains, All-head, All-map, All-nil, All-push, All-tail, All-weaker, Contains-append_left, filter_map-append}
use Rattle.std.proofs.lemmas.Slice.Zip.{AllZip-map}
use Rattle.escrow_units.specs.OpenDays.{Closings}
use Rattle.escrow_units.specs.SlgsTerms.{IsSlgs, shortest_term}
use Rattle.escrow_units.specs.declared.amount.Rate.{Rate}
use Rattle.escrow_units.specs.declared.security.Flow.{Flow}
use Rattle.escrow_units.specs.declared.security.Slgs.{Slgs}
use Rattle.rate_table.specs.Table.{IsTableRate}
use Rattle.offer_book.specs.Book.{AreLines, BookContents, EndsInTime, IsBook, IsCashLine, IsSecurity, IsSecurityLine}
use Rattle.offer_book.specs.declared.line.Line.{Line}
use Rattle.offer_book.specs.declared.line.LineKind.{LineKind}
use Rattle.offer_book.specs.declared.line.LineKind.TheVariants.{Cash, Market, Security}
use Rattle.offer_book.specs.declared.payment_days.PaymentDays.{PaymentDays}
use Rattle.case_file.specs.Case.{CaseContents}
use Rattle.rate_cap.proofs.CapFacts.{greatest-one, greatest-push, same-rate, zero-rate}
use Rattle.rate_cap.specs.CaseAt.{CasesAtCapsAreOne, IsAtCap, IsItselfFromTop, IsTopOf, case_at, kind_at, line_at, slgs_rate, slgs_rates}
use Rattle.rate_cap.specs.Search.{IsGreatest}

-- ---- a book at a cap is a book
pub shorter : (low high : ℕ) → low ≤ high → shortest_term low ≤ shortest_term high
shorter low high h = at (low == 0) (high == 0) refl refl
  where
    at : (s t : Bool) → (low == 0) ≡ s → (high == 0) ≡ t → (if s then 15 else 30) ≤ (if t then 15 else 30)
    at true true p q = omega arith
    at true false p q = omega arith
    at false true p q = absurd (grind (arith, nat_tests))
    at false false p q = omega arith

pub sooner : (settle maturity : ℤ) (a b : ℕ) → a ≤ b → (settle +ℤ pos b) ≤ℤ maturity → (settle +ℤ pos a) ≤ℤ maturity
sooner settle maturity a b less least = omega (arith, ints, less, least)

slgs-at : (cap : Rate) (slgs : Slgs) → IsSlgs slgs → IsSlgs (record slgs { rate = record { 0 = min slgs.rate.0 cap.0 } })
slgs-at cap slgs h =
    let term : shortest_term (min slgs.rate.0 cap.0) ≤ shortest_term slgs.rate.0 = shorter (min slgs.rate.0 cap.0) slgs.rate.0 (omega arith) in
    record {
      least = sooner slgs.settle slgs.maturity (shortest_term (min slgs.rate.0 cap.0)) (shortest_term slgs.rate.0) term h.least;
      most = h.most;
      kind = h.kind;
      first = h.first;
    }

security-at : (days : PaymentDays) (cap : Rate) (kind : LineKind) → IsSecurity days kind → IsSecurity days (kind_at cap kind)
security-at days cap Cash h = absurd h
security-at days cap (Security slgs) h = (h.0, slgs-at cap slgs h.1, lesser slgs.rate.0 cap.0 h.2)
  where
    lesser : (a b : ℕ) → a ≤ 30_000 → min a b ≤ 30_000
    lesser a b few = omega (arith, few)
security-at days cap (Market note) h = h

-- a cap moves no maturity
ends-at : (days : PaymentDays) (cap : Rate) (kind : LineKind) → EndsInTime days kind → EndsInTime days (kind_at cap kind)
ends-at days cap Cash h = h
ends-at days cap (Security slgs) h = h
ends-at days cap (Market note) h = h

security-line : (days : PaymentDays) (cap : Rate) (line : Line) → IsSecurityLine days line → IsSecurityLine days (line_at cap line)
security-line days cap line h = record {
  security = security-at days cap line.kind h.security;
  ends = ends-at days cap line.kind h.ends;
  whole_dollars = h.whole_dollars;
  step_at_least = h.step_at_least;
  step_at_most = h.step_at_most;
  least = h.least;
  least_purchase = h.least_purchase;
  ordered = h.ordered;
  cap = h.cap;
}

cash-line : (cap : Rate) (line : Line) → IsCashLine line → IsCashLine (line_at cap line)
cash-line cap line h = record { kind = ap (kind_at cap) h.kind; step = h.step; least = h.least; most = h.most }

lines-at : (days : PaymentDays) (cap : Rate) (lines : List Line) → AreLines days lines → AreLines days (map (line_at cap) lines)
lines-at days cap [] h = absurd h
lines-at days cap (cash ∷ securities) h = (
  cash-line cap cash h.0,
  All-map (IsSecurityLine days) (line_at cap) securities
      (All-weaker (IsSecurityLine days) (λ line. IsSecurityLine days (line_at cap line)) (security-line days cap) securities h.1),
  omega (arith, length-map securities (line_at cap), h.2),
)

book-at : (cap : Rate) (book : BookContents) → IsBook book → IsBook (record book { lines = map (line_at cap) book.lines })
book-at cap book h = record { settlement = h.settlement; needs = h.needs; lines = lines-at book.days cap book.lines h.lines }

abbrev book_of : ℤ → Closings → List Flow → List Line → BookContents
book_of settle closed needs lines = record { days = record { settle = settle; closed = closed }; needs = needs; lines = lines }

pub book-is : (cap : Rate) (book : BookContents) (settle : ℤ) (closed : Closings) (needs : List Flow) (lines : List Line) → IsBook book → settle ≡ book.days.settle
    → closed ≡ book.days.closed → needs ≡ book.needs → lines ≡ map (line_at cap) book.lines
    → IsBook (record { days = record { settle = settle; closed = closed }; needs = needs; lines = lines })
book-is cap book settle closed needs lines h settle_is closed_is needs_is lines_is =
    let same : book_of settle closed needs lines ≡ book_of book.days.settle book.days.closed book.needs (map (line_at cap) book.lines) =
    λ i. book_of (settle_is i) (closed_is i) (needs_is i) (lines_is i) in
    subst IsBook (sym same) (book-at cap book h)

-- ---- at a cap from the top on a case is itself
abbrev with_kind : Line → LineKind → Line
with_kind line kind = record line { kind = kind }

abbrev with_rate : Slgs → ℕ → LineKind
with_rate slgs n = Security (record slgs { rate = record { 0 = n } })

lesser-own : (a b : ℕ) → a ≤ b → min a b ≡ a
lesser-own a b h = omega (arith, h)

same-kind : (cap : Rate) (kind : LineKind) → IfSome (slgs_rate kind) (λ rate. rate.0 ≤ cap.0) → kind_at cap kind ≡ kind
same-kind cap Cash h = refl
same-kind cap (Security slgs) h = ap (with_rate slgs) (lesser-own slgs.rate.0 cap.0 h)
same-kind cap (Market note) h = refl

split-option : (P : Rate → Type 0) (own : Option Rate) (rates : List Rate) → All P (cons_option own rates) → IfSome own P × All P rates
split-option P None rates all = (tt, all)
split-option P (Some rate) rates all = (All-head P rate rates all, All-tail P rate rates all)

same-lines : (cap : Rate) (lines : List Line) → All (λ rate. rate.0 ≤ cap.0) (slgs_rates lines) → map (line_at cap) lines ≡ lines
same-lines cap [] all = refl
same-lines cap (line ∷ lines) all =
    let parts = split-option (λ (rate : Rate). rate.0 ≤ cap.0) (slgs_rate line.kind) (slgs_rates lines) all in
    ap (λ (own : LineKind). with_kind line own ∷ map (line_at cap) lines) (same-kind cap line.kind parts.0)
    ∙ ap (λ (rest : List Line). line ∷ rest) (same-lines cap lines parts.1)

below-top : (rates : List Rate) (top cap : Rate) → IsTopOf rates top → top.0 ≤ cap.0 → All (λ rate. rate.0 ≤ cap.0) rates
below-top [] top cap h few = All-nil (λ (rate : Rate). rate.0 ≤ cap.0)
below-top (rate ∷ rates) top cap h few =
    All-weaker (λ (other : Rate). other.0 ≤ top.0) (λ other. other.0 ≤ cap.0) (λ other less. omega (arith, less, few)) (rate ∷ rates) h.greatest

-- ---- the case at a cap
abbrev with_lines : CaseContents → List Line → CaseContents
with_lines case lines = record case { book = record case.book { lines = lines } }

pub is-itself : (cap : Rate) (case : CaseContents) (book : BookContents) → book ≡ record case.book { lines = map (line_at cap) case.book.lines }
    → IsItselfFromTop cap case (record case { book = book })
is-itself cap case book is top greatest few =
    ap (λ (own : BookContents). record case { book = own }) is
    ∙ ap (with_lines case) (same-lines cap case.book.lines (below-top (slgs_rates case.book.lines) top cap greatest few))

zip-map : (f : Line → Line) (lines : List Line) → AllZip (λ line other. other ≡ f line) lines (map f lines)
zip-map f [] = tt
zip-map f (line ∷ lines) = (refl, zip-map f lines)

at-case : (cap : Rate) (case : CaseContents) → IsAtCap cap case (case_at cap case)
at-case cap case = record {
  lines = zip-map (line_at cap) case.book.lines;
  days = refl;
  needs = refl;
  limit = refl;
  allowance = refl;
  budget = refl;
}

pub is-at : (cap : Rate) (case : CaseContents) (book : BookContents) → book ≡ record case.book { lines = map (line_at cap) case.book.lines }
    → IsAtCap cap case (record case { book = book })
is-at cap case book is = subst (λ (own : BookContents). IsAtCap cap case (record case { book = own })) (sym is) (at-case cap case)

abbrev case_of : PaymentDays → List Flow → List Line → ℕ → ℕ → ℕ → CaseContents
case_of days needs lines limit allowance budget = record {
  book = record { days = days; needs = needs; lines = lines };
  limit = limit;
  allowance = allowance;
  budget = budget;
}

one-at : (cap : Rate) (case other : CaseContents) → IsAtCap cap case other → other ≡ case_at cap case
one-at cap case other h =
    let lines : other.book.lines ≡ map (line_at cap) case.book.lines = AllZip-map (line_at cap) case.book.lines other.book.lines h.lines in
    λ i. case_of (h.days i) (h.needs i) (lines i) (h.limit i) (h.allowance i) (h.budget i)

pub cases-are_one : CasesAtCapsAreOne
cases-are_one cap case other = (one-at cap case other, λ same. subst (IsAtCap cap case) (sym same) (at-case cap case))

-- ---- the top
more-rates : (lines : List Line) (line : Line) → slgs_rates (lines ++ line ∷ []) ≡ slgs_rates lines ++ cons_option (slgs_rate line.kind) []
more-rates lines line = filter_map-append (λ (own : Line). slgs_rate own.kind) lines (line ∷ [])

top-raised : (rates : List Rate) (top rate : Rate) → IsTopOf rates top → top.0 < rate.0 → IsTopOf (rates ++ rate ∷ []) rate
top-raised [] top rate h above = greatest-one rate
top-raised (own ∷ rates) top rate h above = greatest-push (own ∷ rates) top rate h (omega (arith, above))

top-stays : (rates : List Rate) (top rate : Rate) → IsTopOf rates top → rate.0 ≤ top.0 → IsTopOf (rates ++ rate ∷ []) top
top-stays [] top rate h few =
    let none : top.0 ≡ 0 = ap (λ (own : Rate). own.0) h in
    subst (IsGreatest (rate ∷ [])) (same-rate rate top (omega (arith, none, few))) (greatest-one rate)
top-stays (own ∷ rates) top rate h few = record {
  among = Contains-append_left (own ∷ rates) (rate ∷ []) top h.among;
  greatest = All-push (λ (other : Rate). other.0 ≤ top.0) (own ∷ rates) rate h.greatest few;
}

abbrev IsTopOfLines : List Line → Rate → Type 0
IsTopOfLines lines top = IsTopOf (slgs_rates lines) top

pub top-other : (lines : List Line) (line : Line) (top : Rate) → slgs_rate line.kind ≡ None → IsTopOf (slgs_rates lines) top → IsTopOf (slgs_rates (lines ++ line ∷ [])) top
top-other lines line top none h =
    let rates : slgs_rates (lines ++ line ∷ []) ≡ slgs_rates lines =
    more-rates lines line ∙ ap (λ (own : Option Rate). slgs_rates lines ++ cons_option own []) none ∙ append-nil (slgs_rates lines) in
    subst (λ (own : List Rate). IsTopOf own top) (sym rates) h

more-slgs : (lines : List Line) (line : Line) (rate : Rate) → slgs_rate line.kind ≡ Some rate → slgs_rates (lines ++ line ∷ []) ≡ slgs_rates lines ++ rate ∷ []
more-slgs lines line rate is = more-rates lines line ∙ ap (λ (own : Option Rate). slgs_rates lines ++ cons_option own []) is

pub top-rises : (lines : List Line) (line : Line) (top rate : Rate) → slgs_rate line.kind ≡ Some rate → top.0 < rate.0 → IsTopOf (slgs_rates lines) top
    → IsTopOf (slgs_rates (lines ++ line ∷ [])) rate
top-rises lines line top rate is above h =
    subst (λ (own : List Rate). IsTopOf own rate) (sym (more-slgs lines line rate is)) (top-raised (slgs_rates lines) top rate h above)

pub top-kept : (lines : List Line) (line : Line) (top rate : Rate) → slgs_rate line.kind ≡ Some rate → rate.0 ≤ top.0 → IsTopOf (slgs_rates lines) top
    → IsTopOf (slgs_rates (lines ++ line ∷ [])) top
top-kept lines line top rate is few h =
    subst (λ (own : List Rate). IsTopOf own top) (sym (more-slgs lines line rate is)) (top-stays (slgs_rates lines) top rate h few)

top-cap : (rates : List Rate) (top : Rate) → All IsTableRate rates → IsTopOf rates top → IsTableRate top
top-cap [] top all h = subst IsTableRate (sym h) zero-rate
top-cap (rate ∷ rates) top all h = All-contains IsTableRate (rate ∷ rates) top all h.among

pub top-end : (lines all : List Line) (place : ℕ) (top : Rate) → lines ≡ all → length lines ≤ place → All IsTableRate (slgs_rates all)
    → IsTopOf (slgs_rates (take place lines)) top → IsTableRate top
top-end lines all place top same whole rates h =
    let is : take place lines ≡ all = take_all place lines whole ∙ same in
    top-cap (slgs_rates all) top rates (subst (λ (own : List Line). IsTopOf (slgs_rates own) top) is h)
