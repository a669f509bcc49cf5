-- Where securities are bought, one pays above 0 at an index of 1 or more.
use Rattle.std.proofs.Common.{◌≡◌, ◌∙◌, ◌⊎◌, ℕ, zero, suc, ◌<◌, ◌≤◌, ◌<ℤ◌, refl, sym, ap, subst, arith, ℤ, pos, ◌+ℤ◌, ◌≤ℤ◌, inl, inr, List, [], ◌∷◌, ◌++◌}
use Rattle.std.specs.Ordering.{int_eq}
use Rattle.std.specs.List.{All, Any, flat_map, zip}
use Rattle.std.proofs.lemmas.Bool.{cases_lt}
use Rattle.std.proofs.lemmas.Int.{ints}
use Rattle.std.proofs.lemmas.List.{length-map, get_or-map}
use Rattle.std.proofs.lemmas.List.Elements.{All-head, All-tail, All-nil, All-append, All-weaker}
use Rattle.std.proofs.lemmas.List.Sums.{sum_by-cons}
use Rattle.escrow_units.specs.Calendar.{years_after_of}
use Rattle.escrow_units.specs.DayNumber.{IsDayNumber}
use Rattle.escrow_units.specs.Flows.{FallWithinFortyYears, index360_of, indexed, total}
use Rattle.escrow_units.specs.PresentValue.{IndexedFlow}
use Rattle.escrow_units.specs.SlgsTerms.{IsSettlement}
use Rattle.escrow_units.specs.declared.security.Flow.{Flow}
use Rattle.escrow_units.proofs.FlowFacts.{choice-true}
use Rattle.escrow_units.proofs.DayFacts.{thirty_day_place_of-mono}
use Rattle.escrow_units.proofs.IndexFacts.{thirty_day_place_of-apart}
use Rattle.escrow_units.proofs.OpenDayFacts.{open_day-least}
use Rattle.escrow_units.specs.OpenDays.{open_day}
use Rattle.std.proofs.lemmas.Bool.Decides.{Decides-int_eq}
use Rattle.escrow_units.proofs.YearFacts.{settlement-base}
use Rattle.fixed_powers.specs.PresentValues.{HasLaterAmount}
use Rattle.day_sums.specs.Summed.{cents_on, summed}
use Rattle.day_sums.specs.SummedLaws.{AreAboveZero}
use Rattle.day_sums.proofs.SumFacts.{above-summed, count-summed}
use Rattle.day_sums.proofs.Uniqueness.{here, here-same}
use Rattle.market_notes.specs.declared.note.Note.{Note}
use Rattle.market_notes.proofs.AmountFacts.{dates-counted}
use Rattle.market_notes.proofs.FlowFacts.{note_flows, paid_on, payments-last}
use Rattle.market_notes.proofs.SeriesFacts.{term}
use Rattle.slgs_interest.proofs.PaymentFacts.{slgs_flows}
use Rattle.offer_book.specs.declared.line.LineKind.{LineKind}
use Rattle.offer_book.specs.declared.line.LineKind.TheVariants.{Cash, Market, Security}
use Rattle.offer_book.specs.declared.line.Line.{Line}
use Rattle.offer_book.specs.Book.{AreLines, BookContents, EndsInTime, IsBook, IsSecurity, IsSecurityLine, OpensInTime}
use Rattle.offer_book.specs.Portfolio.{par, security_flows}
use Rattle.offer_book.proofs.LineFacts.{is_paid, kind_flows, line_payments-none, line_payments-par, line_payments-within, par-some, slgs_flows-late}
use Rattle.cash_table.specs.LaterFlows.{HaveLaterAmount}
use Rattle.cash_table.proofs.BalanceLaws.{any_here, any_later, some_on}
use Rattle.cash_table.proofs.PaymentFacts.{pair_payments, total-payments}
use Rattle.cash_table.proofs.PortfolioLaws.{empty_from_nothing}
use Rattle.cash_table.proofs.ZipFacts.{sum_by-zero}
use Rattle.offer_book.specs.declared.payment_days.PaymentDays.{PaymentDays}

-- an amount above 0 at an index of 1 or more
abbrev IsLaterAmount : ℤ → Flow → Type 0
IsLaterAmount settle flow = (0 < flow.cents.0) × (1 ≤ index360_of settle flow.day)

-- elements of one of two lists
any_front : {X : Type 0} (P : X → Type 0) (xs ys : List X) → Any P xs → Any P (xs ++ ys)
any_front P [] ys (k, x, within, at, holds) = absurd (omega (arith, within))
any_front P (y ∷ xs) ys (zero, x, within, at, holds) = any_here P y (xs ++ ys) (subst P (sym at) holds)
any_front P (y ∷ xs) ys (suc k, x, within, at, holds) = any_later P y (xs ++ ys) (any_front P xs ys (k, x, omega (arith, within), at, holds))

any_back : {X : Type 0} (P : X → Type 0) (xs ys : List X) → Any P ys → Any P (xs ++ ys)
any_back P [] ys any = any
any_back P (x ∷ xs) ys any = any_later P x (xs ++ ys) (any_back P xs ys any)

-- a day of 15 days after settlement or later has an index of at least 1
index_some : (settle day : ℤ) → IsSettlement settle → (settle +ℤ pos 15) ≤ℤ day → day ≤ℤ years_after_of settle 40 → 1 ≤ index360_of settle day
index_some settle day h late within =
    let own : IsDayNumber settle = (omega (arith, ints, h.0), omega (arith, ints, h.1)) in
    let base = settlement-base settle day h (omega (arith, ints, late)) within in
    let is_day : IsDayNumber day = (omega (arith, ints, base.0), omega (arith, ints, base.1)) in
    omega (arith, thirty_day_place_of-apart settle day own is_day (omega (arith, ints, late)))

-- amounts that come to something have one above 0
some_above : (settle : ℤ) (flows : List Flow) → IsSettlement settle → All (λ flow. (settle +ℤ pos 15) ≤ℤ flow.day) flows → FallWithinFortyYears settle flows → 0 < total flows → Any (IsLaterAmount settle) flows
some_above settle [] h late within some = absurd (omega (arith, some))
some_above settle (flow ∷ flows) h late within some = elim (cases_lt 0 flow.cents.0) [
  | inl above ↦
      any_here (IsLaterAmount settle) flow flows
      (above, index_some settle flow.day h (All-head (λ (f : Flow). (settle +ℤ pos 15) ≤ℤ f.day) flow flows late) (All-head (λ (f : Flow). (settle ≤ℤ f.day) × (f.day ≤ℤ years_after_of settle 40)) flow flows within).1)
  | inr none ↦
      any_later (IsLaterAmount settle) flow flows
      (some_above settle flows h (All-tail (λ (f : Flow). (settle +ℤ pos 15) ≤ℤ f.day) flow flows late) (All-tail (λ (f : Flow). (settle ≤ℤ f.day) × (f.day ≤ℤ years_after_of settle 40)) flow flows within)
      (omega (arith, some, none, sum_by-cons (λ (f : Flow). f.cents.0) flow flows)))
]

-- a day that isn't earlier has no less an index
index_more : (settle day opens : ℤ) → IsSettlement settle → settle ≤ℤ day → 1 ≤ index360_of settle day → day ≤ℤ opens → opens ≤ℤ years_after_of settle 40 → 1 ≤ index360_of settle opens
index_more settle day opens h from index later within =
    let base = settlement-base settle day h from (omega (arith, ints, later, within)) in
    let opens_base = settlement-base settle opens h (omega (arith, ints, from, later)) within in
    let is_day : IsDayNumber day = (omega (arith, ints, base.0), omega (arith, ints, base.1)) in
    let is_opens : IsDayNumber opens = (omega (arith, ints, opens_base.0), omega (arith, ints, opens_base.1)) in
    omega (arith, index, thirty_day_place_of-mono day opens is_day is_opens later)

-- a note pays its face on the open day of its maturity
note_later : (days : PaymentDays) (note : Note) (face : ℕ) → IsSettlement days.settle → IsSecurity days (Market note) → OpensInTime days note.maturity → 1 ≤ face → Any (IsLaterAmount days.settle) (note_flows note days.closed face)
note_later days note face h security ends some =
    let dates = dates-counted note security.1 in
    let «end» = payments-last note days.closed face dates.count (term note security.1) dates.has in
    let last = paid_on note days.closed face note.maturity in
    let principal = choice-true (int_eq note.maturity note.maturity) face 0 ((Decides-int_eq note.maturity note.maturity).1 refl) in
    let index : 1 ≤ index360_of days.settle note.maturity = subst (λ day. 1 ≤ index360_of day note.maturity) security.0 security.1.index in
    let opens = (open_day-least days.closed note.maturity).from in
    let from : days.settle <ℤ note.maturity = rw security.0 at security.1.after in
    let more = index_more days.settle note.maturity (open_day days.closed note.maturity) h (omega (arith, ints, from)) index opens ends in
    rw «end».order (any_back (IsLaterAmount days.settle) «end».before (last ∷ []) (any_here (IsLaterAmount days.settle) last [] (omega (arith, principal, some), more)))

-- a bought security pays later
line_later : (days : PaymentDays) (line : Line) (units : ℕ) → IsSettlement days.settle → IsSecurityLine days line → 1 ≤ units → Any (IsLaterAmount days.settle) (pair_payments days (line, units))
line_later days line units h security some =
    of_kind line.kind refl
  where
    of_kind : (kind : LineKind) → line.kind ≡ kind → Any (IsLaterAmount days.settle) (pair_payments days (line, units))
    of_kind Cash is = absurd (subst (IsSecurity days) is security.security)
    of_kind (Security slgs) is =
        let own = subst (IsSecurity days) is security.security in
        let pays : pair_payments days (line, units) ≡ slgs_flows slgs days.closed (par line units) = ap (λ (kind : LineKind). kind_flows days kind (par line units)) is in
        let late : All (λ flow. (days.settle +ℤ pos 15) ≤ℤ flow.day) (slgs_flows slgs days.closed (par line units)) =
        All-weaker (λ (flow : Flow). (slgs.settle +ℤ pos 15) ≤ℤ flow.day) (λ flow. (days.settle +ℤ pos 15) ≤ℤ flow.day) (λ flow far. omega (arith, ints, far, own.0)) (slgs_flows slgs days.closed (par line units)) (slgs_flows-late slgs days.closed (par line units) (is_paid days slgs h own)) in
        some_above days.settle (pair_payments days (line, units)) h (rw pays late) (line_payments-within days line units h (inr security))
        (omega (arith, line_payments-par days line units h security, par-some days line units security some))
    of_kind (Market note) is =
        let own = subst (IsSecurity days) is security.security in
        let pays : pair_payments days (line, units) ≡ note_flows note days.closed (par line units) = ap (λ (kind : LineKind). kind_flows days kind (par line units)) is in
        rw pays (note_later days note (par line units) h own (subst (EndsInTime days) is security.ends) (omega (arith, par-some days line units security some)))

abbrev AreNone : List Flow → Type 0
AreNone flows = All (λ flow. flow.cents.0 ≡ 0) flows

-- nothing is paid, or something later
lines_later : (days : PaymentDays) (lines : List Line) (plan : List ℕ) → IsSettlement days.settle → All (IsSecurityLine days) lines
    → AreNone (flat_map (pair_payments days) (zip lines plan)) ⊎ Any (IsLaterAmount days.settle) (flat_map (pair_payments days) (zip lines plan))
lines_later days [] plan h securities = inl (All-nil (λ (flow : Flow). flow.cents.0 ≡ 0))
lines_later days (line ∷ lines) [] h securities = inl (All-nil (λ (flow : Flow). flow.cents.0 ≡ 0))
lines_later days (line ∷ lines) (units ∷ plan) h securities =
    let first = pair_payments days (line, units) in
    let others = flat_map (pair_payments days) (zip lines plan) in
    elim (cases_lt 0 units) [
      | inl some ↦ inr (any_front (IsLaterAmount days.settle) first others (line_later days line units h (All-head (IsSecurityLine days) line lines securities) some))
      | inr none ↦ elim (lines_later days lines plan h (All-tail (IsSecurityLine days) line lines securities)) [
        | inl nothing ↦ inl (All-append (λ (flow : Flow). flow.cents.0 ≡ 0) first others (line_payments-none days line units (omega (arith, none))) nothing)
        | inr later ↦ inr (any_back (IsLaterAmount days.settle) first others later)
      ]
    ]

-- an amount of a day above 0 is in the sums
on_any : (day : ℤ) (flows : List Flow) → Any (λ flow. (0 < flow.cents.0) × (flow.day ≡ day)) flows → 0 < cents_on day flows
on_any day [] (k, x, within, at, holds) = absurd (omega (arith, within))
on_any day (flow ∷ flows) (zero, x, within, at, holds) =
    let own = subst (λ (f : Flow). (0 < f.cents.0) × (f.day ≡ day)) (sym at) holds in
    omega (arith, sum_by-cons (here day) flow flows, here-same day flow own.1, own.0)
on_any day (flow ∷ flows) (suc k, x, within, at, holds) =
    omega (arith, sum_by-cons (here day) flow flows, on_any day flows (k, x, omega (arith, within), at, holds))

indexed_later : (settle day : ℤ) (flows : List Flow) → AreAboveZero flows → Any (λ flow. flow.day ≡ day) flows → 1 ≤ index360_of settle day → HasLaterAmount (indexed settle flows)
indexed_later settle day flows above (k, x, within, at, falls) index =
    let entry : Flow → IndexedFlow = λ flow. record { index = index360_of settle flow.day; cents = flow.cents.0 } in
    let some : 1 ≤ x.cents.0 = rw at at (above k x within) in (
      k,
      entry x,
      omega (arith, within, length-map flows entry),
      get_or-map entry flows k x (entry x) within ∙ ap entry at,
      (omega (arith, some), rw falls index),
    )

sums_later : (settle : ℤ) (flows : List Flow) → Any (IsLaterAmount settle) flows → HasLaterAmount (indexed settle (summed flows))
sums_later settle flows (k, x, within, at, holds) =
    let on = on_any x.day flows (k, x, within, at, (holds.0, refl)) in
    let summed_up : cents_on x.day (summed flows) ≡ cents_on x.day flows = count-summed (λ d. int_eq d x.day) flows in
    indexed_later settle x.day (summed flows) (above-summed flows) (some_on x.day (summed flows) (omega (arith, on, summed_up))) holds.1

pub flows_later : (book : BookContents) (plan : List ℕ) → IsBook book → HaveLaterAmount book.days.settle (security_flows book plan)
flows_later book plan limits = of_lines book.lines plan limits.lines refl
  where
    of_lines : (lines : List Line) (plan : List ℕ) → AreLines book.days lines → book.lines ≡ lines → HaveLaterAmount book.days.settle (security_flows book plan)
    of_lines [] plan are is = absurd are
    of_lines (cash ∷ securities) [] are is = inl (empty_from_nothing book [] (rw is refl))
    of_lines (cash ∷ securities) (units ∷ plan) are is = elim (lines_later book.days securities plan limits.settlement are.1) [
      | inl nothing ↦
          inl (empty_from_nothing book (units ∷ plan)
          (rw is (omega (arith, total-payments book.days (zip securities plan), sum_by-zero (λ (flow : Flow). flow.cents.0) (flat_map (pair_payments book.days) (zip securities plan)) nothing))))
      | inr later ↦ inr (rw is (sums_later book.days.settle (flat_map (pair_payments book.days) (zip securities plan)) later))
    ]
