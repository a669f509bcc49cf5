-- What securities are worth, line by line, and which portfolios are no rivals.
use Rattle.std.proofs.Common.{◌≡◌, ◌∙◌, ◌↔◌, ◌⊎◌, ℕ, ◌+◌, ◌-◌, ◌*◌, ◌^◌, ◌<◌, ◌≤◌, refl, sym, ap, arith, ℤ, ◌≤ℤ◌, inl, inr, Bool, true, false, ◌||◌, nat_lt, is_some, IsTrue, List, [], ◌∷◌, ◌++◌, length, drop, get_or, take, Option, Some, None, MatchOption}
use Rattle.std.specs.List.{All, flat_map, sum_by, zip}
use Rattle.std.proofs.lemmas.Bool.{lt-ltb, ltb-true}
use Rattle.std.proofs.lemmas.Int.{ints}
use Rattle.std.proofs.lemmas.List.{map-append}
use Rattle.std.proofs.lemmas.List.Elements.{All-map}
use Rattle.std.proofs.lemmas.List.Sums.{sum_by-cons, sum_by-append}
use Rattle.escrow_units.specs.Calendar.{IsBaseDay, years_after_of}
use Rattle.escrow_units.specs.DayNumber.{IsDayNumber}
use Rattle.escrow_units.specs.Flows.{FallWithinFortyYears, index360_of, indexed}
use Rattle.escrow_units.specs.PresentValue.{IndexedFlow}
use Rattle.escrow_units.specs.SlgsTerms.{IsSettlement}
use Rattle.escrow_units.specs.declared.security.Flow.{Flow}
use Rattle.escrow_units.proofs.DayFacts.{thirty_day_place_of-years}
use Rattle.escrow_units.proofs.YearFacts.{settlement-base}
use Rattle.day_sums.specs.Summed.{summed}
use Rattle.day_sums.specs.SummedLaws.{weighted}
use Rattle.day_sums.proofs.Uniqueness.{keep-weighted}
use Rattle.fixed_powers.specs.DiscountPowers.{one, power_of}
use Rattle.fixed_powers.specs.PresentValues.{present_value}
use Rattle.fixed_powers.specs.declared.side.Side.{Side}
use Rattle.fixed_powers.proofs.PresentValueFacts.{low_value-excludes, value-within}
use Rattle.yield_enclosure.specs.YieldAnswers.{is_within, yield_answer_of}
use Rattle.yield_enclosure.proofs.EndFacts.{total-indexed}
use Rattle.yield_enclosure.proofs.LimitFacts.{dearer_below_limit, nothing_within}
use Rattle.offer_book.specs.declared.line.Line.{Line}
use Rattle.offer_book.specs.Book.{BookContents, IsBook}
use Rattle.offer_book.specs.Portfolio.{IsFirstShort, IsPermitted, Meets, security_cost, security_flows}
use Rattle.offer_book.proofs.LineFacts.{line_payments-none}
use Rattle.cash_table.specs.First.{first_short_of}
use Rattle.cash_table.specs.Points.{BeyondLimitAreExcluded, BeyondLimitAreNoRivals, ExcludedAreNoRivals, IsExcluded, IsShort, is_excluded, low_value}
use Rattle.cash_table.proofs.DayFacts.{first_short_is}
use Rattle.cash_table.proofs.FlowFacts.{flows_within, securities_at_most}
use Rattle.cash_table.proofs.LaterFacts.{flows_later}
use Rattle.cash_table.proofs.PaymentFacts.{pair_payments}
use Rattle.cash_table.proofs.ZipFacts.{sum_by-at_room, sum_by-zero}
use Rattle.offer_book.specs.declared.payment_days.PaymentDays.{PaymentDays}

-- what a line's payments are worth, as a function of its pair
abbrev pub pair_value : Side → ℕ → PaymentDays → Line × ℕ → ℕ
pair_value side n days p = present_value side n (indexed days.settle (pair_payments days p))

value_of : Side → ℕ → IndexedFlow → ℕ
value_of side n flow = flow.cents * power_of side n flow.index

-- a present value weighs each amount by its day
pub value-weighted : (side : Side) (n : ℕ) (settle : ℤ) (flows : List Flow) → present_value side n (indexed settle flows) ≡ weighted (λ day. power_of side n (index360_of settle day)) flows
unfolding value_of
value-weighted side n settle [] = refl
value-weighted side n settle (flow ∷ flows) =
    let first : IndexedFlow = record { index = index360_of settle flow.day; cents = flow.cents.0 } in
    omega (
      arith,
      sum_by-cons (value_of side n) first (indexed settle flows),
      sum_by-cons (λ (f : Flow). f.cents.0 * power_of side n (index360_of settle f.day)) flow flows,
      value-weighted side n settle flows,
    )

-- one amount more is within the whole
pub value-room : (side : Side) (n : ℕ) (settle : ℤ) (flows : List Flow) (i : ℕ) (flow : Flow) → i < length flows → ((d : Flow) → flow ≡ get_or flows i d)
    → present_value side n (indexed settle (take i flows)) + flow.cents.0 * power_of side n (index360_of settle flow.day) ≤ present_value side n (indexed settle flows)
value-room side n settle flows i flow within at =
    omega (
      arith,
      value-weighted side n settle (take i flows),
      value-weighted side n settle flows,
      sum_by-at_room (λ (f : Flow). f.cents.0 * power_of side n (index360_of settle f.day)) flows i flow within at,
    )

-- so sums are worth what the amounts are
pub value-summed : (side : Side) (n : ℕ) (settle : ℤ) (flows : List Flow) → present_value side n (indexed settle (summed flows)) ≡ present_value side n (indexed settle flows)
value-summed side n settle flows =
    value-weighted side n settle (summed flows) ∙ keep-weighted (λ day. power_of side n (index360_of settle day)) flows ∙ sym (value-weighted side n settle flows)

value-append : (side : Side) (n : ℕ) (settle : ℤ) (front back : List Flow) → present_value side n (indexed settle (front ++ back)) ≡ present_value side n (indexed settle front) + present_value side n (indexed settle back)
unfolding value_of
value-append side n settle front back =
    ap (present_value side n) (map-append (λ (flow : Flow). record { index = index360_of settle flow.day; cents = flow.cents.0 }) front back)
    ∙ sum_by-append (value_of side n) (indexed settle front) (indexed settle back)

-- and a portfolio's payments what those of its lines are
pub value-payments : (side : Side) (n : ℕ) (days : PaymentDays) (pairs : List (Line × ℕ)) → present_value side n (indexed days.settle (flat_map (pair_payments days) pairs)) ≡ sum_by (pair_value side n days) pairs
value-payments side n days [] = refl
value-payments side n days (pair ∷ pairs) =
    omega (
      arith,
      value-append side n days.settle (pair_payments days pair) (flat_map (pair_payments days) pairs),
      value-payments side n days pairs,
      sum_by-cons (pair_value side n days) pair pairs,
    )

-- a line without units is worth nothing
pub value-none : (side : Side) (n : ℕ) (days : PaymentDays) (line : Line) (units : ℕ) → units ≡ 0 → pair_value side n days (line, units) ≡ 0
value-none side n days line units none =
    value-weighted side n days.settle (pair_payments days (line, units))
    ∙ sum_by-zero (λ (flow : Flow). flow.cents.0 * power_of side n (index360_of days.settle flow.day)) (pair_payments days (line, units))
    (λ k d lt. rw (line_payments-none days line units none k d lt) (omega arith))

-- the value of a permitted portfolio's securities
pub value-securities : (side : Side) (n : ℕ) (book : BookContents) (plan : List ℕ)
    → present_value side n (indexed book.days.settle (security_flows book plan)) ≡ sum_by (pair_value side n book.days) (drop 1 (zip book.lines plan))
value-securities side n book plan =
    value-summed side n book.days.settle (flat_map (pair_payments book.days) (drop 1 (zip book.lines plan))) ∙ value-payments side n book.days (drop 1 (zip book.lines plan))

pub value-at_most : (side : Side) (n : ℕ) (book : BookContents) (plan : List ℕ) → IsBook book → IsPermitted book plan → sum_by (pair_value side n book.days) (drop 1 (zip book.lines plan)) ≤ one * (89 * 10 ^ 13)
value-at_most side n book plan limits permitted =
    let flows = flat_map (pair_payments book.days) (drop 1 (zip book.lines plan)) in
    omega (
      arith,
      value-payments side n book.days (drop 1 (zip book.lines plan)),
      value-within side n (indexed book.days.settle flows),
      total-indexed book.days.settle flows,
      securities_at_most book plan limits permitted,
    )

-- what the test says
or_tells : (a b : Bool) (P Q : Type 0) → IsTrue a ↔ P → IsTrue b ↔ Q → IsTrue (a || b) ↔ (P ⊎ Q)
or_tells true b P Q first second = ((λ _. inl (first.0 refl)), (λ _. refl))
or_tells false b P Q first second = (
  (λ holds. inr (second.0 holds)),
  (λ some. elim some [
    | inl p ↦ absurd (clash (first.1 p))
    | inr q ↦ second.1 q
  ]),
)
  where
    clash : IsTrue false → ⊥
    clash holds = cc

short_tells : (book : BookContents) (plan : List ℕ) (found : Option ℤ) → MatchOption found (Meets book plan) (IsFirstShort book plan) → IsTrue (is_some found) ↔ IsShort book plan
short_tells book plan None meets = ((λ holds. absurd (cc)), (λ short. absurd (omega (arith, short.1, meets short.0))))
short_tells book plan (Some day) first = ((λ _. (day, first.short)), (λ _. refl))

less_tells : (a b : ℕ) → IsTrue (nat_lt a b) ↔ (a < b)
less_tells a b = ((λ holds. ltb-true a b holds), (λ less. lt-ltb a b less))

pub excluded_tells : (book : BookContents) (n : ℕ) (plan : List ℕ) → IsBook book → IsTrue (is_excluded book n plan) ↔ IsExcluded book n plan
excluded_tells book n plan limits =
    or_tells (is_some (first_short_of book plan)) (nat_lt (one * security_cost book plan) (low_value book n plan)) (IsShort book plan) (one * security_cost book plan < low_value book n plan)
    (short_tells book plan (first_short_of book plan) (first_short_is book plan limits.needs.rising)) (less_tells (one * security_cost book plan) (low_value book n plan))

-- excluded portfolios are no rivals
pub no_rival : ExcludedAreNoRivals
no_rival limit book plan excluded rival = elim excluded [
  | inl short ↦ omega (arith, short.1, rival.covered short.0)
  | inr dearer ↦ low_value-excludes (limit - 1) (indexed book.days.settle (security_flows book plan)) (security_cost book plan) dearer rival.yields
]

-- indexes of flows within 40 years
index_near : (settle day : ℤ) → IsSettlement settle → settle ≤ℤ day → day ≤ℤ years_after_of settle 40 → index360_of settle day ≤ 14_400
index_near settle day is from by =
    let own : IsDayNumber settle = (omega (arith, ints, is.0), omega (arith, ints, is.1)) in
    let base : IsBaseDay day = settlement-base settle day is from by in
    let due : IsDayNumber day = (omega (arith, ints, base.0), omega (arith, ints, base.1)) in
    omega (arith, thirty_day_place_of-years settle day own due by)

pub indexes_near : (settle : ℤ) (flows : List Flow) → IsSettlement settle → FallWithinFortyYears settle flows → All (λ (flow : IndexedFlow). flow.index ≤ 14_400) (indexed settle flows)
indexes_near settle flows is within =
    All-map (λ (flow : IndexedFlow). flow.index ≤ 14_400) (λ (flow : Flow). record { index = index360_of settle flow.day; cents = flow.cents.0 }) flows
    (λ k d short. let falls = within k d short in index_near settle _ is falls.0 falls.1)

nothing_beyond : (limit : ℕ) (settle : ℤ) (flows : List Flow) (cost : ℕ) → flows ≡ [] → is_within limit (yield_answer_of (indexed settle flows) cost) ≡ false → ⊥
nothing_beyond limit settle flows cost none outside =
    let inside : is_within limit (yield_answer_of (indexed settle flows) cost) ≡ true = rw none (nothing_within limit cost) in
    absurd (clash (sym inside ∙ outside))
  where
    clash : true ≡ false → ⊥
    clash e = absurd (cc)

pub beyond_limit : BeyondLimitAreExcluded
beyond_limit limit book plan limits some most outside = elim (flows_later book plan limits) [
  | inl none ↦ absurd (nothing_beyond limit book.days.settle (security_flows book plan) (security_cost book plan) none outside)
  | inr later ↦
      inr (dearer_below_limit limit (indexed book.days.settle (security_flows book plan)) (security_cost book plan)
      (indexes_near book.days.settle (security_flows book plan) limits.settlement (flows_within book plan limits)) later some most outside).rounded
]

pub beyond_no_rival : BeyondLimitAreNoRivals
beyond_no_rival limit book plan limits some most outside = no_rival limit book plan (beyond_limit limit book plan limits some most outside)
