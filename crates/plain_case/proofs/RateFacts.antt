-- The price of a day, by the need date in whose span it falls and the prices of earlier need dates.
use Rattle.std.proofs.Common.{◌≡◌, ◌∙◌, ℕ, zero, suc, ◌+◌, ◌*◌, ◌<◌, ◌≤◌, Bool, false, true, if◌then◌else◌, List, [], ◌∷◌, ◌++◌, take, length, get_or, ap, subst, arith, ℤ, int_le, pos}
use Rattle.std.proofs.lemmas.List.{length-take, take_more}
use Rattle.std.proofs.lemmas.List.Sums.{sum_by-cons}
use Rattle.std.proofs.Math.Nat.{mul-le-mul_right}
use Rattle.std.specs.List.{sum_by}
use Rattle.escrow_units.specs.Flows.{Rise}
use Rattle.escrow_units.specs.declared.security.Flow.{Flow}
use Rattle.day_sums.proofs.RateFacts.{at_rate}
use Rattle.offer_book.specs.declared.coefficients.PayCoefficients.{PayCoefficients}
use Rattle.dual_bound.specs.LeafBound.{price_on}
use Rattle.proof_tree.specs.declared.prices.TheConstants.{PRICE_SCALE}
use Rattle.backward_build.specs.OwnOffer.{need_at}
use Rattle.backward_build.specs.PriceCurve.{unit_paid_in}
use Rattle.backward_build.specs.Span.{falls_in, paid_in, span_of}
use Rattle.backward_build.proofs.CoverFacts.{span_cents}
use Rattle.backward_build.proofs.FairFacts.{price_next}
use Rattle.plain_case.proofs.CloseFacts.{paid_rounding, unit_worth}

abbrev no_flow : Flow
no_flow = record { day = pos 0; cents = record { 0 = 0 } }

-- a price in a span, and nothing elsewhere
abbrev pub span_rate : List Flow → ℕ → ℕ → ℤ → ℕ
span_rate needs place price day = if falls_in (span_of needs place) day then price else 0

-- the prices of the first so many need dates
abbrev pub early_price : List Flow → List ℕ → ℕ → ℤ → ℕ
early_price needs prices place day = price_on (take place needs) (take place prices) day

-- with one need date more, the days of its span have its price
pub price-more : (needs : List Flow) (prices : List ℕ) (place : ℕ) (day : ℤ) → Rise needs → length prices ≡ length needs → place < length needs
    → early_price needs prices (place + 1) day ≡ early_price needs prices place day + span_rate needs place (get_or prices place 0) day
price-more needs prices place day rising same within =
    let price = get_or prices place 0 in
    let front = take place prices in
    let long : length front ≡ place = omega (arith, length-take place prices) in
    let next = price_next needs front price day rising (omega (arith, long)) in
    (λ i. price_on (take_more needs place no_flow within i) (take_more prices place 0 (omega arith) i) day)
    ∙ subst (λ (k : ℕ). price_on (take k needs ++ need_at needs k ∷ []) (front ++ price ∷ []) day ≡ price_on (take k needs) front day + (if falls_in (span_of needs k) day then price else 0)) long next

-- the first need dates give no more than all
first-le : (place : ℕ) (needs : List Flow) (prices : List ℕ) (day : ℤ) → early_price needs prices place day ≤ price_on needs prices day
unfolding price_on
first-le zero needs prices day = omega arith
first-le (suc place) [] prices day = omega arith
first-le (suc place) (need ∷ needs) [] day = omega arith
first-le (suc place) (need ∷ needs) (price ∷ prices) day = at (int_le day need.day) (first-le place needs prices day)
  where
    at : (t : Bool) → early_price needs prices place day ≤ price_on needs prices day → (if t then price else early_price needs prices place day) ≤ (if t then price else price_on needs prices day)
    at true rest = omega arith
    at false rest = rest

pub price-parts : (needs : List Flow) (prices : List ℕ) (place : ℕ) (day : ℤ) → Rise needs → length prices ≡ length needs → place < length needs
    → early_price needs prices place day + span_rate needs place (get_or prices place 0) day ≤ price_on needs prices day
price-parts needs prices place day rising same within =
    omega (arith, price-more needs prices place day rising same within, first-le (place + 1) needs prices day)

-- ---- sums at rates
pub rates-add : (first second both : ℤ → ℕ) (flows : List Flow) → ((day : ℤ) → both day ≡ first day + second day) → sum_by (at_rate both) flows ≡ sum_by (at_rate first) flows + sum_by (at_rate second) flows
rates-add first second both [] parts = omega arith
rates-add first second both (flow ∷ flows) parts =
    omega (
      arith,
      ap (λ n. n * flow.cents.0) (parts flow.day),
      rates-add first second both flows parts,
      sum_by-cons (at_rate both) flow flows,
      sum_by-cons (at_rate first) flow flows,
      sum_by-cons (at_rate second) flow flows,
    )

pub rates-within : (first second both : ℤ → ℕ) (flows : List Flow) → ((day : ℤ) → first day + second day ≤ both day) → sum_by (at_rate first) flows + sum_by (at_rate second) flows ≤ sum_by (at_rate both) flows
rates-within first second both [] parts = omega arith
rates-within first second both (flow ∷ flows) parts =
    omega (
      arith,
      mul-le-mul_right flow.cents.0 (parts flow.day),
      rates-within first second both flows parts,
      sum_by-cons (at_rate both) flow flows,
      sum_by-cons (at_rate first) flow flows,
      sum_by-cons (at_rate second) flow flows,
    )

chosen-times : (t : Bool) (price amount : ℕ) → (if t then price else 0) * amount ≡ price * (if t then amount else 0)
chosen-times true price amount = omega arith
chosen-times false price amount = omega arith

-- what is paid in a span, at its price
pub span-paid : (needs : List Flow) (place price : ℕ) (flows : List Flow) → sum_by (at_rate (span_rate needs place price)) flows ≡ price * paid_in (span_of needs place) flows
span-paid needs place price [] = omega arith
span-paid needs place price (flow ∷ flows) =
    omega (
      arith,
      chosen-times (falls_in (span_of needs place) flow.day) price flow.cents.0,
      span-paid needs place price flows,
      sum_by-cons (at_rate (span_rate needs place price)) flow flows,
      ap (λ n. price * n) (sum_by-cons (span_cents (span_of needs place)) flow flows),
    )

pub span-worth : (needs : List Flow) (place price : ℕ) (pays : List PayCoefficients) → unit_worth (span_rate needs place price) pays ≡ price * unit_paid_in (span_of needs place) pays
span-worth needs place price [] = omega arith
span-worth needs place price (pay ∷ pays) =
    omega (
      arith,
      chosen-times (falls_in (span_of needs place) pay.day) price pay.high,
      span-worth needs place price pays,
      sum_by-cons (λ (p : PayCoefficients). span_rate needs place price p.day * p.high) pay pays,
      ap (λ n. price * n) (sum_by-cons (λ (p : PayCoefficients). if falls_in (span_of needs place) p.day then p.high else 0) pay pays),
    )

-- two rates that come to at most 1 together round by at most a cent and a half for each payment
pub roundings-within : (first second : ℤ → ℕ) (pays : List PayCoefficients) → ((day : ℤ) → first day + second day ≤ PRICE_SCALE) → paid_rounding first pays + paid_rounding second pays ≤ PRICE_SCALE * (length pays * 1_500_000_000)
roundings-within first second [] parts = omega arith
roundings-within first second (pay ∷ pays) parts =
    omega (
      arith,
      parts pay.day,
      roundings-within first second pays parts,
      sum_by-cons (λ (p : PayCoefficients). first p.day * 1_500_000_000) pay pays,
      sum_by-cons (λ (p : PayCoefficients). second p.day * 1_500_000_000) pay pays,
    )

-- the worth of payments with one need date more
pub worth-more : (needs : List Flow) (prices : List ℕ) (place : ℕ) (flows : List Flow) → Rise needs → length prices ≡ length needs → place < length needs
    → sum_by (at_rate (early_price needs prices (place + 1))) flows ≡ sum_by (at_rate (early_price needs prices place)) flows + get_or prices place 0 * paid_in (span_of needs place) flows
worth-more needs prices place flows rising same within =
    rates-add (early_price needs prices place) (span_rate needs place (get_or prices place 0)) (early_price needs prices (place + 1)) flows (λ day. price-more needs prices place day rising same within)
    ∙ ap (λ n. sum_by (at_rate (early_price needs prices place)) flows + n) (span-paid needs place (get_or prices place 0) flows)
