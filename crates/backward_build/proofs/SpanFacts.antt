-- What is paid in the span of a need date, out of receipts that are kept by need date.
use Rattle.std.proofs.Common.{◌≡◌, ◌⊎◌, ◌∙◌, ℕ, zero, suc, ◌+◌, ◌<◌, Bool, false, true, ◌&&◌, if◌then◌else◌, List, [], ◌∷◌, Some, None, length, take, get_or, refl, ap, inl, inr, arith, ℤ, ◌≤ℤ◌, ◌<ℤ◌, int_le, int_lt, pos}
use Rattle.std.specs.List.{sum}
use Rattle.std.proofs.lemmas.Int.{ints}
use Rattle.std.proofs.lemmas.List.Sums.{sum_by-cons, sum_by_more}
use Rattle.escrow_units.specs.Flows.{Rise}
use Rattle.escrow_units.specs.declared.security.Flow.{Flow}
use Rattle.escrow_units.proofs.FlowFacts.{cases_int_le, int_le-not, int_le-test, int_lt-not, int_lt-test}
use Rattle.day_sums.specs.Summed.{total_by}
use Rattle.cash_table.specs.Receipts.{AreReceipts, cents_by}
use Rattle.backward_build.specs.OwnOffer.{need_at}
use Rattle.backward_build.specs.Span.{paid_in, span_of}
use Rattle.backward_build.specs.declared.span.Span.{Span}
use Rattle.backward_build.proofs.CoverFacts.{span_cents}

abbrev no_flow : Flow
no_flow = record { day = pos 0; cents = record { 0 = 0 } }

abbrev span_after : ℤ → ℤ → Span
span_after before until = record { after = Some before; until = until }

-- what is paid up to a day is paid up to an earlier one, or after it
cents_split : (before until : ℤ) (flow : Flow) → before ≤ℤ until → cents_by until flow ≡ cents_by before flow + span_cents (span_after before until) flow
cents_split before until flow order = at (int_le flow.day until) (int_le flow.day before) (int_lt before flow.day) (tests flow.day)
  where
    tests : (day : ℤ) → ((int_le day until ≡ true) × (int_le day before ≡ true) × (int_lt before day ≡ false)) ⊎ ((int_le day before ≡ false) × (int_lt before day ≡ true))
    tests day = elim (cases_int_le day before) [
      | inl early ↦ (let by : day ≤ℤ until = omega (arith, ints) in inl (int_le-test day until by, int_le-test day before early, int_lt-not before day early))
      | inr late ↦ inr (int_le-not day before late, int_lt-test before day late)
    ]

    at : (a b e : Bool) → ((a ≡ true) × (b ≡ true) × (e ≡ false)) ⊎ ((b ≡ false) × (e ≡ true)) → (if a then flow.cents.0 else 0) ≡ (if b then flow.cents.0 else 0) + (if e && a then flow.cents.0 else 0)
    at true true false h = omega arith
    at true false true h = omega arith
    at false false true h = omega arith
    at true true true h = elim h [ inl x ↦ cc | inr x ↦ cc ]
    at true false false h = elim h [ inl x ↦ cc | inr x ↦ cc ]
    at false true true h = elim h [ inl x ↦ cc | inr x ↦ cc ]
    at false true false h = elim h [ inl x ↦ cc | inr x ↦ cc ]
    at false false false h = omega arith

paid_split : (before until : ℤ) (flows : List Flow) → before ≤ℤ until → total_by until flows ≡ total_by before flows + paid_in (span_after before until) flows
paid_split before until [] order = refl
paid_split before until (flow ∷ flows) order =
    omega (
      arith,
      sum_by-cons (cents_by until) flow flows,
      sum_by-cons (cents_by before) flow flows,
      sum_by-cons (span_cents (span_after before until)) flow flows,
      cents_split before until flow order,
      paid_split before until flows order,
    )

paid_first : (until : ℤ) (flows : List Flow) → total_by until flows ≡ paid_in (record { after = None; until = until }) flows
paid_first until [] = refl
paid_first until (flow ∷ flows) =
    omega (
      arith,
      sum_by-cons (cents_by until) flow flows,
      sum_by-cons (span_cents (record { after = None; until = until })) flow flows,
      same (int_le flow.day until),
      paid_first until flows,
    )
  where
    same : (t : Bool) → (if t then flow.cents.0 else 0) ≡ (if true && t then flow.cents.0 else 0)
    same true = refl
    same false = refl

-- receipts at a place are what is paid in its span
pub received_in : (needs flows : List Flow) (received : List ℕ) (place : ℕ) → Rise needs → AreReceipts needs flows received → place < length needs → place < length received → get_or received place 0 ≡ paid_in (span_of needs place) flows
received_in needs flows received zero rising are within room =
    let sums : sum (take (0 + 1) received) ≡ total_by (need_at needs 0).day flows = are 0 no_flow within in
    omega (arith, sums, sum_by_more (λ (x : ℕ). x) received 0 0 room, paid_first (need_at needs 0).day flows)
received_in needs flows received (suc place) rising are within room =
    let order : (need_at needs place).day <ℤ (need_at needs (suc place)).day = rising place (suc place) no_flow (omega arith) within in
    let before : (need_at needs place).day ≤ℤ (need_at needs (suc place)).day = omega (arith, ints) in
    let next : suc place ≡ place + 1 = omega arith in
    let had : sum (take (suc place) received) ≡ total_by (need_at needs place).day flows = ap (λ n. sum (take n received)) next ∙ are place no_flow (omega arith) in
    let now : sum (take (suc place + 1) received) ≡ total_by (need_at needs (suc place)).day flows = are (suc place) no_flow within in
    omega (arith, had, now, sum_by_more (λ (x : ℕ). x) received (suc place) 0 room, paid_split (need_at needs place).day (need_at needs (suc place)).day flows before)
