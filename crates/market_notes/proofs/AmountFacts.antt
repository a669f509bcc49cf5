-- How much a note can cost and pay.
use Rattle.std.proofs.Common.{◌≡◌, ℕ, ◌+◌, ◌*◌, ◌^◌, ◌<◌, ◌≤◌, ap, arith, ◌≤ℤ◌, ◌<ℤ◌, length}
use Rattle.std.specs.Prelude.{All}
use Rattle.std.proofs.Math.Nat.{mul-le-mul}
use Rattle.std.proofs.lemmas.List.{length-map}
use Rattle.std.proofs.lemmas.List.Elements.{All-weaker}
use Rattle.jiff_core.proofs.SignedLemmas.{signed_arith}
use Rattle.escrow_units.specs.Calendar.{years_after_of}
use Rattle.escrow_units.specs.Flows.{total, FallWithinFortyYears}
use Rattle.escrow_units.specs.Interest.{face_price_of, half_coupon_of}
use Rattle.escrow_units.specs.Series.{days_between_of}
use Rattle.escrow_units.specs.declared.security.Flow.{Flow}
use Rattle.escrow_units.specs.declared.security.StepRule.TheVariants as rule
use Rattle.escrow_units.proofs.FlowFacts.{days_between_of-whole}
use Rattle.escrow_units.proofs.LastDates.{half_year-before}
use Rattle.escrow_units.proofs.RoundingFacts.{near-at-most, near-IsNearest}
use Rattle.escrow_units.proofs.SeriesAround.{AreCounted, counted, last-recent}
use Rattle.market_notes.specs.NoteFlows.{payment_dates, note_schedule, accrual_of, accrued_interest, cost_of, previous_date, next_date}
use Rattle.escrow_units.specs.OpenDays.{Closings, open_day}
use Rattle.escrow_units.proofs.OpenDayFacts.{open_day-least}
use Rattle.market_notes.specs.NoteLaws.{IsPaymentDay}
use Rattle.market_notes.specs.NoteTerms.{IsNote}
use Rattle.market_notes.specs.declared.note.Note.{Note}
use Rattle.market_notes.proofs.FlowFacts.{note_flows, paid_on, payments-after, payments-by_date, payments-face, payments-term}
use Rattle.payment_schedule.proofs.ScheduleFacts.{flows-none, near-nothing}
use Rattle.market_notes.proofs.SeriesFacts.{term}

-- the payment dates of a note, counted
pub dates-counted : (note : Note) → IsNote note → AreCounted note.maturity rule.MonthEnd note.settle
dates-counted note h = counted note.maturity rule.MonthEnd note.settle (term note h) h.after

pub dates-few : (note : Note) → IsNote note → length (payment_dates note) ≤ 81
dates-few note h = let c = dates-counted note h in omega (arith, c.has.few, c.has.count)

pub payments-few : (note : Note) (closed : Closings) (face : ℕ) → IsNote note → length (note_flows note closed face) ≤ 81
payments-few note closed face h = omega (arith, ap length (payments-by_date note closed face), length-map (payment_dates note) (paid_on note closed face), dates-few note h)

-- they fall within 40 years, where the open day of maturity does
pub payments-within : (note : Note) (closed : Closings) (face : ℕ) → IsNote note → open_day closed note.maturity ≤ℤ years_after_of note.settle 40
    → FallWithinFortyYears note.settle (note_flows note closed face)
payments-within note closed face h last =
    All-weaker (λ (flow : Flow). (note.settle ≤ℤ flow.day) × (flow.day ≤ℤ open_day closed note.maturity)) (λ flow. (note.settle ≤ℤ flow.day) × (flow.day ≤ℤ years_after_of note.settle 40))
    (λ flow on. (on.0, omega (arith, signed_arith, on.1, last)))
    (note_flows note closed face) (payments-term note closed face (term note h))

-- and after settlement
pub payments-later : (note : Note) (closed : Closings) (face : ℕ) → IsNote note → All (λ flow. note.settle <ℤ flow.day) (note_flows note closed face)
payments-later note closed face h =
    All-weaker (λ (flow : Flow). IsPaymentDay note closed flow.day) (λ flow. note.settle <ℤ flow.day)
    (λ flow on. omega (arith, signed_arith, on.after, on.opens, (open_day-least closed on.date).from)) (note_flows note closed face) (payments-after note closed face (term note h))

-- what they come to: the face, and on each date at most 15 hundredths of the greatest face
pub payments-come-to : (note : Note) (closed : Closings) (face : ℕ) → IsNote note → total (note_flows note closed face) ≡ face + length (note_flows note closed face) * half_coupon_of face note.coupon.0
payments-come-to note closed face h = let c = dates-counted note h in payments-face note closed face c.count (term note h) c.has

half_coupon-small : (face rate : ℕ) → face ≤ 10 ^ 11 → rate ≤ 30_000 → half_coupon_of face rate ≤ 15 * 10 ^ 9
half_coupon-small face rate few low = near-at-most (face * rate) 200_000 (15 * 10 ^ 9) (omega arith) (omega (arith, mul-le-mul few low))

pub payments-little : (note : Note) (closed : Closings) (face : ℕ) → IsNote note → face ≤ 10 ^ 11 → total (note_flows note closed face) ≤ 132 * 10 ^ 10
payments-little note closed face h few =
    omega (arith, payments-come-to note closed face h, mul-le-mul (payments-few note closed face h) (half_coupon-small face note.coupon.0 few h.coupon))

-- what a note costs
price-small : (face price : ℕ) → face ≤ 10 ^ 11 → price ≤ 30_000_000_000 → face_price_of face price ≤ 3 * 10 ^ 11
price-small face price few low = near-at-most (face * price) (10 ^ 10) (3 * 10 ^ 11) (omega arith) (omega (arith, mul-le-mul few low))

-- the days of the half-year of settlement, of which at most 184 have passed
record IsAccrued (note : Note) : Type 0 where
  passed : (accrual_of note).parts ≤ 184
  half : 181 ≤ days_between_of (previous_date note) (next_date note)

accrued : (note : Note) → IsNote note → IsAccrued note
accrued note h =
    let c = dates-counted note h in
    let t = term note h in
    let half = half_year-before note.maturity rule.MonthEnd c.count t.base c.has.some (omega (arith, c.has.few)) in
    let recent = last-recent note.maturity rule.MonthEnd note.settle (previous_date note) t.base h.after c.last in
    let elapsed = days_between_of-whole (previous_date note) note.settle c.last.by in
    let apart = days_between_of-whole (previous_date note) (next_date note) (omega (arith, signed_arith, half.least, c.has.previous, c.has.next)) in
    record {
      passed = omega (arith, signed_arith, recent, elapsed);
      half = omega (arith, signed_arith, half.least, c.has.previous, c.has.next, apart);
    }

pub accrual-some : (note : Note) → IsNote note → 0 < (accrual_of note).year
accrual-some note h = omega (arith, (accrued note h).half)

pub accrual-short : (note : Note) → IsNote note → 3 * (accrual_of note).parts ≤ 4 * (accrual_of note).year
accrual-short note h = omega (arith, (accrued note h).passed, (accrued note h).half)

accrued-small : (note : Note) (face : ℕ) → IsNote note → face ≤ 10 ^ 11 → accrued_interest note face ≤ 16 * 10 ^ 9
unfolding accrued_interest
accrued-small note face h few =
    let days = accrued note h in
    near-at-most _ _ (16 * 10 ^ 9) (omega (arith, days.half)) (part (face * note.coupon.0) _ _ (omega (arith, mul-le-mul few h.coupon)) days.passed days.half)
  where
    part : (year days half : ℕ) → year ≤ 3_000_000_000_000_000 → days ≤ 184 → 181 ≤ half → year * days ≤ 16 * 10 ^ 9 * (100_000 * (2 * half))
    part year days half f d l = omega (arith, mul-le-mul f d)

pub cost-small : (note : Note) (face : ℕ) → IsNote note → face ≤ 10 ^ 11 → cost_of note face ≤ 316 * 10 ^ 9
cost-small note face h few = omega (arith, price-small face note.price.0 few h.most_price, accrued-small note face h few)

-- a face of at least a dollar costs something
price-some : (face price : ℕ) → 100 ≤ face → 1_000_000_000 ≤ price → 1 ≤ face_price_of face price
price-some face price some least =
    let nearest = near-IsNearest (face * price) (10 ^ 10) (omega arith) in
    at (face_price_of face price) (omega (arith, nearest.below, mul-le-mul some least))
  where
    at : (n : ℕ) → 2 * 100_000_000_000 < 2 * 10_000_000_000 * n + 10_000_000_000 → 1 ≤ n
    at n h = omega arith

pub cost-some : (note : Note) (face : ℕ) → IsNote note → 100 ≤ face → 1 ≤ cost_of note face
cost-some note face h some = omega (arith, price-some face note.price.0 some h.least_price)

-- and none costs and pays nothing
none-accrued : (note : Note) (face : ℕ) → face ≡ 0 → accrued_interest note face ≡ 0
unfolding accrued_interest
none-accrued note face none = near-nothing _ _ (rw none (omega arith))

pub cost-none : (note : Note) (face : ℕ) → face ≡ 0 → cost_of note face ≡ 0
cost-none note face none =
    let price : face_price_of face note.price.0 ≡ 0 = near-nothing (face * note.price.0) (10 ^ 10) (rw none (omega arith)) in
    omega (arith, price, none-accrued note face none)

pub payments-none : (note : Note) (closed : Closings) (face : ℕ) → face ≡ 0 → All (λ flow. flow.cents.0 ≡ 0) (note_flows note closed face)
payments-none note closed face none = flows-none note.coupon.0 face (note_schedule note closed) none
