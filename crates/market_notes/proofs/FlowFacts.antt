-- What a note costs and pays.
use Rattle.std.proofs.Common.{◌≡◌, ◌++◌, ◌∙◌, ℕ, ◌+◌, ◌-◌, ◌*◌, ◌<◌, ◌≤◌, zero, suc, refl, sym, ap, subst, arith, ℤ, pos, ◌+ℤ◌, ◌≤ℤ◌, ◌<ℤ◌, inl, inr, false, List, [], ◌∷◌, map, length, take, sum_by, get_or}
use Rattle.std.specs.Prelude.{All}
use Rattle.std.specs.Ordering.{int_eq}
use Rattle.std.proofs.Math.Nat.{mul-le-mul_right}
use Rattle.std.proofs.lemmas.Bool.Decides.{Decides-int_eq}
use Rattle.std.proofs.lemmas.Int.{ints}
use Rattle.std.proofs.lemmas.List.{map-append, take_all, get_or-map, length-map}
use Rattle.std.proofs.lemmas.List.Elements.{All-map, All-same}
use Rattle.std.proofs.lemmas.Simd.{map-map}
use Rattle.std.proofs.lemmas.List.Sums.{sum_by-cons}
use Rattle.jiff_core.proofs.SignedLemmas.{signed_arith}
use Rattle.escrow_units.proofs.FlowFacts.{choice-false, choice-true, days_between_of-count, days_between_of-some, order-map}
use Rattle.escrow_units.proofs.RoundingFacts.{near-mono, near-zero}
use Rattle.escrow_units.proofs.LastDates.{last_dates, last_dates-last, last_dates-rise, dates_before, half_back_of-reach, half_back_of-zero}
use Rattle.escrow_units.specs.Calendar.{half_back_of}
use Rattle.escrow_units.specs.Flows.{ComeInOrder, EndsOn, FallOnOpenDays, FallWithin, index360_of, total}
use Rattle.escrow_units.specs.OpenDays.{Closings, is_closed, no_closings, open_day}
use Rattle.escrow_units.proofs.OpenDayFacts.{open_day-least, open_day-order}
use Rattle.escrow_units.specs.Interest.{earned_of, face_price_of}
use Rattle.escrow_units.specs.Series.{days_between_of}
use Rattle.escrow_units.specs.declared.interest.Accrual.{Accrual}
use Rattle.escrow_units.specs.declared.security.Flow.{Flow}
use Rattle.escrow_units.specs.declared.security.StepRule.{StepRule}
use Rattle.escrow_units.specs.declared.security.StepRule.TheVariants as rule
use Rattle.payment_schedule.specs.Schedule.{IsShort, flow_by, half_year_accrual, principal_by}
use Rattle.payment_schedule.specs.declared.schedule.ScheduledPayment.{ScheduledPayment}
use Rattle.payment_schedule.proofs.ScheduleFacts.{flow-more, flows_by, half-coupon, half-short}
use Rattle.market_notes.specs.NoteFlows.{payment_dates, payment_on, note_schedule, accrual_of, accrued_interest, cost_of, previous_date, next_date}
use Rattle.market_notes.specs.NoteLaws.{IsCouponDate, IsPaymentDay, SettlesIn, CostsPriceOnCouponDate, AreAfterSettlement, PayFaceOnce, AreAtMost, KeepAmounts, PayNoLessForMore}
use Rattle.market_notes.specs.PriceForm.{has_matured_of}
use Rattle.market_notes.specs.declared.note.Note.{Note}
use Rattle.escrow_units.proofs.SeriesAround.{HasDates, IsNear, dates-after-are-later}

-- a maturity that is late enough
pub record IsLater (settle maturity : ℤ) : Type 0 where
  pub after : settle <ℤ maturity
  pub index : 1 ≤ index360_of settle maturity

pub later : (settle maturity : ℤ) → has_matured_of settle maturity ≡ false → IsLater settle maturity
later settle maturity h = record { after = grind (arith, ints); index = grind (arith, ints) }

-- the accrual up to settlement, by the days of its half-year
pub accrual-is : (note : Note) (from to : ℤ) (elapsed half : ℕ) → from ≡ previous_date note → to ≡ next_date note
    → from +ℤ pos elapsed ≡ note.settle → from +ℤ pos half ≡ to → record { parts = elapsed; year = 2 * half } ≡ accrual_of note
accrual-is note from to elapsed half e f g h =
    rw (← e, ← f, days_between_of-count from note.settle elapsed g, days_between_of-count from to half h) refl

-- and the interest of it
pub accrued-is : (note : Note) (face : ℕ) (part : Accrual) → part ≡ accrual_of note → earned_of face note.coupon.0 part.parts part.year ≡ accrued_interest note face
unfolding accrued_interest
accrued-is note face part e = rw e refl

none-accrued : (note : Note) (face : ℕ) → SettlesIn note (previous_date note) (next_date note) → IsCouponDate note note.settle → accrued_interest note face ≡ 0
unfolding accrued_interest
none-accrued note face around on =
    let some : 0 < days_between_of (previous_date note) (next_date note) = days_between_of-some (previous_date note) (next_date note) (omega (arith, signed_arith, around.begun, around.unpaid)) in
    elim (around.between note.settle on) [
      | inl by ↦
          let none : days_between_of (previous_date note) note.settle ≡ 0 = days_between_of-count (previous_date note) note.settle 0 (omega (arith, signed_arith, by, around.begun)) in
          near-zero _ _ (rw none (omega arith)) (omega arith)
      | inr past ↦ absurd (omega (arith, signed_arith, past, around.unpaid))
    ]

pub costs-price : (note : Note) (face cost : ℕ) → SettlesIn note (previous_date note) (next_date note) → cost ≡ cost_of note face → CostsPriceOnCouponDate note face cost
costs-price note face cost around is = λ on. omega (arith, is, none-accrued note face around on)

price-more : (note : Note) (face more : ℕ) → face ≤ more → face_price_of face note.price.0 ≤ face_price_of more note.price.0
price-more note face more le = near-mono _ _ _ (omega arith) (mul-le-mul_right note.price.0 le)

accrued-more : (note : Note) (face more : ℕ) → SettlesIn note (previous_date note) (next_date note) → face ≤ more → accrued_interest note face ≤ accrued_interest note more
unfolding accrued_interest
accrued-more note face more around le =
    let some : 0 < days_between_of (previous_date note) (next_date note) = days_between_of-some (previous_date note) (next_date note) (omega (arith, signed_arith, around.begun, around.unpaid)) in
    near-mono _ _ _ (omega arith) (mul-le-mul_right (days_between_of (previous_date note) note.settle) (mul-le-mul_right note.coupon.0 le))

pub costs-more : (note : Note) (face more : ℕ) → SettlesIn note (previous_date note) (next_date note) → face ≤ more → cost_of note face ≤ cost_of note more
costs-more note face more around le = omega (arith, price-more note face more le, accrued-more note face more around le)

-- what a face pays, and on a date
abbrev pub note_flows : Note → Closings → ℕ → List Flow
note_flows note closed face = flows_by note.coupon.0 face (note_schedule note closed)

abbrev pub paid_on : Note → Closings → ℕ → ℤ → Flow
paid_on note closed face date = flow_by note.coupon.0 face (payment_on note closed date)

-- what a walk over the dates makes
pub schedule-is : (note : Note) (closed : Closings) (schedule : List ScheduledPayment) (i : ℕ) (dates : List ℤ) → schedule ≡ map (payment_on note closed) (take i dates)
    → length dates ≤ i → dates ≡ payment_dates note → schedule ≡ note_schedule note closed
unfolding note_schedule
schedule-is note closed schedule i dates e all f = e ∙ ap (map (payment_on note closed)) (take_all i dates all ∙ f)

-- each payment's interest is for half a year
pub schedule-short : (note : Note) (closed : Closings) → All (λ payment. IsShort payment.accrual) (note_schedule note closed)
unfolding note_schedule
schedule-short note closed = All-map (λ (payment : ScheduledPayment). IsShort payment.accrual) (payment_on note closed) (payment_dates note) (λ k d lt. half-short)

-- what is paid, by the dates
pub payments-by_date : (note : Note) (closed : Closings) (face : ℕ) → note_flows note closed face ≡ map (paid_on note closed face) (payment_dates note)
unfolding note_schedule
payments-by_date note closed face = map-map (flow_by note.coupon.0 face) (payment_on note closed) (payment_dates note)

payments-series : (note : Note) (closed : Closings) (face n : ℕ) → HasDates note.maturity rule.MonthEnd note.settle n → note_flows note closed face ≡ map (paid_on note closed face) (last_dates note.maturity rule.MonthEnd n)
payments-series note closed face n p = payments-by_date note closed face ∙ ap (map (paid_on note closed face)) p.dates

pub payments-order : (note : Note) (closed : Closings) (face n : ℕ) → IsNear note.maturity note.settle → HasDates note.maturity rule.MonthEnd note.settle n
    → ComeInOrder (note_flows note closed face)
payments-order note closed face n t p =
    subst ComeInOrder (sym (payments-series note closed face n p))
    (order-map (open_day closed) (paid_on note closed face) (open_day-order closed) (λ day. refl) (last_dates note.maturity rule.MonthEnd n)
    (last_dates-rise note.maturity rule.MonthEnd n t.base (omega (arith, p.few))))

-- on open days of coupon dates
pub payments-after : (note : Note) (closed : Closings) (face : ℕ) → IsNear note.maturity note.settle → AreAfterSettlement note closed (note_flows note closed face)
payments-after note closed face t =
    let dates = payment_dates note in
    All-same (λ (flow : Flow). IsPaymentDay note closed flow.day) (note_flows note closed face) (map (paid_on note closed face) dates) (payments-by_date note closed face)
    (All-map (λ (flow : Flow). IsPaymentDay note closed flow.day) (paid_on note closed face) dates
    (λ k d lt.
    let due = (dates-after-are-later note.maturity rule.MonthEnd note.settle t.base).series k d lt in
    record { date = get_or dates k d; coupon = due.0; after = due.1; opens = refl }))

pub payments-open : (note : Note) (closed : Closings) (face : ℕ) → FallOnOpenDays closed (note_flows note closed face)
payments-open note closed face =
    All-same (λ (flow : Flow). is_closed closed flow.day ≡ false) (note_flows note closed face) (map (paid_on note closed face) (payment_dates note)) (payments-by_date note closed face)
    (All-map (λ (flow : Flow). is_closed closed flow.day ≡ false) (paid_on note closed face) (payment_dates note)
    (λ k d lt. (open_day-least closed (get_or (payment_dates note) k d)).is_open))

-- the dates, and so their open days, are not past maturity's
pub dates-by : (note : Note) → IsNear note.maturity note.settle → All (λ date. date ≤ℤ note.maturity) (payment_dates note)
dates-by note t = λ k d lt.
    let on = ((dates-after-are-later note.maturity rule.MonthEnd note.settle t.base).series k d lt).0 in
    let reach = half_back_of-reach note.maturity rule.MonthEnd on.steps t.base on.few in
    omega (arith, signed_arith, on.back, reach)

pub payments-term : (note : Note) (closed : Closings) (face : ℕ) → IsNear note.maturity note.settle
    → FallWithin note.settle (open_day closed note.maturity) (note_flows note closed face)
payments-term note closed face t =
    let dates = payment_dates note in
    All-same (λ (flow : Flow). (note.settle ≤ℤ flow.day) × (flow.day ≤ℤ open_day closed note.maturity)) (note_flows note closed face) (map (paid_on note closed face) dates) (payments-by_date note closed face)
    (All-map (λ (flow : Flow). (note.settle ≤ℤ flow.day) × (flow.day ≤ℤ open_day closed note.maturity)) (paid_on note closed face) dates
    (λ k d lt.
    let date = get_or dates k d in
    let due = (dates-after-are-later note.maturity rule.MonthEnd note.settle t.base).series k d lt in
    (omega (arith, signed_arith, due.1, (open_day-least closed date).from), open_day-order closed date note.maturity (dates-by note t k d lt))))

-- the amounts are the same whichever days are closed
amounts-by_date : (note : Note) (closed : Closings) (face : ℕ)
    → map (λ (flow : Flow). flow.cents.0) (note_flows note closed face) ≡ map (λ (date : ℤ). (paid_on note closed face date).cents.0) (payment_dates note)
amounts-by_date note closed face =
    ap (map (λ (flow : Flow). flow.cents.0)) (payments-by_date note closed face)
    ∙ map-map (λ (flow : Flow). flow.cents.0) (paid_on note closed face) (payment_dates note)

pub payments-amounts : (note : Note) (closed : Closings) (face : ℕ) → KeepAmounts note face (note_flows note closed face)
payments-amounts note closed face = amounts-by_date note closed face ∙ sym (amounts-by_date note no_closings face)

-- the last payment is that of the maturity, with which the face is paid
pub record EndsWithFace (note : Note) (closed : Closings) (face : ℕ) : Type 0 where
  pub before : List Flow
  pub order : note_flows note closed face ≡ before ++ paid_on note closed face note.maturity ∷ []

pub payments-last : (note : Note) (closed : Closings) (face n : ℕ) → IsNear note.maturity note.settle → HasDates note.maturity rule.MonthEnd note.settle n → EndsWithFace note closed face
payments-last note closed face n t p = record {
  before = map (paid_on note closed face) (dates_before note.maturity rule.MonthEnd (n - 1));
  order = payments-series note closed face n p
      ∙ (ap (map (paid_on note closed face)) (last_dates-last note.maturity rule.MonthEnd n t.base p.some)
      ∙ map-append (paid_on note closed face) (dates_before note.maturity rule.MonthEnd (n - 1)) (note.maturity ∷ []));
}

pub payments-end : (note : Note) (closed : Closings) (face n : ℕ) → IsNear note.maturity note.settle → HasDates note.maturity rule.MonthEnd note.settle n → EndsOn (open_day closed note.maturity) (note_flows note closed face)
payments-end note closed face n t p =
    let own = payments-last note closed face n t p in
    record { before = own.before; last = paid_on note closed face note.maturity; order = own.order; falls = refl }

-- flows of one interest and a principal
flow_of : (ℤ → ℤ) → ℕ → (ℤ → ℕ) → ℤ → Flow
flow_of on interest principal date = record { day = on date; cents = record { 0 = interest + principal date } }

cents_of : Flow → ℕ
cents_of flow = flow.cents.0

-- where the principal falls at maturity alone, it is paid once
face-sum : (on : ℤ → ℤ) (interest : ℕ) (principal : ℤ → ℕ) (face : ℕ) (maturity : ℤ) (r : StepRule) (k : ℕ) → principal (half_back_of maturity 0 r) ≡ face
    → ((j : ℕ) → 1 ≤ j → j ≤ k → principal (half_back_of maturity j r) ≡ 0)
    → sum_by cents_of (map (flow_of on interest principal) (last_dates maturity r (suc k)))
    ≡ face + length (map (flow_of on interest principal) (last_dates maturity r (suc k))) * interest
unfolding last_dates flow_of cents_of
face-sum on interest principal face maturity r zero last none =
    let day = half_back_of maturity 0 r in
    omega (arith, sum_by-cons cents_of (flow_of on interest principal day) [], last)
face-sum on interest principal face maturity r (suc k) last none =
    let day = half_back_of maturity (suc k) r in
    let rest = face-sum on interest principal face maturity r k last (λ j some few. none j some (omega arith)) in
    omega (
      arith,
      sum_by-cons cents_of (flow_of on interest principal day) (map (flow_of on interest principal) (last_dates maturity r (suc k))),
      rest,
      none (suc k) (omega arith) (omega arith),
    )

face-once : (note : Note) (closed : Closings) (face k : ℕ) → IsNear note.maturity note.settle → k ≤ 84
    → PayFaceOnce note face (map (paid_on note closed face) (last_dates note.maturity rule.MonthEnd (suc k)))
unfolding flow_of cents_of
face-once note closed face k t few =
    subst (λ (interest : ℕ). total (map (paid_on note closed face) (last_dates note.maturity rule.MonthEnd (suc k))) ≡ face + length (map (paid_on note closed face) (last_dates note.maturity rule.MonthEnd (suc k))) * interest)
    (half-coupon face note.coupon.0)
    (face-sum (open_day closed) (earned_of face note.coupon.0 1 2) (λ date. principal_by (payment_on note closed date) face) face note.maturity rule.MonthEnd k
    (choice-true (int_eq (half_back_of note.maturity 0 rule.MonthEnd) note.maturity) face 0 ((Decides-int_eq (half_back_of note.maturity 0 rule.MonthEnd) note.maturity).1 (half_back_of-zero note.maturity rule.MonthEnd t.base)))
    (λ j some le.
    let reach = half_back_of-reach note.maturity rule.MonthEnd j t.base (omega arith) in
    choice-false (int_eq (half_back_of note.maturity j rule.MonthEnd) note.maturity) face 0
    (λ e. omega (arith, signed_arith, reach, (Decides-int_eq (half_back_of note.maturity j rule.MonthEnd) note.maturity).0 e))))

pub payments-face : (note : Note) (closed : Closings) (face n : ℕ) → IsNear note.maturity note.settle → HasDates note.maturity rule.MonthEnd note.settle n → PayFaceOnce note face (note_flows note closed face)
payments-face note closed face n t p =
    let more : n ≡ suc (n - 1) = omega (arith, p.some) in
    subst (PayFaceOnce note face) (sym (payments-series note closed face n p ∙ ap (λ (m : ℕ). map (paid_on note closed face) (last_dates note.maturity rule.MonthEnd m)) more))
    (face-once note closed face (n - 1) t (omega (arith, p.few)))

-- a greater face
days-same : (rate face more : ℕ) (schedule : List ScheduledPayment) → map (λ (flow : Flow). flow.day) (flows_by rate face schedule) ≡ map (λ (flow : Flow). flow.day) (flows_by rate more schedule)
days-same rate face more [] = refl
days-same rate face more (x ∷ xs) = ap (λ days. x.day ∷ days) (days-same rate face more xs)

at-most : (rate face more : ℕ) (schedule : List ScheduledPayment) → face ≤ more → AreAtMost (flows_by rate face schedule) (flows_by rate more schedule)
at-most rate face more schedule le = record {
  days = days-same rate face more schedule;
  cents = λ place d short.
      let within : place < length schedule = omega (arith, length-map schedule (flow_by rate face)) in
      let e : ScheduledPayment = record { day = d.day; accrual = half_year_accrual; principal = false } in
      rw (get_or-map (flow_by rate face) schedule place e d within, get_or-map (flow_by rate more) schedule place e d within)
      (flow-more rate face more (get_or schedule place e) le);
}

pub payments-more : (note : Note) (closed : Closings) (face : ℕ) → PayNoLessForMore note closed face (note_flows note closed face)
payments-more note closed face = λ more le. at-most note.coupon.0 face more (note_schedule note closed) le
