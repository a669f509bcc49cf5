-- What the cost and the payments of a marketable note are, in the terms of bonds.
use Rattle.std.specs.Prelude.{◌≡◌, ℕ, ◌+◌, ◌*◌, ◌<◌, ◌≤◌, List, length, get_or, map, All, ℤ, ◌≤ℤ◌, ◌<ℤ◌, ◌⊎◌}
use Rattle.escrow_units.specs.Calendar.{IsSeriesDate}
use Rattle.escrow_units.specs.Flows.{total}
use Rattle.escrow_units.specs.Interest.{face_price_of, half_coupon_of}
use Rattle.escrow_units.specs.OpenDays.{Closings, no_closings, open_day}
use Rattle.escrow_units.specs.declared.security.Flow.{Flow}
use Rattle.escrow_units.specs.declared.security.StepRule.TheVariants as rule
use Rattle.payment_schedule.specs.Schedule.{flow_by}
use Rattle.market_notes.specs.NoteFlows.{cost_of, note_schedule}
use Rattle.market_notes.specs.declared.note.Note.{Note}

-- a date of the note's series, where month ends are kept
abbrev pub IsCouponDate : Note → ℤ → Type 0
IsCouponDate note day = IsSeriesDate note.maturity rule.MonthEnd day

-- settlement falls in the half-year from one coupon date to the next: on the first of them, or between them
pub record SettlesIn (note : Note) (start «end» : ℤ) : Type 0 where
  pub first : IsCouponDate note start
  pub last : IsCouponDate note «end»
  pub begun : start ≤ℤ note.settle
  pub unpaid : note.settle <ℤ «end»
  pub between : (day : ℤ) → IsCouponDate note day → (day ≤ℤ start) ⊎ («end» ≤ℤ day)

-- where settlement falls on a coupon date nothing is accrued, and the price alone is paid
abbrev pub CostsPriceOnCouponDate : Note → ℕ → ℕ → Type 0
CostsPriceOnCouponDate note face cost = IsCouponDate note note.settle → cost ≡ face_price_of face note.price.0

-- a greater face doesn't cost less
abbrev pub CostsNoLessForMore : Note → ℕ → ℕ → Type 0
CostsNoLessForMore note face cost = (more : ℕ) → face ≤ more → cost ≤ cost_of note more

-- the open day of a coupon date after settlement
pub record IsPaymentDay (note : Note) (closed : Closings) (day : ℤ) : Type 0 where
  pub date : ℤ
  pub coupon : IsCouponDate note date
  pub after : note.settle <ℤ date
  pub opens : day ≡ open_day closed date

-- on such days all payments fall
abbrev pub AreAfterSettlement : Note → Closings → List Flow → Type 0
AreAfterSettlement note closed flows = All (λ flow. IsPaymentDay note closed flow.day) flows

-- the amounts don't know which days are closed: they are those of a case in which none is
abbrev pub KeepAmounts : Note → ℕ → List Flow → Type 0
KeepAmounts note face flows =
    map (λ flow. flow.cents.0) flows
    ≡ map (λ flow. flow.cents.0) (map (flow_by note.coupon.0 face) (note_schedule note no_closings))

-- the face is paid once, and half a year's interest with each payment
abbrev pub PayFaceOnce : Note → ℕ → List Flow → Type 0
PayFaceOnce note face flows =
    total flows ≡ face + length flows * half_coupon_of face note.coupon.0

-- payments on the same days, none of them less than the one in its place
pub record AreAtMost (flows others : List Flow) : Type 0 where
  pub days : map (λ flow. flow.day) flows ≡ map (λ flow. flow.day) others
  pub cents : (place : ℕ) (d : Flow) → place < length flows → (get_or flows place d).cents.0 ≤ (get_or others place d).cents.0

-- a greater face doesn't pay less
abbrev pub PayNoLessForMore : Note → Closings → ℕ → List Flow → Type 0
PayNoLessForMore note closed face flows =
    (more : ℕ) → face ≤ more → AreAtMost flows (map (flow_by note.coupon.0 more) (note_schedule note closed))
