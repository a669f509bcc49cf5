-- What the payments of a SLGS security are, in the terms of bonds.
use Rattle.std.specs.Prelude.{◌≡◌, ◌↔◌, ℕ, ◌+◌, ◌*◌, ◌^◌, ◌≤◌, IsTrue, List, map, All, sum_by, ℤ, ◌≤ℤ◌, ◌<ℤ◌}
use Rattle.std.specs.List.{AllZip}
use Rattle.escrow_units.specs.Calendar.{IsSeriesDate}
use Rattle.escrow_units.specs.Flows.{total}
use Rattle.escrow_units.specs.Interest.{half_coupon_of}
use Rattle.escrow_units.specs.OpenDays.{Closings, no_closings, open_day}
use Rattle.escrow_units.specs.SlgsTerms.{IsSettlement, IsSlgs}
use Rattle.escrow_units.specs.declared.security.Flow.{Flow}
use Rattle.escrow_units.specs.declared.security.Slgs.{Slgs}
use Rattle.escrow_units.specs.declared.security.SlgsKind.TheVariants as kind
use Rattle.escrow_units.specs.declared.security.StepRule.TheVariants as rule
use Rattle.payment_schedule.specs.Schedule.{flow_by, interest_by, principal_by}
use Rattle.slgs_interest.specs.Payments.{basis_of, before_first, is_leap_day, second_before_first, slgs_schedule}

-- all payments come after settlement, and none after the open day of maturity
abbrev pub AreWithinTerm : Slgs → Closings → List Flow → Type 0
AreWithinTerm slgs closed flows =
    All (λ flow. (slgs.settle <ℤ flow.day) × (flow.day ≤ℤ open_day closed slgs.maturity)) flows

-- the payments are the principal, once, and the interest
abbrev pub PayPrincipalOnce : Slgs → Closings → ℕ → List Flow → Type 0
PayPrincipalOnce slgs closed face flows =
    total flows ≡ face + sum_by (interest_by slgs.rate.0 face) (slgs_schedule slgs closed)

-- without interest they are the principal
abbrev pub PayFaceAlone : Slgs → ℕ → List Flow → Type 0
PayFaceAlone slgs face flows = slgs.rate.0 ≡ 0 → total flows ≡ face

-- a note or bond that settles on the date of its series before the first payment pays the same interest each time
abbrev pub PayEqualInterest : Slgs → Closings → ℕ → List Flow → Type 0
PayEqualInterest slgs closed face flows =
    ¬ (slgs.kind ≡ kind.Certificate) → slgs.settle ≡ before_first slgs
    → AllZip (λ payment flow. flow.cents.0 ≡ half_coupon_of face slgs.rate.0 + principal_by payment face) (slgs_schedule slgs closed) flows

-- no payment of a permitted face is above 2 billion dollars
abbrev pub AreSmall : List Flow → Type 0
AreSmall flows = All (λ flow. flow.cents.0 ≤ 2 * 10 ^ 11) flows

-- no payment of a permitted face has more than 400 million dollars of interest
abbrev pub EarnLittle : Slgs → Closings → ℕ → List Flow → Type 0
EarnLittle slgs closed face flows =
    AllZip (λ payment flow. flow.cents.0 ≤ 4 * 10 ^ 10 + principal_by payment face) (slgs_schedule slgs closed) flows

-- the amounts don't know which days are closed: they are those of a case in which none is
abbrev pub KeepAmounts : Slgs → ℕ → List Flow → Type 0
KeepAmounts slgs face flows =
    map (λ flow. flow.cents.0) flows
    ≡ map (λ flow. flow.cents.0) (map (flow_by slgs.rate.0 face) (slgs_schedule slgs no_closings))

-- the latest date of the series before a day
pub record IsLatestBefore (maturity day date : ℤ) : Type 0 where
  pub series : IsSeriesDate maturity rule.SameDay date
  pub before : date <ℤ day
  pub latest : (other : ℤ) → IsSeriesDate maturity rule.SameDay other → other <ℤ day → other ≤ℤ date

-- the two dates that the first interest is counted by
abbrev pub DatesBeforeFirst : Type 0
DatesBeforeFirst =
    (slgs : Slgs) → IsSettlement slgs.settle → IsSlgs slgs
    → IsLatestBefore slgs.maturity slgs.first (before_first slgs)
    × IsLatestBefore slgs.maturity (before_first slgs) (second_before_first slgs)

-- a 29 February after one day and not after another
pub record IsLeapDayBetween (after last day : ℤ) : Type 0 where
  pub late : after <ℤ day
  pub early : day ≤ℤ last
  pub leap : IsTrue (is_leap_day day)

-- the basis is 366 exactly where there is one
abbrev pub BasisCountsLeapDays : Type 0
BasisCountsLeapDays =
    (settle maturity : ℤ) → settle ≤ℤ maturity
    → (basis_of settle maturity ≡ 366) ↔ ((day : ℤ) × IsLeapDayBetween settle maturity day)
