-- What old bonds and direct needs come to on each day.
use Rattle.std.specs.Prelude.{ℕ, if◌then◌else◌, int_le, List, [], ◌∷◌, ◌++◌, map, filter, Option, Some, None, ℤ}
use Rattle.std.specs.List.{flat_map}
use Rattle.std.specs.Ordering.{int_eq}
use Rattle.escrow_units.specs.Flows.{index360_of}
use Rattle.escrow_units.specs.Interest.{earned_of, face_price_of, half_coupon_of}
use Rattle.escrow_units.specs.Series.{dates_after_of, previous_date_of}
use Rattle.escrow_units.specs.declared.security.Flow.{Flow}
use Rattle.escrow_units.specs.declared.security.StepRule.TheVariants as rule
use Rattle.day_sums.specs.Summed.{on, summed}
use Rattle.issue_schedule.specs.declared.issue.Bond.{Bond}
use Rattle.issue_schedule.specs.declared.issue.Call.{Call}

-- a bond pays interest on the dates of its series after settlement, here up to a last day
abbrev pub interest_dates : ℤ → ℤ → ℤ → List ℤ
interest_dates settle last maturity = filter (λ date. int_le date last) (dates_after_of maturity rule.SameDay settle)

-- half its coupon
abbrev pub half_coupon : Bond → ℕ
half_coupon bond = half_coupon_of bond.principal.0 bond.coupon.0

-- half of a bond's coupon on each date of its series after settlement, up to a last day
abbrev pub interest : ℤ → ℤ → Bond → List Flow
interest settle last bond = map (λ date. on date (half_coupon bond)) (interest_dates settle last bond.maturity)

-- the date of the series that begins the half-year of a day: the last up to the day
abbrev pub period_start : ℤ → ℤ → ℤ
period_start maturity day = previous_date_of maturity rule.SameDay day

-- the interest that has accrued since a day, by years of twelve months of thirty days (30E/360)
abbrev pub accrued_since : Bond → ℤ → ℤ → ℕ
accrued_since bond start day = earned_of bond.principal.0 bond.coupon.0 (index360_of start day) 360

-- accrued interest is due where the call is no date of the series
abbrev pub accrued : Bond → ℤ → List Flow
accrued bond day =
    if int_eq (period_start bond.maturity day) day then []
    else on day (accrued_since bond (period_start bond.maturity day) day) ∷ []

-- the price of a bond that is called
abbrev pub call_price : Bond → Call → ℕ
call_price bond call = face_price_of bond.principal.0 call.price.0

-- a bond that isn't called pays interest up to maturity, and its principal there
abbrev pub held_needs : ℤ → Bond → List Flow
held_needs settle bond = on bond.maturity bond.principal.0 ∷ interest settle bond.maturity bond

-- a called bond pays the price and accrued interest at the call, and interest up to it
abbrev pub called_needs : ℤ → Bond → Call → List Flow
called_needs settle bond call =
    on call.day (call_price bond call) ∷ accrued bond call.day ++ interest settle call.day bond

-- what a bond needs; one that matures by the call isn't called
abbrev pub bond_needs : ℤ → Option Call → Bond → List Flow
bond_needs settle None bond = held_needs settle bond
bond_needs settle (Some call) bond =
    if int_le bond.maturity call.day then held_needs settle bond else called_needs settle bond call

-- what direct needs and bonds need, one by one
abbrev pub all_needs : ℤ → Option Call → List Flow → List Bond → List Flow
all_needs settle call direct bonds = direct ++ flat_map (bond_needs settle call) bonds

-- the needs in order of day, each day once: what direct needs and bonds need, summed by day
unfoldable pub needs_of : ℤ → Option Call → List Flow → List Bond → List Flow
needs_of settle call direct bonds = summed (all_needs settle call direct bonds)
