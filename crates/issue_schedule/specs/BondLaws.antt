-- What one bond needs, day by day, and where its half-years begin.
use Rattle.std.specs.Prelude.{◌≡◌, ◌≢◌, ◌+◌, ◌*◌, List, length, Option, Some, IfSome, ℤ, ◌≤ℤ◌, ◌<ℤ◌}
use Rattle.escrow_units.specs.Calendar.{IsSeriesDate}
use Rattle.escrow_units.specs.Flows.{total}
use Rattle.escrow_units.specs.Series.{IsLastBy}
use Rattle.escrow_units.specs.SlgsTerms.{IsSettlement}
use Rattle.escrow_units.specs.declared.security.Flow.{Flow}
use Rattle.escrow_units.specs.declared.security.StepRule.TheVariants as rule
use Rattle.day_sums.specs.Summed.{cents_on}
use Rattle.issue_schedule.specs.declared.issue.Bond.{Bond}
use Rattle.issue_schedule.specs.declared.issue.Call.{Call}
use Rattle.issue_schedule.specs.IssueTerms.{IsBond, IsCall, IsLater}
use Rattle.issue_schedule.specs.Needs.{accrued, accrued_since, bond_needs, call_price, half_coupon, interest_dates, period_start}

-- a date of a bond's series
abbrev pub IsBondDate : ℤ → ℤ → Type 0
IsBondDate maturity day = IsSeriesDate maturity rule.SameDay day

-- a day of interest is a date of the bond's series after settlement, here up to a last day
pub record IsInterestDay (settle last maturity day : ℤ) : Type 0 where
  pub after : settle <ℤ day
  pub by : day ≤ℤ last
  pub series : IsBondDate maturity day

-- the principal is paid once, at maturity, with the last interest, and half the coupon once on each earlier day of interest
pub record PaysAsHeld (settle : ℤ) (bond : Bond) (flows : List Flow) : Type 0 where
  pub at_maturity : cents_on bond.maturity flows ≡ bond.principal.0 + half_coupon bond
  pub interest :
      (day : ℤ) → day ≢ bond.maturity → IsInterestDay settle bond.maturity bond.maturity day
      → cents_on day flows ≡ half_coupon bond
  pub nothing_else : (day : ℤ) → ¬ (IsInterestDay settle bond.maturity bond.maturity day) → cents_on day flows ≡ 0
  pub total :
      total flows ≡ bond.principal.0 + length (interest_dates settle bond.maturity bond.maturity) * half_coupon bond

-- the call price is paid once, at the call, with the interest of that day or else what has accrued, and half the coupon
-- once on each earlier day of interest
pub record PaysAsCalled (settle : ℤ) (call : Call) (bond : Bond) (flows : List Flow) : Type 0 where
  pub at_call_with_interest :
      IsBondDate bond.maturity call.day → cents_on call.day flows ≡ call_price bond call + half_coupon bond
  pub at_call_with_accrued :
      ¬ (IsBondDate bond.maturity call.day)
      → cents_on call.day flows ≡ call_price bond call + accrued_since bond (period_start bond.maturity call.day) call.day
  pub interest :
      (day : ℤ) → day ≢ call.day → IsInterestDay settle call.day bond.maturity day → cents_on day flows ≡ half_coupon bond
  pub nothing_else :
      (day : ℤ) → day ≢ call.day → ¬ (IsInterestDay settle call.day bond.maturity day) → cents_on day flows ≡ 0
  pub total :
      total flows
      ≡ call_price bond call + total (accrued bond call.day) + length (interest_dates settle call.day bond.maturity) * half_coupon bond

-- with no call, or by the call, a bond is held to maturity
abbrev pub HeldBondsPayOnce : Type 0
HeldBondsPayOnce =
    (settle : ℤ) (call : Option Call) (bond : Bond)
    → IsSettlement settle → IsBond settle bond → IfSome call (λ at. bond.maturity ≤ℤ at.day)
    → PaysAsHeld settle bond (bond_needs settle call bond)

-- one that matures later is called
abbrev pub CalledBondsPayOnce : Type 0
CalledBondsPayOnce =
    (settle : ℤ) (call : Call) (bond : Bond)
    → IsSettlement settle → IsBond settle bond → IsCall settle call → call.day <ℤ bond.maturity
    → PaysAsCalled settle call bond (bond_needs settle (Some call) bond)

-- the half-year of a day begins at the last date of the series up to the day
abbrev pub PeriodsStartBySeries : Type 0
PeriodsStartBySeries =
    (settle maturity day : ℤ)
    → IsSettlement settle → IsLater settle maturity → settle ≤ℤ day
    → IsLastBy maturity rule.SameDay day (period_start maturity day)
