-- What each row of an issue file that is read keeps, whatever stands before it. The limits are this project's own.
use Rattle.std.specs.Prelude.{ℕ, ◌≤◌, ◌≤ℤ◌, ℤ, ⊤}
use Rattle.escrow_units.specs.declared.limits.TheConstants.{AMOUNT_LIMIT, GREATEST_GIVEN_YIELD, GREATEST_PRICE, GREATEST_RATE, LEAST_PRICE}
use Rattle.escrow_units.specs.SlgsTerms.{IsSettlement}
use Rattle.escrow_units.specs.declared.amount.Cents.{Cents}
use Rattle.escrow_units.specs.declared.amount.YieldUnits.{YieldUnits}
use Rattle.escrow_units.specs.declared.security.Flow.{Flow}
use Rattle.issue_schedule.specs.declared.draft.IssuePrice.{IssuePrice}
use Rattle.issue_schedule.specs.declared.issue.Bond.{Bond}
use Rattle.issue_schedule.specs.declared.issue.Call.{Call}
use Rattle.issue_schedule.specs.declared.row.IssueRow.{IssueRow}
use Rattle.issue_schedule.specs.declared.row.IssueRow.TheVariants as issue_row

-- an amount of at most 10^13 cents
abbrev pub IsCents : Cents → Type 0
IsCents cents = cents.0 ≤ AMOUNT_LIMIT

-- a yield of at most 29.99 percent
abbrev pub IsGivenYield : YieldUnits → Type 0
IsGivenYield units = units.0 ≤ GREATEST_GIVEN_YIELD

-- an issue price of at least one cent
pub record IsIssuePrice (price : IssuePrice) : Type 0 where
  pub least : 1 ≤ price.cents.0
  pub most : IsCents price.cents

-- from 1 to 10,000 nodes
pub record IsBudget (budget : ℕ) : Type 0 where
  pub least : 1 ≤ budget
  pub most : budget ≤ 10_000

-- a call up to a last day, at a price from 10 to 300 percent of par
pub record IsCallRow (last : ℤ) (call : Call) : Type 0 where
  pub by : call.day ≤ℤ last
  pub least : LEAST_PRICE ≤ call.price.0
  pub most : call.price.0 ≤ GREATEST_PRICE

-- an old bond that matures by a last day, with a coupon of at most 30 percent
pub record IsBondRow (last : ℤ) (bond : Bond) : Type 0 where
  pub by : bond.maturity ≤ℤ last
  pub principal : IsCents bond.principal
  pub coupon : bond.coupon.0 ≤ GREATEST_RATE

-- an amount by a last day
pub record IsFlowRow (last : ℤ) (flow : Flow) : Type 0 where
  pub by : flow.day ≤ℤ last
  pub cents : IsCents flow.cents

abbrev pub IsIssueRow : ℤ → IssueRow → Type 0
IsIssueRow last (issue_row.Settle day) = IsSettlement day
IsIssueRow last (issue_row.Call call) = IsCallRow last call
IsIssueRow last (issue_row.Bond bond) = IsBondRow last bond
IsIssueRow last (issue_row.Need need) = IsFlowRow last need
IsIssueRow last (issue_row.Cash cash) = IsCents cash
IsIssueRow last (issue_row.Restricted units) = IsGivenYield units
IsIssueRow last (issue_row.Price price) = IsIssuePrice price
IsIssueRow last (issue_row.Pay pay) = IsFlowRow last pay
IsIssueRow last (issue_row.Allowance allowance) = IsCents allowance
IsIssueRow last (issue_row.Budget budget) = IsBudget budget
IsIssueRow last issue_row.Weekends = ⊤
IsIssueRow last (issue_row.Closed day) = day ≤ℤ last
