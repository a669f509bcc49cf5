-- What each issue that is read keeps. The limits are this project's own.
use Rattle.std.specs.Prelude.{◌≡◌, ℕ, ◌≤◌, ◌<ℤ◌, ◌≤ℤ◌, ℤ, length, All, IfSome}
use Rattle.escrow_units.specs.Calendar.{years_after_of}
use Rattle.escrow_units.specs.OpenDays.{Closings}
use Rattle.escrow_units.specs.SlgsTerms.{IsSettlement}
use Rattle.escrow_units.specs.declared.limits.TheConstants.{AMOUNT_LIMIT, GREATEST_GIVEN_YIELD, GREATEST_PRICE, GREATEST_RATE, LEAST_PRICE, MOST_NEED_DATES}
use Rattle.escrow_units.specs.declared.security.Flow.{Flow}
use Rattle.escrow_units.specs.Flows.{total}
use Rattle.issue_schedule.specs.IssueRows.{IsBudget, IsCents, IsGivenYield, IsIssuePrice}
use Rattle.issue_schedule.specs.Needs.{all_needs, needs_of}
use Rattle.issue_schedule.specs.declared.draft.IssueRead.{IssueRead}
use Rattle.issue_schedule.specs.declared.issue.Bond.{Bond}
use Rattle.issue_schedule.specs.declared.issue.Call.{Call}
use Rattle.issue_schedule.specs.declared.issue.Issue.{Issue}
use Rattle.issue_schedule.specs.declared.issue.Restricted.{Restricted}
use Rattle.issue_schedule.specs.declared.issue.Restricted.TheVariants.{Given, Computed}

-- a day after settlement, at most 40 years later
pub record IsLater (settle day : ℤ) : Type 0 where
  pub after : settle <ℤ day
  pub by : day ≤ℤ years_after_of settle 40

-- a call after settlement, at a price from 10 to 300 percent of par
pub record IsCall (settle : ℤ) (call : Call) : Type 0 where
  pub day : IsLater settle call.day
  pub least : LEAST_PRICE ≤ call.price.0
  pub most : call.price.0 ≤ GREATEST_PRICE

-- an old bond that matures after settlement
pub record IsBond (settle : ℤ) (bond : Bond) : Type 0 where
  pub maturity : IsLater settle bond.maturity
  pub principal : bond.principal.0 ≤ AMOUNT_LIMIT
  pub coupon : bond.coupon.0 ≤ GREATEST_RATE

-- a need that is given as such, from settlement on
pub record IsDirect (settle : ℤ) (flow : Flow) : Type 0 where
  pub from : settle ≤ℤ flow.day
  pub by : flow.day ≤ℤ years_after_of settle 40
  pub cents : flow.cents.0 ≤ AMOUNT_LIMIT

-- a payment of the refunding issue, after settlement
pub record IsPay (settle : ℤ) (flow : Flow) : Type 0 where
  pub day : IsLater settle flow.day
  pub cents : flow.cents.0 ≤ AMOUNT_LIMIT

-- what has been read so far keeps all this
pub record IsRead (read : IssueRead) : Type 0 where
  pub settle : IsSettlement read.settle
  pub call : IfSome read.call (IsCall read.settle)
  pub bonds : All (IsBond read.settle) read.bonds
  pub direct : All (IsDirect read.settle) read.direct
  pub cash : IfSome read.cash IsCents
  pub restricted : IfSome read.restricted IsGivenYield
  pub price : IfSome read.price IsIssuePrice
  pub pays : All (IsPay read.settle) read.pays
  pub allowance : IfSome read.allowance IsCents
  pub budget : IfSome read.budget IsBudget
  pub closed : All (IsLater read.settle) read.closed

-- and its rows name days up to 40 years after settlement
pub record IsDraft (last : ℤ) (read : IssueRead) : Type 0 where
  pub last_day : last ≡ years_after_of read.settle 40
  pub read_rows : IsRead read

-- all needs of an issue together, in cents
abbrev pub needs_total : Issue → ℕ
needs_total issue = total (all_needs issue.settle issue.call issue.direct issue.bonds)

-- on how many days something is needed
abbrev pub need_dates : Issue → ℕ
need_dates issue = length (needs_of issue.settle issue.call issue.direct issue.bonds)

-- what the needs of an issue stand on: at most 10^13 cents together
pub record HasNeeds (issue : Issue) : Type 0 where
  pub settle : IsSettlement issue.settle
  pub call : IfSome issue.call (IsCall issue.settle)
  pub bonds : All (IsBond issue.settle) issue.bonds
  pub direct : All (IsDirect issue.settle) issue.direct
  pub limit : needs_total issue ≤ AMOUNT_LIMIT

-- at most 29.99 percent, or a price of at least one cent
abbrev pub IsRestricted : Restricted → Type 0
IsRestricted (Given units) = units.0 ≤ GREATEST_GIVEN_YIELD
IsRestricted (Computed row price) = (1 ≤ price.0) × (price.0 ≤ AMOUNT_LIMIT)

-- closed days, at most 1,000 of which are listed, each after settlement
pub record AreClosed (settle : ℤ) (closed : Closings) : Type 0 where
  pub few : length closed.days ≤ 1_000
  pub days : All (IsLater settle) closed.days

-- what each issue that is read keeps
pub record IsIssue (issue : Issue) : Type 0 where
  pub needs : HasNeeds issue
  pub dates : need_dates issue ≤ MOST_NEED_DATES
  pub cash : issue.cash.0 ≤ AMOUNT_LIMIT
  pub restricted : IsRestricted issue.restricted
  pub pays : All (IsPay issue.settle) issue.pays
  pub pays_limit : total issue.pays ≤ AMOUNT_LIMIT
  pub allowance : issue.allowance.0 ≤ AMOUNT_LIMIT
  pub budget : IsBudget issue.budget
  pub closed : AreClosed issue.settle issue.closed
