-- The issue file: its rows, and what they give or where they are refused. The rows are this project's own.
use Rattle.std.specs.Prelude.{ℕ, ◌==◌, ◌||◌, ◌&&◌, Bool, true, false, nat_lt, nat_le, int_lt, int_le, if◌then◌else◌, List, [], ◌∷◌, ◌++◌, length, is_some, unwrap_or, Option, Some, None, Result, Ok, Err, codes, ℤ}
use Rattle.std.specs.List.{list_any}
use Rattle.std.specs.Ordering.{int_eq}
use Rattle.escrow_units.specs.declared.limits.TheConstants.{AMOUNT_LIMIT, MOST_NEED_DATES}
use Rattle.escrow_desk.specs.declared.refusal.FileKind.TheVariants as file
use Rattle.escrow_desk.specs.declared.refusal.Refusal.{Refusal}
use Rattle.escrow_desk.specs.declared.refusal.RefusalKind.{RefusalKind}
use Rattle.escrow_desk.specs.declared.refusal.RefusalKind.TheVariants as kind
use Rattle.escrow_units.specs.Calendar.{years_after_of}
use Rattle.escrow_units.specs.NumberText.{cents_of, rate_of, yield_of, count_of}
use Rattle.escrow_units.specs.PriceText.{price_of}
use Rattle.escrow_units.specs.SlgsTerms.{is_settlement}
use Rattle.escrow_units.specs.declared.amount.Cents.{Cents}
use Rattle.escrow_units.specs.declared.amount.YieldUnits.{YieldUnits}
use Rattle.escrow_units.specs.declared.security.Flow.{Flow}
use Rattle.issue_schedule.specs.IssueTerms.{needs_total, need_dates}
use Rattle.escrow_units.specs.Flows.{total}
use Rattle.row_fields.specs.RowForm.{Row, field_of, is_word, ◌>>=◌, or_refused, day_field_of, day_by_of, of_width, answer_of_row, with_rows}
use Rattle.issue_schedule.specs.declared.draft.IssueRead.{IssueRead}
use Rattle.issue_schedule.specs.declared.draft.IssuePrice.{IssuePrice}
use Rattle.issue_schedule.specs.declared.row.IssueRow.{IssueRow}
use Rattle.issue_schedule.specs.declared.row.IssueRow.TheVariants as issue_row
use Rattle.issue_schedule.specs.declared.issue.Bond.{Bond}
use Rattle.issue_schedule.specs.declared.issue.Call.{Call}
use Rattle.issue_schedule.specs.declared.issue.Issue.{Issue}
use Rattle.issue_schedule.specs.declared.issue.Restricted.{Restricted}
use Rattle.issue_schedule.specs.declared.issue.Restricted.TheVariants.{Given, Computed}

-- `settle,DATE`, from 2000-01-01 to 2150-01-01
abbrev pub settle_row_of : Row → Result ℤ RefusalKind
settle_row_of row = of_width 2 row (do
  day ← day_field_of (field_of row 1)
  if is_settlement day then Ok day else Err kind.OutOfRange)

-- the rows below name days up to the last one, 40 years after settlement
-- `call,DATE,PRICE`, the price in percent of par
abbrev pub call_row_of : ℤ → Row → Result Call RefusalKind
call_row_of last row = of_width 3 row (do
  day ← day_by_of last (field_of row 1)
  price ← or_refused (price_of (field_of row 2))
  Ok (record { day = day; price = price }))

-- `bond,MATURITY,PRINCIPAL,COUPON`
abbrev pub bond_row_of : ℤ → Row → Result Bond RefusalKind
bond_row_of last row = of_width 4 row (do
  maturity ← day_by_of last (field_of row 1)
  principal ← or_refused (cents_of (field_of row 2))
  coupon ← or_refused (rate_of (field_of row 3))
  Ok (record { maturity = maturity; principal = principal; coupon = coupon }))

-- `need,DATE,AMOUNT`, and `pay,DATE,AMOUNT`
abbrev pub flow_row_of : ℤ → Row → Result Flow RefusalKind
flow_row_of last row = of_width 3 row (do
  day ← day_by_of last (field_of row 1)
  cents ← or_refused (cents_of (field_of row 2))
  Ok (record { day = day; cents = cents }))

-- `cash,AMOUNT`, and `allowance,AMOUNT`
abbrev pub cents_row_of : Row → Result Cents RefusalKind
cents_row_of row = of_width 2 row (or_refused (cents_of (field_of row 1)))

-- `restricted,YIELD`
abbrev pub yield_row_of : Row → Result YieldUnits RefusalKind
yield_row_of row = of_width 2 row (or_refused (yield_of (field_of row 1)))

-- `price,AMOUNT`: at least one cent
abbrev pub price_row_of : ℕ → Row → Result IssuePrice RefusalKind
price_row_of number row = do
  cents ← cents_row_of row
  if cents.0 == 0 then Err kind.OutOfRange else Ok (record { row = number; cents = cents })

-- `budget,COUNT`
abbrev pub budget_row_of : Row → Result ℕ RefusalKind
budget_row_of row = of_width 2 row (or_refused (count_of (field_of row 1)))

-- `weekends`
abbrev pub weekends_row_of : Row → Result IssueRow RefusalKind
weekends_row_of row = of_width 1 row (Ok issue_row.Weekends)

-- `closed,DATE`
abbrev pub closed_row_of : ℤ → Row → Result ℤ RefusalKind
closed_row_of last row = of_width 2 row (day_by_of last (field_of row 1))

-- what a row says, by its number from 1
abbrev pub issue_row_of : ℤ → ℕ → Row → Result IssueRow RefusalKind
issue_row_of last number row =
    if is_word (codes "settle") (field_of row 0) then (settle_row_of row >>= (λ day. Ok (issue_row.Settle day))) else
    (if is_word (codes "call") (field_of row 0) then (call_row_of last row >>= (λ call. Ok (issue_row.Call call))) else
    (if is_word (codes "bond") (field_of row 0) then (bond_row_of last row >>= (λ bond. Ok (issue_row.Bond bond))) else
    (if is_word (codes "need") (field_of row 0) then (flow_row_of last row >>= (λ need. Ok (issue_row.Need need))) else
    (if is_word (codes "cash") (field_of row 0) then (cents_row_of row >>= (λ cash. Ok (issue_row.Cash cash))) else
    (if is_word (codes "restricted") (field_of row 0) then (yield_row_of row >>= (λ units. Ok (issue_row.Restricted units))) else
    (if is_word (codes "price") (field_of row 0) then (price_row_of number row >>= (λ price. Ok (issue_row.Price price))) else
    (if is_word (codes "pay") (field_of row 0) then (flow_row_of last row >>= (λ pay. Ok (issue_row.Pay pay))) else
    (if is_word (codes "allowance") (field_of row 0) then (cents_row_of row >>= (λ allowance. Ok (issue_row.Allowance allowance))) else
    (if is_word (codes "budget") (field_of row 0) then (budget_row_of row >>= (λ budget. Ok (issue_row.Budget budget))) else
    (if is_word (codes "weekends") (field_of row 0) then weekends_row_of row else
    (if is_word (codes "closed") (field_of row 0) then (closed_row_of last row >>= (λ day. Ok (issue_row.Closed day))) else
    Err kind.UnknownRow)))))))))))

-- the one call, which is after settlement
abbrev pub with_call : IssueRead → Call → Result IssueRead RefusalKind
with_call read call =
    if is_some read.call then Err kind.Repeated else
    (if int_le call.day read.settle then Err kind.DateOrder else Ok (record read { call = Some call }))

-- one more old bond, which matures after settlement
abbrev pub with_bond : IssueRead → Bond → Result IssueRead RefusalKind
with_bond read bond =
    if int_le bond.maturity read.settle then Err kind.DateOrder else Ok (record read { bonds = read.bonds ++ bond ∷ [] })

-- one more direct need, on or after settlement
abbrev pub with_need : IssueRead → Flow → Result IssueRead RefusalKind
with_need read need =
    if int_lt need.day read.settle then Err kind.DateOrder else Ok (record read { direct = read.direct ++ need ∷ [] })

-- the one cash maximum
abbrev pub with_cash : IssueRead → Cents → Result IssueRead RefusalKind
with_cash read cash = if is_some read.cash then Err kind.Repeated else Ok (record read { cash = Some cash })

-- the one restricted yield, where no price and no payment stand
abbrev pub with_restricted : IssueRead → YieldUnits → Result IssueRead RefusalKind
with_restricted read units =
    if is_some read.restricted || is_some read.price || nat_lt 0 (length read.pays) then Err kind.Repeated
    else Ok (record read { restricted = Some units })

-- the one issue price, where no restricted yield stands
abbrev pub with_price : IssueRead → IssuePrice → Result IssueRead RefusalKind
with_price read price =
    if is_some read.price || is_some read.restricted then Err kind.Repeated else Ok (record read { price = Some price })

-- one more payment of the refunding issue, after settlement, where no restricted yield stands
abbrev pub with_pay : IssueRead → Flow → Result IssueRead RefusalKind
with_pay read pay =
    if is_some read.restricted then Err kind.Repeated else
    (if int_le pay.day read.settle then Err kind.DateOrder else Ok (record read { pays = read.pays ++ pay ∷ [] }))

-- the one allowance
abbrev pub with_allowance : IssueRead → Cents → Result IssueRead RefusalKind
with_allowance read allowance = if is_some read.allowance then Err kind.Repeated else Ok (record read { allowance = Some allowance })

-- the one budget
abbrev pub with_budget : IssueRead → ℕ → Result IssueRead RefusalKind
with_budget read budget = if is_some read.budget then Err kind.Repeated else Ok (record read { budget = Some budget })

-- the weekends, which are closed once
abbrev pub with_weekends : IssueRead → Result IssueRead RefusalKind
with_weekends read = if read.weekends then Err kind.Repeated else Ok (record read { weekends = true })

-- one more closed day, after settlement, that no earlier row closes
abbrev pub with_closed : IssueRead → ℤ → Result IssueRead RefusalKind
with_closed read day =
    if int_le day read.settle then Err kind.DateOrder else
    (if list_any (int_eq day) read.closed then Err kind.Repeated else Ok (record read { closed = read.closed ++ day ∷ [] }))

-- what was read, with what one more row says; `settle` stands once, in row 1
abbrev pub with_read_row : IssueRead → IssueRow → Result IssueRead RefusalKind
with_read_row read (issue_row.Settle day) = Err kind.Repeated
with_read_row read (issue_row.Call call) = with_call read call
with_read_row read (issue_row.Bond bond) = with_bond read bond
with_read_row read (issue_row.Need need) = with_need read need
with_read_row read (issue_row.Cash cash) = with_cash read cash
with_read_row read (issue_row.Restricted units) = with_restricted read units
with_read_row read (issue_row.Price price) = with_price read price
with_read_row read (issue_row.Pay pay) = with_pay read pay
with_read_row read (issue_row.Allowance allowance) = with_allowance read allowance
with_read_row read (issue_row.Budget budget) = with_budget read budget
with_read_row read issue_row.Weekends = with_weekends read
with_read_row read (issue_row.Closed day) = with_closed read day

-- what was read, with one more row, whose number is given; or why the row is refused
abbrev pub with_row : IssueRead → ℕ → Row → Result IssueRead RefusalKind
with_row read number row = issue_row_of (years_after_of read.settle 40) number row >>= with_read_row read

-- row 1 is `settle`
abbrev pub first_settle_of : Row → Result ℤ RefusalKind
first_settle_of row = if is_word (codes "settle") (field_of row 0) then settle_row_of row else Err kind.Missing

-- nothing has been read but the settlement day
abbrev pub bare_read : ℤ → IssueRead
bare_read settle = record {
  settle = settle;
  call = None;
  bonds = [];
  direct = [];
  cash = None;
  restricted = None;
  price = None;
  pays = [];
  allowance = None;
  budget = None;
  weekends = false;
  closed = [];
}

-- what the rows give, numbered from 1, or the first refusal of a row; an empty file has no row 1
unfoldable pub draft_of : List Row → Result IssueRead Refusal
draft_of [] = answer_of_row file.Issue 1 (Err kind.Missing)
draft_of (row ∷ rows) = do
  settle ← answer_of_row file.Issue 1 (first_settle_of row)
  with_rows file.Issue with_row (bare_read settle) 2 rows

-- the yield of an issue price and at least one payment
abbrev pub computed_of : Option IssuePrice → List Flow → Result Restricted RefusalKind
computed_of None pays = Err kind.Missing
computed_of (Some price) [] = Err kind.Missing
computed_of (Some price) (pay ∷ pays) = Ok (Computed price.row price.cents)

-- the restricted yield is given, or else computed
abbrev pub restricted_of : Option YieldUnits → Option IssuePrice → List Flow → Result Restricted RefusalKind
restricted_of (Some units) price pays = Ok (Given units)
restricted_of None price pays = computed_of price pays

-- what the rows say; no cash and no allowance are 0, and no budget is 1,000
abbrev pub issue_with_of : IssueRead → Restricted → Issue
issue_with_of read restricted = record {
  settle = read.settle;
  call = read.call;
  bonds = read.bonds;
  direct = read.direct;
  cash = unwrap_or read.cash (record { 0 = 0 });
  restricted = restricted;
  pays = read.pays;
  allowance = unwrap_or read.allowance (record { 0 = 0 });
  budget = unwrap_or read.budget 1000;
  closed = record { weekends = read.weekends; days = read.closed };
}

-- the needs, and the payments, are at most 10^13 cents together
abbrev pub is_within_limit_of : Issue → Bool
is_within_limit_of issue = nat_le (needs_total issue) AMOUNT_LIMIT && nat_le (total issue.pays) AMOUNT_LIMIT

-- and there are at most 480 need dates, and at most 1,000 days that rows close
abbrev pub within_limits_of : Issue → Result Issue RefusalKind
within_limits_of issue =
    if is_within_limit_of issue
    then (if nat_lt MOST_NEED_DATES (need_dates issue) || nat_lt 1000 (length issue.closed.days) then Err kind.TooManyDates else Ok issue)
    else Err kind.NeedsTooLarge

-- what all the rows give, or a refusal of the whole file
abbrev pub finished_of : IssueRead → Result Issue RefusalKind
finished_of read = do
  restricted ← restricted_of read.restricted read.price read.pays
  within_limits_of (issue_with_of read restricted)

-- the issue of the rows of a file, or its first refusal
unfoldable pub issue_of : List Row → Result Issue Refusal
issue_of rows = do
  read ← draft_of rows
  answer_of_row file.Issue 0 (finished_of read)
