-- The issue that the rows of ISSUE say. The rows are this project's own.
use Rattle.std.specs.Prelude.{◌≡◌, ◌≢◌, ◌↔◌, ℕ, ℤ, ◌≤◌, ◌≤ℤ◌, true, false, List, [], ◌∷◌, length, AllPairs, Some, Ok, codes, option_to_list}
use Rattle.escrow_units.specs.Calendar.{years_after_of}
use Rattle.escrow_units.specs.DateText.{day_of}
use Rattle.escrow_units.specs.NumberText.{cents_of, count_of, rate_of, yield_of}
use Rattle.escrow_units.specs.PriceText.{price_of}
use Rattle.escrow_units.specs.SlgsTerms.{IsSettlement}
use Rattle.escrow_units.specs.Flows.{total}
use Rattle.escrow_units.specs.declared.limits.TheConstants.{AMOUNT_LIMIT, MOST_NEED_DATES}
use Rattle.escrow_units.specs.declared.security.Flow.{Flow}
use Rattle.row_fields.specs.RowForm.{Row, field_of, is_word}
use Rattle.issue_schedule.specs.IssueForm.{issue_of}
use Rattle.issue_schedule.specs.IssueTerms.{need_dates, needs_total}
use Rattle.issue_schedule.specs.declared.issue.Bond.{Bond}
use Rattle.issue_schedule.specs.declared.issue.Call.{Call}
use Rattle.issue_schedule.specs.declared.issue.Issue.{Issue}
use Rattle.issue_schedule.specs.declared.issue.Restricted.{Restricted}
use Rattle.issue_schedule.specs.declared.issue.Restricted.TheVariants.{Given, Computed}
use Rattle.certificate_answers.specs.SaidRows.{BeginWith, Say, SaysField, SaysLater, SaysOnce, numbered}

-- `settle,DATE`, from 2000-01-01 to 2150-01-01
abbrev pub SaysSettle : Row → ℤ → Type 0
SaysSettle row day =
    (is_word (codes "settle") (field_of row 0) ≡ true) × (length row ≡ 2) × (day_of (field_of row 1) ≡ Some day) × IsSettlement day

-- `call,DATE,PRICE`, the price in percent of par
abbrev pub SaysCall : ℤ → Row → Call → Type 0
SaysCall settle row call = (length row ≡ 3) × SaysLater settle (field_of row 1) call.day × (price_of (field_of row 2) ≡ Ok call.price)

-- `bond,MATURITY,PRINCIPAL,COUPON`
abbrev pub SaysBond : ℤ → Row → Bond → Type 0
SaysBond settle row bond =
    (length row ≡ 4) × SaysLater settle (field_of row 1) bond.maturity
    × (cents_of (field_of row 2) ≡ Ok bond.principal) × (rate_of (field_of row 3) ≡ Ok bond.coupon)

-- `need,DATE,AMOUNT`, the date from settlement on and at most 40 years later
abbrev pub SaysNeed : ℤ → Row → Flow → Type 0
SaysNeed settle row need =
    (length row ≡ 3) × (day_of (field_of row 1) ≡ Some need.day) × (settle ≤ℤ need.day) × (need.day ≤ℤ years_after_of settle 40)
    × (cents_of (field_of row 2) ≡ Ok need.cents)

-- `pay,DATE,AMOUNT`
abbrev pub SaysPay : ℤ → Row → Flow → Type 0
SaysPay settle row pay = (length row ≡ 3) × SaysLater settle (field_of row 1) pay.day × (cents_of (field_of row 2) ≡ Ok pay.cents)

-- `closed,DATE`
abbrev pub SaysClosed : ℤ → Row → ℤ → Type 0
SaysClosed settle row day = (length row ≡ 2) × SaysLater settle (field_of row 1) day

-- the restricted yield: one row `restricted`, and no `price` and no `pay`; or else one row `price`, of at least one cent, and at least one
-- `pay`
abbrev pub IsRestrictedBy : List (ℕ × Row) → List Flow → Restricted → Type 0
IsRestrictedBy rows pays (Given units) =
    Say (codes "restricted") (λ _. SaysField yield_of) rows (units ∷ []) × Say (codes "price") (λ _. SaysField cents_of) rows [] × (pays ≡ [])
IsRestrictedBy rows pays (Computed number price) =
    Say (codes "restricted") (λ _. SaysField yield_of) rows []
    × Say (codes "price") (λ n row cents. (n ≡ number) × SaysField cents_of row cents) rows (price ∷ [])
    × (1 ≤ price.0) × (1 ≤ length pays)

-- the words of these rows
abbrev pub issue_words : List (List ℕ)
issue_words =
    codes "call" ∷ codes "bond" ∷ codes "need" ∷ codes "cash" ∷ codes "restricted" ∷ codes "price" ∷ codes "pay" ∷ codes "allowance"
    ∷ codes "budget" ∷ codes "weekends" ∷ codes "closed" ∷ []

-- what the rows after the first say, with their numbers: the bonds, the needs, the payments and the closed days are those of their rows,
-- in order; a call, cash, an allowance, a budget and `weekends` stand at most once, and without them there is no call, 0, 0, 1,000, and no
-- weekend is closed; no day is closed twice. The needs, and the payments, come to at most 10^13 cents together; there are at most 480 need
-- dates, and at most 1,000 closed days
pub record AreIssueRows (rows : List (ℕ × Row)) (issue : Issue) : Type 0 where
  pub known : BeginWith issue_words rows
  pub bonds : Say (codes "bond") (λ _. SaysBond issue.settle) rows issue.bonds
  pub call : Say (codes "call") (λ _. SaysCall issue.settle) rows (option_to_list issue.call)
  pub direct : Say (codes "need") (λ _. SaysNeed issue.settle) rows issue.direct
  pub pays : Say (codes "pay") (λ _. SaysPay issue.settle) rows issue.pays
  pub restricted : IsRestrictedBy rows issue.pays issue.restricted
  pub cash : SaysOnce (codes "cash") (λ _. SaysField cents_of) rows (record { 0 = 0 }) issue.cash
  pub allowance : SaysOnce (codes "allowance") (λ _. SaysField cents_of) rows (record { 0 = 0 }) issue.allowance
  pub budget : SaysOnce (codes "budget") (λ _. SaysField count_of) rows 1_000 issue.budget
  pub weekends : SaysOnce (codes "weekends") (λ _ row closed. (length row ≡ 1) × (closed ≡ true)) rows false issue.closed.weekends
  pub closed : Say (codes "closed") (λ _. SaysClosed issue.settle) rows issue.closed.days
  pub closed_once : AllPairs (λ a b. a ≢ b) issue.closed.days
  pub small : needs_total issue ≤ AMOUNT_LIMIT
  pub small_pays : total issue.pays ≤ AMOUNT_LIMIT
  pub few : need_dates issue ≤ MOST_NEED_DATES
  pub few_closed : length issue.closed.days ≤ 1_000

-- row 1 is the settlement day
abbrev pub IsIssueOf : List Row → Issue → Type 0
IsIssueOf [] issue = ⊥
IsIssueOf (first ∷ rows) issue = SaysSettle first issue.settle × AreIssueRows (numbered rows) issue

-- the reader gives just this issue
abbrev pub IssuesAreSaid : Type 0
IssuesAreSaid = (rows : List Row) (issue : Issue) → (issue_of rows ≡ Ok issue) ↔ IsIssueOf rows issue
