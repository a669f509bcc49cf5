-- What the account of a plan has: the terms of each line, what the plan's units of it cost and pay, and what all of them come to.
use Rattle.std.specs.Prelude.{◌≡◌, ℕ, ◌-◌, ◌*◌, ◌<◌, ◌≤◌, List, All, length, map, slice_index, slice_index_or, sum_by, ℤ}
use Rattle.std.specs.List.{zip}
use Rattle.escrow_units.specs.declared.security.Flow.{Flow}
use Rattle.day_sums.specs.Summed.{total_by}
use Rattle.fixed_powers.specs.DiscountPowers.{one}
use Rattle.payment_schedule.specs.Schedule.{IsShort}
use Rattle.offer_book.specs.Book.{BookContents, IsBook}
use Rattle.offer_book.specs.Portfolio.{IsPermitted, cost as cost_of, line_cost, line_payments, payments as payments_of}
use Rattle.offer_book.specs.Schedule.{kind_accrued, schedule_of}
use Rattle.offer_book.specs.declared.line.Line.{Line}
use Rattle.offer_book.specs.declared.line.LineKind.{LineKind}
use Rattle.dual_bound.specs.Columns.{kind_power}
use Rattle.backward_build.specs.Spare.{ArePaid}
use Rattle.plan_finder.specs.declared.account.Account.{Account}
use Rattle.plan_finder.specs.declared.terms.LineTerms.{LineTerms}
use Rattle.plan_finder.specs.declared.terms.Purchase.{Purchase}
use Rattle.offer_book.specs.declared.payment_days.PaymentDays.{PaymentDays}

-- what flows of a kind of line are worth against the limit, at the yield n and rounded down: opening cash isn't bound by it
abbrev pub flows_worth : ℕ → ℤ → LineKind → List Flow → ℕ
flows_worth n settle kind flows = sum_by (λ flow. flow.cents.0 * kind_power n settle kind flow.day) flows

-- what units of a line are worth against the limit
abbrev pub line_worth : ℕ → PaymentDays → Line → ℕ → ℕ
line_worth n days line units = flows_worth n days.settle line.kind (line_payments days line units)

-- the terms of a line, with the powers of the yield n
pub record IsTerms (n : ℕ) (days : PaymentDays) (line : Line) (terms : LineTerms) : Type 0 where
  pub accrued : terms.accrued ≡ kind_accrued line.kind
  pub few : terms.accrued.parts ≤ 184
  pub schedule : terms.schedule.items ≡ schedule_of days line
  pub short : All (λ payment. IsShort payment.accrual) terms.schedule.items
  pub powers : terms.powers.items ≡ map (λ payment. kind_power n days.settle line.kind payment.day) terms.schedule.items
  pub small : All (λ power. power ≤ one) terms.powers.items

-- what units of a line cost and pay, and what that is worth
pub record IsPurchase (n : ℕ) (days : PaymentDays) (line : Line) (units : ℕ) (purchase : Purchase) : Type 0 where
  pub cost : purchase.cost.0 ≡ line_cost line units
  pub payments : purchase.payments.items ≡ line_payments days line units
  pub worth : purchase.worth ≡ line_worth n days line units

-- the terms of the lines of a book
pub record AreTerms (n : ℕ) (book : BookContents) (terms : List LineTerms) : Type 0 where
  pub count : length terms ≡ length book.lines
  pub each : (k : ℕ) (own : LineTerms) → k < length book.lines → (line : Line)
      → IsTerms n book.days (slice_index_or book.lines k line) (slice_index_or terms k own)

-- what a plan's units of each line cost and pay
pub record AreHeld (n : ℕ) (book : BookContents) (plan : List ℕ) (held : List Purchase) : Type 0 where
  pub count : length held ≡ length book.lines
  pub each : (k : ℕ) (own : Purchase) → k < length book.lines → (line : Line)
      → IsPurchase n book.days (slice_index_or book.lines k line) (slice_index plan k) (slice_index_or held k own)

-- what the plan's securities are worth against the limit
abbrev pub plan_worth : ℕ → BookContents → List ℕ → ℕ
plan_worth n book plan = sum_by (λ p. line_worth n book.days p.0 p.1) (zip book.lines plan)

-- what contracts see of a ledger: the book, the yield by which its securities are worth something against the limit, and the plan
pub record LedgerContents : Type 0 where
  pub book : BookContents
  pub yield_units : ℕ
  pub plan : List ℕ

-- an account of a plan of a book, at the yield n: all that it has is that of its plan
pub record IsAccount (n : ℕ) (book : BookContents) (account : Account) : Type 0 where
  pub limits : IsBook book
  pub permitted : IsPermitted book account.plan
  pub terms : AreTerms n book account.terms.items
  pub held : AreHeld n book account.plan account.held.items
  pub needed : ArePaid book.needs book.needs account.needed.value
  pub received : ArePaid book.needs (payments_of book account.plan) account.received.value
  pub cost : account.cost.0 ≡ cost_of book account.plan
  pub worth : account.worth ≡ plan_worth n book account.plan

-- what a line has to pay up to each need date, so that nothing is short: what is needed, less what the other lines pay
abbrev pub AreDue : List Flow → List Flow → List Flow → List ℕ → Type 0
AreDue needs all own due =
    (k : ℕ) (d : Flow) → k < length needs
    → slice_index due k ≡ total_by (slice_index_or needs k d).day needs - (total_by (slice_index_or needs k d).day all - total_by (slice_index_or needs k d).day own)
