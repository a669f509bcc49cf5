-- The ledger of the plan that buys nothing.
use Rattle.std.proofs.Common.{◌≡◌, ℕ, suc, ◌*◌, ◌<◌, List, [], ◌∷◌, length, get_or, replicate, refl, inl, arith, ℤ}
use Rattle.std.specs.List.{All, flat_map, sum_by, zip}
use Rattle.std.proofs.lemmas.List.{get_or-replicate, length-replicate}
use Rattle.std.proofs.lemmas.List.Elements.{All-cons, All-nil}
use Rattle.std.proofs.lemmas.List.Sums.{sum_by-append, sum_by-cons}
use Rattle.escrow_units.specs.declared.security.Flow.{Flow}
use Rattle.day_sums.specs.Summed.{total_by}
use Rattle.offer_book.specs.Book.{BookContents, IsBook}
use Rattle.offer_book.specs.declared.line.Line.{Line}
use Rattle.offer_book.proofs.LineFacts.{line_cost-none, line_payments-none}
use Rattle.cash_table.specs.Receipts.{cents_by}
use Rattle.cash_table.proofs.CostFacts.{PairIsPermitted, pair_cost}
use Rattle.cash_table.proofs.PaymentFacts.{pair_payments}
use Rattle.cash_table.proofs.ReceiptFacts.{nothing_by}
use Rattle.cash_table.proofs.ZipFacts.{sum_by-zero}
use Rattle.dual_bound.specs.Columns.{kind_power}
use Rattle.backward_build.specs.Spare.{ArePaid}
use Rattle.plan_finder.specs.Ledger.{AreHeld, AreTerms, IsAccount, line_worth}
use Rattle.plan_finder.specs.declared.account.Account.{Account}
use Rattle.plan_finder.proofs.PutFacts.{pair_line_worth}
use Rattle.offer_book.specs.declared.payment_days.PaymentDays.{PaymentDays}

-- a plan that buys nothing
abbrev pub AreNone : List ℕ → Type 0
AreNone plan = (k : ℕ) → k < length plan → get_or plan k 0 ≡ 0

first-none : (units : ℕ) (plan : List ℕ) → AreNone (units ∷ plan) → units ≡ 0
first-none units plan none = none 0 (omega arith)

rest-none : (units : ℕ) (plan : List ℕ) → AreNone (units ∷ plan) → AreNone plan
rest-none units plan none = λ k within. none (suc k) (omega (arith, within))

pub none-permitted : (lines : List Line) (plan : List ℕ) → AreNone plan → All PairIsPermitted (zip lines plan)
none-permitted [] plan none = All-nil PairIsPermitted
none-permitted (line ∷ lines) [] none = All-nil PairIsPermitted
none-permitted (line ∷ lines) (units ∷ plan) none =
    All-cons PairIsPermitted (line, units) (zip lines plan) (inl (first-none units plan none)) (none-permitted lines plan (rest-none units plan none))

pub none-paid : (t : ℤ) (days : PaymentDays) (lines : List Line) (plan : List ℕ) → AreNone plan → total_by t (flat_map (pair_payments days) (zip lines plan)) ≡ 0
none-paid t days [] plan none = refl
none-paid t days (line ∷ lines) [] none = refl
none-paid t days (line ∷ lines) (units ∷ plan) none =
    omega (
      arith,
      sum_by-append (cents_by t) (pair_payments days (line, units)) (flat_map (pair_payments days) (zip lines plan)),
      nothing_by t days line units (first-none units plan none),
      none-paid t days lines plan (rest-none units plan none),
    )

pub none-cost : (lines : List Line) (plan : List ℕ) → AreNone plan → sum_by pair_cost (zip lines plan) ≡ 0
none-cost [] plan none = refl
none-cost (line ∷ lines) [] none = refl
none-cost (line ∷ lines) (units ∷ plan) none =
    omega (arith, sum_by-cons pair_cost (line, units) (zip lines plan), line_cost-none line units (first-none units plan none), none-cost lines plan (rest-none units plan none))

line-none : (n : ℕ) (days : PaymentDays) (line : Line) (units : ℕ) → units ≡ 0 → line_worth n days line units ≡ 0
line-none n days line units none =
    sum_by-zero (λ (flow : Flow). flow.cents.0 * kind_power n days.settle line.kind flow.day) (pair_payments days (line, units))
    (λ k d within. rw (line_payments-none days line units none k d within) (omega arith))

pub none-worth : (n : ℕ) (days : PaymentDays) (lines : List Line) (plan : List ℕ) → AreNone plan → sum_by (pair_line_worth n days) (zip lines plan) ≡ 0
none-worth n days [] plan none = refl
none-worth n days (line ∷ lines) [] none = refl
none-worth n days (line ∷ lines) (units ∷ plan) none =
    omega (
      arith,
      sum_by-cons (pair_line_worth n days) (line, units) (zip lines plan),
      line-none n days line units (first-none units plan none),
      none-worth n days lines plan (rest-none units plan none),
    )

pub zeros : (n : ℕ) → AreNone (replicate n 0)
zeros n = λ k within. grind (arith, get_or-replicate, length-replicate)

pub make-ledger : (n : ℕ) (book : BookContents) (ledger : Account) → IsBook book → ledger.plan ≡ replicate (length book.lines) 0
    → AreTerms n book ledger.terms.items → AreHeld n book (replicate (length book.lines) 0) ledger.held.items → ArePaid book.needs book.needs ledger.needed.value
    → ((k : ℕ) → k < length book.needs → get_or ledger.received.value k 0 ≡ 0) → ledger.cost.0 ≡ 0 → ledger.worth ≡ 0 → IsAccount n book ledger
make-ledger n book ledger limits plan terms held needed received cost worth =
    let none = zeros (length book.lines) in
    record {
      limits = limits;
      permitted = rw plan (record { same_length = length-replicate (length book.lines) 0; units = none-permitted book.lines (replicate (length book.lines) 0) none });
      terms = terms;
      held = rw plan held;
      needed = needed;
      received = rw plan (λ k d within. omega (arith, received k within, none-paid (get_or book.needs k d).day book.days book.lines (replicate (length book.lines) 0) none));
      cost = rw plan (omega (arith, cost, none-cost book.lines (replicate (length book.lines) 0) none));
      worth = rw plan (omega (arith, worth, none-worth n book.days book.lines (replicate (length book.lines) 0) none));
    }
