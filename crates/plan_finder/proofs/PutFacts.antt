-- A ledger keeps all that its plan comes to when a line has other units.
use Rattle.std.proofs.Common.{◌≡◌, ℕ, ◌+◌, ◌-◌, ◌*◌, ◌^◌, ◌<◌, ◌≤◌, List, [], ◌∷◌, length, get_or, set, refl, sym, subst, ◌∙◌, arith, ℤ}
use Rattle.std.specs.List.{sum_by, zip}
use Rattle.std.proofs.Math.Nat.{mul-le-mul_left}
use Rattle.std.proofs.lemmas.List.Sums.{sum_by-cons}
use Rattle.escrow_units.specs.Flows.{total}
use Rattle.escrow_units.specs.declared.security.Flow.{Flow}
use Rattle.day_sums.specs.Summed.{total_by}
use Rattle.escrow_units.specs.Flows.{index360_of}
use Rattle.fixed_powers.specs.declared.side.Side.TheVariants.{Low}
use Rattle.fixed_powers.proofs.PowerFacts.{power_of-within}
use Rattle.fixed_powers.specs.DiscountPowers.{one}
use Rattle.offer_book.specs.Book.{BookContents, IsBook}
use Rattle.offer_book.specs.Portfolio.{IsPermitted, IsPermittedUnits, cost as cost_of, line_payments, payments as payments_of}
use Rattle.offer_book.specs.declared.line.Line.{Line}
use Rattle.offer_book.specs.declared.line.LineKind.{LineKind}
use Rattle.offer_book.specs.declared.line.LineKind.TheVariants.{Cash, Market, Security}
use Rattle.cash_table.proofs.CostFacts.{cost_at_most, pair_cost}
use Rattle.cash_table.proofs.DayFacts.{total_by-at_most}
use Rattle.cash_table.proofs.PaymentFacts.{pair_payments, pair_total, payments_at_most, total-payments}
use Rattle.cash_table.proofs.ReceiptFacts.{nothing_by}
use Rattle.dual_bound.specs.Columns.{kind_power}
use Rattle.backward_build.specs.Spare.{ArePaid}
use Rattle.backward_build.proofs.TrimFacts.{some_line, some_need}
use Rattle.backward_build.proofs.UnitFacts.{payments_exchange, permitted-set}
use Rattle.plan_finder.specs.Ledger.{AreHeld, IsAccount, IsPurchase, flows_worth, line_worth, plan_worth}
use Rattle.plan_finder.specs.declared.account.Account.{Account}
use Rattle.plan_finder.specs.declared.terms.Purchase.{Purchase}
use Rattle.plan_finder.proofs.LedgerFacts.{held-set, sum-exchange, sum-part}
use Rattle.offer_book.specs.declared.payment_days.PaymentDays.{PaymentDays}

-- what a line is worth, as a function of its pair
abbrev pub pair_line_worth : ℕ → PaymentDays → Line × ℕ → ℕ
pair_line_worth n days p = line_worth n days p.0 p.1

-- what is held of a line is its purchase
pub held-is : (n : ℕ) (book : BookContents) (plan : List ℕ) (held : List Purchase) (i : ℕ) (own : Purchase) → AreHeld n book plan held → i < length book.lines
    → own ≡ get_or held i own → (d : Line) → IsPurchase n book.days (get_or book.lines i d) (get_or plan i 0) own
held-is n book plan held i own are within at d = subst (IsPurchase n book.days (get_or book.lines i d) (get_or plan i 0)) (sym at) (are.each i own within d)

-- what a line pays by a day is a part of what the plan pays by then
pub line-paid : (t : ℤ) (book : BookContents) (plan : List ℕ) (i : ℕ) (d : Line) → i < length book.lines → length plan ≡ length book.lines
    → total_by t (line_payments book.days (get_or book.lines i d) (get_or plan i 0)) ≤ total_by t (payments_of book plan)
line-paid t book plan i d within same =
    omega (arith, payments_exchange t book plan i 0 d within same, nothing_by t book.days (get_or book.lines i d) 0 refl)

-- what a plan pays by a day is within a 64-bit number by far
pub plan-paid : (t : ℤ) (book : BookContents) (plan : List ℕ) → IsBook book → IsPermitted book plan → total_by t (payments_of book plan) ≤ 10 ^ 16
plan-paid t book plan limits permitted = omega (arith, total_by-at_most t (payments_of book plan), payments_at_most book plan limits permitted)

-- by each need date a purchase pays what its line pays
pub purchase-paid : (n : ℕ) (book : BookContents) (line : Line) (units : ℕ) (purchase : Purchase) (paid : List ℕ) → IsPurchase n book.days line units purchase
    → ArePaid book.needs purchase.payments.items paid → ArePaid book.needs (line_payments book.days line units) paid
purchase-paid n book line units purchase paid own are = subst (λ flows. ArePaid book.needs flows paid) own.payments are

pub received-part : (n : ℕ) (book : BookContents) (ledger : Account) (i : ℕ) (before : Purchase) (paid : List ℕ) → IsAccount n book ledger → i < length book.lines
    → before ≡ get_or ledger.held.items i before → ArePaid book.needs before.payments.items paid
    → (k : ℕ) → k < length book.needs → get_or paid k 0 ≤ get_or ledger.received.value k 0
received-part n book ledger i before paid is within at are k here =
    let line = get_or book.lines i some_line in
    let own = purchase-paid n book line (get_or ledger.plan i 0) before paid (held-is n book ledger.plan ledger.held.items i before is.held within at some_line) are in
    omega (arith, own k some_need here, is.received k some_need here, line-paid (get_or book.needs k some_need).day book ledger.plan i some_line within is.permitted.same_length)

-- what is received once a line has other units
pub received-set : (n : ℕ) (book : BookContents) (ledger : Account) (i units : ℕ) (before after : Purchase) (paid now : List ℕ) → IsAccount n book ledger → i < length book.lines
    → before ≡ get_or ledger.held.items i before → ((d : Line) → IsPurchase n book.days (get_or book.lines i d) units after)
    → ArePaid book.needs before.payments.items paid → ArePaid book.needs after.payments.items now
    → (k : ℕ) (d : Flow) → k < length book.needs
    → get_or ledger.received.value k 0 - get_or paid k 0 + get_or now k 0 ≡ total_by (get_or book.needs k d).day (payments_of book (set ledger.plan i units))
received-set n book ledger i units before after paid now is within at own were are k d here =
    let line = get_or book.lines i some_line in
    let t = (get_or book.needs k d).day in
    let old = purchase-paid n book line (get_or ledger.plan i 0) before paid (held-is n book ledger.plan ledger.held.items i before is.held within at some_line) were in
    let new = purchase-paid n book line units after now (own some_line) are in
    omega (
      arith,
      old k d here,
      new k d here,
      is.received k d here,
      line-paid t book ledger.plan i some_line within is.permitted.same_length,
      payments_exchange t book ledger.plan i units some_line within is.permitted.same_length,
    )

pub received-room : (n : ℕ) (book : BookContents) (ledger : Account) (i units : ℕ) (before after : Purchase) (paid now : List ℕ) → IsAccount n book ledger → i < length book.lines
    → ((d : Line) → IsPermittedUnits (get_or book.lines i d) units)
    → before ≡ get_or ledger.held.items i before → ((d : Line) → IsPurchase n book.days (get_or book.lines i d) units after)
    → ArePaid book.needs before.payments.items paid → ArePaid book.needs after.payments.items now
    → (k : ℕ) → k < length book.needs → get_or ledger.received.value k 0 - get_or paid k 0 + get_or now k 0 < 2 ^ 64
received-room n book ledger i units before after paid now is within permitted at own were are k here =
    omega (
      arith,
      received-set n book ledger i units before after paid now is within at own were are k some_need here,
      plan-paid (get_or book.needs k some_need).day book (set ledger.plan i units) is.limits (permitted-set book ledger.plan i units is.permitted permitted),
    )

-- the cost, and what it is worth, once a line has other units
pub cost-part : (n : ℕ) (book : BookContents) (ledger : Account) (i : ℕ) (before : Purchase) → IsAccount n book ledger → i < length book.lines
    → before ≡ get_or ledger.held.items i before → before.cost.0 ≤ ledger.cost.0
cost-part n book ledger i before is within at =
    omega (arith, (held-is n book ledger.plan ledger.held.items i before is.held within at some_line).cost, is.cost, sum-part pair_cost book.lines ledger.plan i some_line within is.permitted.same_length)

pub cost-set : (n : ℕ) (book : BookContents) (ledger : Account) (i units : ℕ) (before after : Purchase) → IsAccount n book ledger → i < length book.lines
    → before ≡ get_or ledger.held.items i before → ((d : Line) → IsPurchase n book.days (get_or book.lines i d) units after)
    → ledger.cost.0 - before.cost.0 + after.cost.0 ≡ cost_of book (set ledger.plan i units)
cost-set n book ledger i units before after is within at own =
    omega (
      arith,
      (held-is n book ledger.plan ledger.held.items i before is.held within at some_line).cost,
      (own some_line).cost,
      is.cost,
      sum-part pair_cost book.lines ledger.plan i some_line within is.permitted.same_length,
      sum-exchange pair_cost book.lines ledger.plan i units some_line within is.permitted.same_length,
    )

pub cost-room : (n : ℕ) (book : BookContents) (ledger : Account) (i units : ℕ) (before after : Purchase) → IsAccount n book ledger → i < length book.lines
    → ((d : Line) → IsPermittedUnits (get_or book.lines i d) units)
    → before ≡ get_or ledger.held.items i before → ((d : Line) → IsPurchase n book.days (get_or book.lines i d) units after)
    → ledger.cost.0 - before.cost.0 + after.cost.0 < 2 ^ 64
cost-room n book ledger i units before after is within permitted at own =
    omega (arith, cost-set n book ledger i units before after is within at own, cost_at_most book (set ledger.plan i units) is.limits (permitted-set book ledger.plan i units is.permitted permitted))

pub worth-part : (n : ℕ) (book : BookContents) (ledger : Account) (i : ℕ) (before : Purchase) → IsAccount n book ledger → i < length book.lines
    → before ≡ get_or ledger.held.items i before → before.worth ≤ ledger.worth
worth-part n book ledger i before is within at =
    omega (
      arith,
      (held-is n book ledger.plan ledger.held.items i before is.held within at some_line).worth,
      is.worth,
      sum-part (pair_line_worth n book.days) book.lines ledger.plan i some_line within is.permitted.same_length,
    )

pub worth-set : (n : ℕ) (book : BookContents) (ledger : Account) (i units : ℕ) (before after : Purchase) → IsAccount n book ledger → i < length book.lines
    → before ≡ get_or ledger.held.items i before → ((d : Line) → IsPurchase n book.days (get_or book.lines i d) units after)
    → ledger.worth - before.worth + after.worth ≡ plan_worth n book (set ledger.plan i units)
worth-set n book ledger i units before after is within at own =
    omega (
      arith,
      (held-is n book ledger.plan ledger.held.items i before is.held within at some_line).worth,
      (own some_line).worth,
      is.worth,
      sum-part (pair_line_worth n book.days) book.lines ledger.plan i some_line within is.permitted.same_length,
      sum-exchange (pair_line_worth n book.days) book.lines ledger.plan i units some_line within is.permitted.same_length,
    )

-- what flows are worth is at most what they come to
power-most : (n : ℕ) (settle : ℤ) (kind : LineKind) (day : ℤ) → kind_power n settle kind day ≤ one
power-most n settle Cash day = omega arith
power-most n settle (Security slgs) day = power_of-within Low n (index360_of settle day)
power-most n settle (Market note) day = power_of-within Low n (index360_of settle day)

flows_worth-most : (n : ℕ) (settle : ℤ) (kind : LineKind) (flows : List Flow) → flows_worth n settle kind flows ≤ one * total flows
flows_worth-most n settle kind [] = omega arith
flows_worth-most n settle kind (flow ∷ flows) =
    omega (
      arith,
      sum_by-cons (λ (f : Flow). f.cents.0 * kind_power n settle kind f.day) flow flows,
      sum_by-cons (λ (f : Flow). f.cents.0) flow flows,
      flows_worth-most n settle kind flows,
      mul-le-mul_left flow.cents.0 (power-most n settle kind flow.day),
    )

lines_worth-most : (n : ℕ) (days : PaymentDays) (pairs : List (Line × ℕ)) → sum_by (pair_line_worth n days) pairs ≤ one * sum_by (pair_total days) pairs
lines_worth-most n days [] = omega arith
lines_worth-most n days (pair ∷ pairs) =
    omega (
      arith,
      sum_by-cons (pair_line_worth n days) pair pairs,
      sum_by-cons (pair_total days) pair pairs,
      lines_worth-most n days pairs,
      flows_worth-most n days.settle pair.0.kind (pair_payments days pair),
    )

pub worth-most : (n : ℕ) (book : BookContents) (plan : List ℕ) → IsBook book → IsPermitted book plan → plan_worth n book plan ≤ one * 10 ^ 16
worth-most n book plan limits permitted =
    omega (
      arith,
      lines_worth-most n book.days (zip book.lines plan),
      total-payments book.days (zip book.lines plan),
      payments_at_most book plan limits permitted,
    )

pub worth-room : (n : ℕ) (book : BookContents) (ledger : Account) (i units : ℕ) (before after : Purchase) → IsAccount n book ledger → i < length book.lines
    → ((d : Line) → IsPermittedUnits (get_or book.lines i d) units)
    → before ≡ get_or ledger.held.items i before → ((d : Line) → IsPurchase n book.days (get_or book.lines i d) units after)
    → ledger.worth - before.worth + after.worth < 2 ^ 128
worth-room n book ledger i units before after is within permitted at own =
    omega (arith, worth-set n book ledger i units before after is within at own, worth-most n book (set ledger.plan i units) is.limits (permitted-set book ledger.plan i units is.permitted permitted))

-- the ledger once a line has other units
pub put-ledger : (n : ℕ) (book : BookContents) (old new : Account) (i units : ℕ) (before after : Purchase) (paid now : List ℕ) → IsAccount n book old → i < length book.lines
    → ((d : Line) → IsPermittedUnits (get_or book.lines i d) units)
    → before ≡ get_or old.held.items i before → ((d : Line) → IsPurchase n book.days (get_or book.lines i d) units after)
    → ArePaid book.needs before.payments.items paid → ArePaid book.needs after.payments.items now
    → new.plan ≡ set old.plan i units → new.terms.items ≡ old.terms.items → new.held.items ≡ set old.held.items i after → new.needed.value ≡ old.needed.value
    → ((k : ℕ) → k < length book.needs → get_or new.received.value k 0 ≡ get_or old.received.value k 0 - get_or paid k 0 + get_or now k 0)
    → new.cost.0 ≡ old.cost.0 - before.cost.0 + after.cost.0 → new.worth ≡ old.worth - before.worth + after.worth
    → IsAccount n book new
put-ledger n book old new i units before after paid now is within permitted at own were are plan terms held needed received cost worth = record {
  limits = is.limits;
  permitted = rw plan (permitted-set book old.plan i units is.permitted permitted);
  terms = rw terms is.terms;
  held = rw (plan, held) (held-set n book old.plan old.held.items i units after within is.permitted.same_length is.held own);
  needed = rw needed is.needed;
  received = rw plan (λ k d here. received k here ∙ received-set n book old i units before after paid now is within at own were are k d here);
  cost = rw plan (cost ∙ cost-set n book old i units before after is within at own);
  worth = rw plan (worth ∙ worth-set n book old i units before after is within at own);
}
