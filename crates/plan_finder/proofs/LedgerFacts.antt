-- What a ledger keeps when a line has other units.
use Rattle.std.proofs.Common.{◌≡◌, ℕ, zero, suc, ◌+◌, ◌*◌, ◌^◌, ◌<◌, ◌≤◌, List, [], ◌∷◌, ◌++◌, length, get_or, set, map, refl, sym, ap, subst, ◌∙◌, inl, inr, arith, ℤ}
use Rattle.std.specs.List.{All, sum_by, zip}
use Rattle.std.proofs.Math.Seq.{get_or-append_seam}
use Rattle.std.proofs.lemmas.Bool.{cases_eq, cases_lt}
use Rattle.std.proofs.lemmas.List.{get_or_append_left, get_or_default, get_or-set_other, get_or-set_same, length-set}
use Rattle.std.proofs.lemmas.List.Elements.{All-map}
use Rattle.std.proofs.lemmas.List.Sums.{sum_by-cons}
use Rattle.escrow_units.specs.declared.security.Flow.{Flow}
use Rattle.escrow_units.specs.Flows.{total}
use Rattle.escrow_units.specs.SlgsTerms.{IsSettlement}
use Rattle.offer_book.specs.Book.{BookContents, IsBook, IsLine}
use Rattle.offer_book.specs.Portfolio.{IsPermitted}
use Rattle.offer_book.proofs.LineFacts.{line_payments-total}
use Rattle.cash_table.proofs.CostFacts.{permitted_few}
use Rattle.cash_table.proofs.PaymentFacts.{all_lines}
use Rattle.backward_build.proofs.TrimFacts.{some_line}
use Rattle.backward_build.proofs.UnitFacts.{permitted-at}
use Rattle.offer_book.specs.declared.line.Line.{Line}
use Rattle.payment_schedule.specs.Schedule.{IsShort, flow_by}
use Rattle.offer_book.specs.declared.line.LineKind.{LineKind}
use Rattle.payment_schedule.specs.declared.schedule.ScheduledPayment.{ScheduledPayment}
use Rattle.dual_bound.specs.Columns.{kind_power}
use Rattle.dual_bound.proofs.ColumnSizes.{cents-little}
use Rattle.plan_finder.specs.Ledger.{AreHeld, AreTerms, IsPurchase, IsTerms, flows_worth}
use Rattle.plan_finder.specs.declared.terms.LineTerms.{LineTerms}
use Rattle.plan_finder.specs.declared.terms.Purchase.{Purchase}
use Rattle.offer_book.specs.declared.payment_days.PaymentDays.{PaymentDays}

-- what a flow is worth by a power, as a function of their pair
abbrev pub pair_worth : ℕ × Flow → ℕ
pair_worth p = p.1.cents.0 * p.0

-- where a line has other units, what the others come to stays as it is
pub sum-exchange : (f : Line × ℕ → ℕ) (lines : List Line) (plan : List ℕ) (i units : ℕ) (d : Line) → i < length lines → length plan ≡ length lines
    → sum_by f (zip lines (set plan i units)) + f (get_or lines i d, get_or plan i 0) ≡ sum_by f (zip lines plan) + f (get_or lines i d, units)
sum-exchange f [] plan i units d within same = absurd (omega (arith, within))
sum-exchange f (line ∷ lines) [] i units d within same = absurd (omega (arith, same))
sum-exchange f (line ∷ lines) (own ∷ plan) zero units d within same =
    omega (arith, sum_by-cons f (line, units) (zip lines plan), sum_by-cons f (line, own) (zip lines plan))
sum-exchange f (line ∷ lines) (own ∷ plan) (suc i) units d within same =
    omega (
      arith,
      sum_by-cons f (line, own) (zip lines (set plan i units)),
      sum_by-cons f (line, own) (zip lines plan),
      sum-exchange f lines plan i units d (omega (arith, within)) (omega (arith, same)),
    )

-- what a line comes to is a part of the whole
pub sum-part : (f : Line × ℕ → ℕ) (lines : List Line) (plan : List ℕ) (i : ℕ) (d : Line) → i < length lines → length plan ≡ length lines
    → f (get_or lines i d, get_or plan i 0) ≤ sum_by f (zip lines plan)
sum-part f [] plan i d within same = absurd (omega (arith, within))
sum-part f (line ∷ lines) [] i d within same = absurd (omega (arith, same))
sum-part f (line ∷ lines) (own ∷ plan) zero d within same = omega (arith, sum_by-cons f (line, own) (zip lines plan))
sum-part f (line ∷ lines) (own ∷ plan) (suc i) d within same =
    omega (arith, sum_by-cons f (line, own) (zip lines plan), sum-part f lines plan i d (omega (arith, within)) (omega (arith, same)))

-- the powers of a schedule's days weigh its flows
pub worth-zip : (n : ℕ) (settle : ℤ) (kind : LineKind) (rate amount : ℕ) (schedule : List ScheduledPayment)
    → sum_by pair_worth (zip (map (λ (payment : ScheduledPayment). kind_power n settle kind payment.day) schedule) (map (flow_by rate amount) schedule))
    ≡ flows_worth n settle kind (map (flow_by rate amount) schedule)
worth-zip n settle kind rate amount [] = refl
worth-zip n settle kind rate amount (payment ∷ schedule) =
    omega (
      arith,
      sum_by-cons pair_worth (kind_power n settle kind payment.day, flow_by rate amount payment)
          (zip (map (λ (p : ScheduledPayment). kind_power n settle kind p.day) schedule) (map (flow_by rate amount) schedule)),
      sum_by-cons (λ (flow : Flow). flow.cents.0 * kind_power n settle kind flow.day) (flow_by rate amount payment) (map (flow_by rate amount) schedule),
      worth-zip n settle kind rate amount schedule,
    )

-- what a schedule pays on an amount is little
pub flows-little : (rate amount : ℕ) (schedule : List ScheduledPayment) → rate ≤ 30_000 → amount ≤ 10 ^ 13 → All (λ payment. IsShort payment.accrual) schedule
    → All (λ flow. flow.cents.0 ≤ 2 * 10 ^ 13) (map (flow_by rate amount) schedule)
flows-little rate amount schedule low few short =
    All-map (λ (flow : Flow). flow.cents.0 ≤ 2 * 10 ^ 13) (flow_by rate amount) schedule
    (λ k d within. omega (arith, cents-little amount rate (get_or schedule k d) low (short k d within), few))

-- one purchase more, or the terms of one line more
pub push-each : {B : Type 0} (R : ℕ → B → Type 0) (ys : List B) (i : ℕ) (y : B) → length ys ≡ i
    → ((k : ℕ) (b : B) → k < i → R k (get_or ys k b)) → R i y → (k : ℕ) (b : B) → k < i + 1 → R k (get_or (ys ++ y ∷ []) k b)
push-each R ys i y count before own = λ k b within. elim (cases_lt k i) [
  | inl less ↦ subst (R k) (sym (get_or_append_left ys (y ∷ []) b k (omega (arith, less, count)))) (before k b less)
  | inr more ↦ (let here : k ≡ length ys = omega (arith, more, within, count) in
      let is : get_or (ys ++ y ∷ []) k b ≡ y = ap (λ m. get_or (ys ++ y ∷ []) m b) here ∙ get_or-append_seam ys y [] b in
      let at : k ≡ i = omega (arith, here, count) in
      subst (R k) (sym is) (subst (λ m. R m y) (sym at) own))
]

-- what is held once a line has other units
pub held-set : (n : ℕ) (book : BookContents) (plan : List ℕ) (held : List Purchase) (i units : ℕ) (after : Purchase) → i < length book.lines → length plan ≡ length book.lines
    → AreHeld n book plan held → ((d : Line) → IsPurchase n book.days (get_or book.lines i d) units after) → AreHeld n book (set plan i units) (set held i after)
held-set n book plan held i units after within same was now = record {
  count = length-set held i after ∙ was.count;
  each = λ k own here line. elim (cases_eq k i) [
    | inl at ↦ rw at (rw (get_or-set_same plan i units 0 (omega (arith, within, same)), get_or-set_same held i after own (omega (arith, within, was.count))) (now line))
    | inr away ↦ rw (get_or-set_other plan i k units 0 away, get_or-set_other held i k after own away) (was.each k own here line)
  ];
}

-- the lines of a book, and the terms of each
pub book-line : (book : BookContents) (i : ℕ) (d : Line) → IsBook book → i < length book.lines → IsLine book.days (get_or book.lines i d)
book-line book i d limits within = all_lines book.days book.lines limits.lines i d within

pub line-is : (book : BookContents) (i : ℕ) (line : Line) → IsBook book → i < length book.lines → line ≡ get_or book.lines i line → IsLine book.days line
line-is book i line limits within at = subst (IsLine book.days) (sym at) (book-line book i line limits within)

pub terms-at : (n : ℕ) (book : BookContents) (terms : List LineTerms) (i : ℕ) (line : Line) (own : LineTerms) → AreTerms n book terms → i < length book.lines
    → line ≡ get_or book.lines i line → own ≡ get_or terms i own → IsTerms n book.days line own
terms-at n book terms i line own are within at here =
    subst (λ x. IsTerms n book.days x own) (sym at) (subst (λ y. IsTerms n book.days (get_or book.lines i line) y) (sym here) (are.each i own within line))

-- a purchase pays little
pub purchase-little : (n : ℕ) (days : PaymentDays) (line : Line) (units : ℕ) (purchase : Purchase) → IsSettlement days.settle → IsLine days line → units ≤ line.most
    → IsPurchase n days line units purchase → total purchase.payments.items ≤ 2 * 10 ^ 13
purchase-little n days line units purchase settled is few own =
    subst (λ flows. total flows ≤ 2 * 10 ^ 13) (sym own.payments) (omega (arith, line_payments-total days line units settled is few))

pub held-little : (n : ℕ) (book : BookContents) (plan : List ℕ) (held : List Purchase) (i : ℕ) (own : Purchase) → IsBook book → IsPermitted book plan → AreHeld n book plan held
    → i < length book.lines → own ≡ get_or held i own → total own.payments.items ≤ 2 * 10 ^ 13
held-little n book plan held i own limits permitted are within at =
    let line = get_or book.lines i some_line in
    subst (λ (purchase : Purchase). total purchase.payments.items ≤ 2 * 10 ^ 13) (sym at)
    (purchase-little n book.days line (get_or plan i 0) (get_or held i own) limits.settlement (book-line book i some_line limits within)
    (permitted_few line (get_or plan i 0) (permitted-at book plan i within permitted some_line)) (are.each i own within some_line))

-- what holds of a line of a book holds of it by its place
pub by-place : (P : Line → Type 0) (book : BookContents) (i : ℕ) (line : Line) → i < length book.lines → line ≡ get_or book.lines i line → P line → (d : Line) → P (get_or book.lines i d)
by-place P book i line within at holds d = subst P (at ∙ get_or_default book.lines i line d within) holds
