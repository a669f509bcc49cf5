-- What units of a line pay in a span never falls as they rise; so the fewest that cover a residual are found by halves.
use Rattle.std.proofs.Common.{◌≡◌, ◌∙◌, ℕ, ◌+◌, ◌-◌, ◌<◌, ◌≤◌, false, true, cond, nat_le, if◌then◌else◌, List, [], ◌∷◌, map, Some, None, get_or, refl, ap, arith, ℤ}
use Rattle.std.specs.List.{find, range_with_len}
use Rattle.std.proofs.Math.Nat.{mul-le-mul_left}
use Rattle.std.proofs.lemmas.Bool.Decides.{nat_tests}
use Rattle.std.proofs.lemmas.List.FromFn.{get_or-range_with_len, length-range_with_len}
use Rattle.std.proofs.lemmas.List.Sums.{sum_by-cons}
use Rattle.escrow_units.specs.declared.security.Flow.{Flow}
use Rattle.day_sums.proofs.SumFacts.{counted-zero}
use Rattle.payment_schedule.specs.Schedule.{flow_by}
use Rattle.payment_schedule.specs.declared.schedule.ScheduledPayment.{ScheduledPayment}
use Rattle.payment_schedule.proofs.ScheduleFacts.{flow-more}
use Rattle.offer_book.specs.Portfolio.{line_payments, par}
use Rattle.offer_book.specs.Schedule.{kind_rate, schedule_of}
use Rattle.offer_book.specs.declared.line.Line.{Line}
use Rattle.offer_book.proofs.LineFacts.{line_payments-none}
use Rattle.cash_table.proofs.DayFacts.{find_at, find_none}
use Rattle.cash_table.proofs.ReachFacts.{choice_more}
use Rattle.cash_table.proofs.ZipFacts.{sum_by-zero}
use Rattle.backward_build.specs.Residual.{covers, fewest_of}
use Rattle.backward_build.specs.Span.{falls_in, paid_in}
use Rattle.backward_build.specs.declared.residual.Residual.{Residual}
use Rattle.backward_build.specs.declared.span.Span.{Span}
use Rattle.offer_book.specs.declared.payment_days.PaymentDays.{PaymentDays}

-- the cents of a flow that fall in a span
abbrev pub span_cents : Span → Flow → ℕ
span_cents span flow = if falls_in span flow.day then flow.cents.0 else 0

-- payments on the same days, none of them less
paid_more : (span : Span) (f g : ScheduledPayment → Flow) (schedule : List ScheduledPayment) → ((p : ScheduledPayment) → (f p).day ≡ (g p).day) → ((p : ScheduledPayment) → (f p).cents.0 ≤ (g p).cents.0)
    → paid_in span (map f schedule) ≤ paid_in span (map g schedule)
paid_more span f g [] same more = omega arith
paid_more span f g (p ∷ ps) same more =
    let test = ap (λ (d : ℤ). falls_in span d) (same p) in
    let here : span_cents span (f p) ≤ span_cents span (g p) = rw test (choice_more (falls_in span (g p).day) (f p).cents.0 0 (g p).cents.0 0 (more p) (omega arith)) in
    omega (arith, sum_by-cons (span_cents span) (f p) (map f ps), sum_by-cons (span_cents span) (g p) (map g ps), here, paid_more span f g ps same more)

-- more units of a line pay no less in a span
pub line_more : (span : Span) (days : PaymentDays) (line : Line) (units more : ℕ) → units ≤ more → paid_in span (line_payments days line units) ≤ paid_in span (line_payments days line more)
line_more span days line units more le =
    paid_more span (flow_by (kind_rate line.kind) (par line units)) (flow_by (kind_rate line.kind) (par line more)) (schedule_of days line) (λ payment. refl)
    (λ payment. flow-more (kind_rate line.kind) (par line units) (par line more) payment (mul-le-mul_left line.step le))

pub covers_from : (days : PaymentDays) (residual : Residual) (line : Line) (units : ℕ) → covers days residual line units ≡ true → residual.cents.0 ≤ paid_in residual.span (line_payments days line units)
covers_from days residual line units test = test_le residual.cents.0 (paid_in residual.span (line_payments days line units)) test
  where
    test_le : (a b : ℕ) → nat_le a b ≡ true → a ≤ b
    test_le a b h = grind (arith, nat_tests)

-- fewer units than too few are too few
pub covers_less : (days : PaymentDays) (residual : Residual) (line : Line) (units more : ℕ) → units ≤ more → covers days residual line more ≡ false → covers days residual line units ≡ false
covers_less days residual line units more le test =
    less residual.cents.0 (paid_in residual.span (line_payments days line units)) (paid_in residual.span (line_payments days line more)) (line_more residual.span days line units more le) test
  where
    less : (a b e : ℕ) → b ≤ e → nat_le a e ≡ false → nat_le a b ≡ false
    less a b e h k = grind (arith, nat_tests)

-- no units pay nothing
none_paid : (span : Span) (days : PaymentDays) (line : Line) → paid_in span (line_payments days line 0) ≡ 0
none_paid span days line =
    let none = line_payments-none days line 0 refl in
    sum_by-zero (span_cents span) (line_payments days line 0) (λ k d lt. counted-zero (falls_in span (get_or (line_payments days line 0) k d).day) (get_or (line_payments days line 0) k d).cents.0 (none k d lt))

none_covers : (days : PaymentDays) (residual : Residual) (line : Line) → covers days residual line 0 ≡ nat_le residual.cents.0 0
none_covers days residual line = ap (nat_le residual.cents.0) (none_paid residual.span days line)

pub fewest-nothing : (days : PaymentDays) (residual : Residual) (line : Line) → residual.cents.0 ≡ 0 → covers days residual line 0 ≡ true
fewest-nothing days residual line none = none_covers days residual line ∙ nothing residual.cents.0 none
  where
    nothing : (n : ℕ) → n ≡ 0 → nat_le n 0 ≡ true
    nothing n h = grind (arith, nat_tests)

pub fewest-zero : (days : PaymentDays) (residual : Residual) (line : Line) → residual.cents.0 ≡ 0 → fewest_of days residual line ≡ Some 0
unfolding fewest_of
fewest-zero days residual line none =
    ap (λ b. cond b (Some 0) (find (covers days residual line) (range_with_len line.least (line.most + 1 - line.least)))) (fewest-nothing days residual line none)

-- where something is left, the fewest are from the least on
fewest-some : (days : PaymentDays) (residual : Residual) (line : Line) → 0 < residual.cents.0 → fewest_of days residual line ≡ find (covers days residual line) (range_with_len line.least (line.most + 1 - line.least))
unfolding fewest_of
fewest-some days residual line some =
    ap (λ b. cond b (Some 0) (find (covers days residual line) (range_with_len line.least (line.most + 1 - line.least)))) (none_covers days residual line ∙ above residual.cents.0 some)
  where
    above : (n : ℕ) → 0 < n → nat_le n 0 ≡ false
    above n h = grind (arith, nat_tests)

pub fewest-found : (days : PaymentDays) (residual : Residual) (line : Line) (units : ℕ) → 0 < residual.cents.0 → line.least ≤ units → units ≤ line.most → covers days residual line units ≡ true
    → ((fewer : ℕ) → line.least ≤ fewer → fewer < units → covers days residual line fewer ≡ false) → fewest_of days residual line ≡ Some units
fewest-found days residual line units some least most enough fewer =
    let n = line.most + 1 - line.least in
    let at : get_or (range_with_len line.least n) (units - line.least) 0 ≡ units = omega (arith, get_or-range_with_len line.least n (units - line.least) 0 (omega arith)) in
    fewest-some days residual line some
    ∙ find_at (covers days residual line) (range_with_len line.least n) (units - line.least) 0 (omega (arith, length-range_with_len line.least n))
    (λ k h. ap (covers days residual line) (get_or-range_with_len line.least n k 0 (omega arith)) ∙ fewer (line.least + k) (omega arith) (omega arith))
    (ap (covers days residual line) at ∙ enough)
    ∙ ap Some at

pub fewest-none : (days : PaymentDays) (residual : Residual) (line : Line) → 0 < residual.cents.0 → covers days residual line line.most ≡ false → fewest_of days residual line ≡ None
fewest-none days residual line some fails =
    let n = line.most + 1 - line.least in
    fewest-some days residual line some
    ∙ find_none (covers days residual line) (range_with_len line.least n)
    (λ k d h.
    let within : k < n = omega (arith, length-range_with_len line.least n) in
    ap (covers days residual line) (get_or-range_with_len line.least n k d within) ∙ covers_less days residual line (line.least + k) line.most (omega arith) fails)
