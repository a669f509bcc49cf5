-- What securities pay, summed by day.
use Rattle.std.proofs.Common.{◌≡◌, ◌∙◌, ℕ, ◌+◌, ◌*◌, ◌^◌, ◌≤◌, List, [], ◌∷◌, ◌++◌, length, get_or, take, drop, sym, ap, arith, inr, ℤ, ◌≤ℤ◌}
use Rattle.std.specs.List.{All, sum_by, flat_map, zip}
use Rattle.std.specs.Ordering.{int_eq}
use Rattle.std.proofs.lemmas.List.Elements.{All-head, All-tail, All-nil, All-cons, All-append, All-weaker}
use Rattle.std.proofs.lemmas.Slice.Zip.{length-zip}
use Rattle.std.proofs.Math.Nat.{mul-le-mul_right}
use Rattle.std.proofs.lemmas.List.Sums.{sum_by-le}
use Rattle.escrow_units.specs.Calendar.{years_after_of}
use Rattle.escrow_units.specs.Flows.{total, FallWithinFortyYears}
use Rattle.escrow_units.specs.SlgsTerms.{IsSettlement}
use Rattle.escrow_units.specs.declared.security.Flow.{Flow}
use Rattle.day_sums.specs.Summed.{summed}
use Rattle.day_sums.proofs.SumFacts.{count, counted, counted-zero, count-append}
use Rattle.day_sums.proofs.Uniqueness.{fall-within, keep-total, same-sums, in-steps}
use Rattle.offer_book.specs.declared.line.Line.{Line}
use Rattle.offer_book.specs.Book.{AreLines, BookContents, IsBook, IsLine, IsSecurityLine}
use Rattle.offer_book.specs.Portfolio.{IsPermitted, security_flows}
use Rattle.offer_book.proofs.LineFacts.{line_payments-little, line_payments-none, line_payments-within}
use Rattle.cash_table.proofs.CostFacts.{PairIsPermitted, permitted_few}
use Rattle.cash_table.proofs.PaymentFacts.{pair_payments, pair_total, payments_more, total-payments}
use Rattle.cash_table.proofs.ZipFacts.{StandAt, sum_by-zero}
use Rattle.offer_book.specs.declared.payment_days.PaymentDays.{PaymentDays}

pub total-sums : (sums : List Flow) (days : PaymentDays) (lines : List Line) (plan : List ℕ) (i : ℕ) → sums ≡ summed (flat_map (pair_payments days) (take i (zip lines plan)))
    → total sums ≡ sum_by (pair_total days) (take i (zip lines plan))
total-sums sums days lines plan i e =
    ap total e ∙ keep-total (flat_map (pair_payments days) (take i (zip lines plan))) ∙ total-payments days (take i (zip lines plan))

-- one line more
pub sums_more : (sums more pays : List Flow) (days : PaymentDays) (lines : List Line) (plan : List ℕ) (i : ℕ) (line : Line) (units : ℕ) → StandAt lines plan i line units
    → sums ≡ summed (flat_map (pair_payments days) (take i (zip lines plan))) → pays ≡ pair_payments days (line, units) → more ≡ summed (sums ++ pays)
    → more ≡ summed (flat_map (pair_payments days) (take (i + 1) (zip lines plan)))
sums_more sums more pays days lines plan i line units at e f g =
    let so_far = flat_map (pair_payments days) (take i (zip lines plan)) in
    g ∙ ap (λ (fs : List Flow). summed (fs ++ pays)) e ∙ in-steps so_far pays ∙ ap (λ (fs : List Flow). summed (so_far ++ fs)) f
    ∙ ap summed (sym (payments_more days lines plan i line units at))

count-none : (day : ℤ) (flows : List Flow) → All (λ flow. flow.cents.0 ≡ 0) flows → count (λ d. int_eq d day) flows ≡ 0
count-none day flows none =
    sum_by-zero (counted (λ d. int_eq d day)) flows (λ k d lt. counted-zero (int_eq (get_or flows k d).day day) (get_or flows k d).cents.0 (none k d lt))

-- a line without units changes nothing
pub sums_same : (sums : List Flow) (days : PaymentDays) (lines : List Line) (plan : List ℕ) (i : ℕ) (line : Line) (units : ℕ) → StandAt lines plan i line units → units ≡ 0
    → sums ≡ summed (flat_map (pair_payments days) (take i (zip lines plan)))
    → sums ≡ summed (flat_map (pair_payments days) (take (i + 1) (zip lines plan)))
sums_same sums days lines plan i line units at none e =
    let so_far = flat_map (pair_payments days) (take i (zip lines plan)) in
    let pays = pair_payments days (line, units) in
    e ∙ same-sums so_far (so_far ++ pays)
    (λ day. omega (arith, count-append (λ d. int_eq d day) so_far pays, count-none day pays (line_payments-none days line units none)))
    ∙ ap summed (sym (payments_more days lines plan i line units at))

-- securities pay within 40 years
securities_within : (days : PaymentDays) (lines : List Line) (plan : List ℕ) → IsSettlement days.settle → All (IsSecurityLine days) lines → FallWithinFortyYears days.settle (flat_map (pair_payments days) (zip lines plan))
securities_within days [] plan h securities = All-nil (λ (flow : Flow). (days.settle ≤ℤ flow.day) × (flow.day ≤ℤ years_after_of days.settle 40))
securities_within days (line ∷ lines) [] h securities = All-nil (λ (flow : Flow). (days.settle ≤ℤ flow.day) × (flow.day ≤ℤ years_after_of days.settle 40))
securities_within days (line ∷ lines) (units ∷ plan) h securities =
    All-append (λ (flow : Flow). (days.settle ≤ℤ flow.day) × (flow.day ≤ℤ years_after_of days.settle 40)) (pair_payments days (line, units)) (flat_map (pair_payments days) (zip lines plan))
    (line_payments-within days line units h (inr (All-head (IsSecurityLine days) line lines securities)))
    (securities_within days lines plan h (All-tail (IsSecurityLine days) line lines securities))

pub flows_within : (book : BookContents) (plan : List ℕ) → IsBook book → FallWithinFortyYears book.days.settle (security_flows book plan)
flows_within book plan limits =
    fall-within book.days.settle (years_after_of book.days.settle 40) (flat_map (pair_payments book.days) (drop 1 (zip book.lines plan)))
    (of_lines book.days book.lines plan limits.settlement limits.lines)
  where
    of_lines : (days : PaymentDays) (lines : List Line) (plan : List ℕ) → IsSettlement days.settle → AreLines days lines → FallWithinFortyYears days.settle (flat_map (pair_payments days) (drop 1 (zip lines plan)))
    of_lines days [] plan h lines = absurd lines
    of_lines days (cash ∷ securities) [] h lines = All-nil (λ (flow : Flow). (days.settle ≤ℤ flow.day) × (flow.day ≤ℤ years_after_of days.settle 40))
    of_lines days (cash ∷ securities) (units ∷ plan) h lines = securities_within days securities plan h lines.1

-- the lines after opening cash
pub lines_after_cash : (days : PaymentDays) (lines : List Line) → AreLines days lines → All (IsLine days) (drop 1 lines)
lines_after_cash days [] lines = absurd lines
lines_after_cash days (cash ∷ securities) lines = All-weaker (IsSecurityLine days) (IsLine days) (λ line security. inr security) securities lines.1

-- parts of a permitted portfolio: its securities
pub securities_permitted : (lines : List Line) (plan : List ℕ) → All PairIsPermitted (zip lines plan) → All PairIsPermitted (drop 1 (zip lines plan))
securities_permitted [] plan permitted = All-nil PairIsPermitted
securities_permitted (line ∷ lines) [] permitted = All-nil PairIsPermitted
securities_permitted (line ∷ lines) (units ∷ plan) permitted = All-tail PairIsPermitted (line, units) (zip lines plan) permitted

-- securities pay less than 10^15 cents together, even with what they cost
securities_total : (days : PaymentDays) (lines : List Line) (plan : List ℕ) → IsSettlement days.settle → All (IsSecurityLine days) lines → All PairIsPermitted (zip lines plan)
    → All (λ p. pair_total days p ≤ 134 * 10 ^ 10) (zip lines plan)
securities_total days [] plan h securities permitted = All-nil (λ p. pair_total days p ≤ 134 * 10 ^ 10)
securities_total days (line ∷ lines) [] h securities permitted = All-nil (λ p. pair_total days p ≤ 134 * 10 ^ 10)
securities_total days (line ∷ lines) (units ∷ plan) h securities permitted =
    All-cons (λ p. pair_total days p ≤ 134 * 10 ^ 10) (line, units) (zip lines plan)
    (line_payments-little days line units h (All-head (IsSecurityLine days) line lines securities) (permitted_few line units (All-head PairIsPermitted (line, units) (zip lines plan) permitted)))
    (securities_total days lines plan h (All-tail (IsSecurityLine days) line lines securities) (All-tail PairIsPermitted (line, units) (zip lines plan) permitted))

total_at_most : (days : PaymentDays) (lines : List Line) (plan : List ℕ) → IsSettlement days.settle → AreLines days lines → All PairIsPermitted (drop 1 (zip lines plan))
    → sum_by (pair_total days) (drop 1 (zip lines plan)) ≤ 69 * 10 ^ 13
total_at_most days [] plan h lines permitted = absurd lines
total_at_most days (cash ∷ securities) [] h lines permitted = omega arith
total_at_most days (cash ∷ securities) (units ∷ plan) h lines permitted =
    let each = sum_by-le (pair_total days) (134 * 10 ^ 10) (zip securities plan) (securities_total days securities plan h lines.1 permitted) in
    let count : length (zip securities plan) ≤ 512 = omega (arith, length-zip securities plan, lines.2) in
    omega (arith, each, mul-le-mul_right (134 * 10 ^ 10) count)

pub securities_at_most : (book : BookContents) (plan : List ℕ) → IsBook book → IsPermitted book plan → total (flat_map (pair_payments book.days) (drop 1 (zip book.lines plan))) ≤ 69 * 10 ^ 13
securities_at_most book plan limits permitted =
    let bound = total_at_most book.days book.lines plan limits.settlement limits.lines (securities_permitted book.lines plan permitted.units) in
    omega (arith, bound, total-payments book.days (drop 1 (zip book.lines plan)))

pub flows_at_most : (book : BookContents) (plan : List ℕ) → IsBook book → IsPermitted book plan → total (security_flows book plan) ≤ 69 * 10 ^ 13
flows_at_most book plan limits permitted =
    omega (arith, keep-total (flat_map (pair_payments book.days) (drop 1 (zip book.lines plan))), securities_at_most book plan limits permitted)
