-- Receipts by need date, one payment after another.
use Rattle.std.proofs.Common.{◌≡◌, ℕ, zero, suc, ◌+◌, ◌-◌, ◌<◌, ◌≤◌, true, false, cond, List, [], ◌∷◌, length, get_or, take, set, ap, subst, sym, ◌∙◌, inl, inr, arith, ℤ, ◌<ℤ◌, ◌≤ℤ◌, int_lt, int_le}
use Rattle.std.specs.List.{All, AllWithin, sum, flat_map, zip}
use Rattle.std.proofs.lemmas.Bool.{cases_lt}
use Rattle.std.proofs.lemmas.Int.{ints}
use Rattle.std.proofs.lemmas.List.{get_or_default, take-set-le}
use Rattle.std.proofs.lemmas.List.Sums.{sum_by-cons, sum_by-append}
use Rattle.std.specs.List.Sorted.{IsPartitionedBy}
use Rattle.escrow_units.specs.declared.security.Flow.{Flow}
use Rattle.offer_book.specs.declared.line.Line.{Line}
use Rattle.escrow_units.specs.Flows.{Rise, total}
use Rattle.escrow_units.proofs.FlowFacts.{int_le-not, int_le-test, int_lt-test}
use Rattle.day_sums.specs.Summed.{total_by}
use Rattle.day_sums.proofs.SumFacts.{counted-zero}
use Rattle.offer_book.proofs.LineFacts.{line_payments-none}
use Rattle.cash_table.specs.Receipts.{cents_by, AreReceipts}
use Rattle.cash_table.proofs.PaymentFacts.{pair_payments, payments_more}
use Rattle.cash_table.proofs.ZipFacts.{StandAt, sum_by-at_more, sum_by-zero}
use Rattle.offer_book.specs.declared.payment_days.PaymentDays.{PaymentDays}
pub use Rattle.offer_book.proofs.SumFacts.{days_are_partitioned, le_from_lt_test, lt_from_test, lt_trans}

-- where the last need date before a place comes before a day, so do all before the place
pub all-before : (needs : List Flow) (day : ℤ) (place : ℕ) (need : Flow) → Rise needs → place ≤ length needs → 0 < place → need ≡ get_or needs (place - 1) need → need.day <ℤ day → AllWithin (λ need. need.day <ℤ day) needs 0 place
all-before needs day place need rising within some at last = λ k d _ before.
    let here : get_or needs (place - 1) d ≡ need = sym (at ∙ get_or_default needs (place - 1) need d (omega (arith, within, some))) in
    let first : (get_or needs (place - 1) d).day <ℤ day = rw here last in
    elim (cases_lt k (place - 1)) [
      | inl less ↦ lt_trans (get_or needs k d).day (get_or needs (place - 1) d).day day (rising k (place - 1) d less (omega (arith, within, some))) first
      | inr same ↦ (let there : place - 1 ≡ k = omega (arith, before, same) in subst (λ (n : ℕ). (get_or needs n d).day <ℤ day) there first)
    ]

-- and where a need date doesn't come before a day, none behind it does
pub all-from : (needs : List Flow) (day : ℤ) (place : ℕ) (need : Flow) → Rise needs → place < length needs → need ≡ get_or needs place need → day ≤ℤ need.day → AllWithin (λ need. day ≤ℤ need.day) needs place (length needs)
all-from needs day place need rising inside at last = λ k d from within.
    let here : get_or needs place d ≡ need = sym (at ∙ get_or_default needs place need d inside) in
    let first : day ≤ℤ (get_or needs place d).day = rw here last in
    elim (cases_lt place k) [
      | inl less ↦ (let later = rising place k d less within in omega (arith, ints, later, first))
      | inr same ↦ (let there : place ≡ k = omega (arith, from, same) in subst (λ (n : ℕ). day ≤ℤ (get_or needs n d).day) there first)
    ]

-- a part that holds the place of an addition grows by it
pub sum-take-set_add : (xs : List ℕ) (p c n : ℕ) → p < n → p < length xs → sum (take n (set xs p (get_or xs p 0 + c))) ≡ sum (take n xs) + c
sum-take-set_add [] p c n before within = absurd (omega (arith, within))
sum-take-set_add (x ∷ xs) p c zero before within = absurd (omega (arith, before))
sum-take-set_add (x ∷ xs) zero c (suc n) before within =
    omega (arith, sum_by-cons (λ y. y) (x + c) (take n xs), sum_by-cons (λ y. y) x (take n xs))
sum-take-set_add (x ∷ xs) (suc p) c (suc n) before within =
    omega (arith, sum_by-cons (λ y. y) x (take n (set xs p (get_or xs p 0 + c))), sum_by-cons (λ y. y) x (take n xs), sum-take-set_add xs p c n (omega arith) (omega arith))

pub cents_by-due : (t : ℤ) (flow : Flow) → flow.day ≤ℤ t → cents_by t flow ≡ flow.cents.0
cents_by-due t flow due = ap (λ b. cond b flow.cents.0 0) (int_le-test flow.day t due)

pub cents_by-later : (t : ℤ) (flow : Flow) → t <ℤ flow.day → cents_by t flow ≡ 0
cents_by-later t flow later = ap (λ b. cond b flow.cents.0 0) (int_le-not flow.day t later)

-- a payment at its place is in the receipts of each need date from its day on
pub receipt_added : (needs : List Flow) (receipts : List ℕ) (flow : Flow) (place k : ℕ) (d : Flow) → place < length receipts → AllWithin (λ need. need.day <ℤ flow.day) needs 0 place → AllWithin (λ need. flow.day ≤ℤ need.day) needs place (length needs) → k < length needs → sum (take (k + 1) (set receipts place (get_or receipts place 0 + flow.cents.0))) ≡ sum (take (k + 1) receipts) + cents_by (get_or needs k d).day flow
receipt_added needs receipts flow place k d within before from here =
    elim (cases_lt k place) [
      | inl less ↦
          (let same = ap sum (take-set-le (k + 1) receipts place (get_or receipts place 0 + flow.cents.0) (omega arith)) in
          let none = cents_by-later (get_or needs k d).day flow (before k d (omega arith) less) in
          omega (arith, same, none))
      | inr more ↦
          (let sum_more = sum-take-set_add receipts place flow.cents.0 (k + 1) (omega arith) within in
          let due = cents_by-due (get_or needs k d).day flow (from k d more here) in
          omega (arith, sum_more, due))
    ]

-- one payment more, and all payments of a line
pub receipts_next : (t : ℤ) (flows : List Flow) (i : ℕ) (flow : Flow) (had old new : ℕ) → i < length flows → flow ≡ get_or flows i flow
    → old ≡ had + total_by t (take i flows) → new ≡ old + cents_by t flow → new ≡ had + total_by t (take (i + 1) flows)
receipts_next t flows i flow had old new within at before added =
    omega (arith, sum_by-at_more (cents_by t) flows i flow within (λ d. at ∙ get_or_default flows i flow d within), before, added)

pub total_next : (flows : List Flow) (i : ℕ) (flow : Flow) (had old new : ℕ) → i < length flows → flow ≡ get_or flows i flow
    → old ≤ had + total (take i flows) → new ≤ old + flow.cents.0 → new ≤ had + total (take (i + 1) flows)
total_next flows i flow had old new within at before added =
    omega (arith, sum_by-at_more (λ (f : Flow). f.cents.0) flows i flow within (λ d. at ∙ get_or_default flows i flow d within), before, added)

-- a line without units pays nothing by any day
cents_by-none : (t : ℤ) (flow : Flow) → flow.cents.0 ≡ 0 → cents_by t flow ≡ 0
cents_by-none t flow none = counted-zero (int_le flow.day t) flow.cents.0 none

total_by-none : (t : ℤ) (flows : List Flow) → All (λ flow. flow.cents.0 ≡ 0) flows → total_by t flows ≡ 0
total_by-none t flows none = sum_by-zero (cents_by t) flows (λ k d lt. cents_by-none t (get_or flows k d) (none k d lt))

pub nothing_by : (t : ℤ) (days : PaymentDays) (line : Line) (units : ℕ) → units ≡ 0 → total_by t (pair_payments days (line, units)) ≡ 0
nothing_by t days line units none = total_by-none t (pair_payments days (line, units)) (line_payments-none days line units none)

-- the payments of one line more
pub receipts_more : (needs : List Flow) (days : PaymentDays) (lines : List Line) (plan : List ℕ) (i : ℕ) (line : Line) (units : ℕ) (old new : List ℕ) → StandAt lines plan i line units
    → AreReceipts needs (flat_map (pair_payments days) (take i (zip lines plan))) old
    → ((k : ℕ) (d : Flow) → k < length needs → sum (take (k + 1) new) ≡ sum (take (k + 1) old) + total_by (get_or needs k d).day (pair_payments days (line, units)))
    → AreReceipts needs (flat_map (pair_payments days) (take (i + 1) (zip lines plan))) new
receipts_more needs days lines plan i line units old new at had added = λ k d within.
    let t = (get_or needs k d).day in
    let parts = ap (total_by t) (payments_more days lines plan i line units at)
    ∙ sum_by-append (cents_by t) (flat_map (pair_payments days) (take i (zip lines plan))) (pair_payments days (line, units)) in
    omega (arith, parts, had k d within, added k d within)
