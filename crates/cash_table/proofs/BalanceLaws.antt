-- What balances are.
use Rattle.std.proofs.Common.{◌≡◌, ◌∙◌, ◌-◌, ◌+◌, ℕ, zero, suc, ◌<◌, ◌≤◌, refl, sym, ap, arith, ℤ, ◌≤ℤ◌, ◌<ℤ◌, inl, inr, ◌⊎◌, Bool, true, false, if◌then◌else◌, List, [], ◌∷◌, map, filter, length, drop, get_or, nat_lt, ◌||◌}
use Rattle.std.specs.Ordering.{int_eq}
use Rattle.std.specs.List.{All, AllPairs, Any, flat_map, zip}
use Rattle.std.proofs.lemmas.Bool.{cases_Bool, ltb-true, lt-ltb}
use Rattle.std.proofs.lemmas.Int.{ints}
use Rattle.std.proofs.lemmas.List.{length-map, get_or-map}
use Rattle.std.proofs.lemmas.List.Elements.{All-head, All-tail, All-nil, All-append, All-map, All-filter, filter_passes}
use Rattle.std.proofs.lemmas.List.Kept.{AllPairs-filter}
use Rattle.std.proofs.lemmas.List.Sums.{sum_by-cons, sum_by-append}
use Rattle.escrow_units.specs.Calendar.{years_after_of}
use Rattle.escrow_units.specs.Flows.{FallWithinFortyYears}
use Rattle.escrow_units.specs.Series.{days_between_of}
use Rattle.escrow_units.specs.SlgsTerms.{IsSettlement}
use Rattle.escrow_units.specs.declared.security.Flow.{Flow}
use Rattle.escrow_units.proofs.FlowFacts.{days_between_of-whole}
use Rattle.escrow_units.proofs.YearFacts.{years-follow}
use Rattle.day_sums.specs.Summed.{cents_on, summed, total_by}
use Rattle.day_sums.specs.SummedLaws.{AreAboveZero}
use Rattle.day_sums.proofs.SumFacts.{count-summed, above-summed}
use Rattle.day_sums.proofs.Uniqueness.{here, here-same, keep-total_by}
use Rattle.offer_book.specs.declared.line.Line.{Line}
use Rattle.offer_book.specs.Book.{AreLines, BookContents, IsBook, IsLine}
use Rattle.offer_book.specs.Portfolio.{Meets, par, payments, security_flows}
use Rattle.offer_book.proofs.LineFacts.{cash-payments, line_payments-within}
use Rattle.cash_table.specs.Balances.{AreBalances, IsCashDay, balances_of, entry_on, entries_of, escrow_days, is_listed}
use Rattle.cash_table.specs.declared.day_balances.Balance.{Balance}
use Rattle.cash_table.proofs.BalanceFacts.{escrow_day, length-escrow_days}
use Rattle.cash_table.proofs.FlowFacts.{flows_within}
use Rattle.cash_table.proofs.PaymentFacts.{all_lines, pair_payments}
use Rattle.offer_book.specs.declared.payment_days.PaymentDays.{PaymentDays}

-- all payments of a book's lines are within 40 years of settlement
lines_within : (days : PaymentDays) (lines : List Line) (plan : List ℕ) → IsSettlement days.settle → All (IsLine days) lines → FallWithinFortyYears days.settle (flat_map (pair_payments days) (zip lines plan))
lines_within days [] plan h lines = All-nil (λ (flow : Flow). (days.settle ≤ℤ flow.day) × (flow.day ≤ℤ years_after_of days.settle 40))
lines_within days (line ∷ lines) [] h all = All-nil (λ (flow : Flow). (days.settle ≤ℤ flow.day) × (flow.day ≤ℤ years_after_of days.settle 40))
lines_within days (line ∷ lines) (units ∷ plan) h all =
    All-append (λ (flow : Flow). (days.settle ≤ℤ flow.day) × (flow.day ≤ℤ years_after_of days.settle 40)) (pair_payments days (line, units)) (flat_map (pair_payments days) (zip lines plan))
    (line_payments-within days line units h (All-head (IsLine days) line lines all))
    (lines_within days lines plan h (All-tail (IsLine days) line lines all))

pub payments_within : (book : BookContents) (plan : List ℕ) → IsBook book → FallWithinFortyYears book.days.settle (payments book plan)
payments_within book plan limits = lines_within book.days book.lines plan limits.settlement (all_lines book.days book.lines limits.lines)

-- entries of sums are those of what is summed
map_same : {A B : Type 0} (f g : A → B) (xs : List A) → ((x : A) → f x ≡ g x) → map f xs ≡ map g xs
map_same f g [] same = refl
map_same f g (x ∷ xs) same = ap (λ ys. f x ∷ ys) (map_same f g xs same) ∙ ap (λ y. y ∷ map g xs) (same x)

entry_of_sums : (receipts needs : List Flow) (day : ℤ) → entry_on (summed receipts) (summed needs) day ≡ entry_on receipts needs day
entry_of_sums receipts needs day =
    let received : cents_on day (summed receipts) ≡ cents_on day receipts = count-summed (λ d. int_eq d day) receipts in
    let needed : cents_on day (summed needs) ≡ cents_on day needs = count-summed (λ d. int_eq d day) needs in
    rw (received, needed, keep-total_by day receipts, keep-total_by day needs) refl

pub entries_of_sums : (settle : ℤ) (receipts needs : List Flow) → entries_of settle (summed receipts) (summed needs) ≡ entries_of settle receipts needs
entries_of_sums settle receipts needs =
    ap (filter (is_listed settle)) (map_same (entry_on (summed receipts) (summed needs)) (entry_on receipts needs) (escrow_days settle) (entry_of_sums receipts needs))

-- the days of the entries rise
days_rise : (settle : ℤ) → AllPairs (λ a b. a <ℤ b) (escrow_days settle)
days_rise settle = λ i j d less within.
    rw (escrow_day settle i d (omega (arith, less, within)), escrow_day settle j d within) (omega (arith, ints, less))

map_rise : (receipts needs : List Flow) (days : List ℤ) → AllPairs (λ a b. a <ℤ b) days → AllPairs (λ (a b : Balance). a.day <ℤ b.day) (map (entry_on receipts needs) days)
map_rise receipts needs days rise = λ i j d less within.
    let count = length-map days (entry_on receipts needs) in
    rw (get_or-map (entry_on receipts needs) days i d.day d (omega (arith, count, less, within)), get_or-map (entry_on receipts needs) days j d.day d (omega (arith, count, within)))
    (rise i j d.day less (omega (arith, count, within)))

pub entries_rise : (settle : ℤ) (receipts needs : List Flow) → AllPairs (λ (a b : Balance). a.day <ℤ b.day) (entries_of settle receipts needs)
entries_rise settle receipts needs =
    AllPairs-filter (λ (a b : Balance). a.day <ℤ b.day) (is_listed settle) (map (entry_on receipts needs) (escrow_days settle)) (map_rise receipts needs (escrow_days settle) (days_rise settle))

-- each is the entry of its day
pub entries_amounts : (settle : ℤ) (receipts needs : List Flow) → All (λ entry. entry ≡ entry_on receipts needs entry.day) (entries_of settle receipts needs)
entries_amounts settle receipts needs =
    All-filter (is_listed settle) (λ entry. entry ≡ entry_on receipts needs entry.day) (map (entry_on receipts needs) (escrow_days settle))
    (All-map (λ (entry : Balance). entry ≡ entry_on receipts needs entry.day) (entry_on receipts needs) (escrow_days settle) (λ k d lt. refl))

pub entries_listed : (settle : ℤ) (receipts needs : List Flow) → All (λ entry. is_listed settle entry ≡ true) (entries_of settle receipts needs)
entries_listed settle receipts needs = filter_passes (is_listed settle) (map (entry_on receipts needs) (escrow_days settle))

-- an amount on a day is that of some flow of the day
pub any_later : {X : Type 0} (P : X → Type 0) (x : X) (xs : List X) → Any P xs → Any P (x ∷ xs)
any_later P x xs (k, y, within, at, holds) = (suc k, y, omega (arith, within), at, holds)

pub any_here : {X : Type 0} (P : X → Type 0) (x : X) (xs : List X) → P x → Any P (x ∷ xs)
any_here P x xs holds = (0, x, omega arith, refl, holds)

eq_from_test : (a b : ℤ) → int_eq a b ≡ true → a ≡ b
eq_from_test a b h = grind (arith, ints)

pub eq_test : (a b : ℤ) → a ≡ b → int_eq a b ≡ true
eq_test a b h = grind (arith, ints)

pub some_on : (day : ℤ) (flows : List Flow) → 0 < cents_on day flows → Any (λ flow. flow.day ≡ day) flows
some_on day [] some = absurd (omega (arith, some))
some_on day (flow ∷ flows) some = elim (cases_Bool (int_eq flow.day day)) [
  | inl same ↦ any_here (λ (f : Flow). f.day ≡ day) flow flows (eq_from_test flow.day day same)
  | inr other ↦
      let none : here day flow ≡ 0 = rw other refl in
      any_later (λ (f : Flow). f.day ≡ day) flow flows (some_on day flows (omega (arith, some, none, sum_by-cons (here day) flow flows)))
]

on_some : (day : ℤ) (flows : List Flow) → AreAboveZero flows → Any (λ flow. flow.day ≡ day) flows → 0 < cents_on day flows
on_some day [] above (k, x, within, at, falls) = absurd (omega (arith, within))
on_some day (flow ∷ flows) above (zero, x, within, at, falls) =
    let same : flow.day ≡ day = ap (λ (f : Flow). f.day) at ∙ falls in
    omega (arith, sum_by-cons (here day) flow flows, here-same day flow same, All-head (λ (f : Flow). 1 ≤ f.cents.0) flow flows above)
on_some day (flow ∷ flows) above (suc k, x, within, at, falls) =
    omega (arith, sum_by-cons (here day) flow flows, on_some day flows (All-tail (λ (f : Flow). 1 ≤ f.cents.0) flow flows above) (k, x, omega (arith, within), at, falls))

-- on another day than settlement securities alone pay
securities_on : (days : PaymentDays) (day : ℤ) (lines : List Line) (plan : List ℕ) → AreLines days lines → (day ≡ days.settle → ⊥)
    → cents_on day (flat_map (pair_payments days) (zip lines plan)) ≡ cents_on day (flat_map (pair_payments days) (drop 1 (zip lines plan)))
securities_on days day [] plan lines other = absurd lines
securities_on days day (cash ∷ securities) [] lines other = refl
securities_on days day (cash ∷ securities) (units ∷ plan) lines other =
    let flow : Flow = record { day = days.settle; cents = record { 0 = par cash units } } in
    let opening = ap (cents_on day) (cash-payments days cash units lines.0) in
    let alone = sum_by-cons (here day) flow [] in
    omega (arith, sum_by-append (here day) (pair_payments days (cash, units)) (flat_map (pair_payments days) (zip securities plan)), opening, alone, none flow.cents.0 (int_eq days.settle day) refl)
  where
    none : (n : ℕ) (t : Bool) → int_eq days.settle day ≡ t → (if t then n else 0) ≡ 0
    none n true is = absurd (other (sym (eq_from_test days.settle day is)))
    none n false is = refl

or_true : (a b : Bool) → (a || b) ≡ true → (a ≡ true) ⊎ (b ≡ true)
or_true true b h = inl refl
or_true false b h = inr h

security_on : (book : BookContents) (plan : List ℕ) (day : ℤ) → IsBook book → 0 < cents_on day (payments book plan) → IsCashDay book plan day
security_on book plan day limits some = elim (cases_Bool (int_eq day book.days.settle)) [
  | inl same ↦ inl (eq_from_test day book.days.settle same)
  | inr other ↦
      let paid = flat_map (pair_payments book.days) (drop 1 (zip book.lines plan)) in
      let apart = securities_on book.days day book.lines plan limits.lines (λ is. clash other (eq_test day book.days.settle is)) in
      let summed_up : cents_on day (summed paid) ≡ cents_on day paid = count-summed (λ d. int_eq d day) paid in
      inr (inr (some_on day (security_flows book plan) (omega (arith, some, apart, summed_up))))
]
  where
    clash : {t : Bool} → t ≡ false → t ≡ true → ⊥
    clash f t = absurd (cc)

-- listed entries are those of cash days
pub listed_is_cash_day : (book : BookContents) (plan : List ℕ) (entry : Balance) → IsBook book → is_listed book.days.settle entry ≡ true → entry ≡ entry_on (payments book plan) book.needs entry.day → IsCashDay book plan entry.day
listed_is_cash_day book plan entry limits listed is =
    let received : entry.receipts.0 ≡ cents_on entry.day (payments book plan) = ap (λ (e : Balance). e.receipts.0) is in
    let needed : entry.needs.0 ≡ cents_on entry.day book.needs = ap (λ (e : Balance). e.needs.0) is in
    elim (or_true (int_eq entry.day book.days.settle || nat_lt 0 entry.receipts.0) (nat_lt 0 entry.needs.0) listed) [
      | inl first ↦ elim (or_true (int_eq entry.day book.days.settle) (nat_lt 0 entry.receipts.0) first) [
        | inl settles ↦ inl (eq_from_test entry.day book.days.settle settles)
        | inr receives ↦ security_on book plan entry.day limits (rw received at (ltb-true 0 entry.receipts.0 receives))
      ]
      | inr needs ↦ inr (inl (some_on entry.day book.needs (rw needed at (ltb-true 0 entry.needs.0 needs))))
    ]

pub entries_are_cash_days : (book : BookContents) (plan : List ℕ) → IsBook book → All (λ entry. IsCashDay book plan entry.day) (entries_of book.days.settle (payments book plan) book.needs)
entries_are_cash_days book plan limits = λ k d lt.
    listed_is_cash_day book plan _ limits (entries_listed book.days.settle (payments book plan) book.needs k d lt) (entries_amounts book.days.settle (payments book plan) book.needs k d lt)

-- and each cash day has its entry
or_left : (a b : Bool) → a ≡ true → (a || b) ≡ true
or_left a b h = rw h refl

or_right : (a b : Bool) → b ≡ true → (a || b) ≡ true
or_right true b h = refl
or_right false b h = h

securities_pay_less : (days : PaymentDays) (day : ℤ) (pairs : List (Line × ℕ)) → cents_on day (flat_map (pair_payments days) (drop 1 pairs)) ≤ cents_on day (flat_map (pair_payments days) pairs)
securities_pay_less days day [] = omega arith
securities_pay_less days day (pair ∷ pairs) = omega (arith, sum_by-append (here day) (pair_payments days pair) (flat_map (pair_payments days) pairs))

cash_day_is_listed : (book : BookContents) (plan : List ℕ) (day : ℤ) → IsBook book → IsCashDay book plan day → is_listed book.days.settle (entry_on (payments book plan) book.needs day) ≡ true
cash_day_is_listed book plan day limits is =
    let receives = nat_lt 0 (cents_on day (payments book plan)) in
    let needs = nat_lt 0 (cents_on day book.needs) in
    elim is [
      | inl settles ↦ or_left (int_eq day book.days.settle || receives) needs (or_left (int_eq day book.days.settle) receives (eq_test day book.days.settle settles))
      | inr other ↦ elim other [
        | inl need ↦ or_right (int_eq day book.days.settle || receives) needs (lt-ltb 0 (cents_on day book.needs) (on_some day book.needs limits.needs.positive need))
        | inr pays ↦
            let paid = flat_map (pair_payments book.days) (drop 1 (zip book.lines plan)) in
            let some = on_some day (security_flows book plan) (above-summed paid) pays in
            let summed_up : cents_on day (summed paid) ≡ cents_on day paid = count-summed (λ d. int_eq d day) paid in
            let less = securities_pay_less book.days day (zip book.lines plan) in
            or_left (int_eq day book.days.settle || receives) needs (or_right (int_eq day book.days.settle) receives (lt-ltb 0 (cents_on day (payments book plan)) (omega (arith, some, summed_up, less))))
      ]
    ]

cash_day_within : (book : BookContents) (plan : List ℕ) (day : ℤ) → IsBook book → IsCashDay book plan day → (book.days.settle ≤ℤ day) × (day ≤ℤ years_after_of book.days.settle 40)
cash_day_within book plan day limits is = elim is [
  | inl settles ↦ rw settles (omega (arith, ints), years-follow book.days.settle limits.settlement)
  | inr other ↦ elim other [
    | inl need ↦ at book.needs limits.needs.within need
    | inr pays ↦ at (security_flows book plan) (flows_within book plan limits) pays
  ]
]
  where
    at : (flows : List Flow) → FallWithinFortyYears book.days.settle flows → Any (λ flow. flow.day ≡ day) flows → (book.days.settle ≤ℤ day) × (day ≤ℤ years_after_of book.days.settle 40)
    at flows within (k, x, short, here, falls) = rw (here, falls) at (within k x short)

any_listed : {X : Type 0} (p : X → Bool) (P : X → Type 0) (xs : List X) (k : ℕ) (d : X) → k < length xs → p (get_or xs k d) ≡ true → P (get_or xs k d) → Any P (filter p xs)
any_listed p P [] k d short passes holds = absurd (omega (arith, short))
any_listed p P (x ∷ xs) zero d short passes holds = rw passes (any_here P x (filter p xs) holds)
any_listed p P (x ∷ xs) (suc k) d short passes holds =
    let rest = any_listed p P xs k d (omega (arith, short)) passes holds in
    elim (cases_Bool (p x)) [
      | inl kept ↦ rw kept (any_later P x (filter p xs) rest)
      | inr left_out ↦ rw left_out rest
    ]

pub entries_are_complete : (book : BookContents) (plan : List ℕ) (day : ℤ) → IsBook book → IsCashDay book plan day → Any (λ entry. entry.day ≡ day) (entries_of book.days.settle (payments book plan) book.needs)
entries_are_complete book plan day limits is =
    let within = cash_day_within book plan day limits is in
    let entry = entry_on (payments book plan) book.needs in
    let place = days_between_of book.days.settle day in
    let there = days_between_of-whole book.days.settle day within.0 in
    let last = days_between_of-whole book.days.settle (years_after_of book.days.settle 40) (years-follow book.days.settle limits.settlement) in
    let short : place < length (escrow_days book.days.settle) = omega (arith, ints, there, last, within.1, length-escrow_days book.days.settle) in
    let at : get_or (map entry (escrow_days book.days.settle)) place (entry day) ≡ entry day = get_or-map entry (escrow_days book.days.settle) place day (entry day) short ∙ ap entry (escrow_day book.days.settle place day short ∙ there) in
    any_listed (is_listed book.days.settle) (λ (e : Balance). e.day ≡ day) (map entry (escrow_days book.days.settle)) place (entry day) (omega (arith, short, length-map (escrow_days book.days.settle) entry))
    (rw at (cash_day_is_listed book plan day limits is)) (ap (λ (e : Balance). e.day) at)

-- where the needs are met, they and what is left come to the receipts
balanced_at : (receipts needs : List Flow) (entry : Balance) → entry ≡ entry_on receipts needs entry.day → total_by entry.day needs ≤ total_by entry.day receipts → total_by entry.day needs + entry.balance.0 ≡ total_by entry.day receipts
balanced_at receipts needs entry is met =
    let left : entry.balance.0 ≡ total_by entry.day receipts - total_by entry.day needs = ap (λ (e : Balance). e.balance.0) is in
    omega (arith, left, met)

pub are_balances : (book : BookContents) (plan : List ℕ) → IsBook book → Meets book plan → AreBalances book plan (balances_of book plan)
unfolding balances_of
are_balances book plan limits meets = record {
  rise = entries_rise book.days.settle (payments book plan) book.needs;
  days = entries_are_cash_days book plan limits;
  complete = λ day is. entries_are_complete book plan day limits is;
  amounts = entries_amounts book.days.settle (payments book plan) book.needs;
  balanced = λ k d lt. balanced_at (payments book plan) book.needs _ (entries_amounts book.days.settle (payments book plan) book.needs k d lt) (meets _);
}

-- entries of the sums of receipts and needs are the balances
pub entries_of_book : (settle : ℤ) (receipts needs : List Flow) (entries : List Balance) (book : BookContents) (plan : List ℕ) → settle ≡ book.days.settle → receipts ≡ summed (payments book plan) → needs ≡ summed book.needs
    → entries ≡ entries_of settle receipts needs → entries ≡ balances_of book plan
unfolding balances_of
entries_of_book settle receipts needs entries book plan a b e is = rw (a, b, e) at is ∙ entries_of_sums book.days.settle (payments book plan) book.needs
