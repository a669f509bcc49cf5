-- Receipts, needs and what is left, from one day to the next.
use Rattle.std.proofs.Common.{◌≡◌, ◌∙◌, ℕ, ◌+◌, ◌-◌, ◌<◌, ◌≤◌, refl, sym, ap, arith, ℤ, pos, ◌+ℤ◌, ◌≤ℤ◌, ◌<ℤ◌, true, false, if◌then◌else◌, List, [], ◌∷◌, ◌++◌, map, filter, length, take, get_or, int_lt}
use Rattle.std.specs.Ordering.{int_eq}
use Rattle.std.specs.List.{range_with_len}
use Rattle.std.proofs.lemmas.Int.{ints, by_lt_z}
use Rattle.std.proofs.lemmas.List.{append-nil, take_more, take_all, length-map, get_or-map, map-append}
use Rattle.std.proofs.lemmas.List.Elements.{filter-append}
use Rattle.std.proofs.lemmas.List.FromFn.{length-range_with_len, get_or-range_with_len}
use Rattle.std.proofs.lemmas.List.Sums.{sum_by-cons}
use Rattle.escrow_units.specs.Calendar.{years_after_of}
use Rattle.escrow_units.specs.Flows.{FallWithin}
use Rattle.escrow_units.specs.Series.{days_between_of}
use Rattle.escrow_units.specs.declared.amount.Cents.{Cents}
use Rattle.escrow_units.specs.declared.security.Flow.{Flow}
use Rattle.escrow_units.proofs.FlowFacts.{int_lt-test, int_lt-not}
use Rattle.day_sums.specs.Summed.{cents_on, total_by}
use Rattle.day_sums.proofs.Uniqueness.{here, here-same, here-later}
use Rattle.cash_table.specs.Balances.{entry_on, entries_of, escrow_days, is_listed}
use Rattle.cash_table.specs.Receipts.{cents_by, total_before}
use Rattle.cash_table.specs.declared.day_balances.Balance.{Balance}
use Rattle.cash_table.proofs.ReceiptFacts.{cents_by-due, cents_by-later}
use Rattle.cash_table.proofs.ZipFacts.{sum_by-zero}

abbrev cents_before : ℤ → Flow → ℕ
cents_before day flow = if int_lt flow.day day then flow.cents.0 else 0

before-due : (day : ℤ) (flow : Flow) → flow.day <ℤ day → cents_before day flow ≡ flow.cents.0
before-due day flow due = rw (int_lt-test flow.day day due) refl

before-later : (day : ℤ) (flow : Flow) → day ≤ℤ flow.day → cents_before day flow ≡ 0
before-later day flow later = rw (int_lt-not flow.day day later) refl

here-earlier : (day : ℤ) (flow : Flow) → flow.day <ℤ day → here day flow ≡ 0
here-earlier day flow earlier = rw (not_here flow.day day earlier) refl
  where
    not_here : (a b : ℤ) → a <ℤ b → int_eq a b ≡ false
    not_here a b h = grind (arith, ints)

-- a flow up to and on a day is one before it or on it
day_parts : (day : ℤ) (flow : Flow) → cents_by day flow ≡ cents_before day flow + here day flow
day_parts day flow =
    by_lt_z flow.day day
    (λ earlier. let due : flow.day ≤ℤ day = omega (arith, ints, earlier) in omega (arith, cents_by-due day flow due, before-due day flow earlier, here-earlier day flow earlier))
    (λ from. by_lt_z day flow.day
    (λ later. omega (arith, cents_by-later day flow later, before-later day flow from, here-later day flow later))
    (λ by. let same : flow.day ≡ day = omega (arith, ints, from, by) in omega (arith, cents_by-due day flow by, before-later day flow from, here-same day flow same)))

pub total_by-parts : (day : ℤ) (flows : List Flow) → total_by day flows ≡ total_before day flows + cents_on day flows
total_by-parts day [] = refl
total_by-parts day (flow ∷ flows) =
    omega (arith, sum_by-cons (cents_by day) flow flows, sum_by-cons (cents_before day) flow flows, sum_by-cons (here day) flow flows, day_parts day flow, total_by-parts day flows)

next_before : (day : ℤ) (flow : Flow) → cents_by day flow ≡ cents_before (day +ℤ pos 1) flow
next_before day flow =
    by_lt_z day flow.day
    (λ later. omega (arith, cents_by-later day flow later, before-later (day +ℤ pos 1) flow (omega (arith, ints, later))))
    (λ by. omega (arith, cents_by-due day flow by, before-due (day +ℤ pos 1) flow (omega (arith, ints, by))))

pub total_by-next : (day : ℤ) (flows : List Flow) → total_by day flows ≡ total_before (day +ℤ pos 1) flows
total_by-next day [] = refl
total_by-next day (flow ∷ flows) =
    omega (arith, sum_by-cons (cents_by day) flow flows, sum_by-cons (cents_before (day +ℤ pos 1)) flow flows, next_before day flow, total_by-next day flows)

-- nothing comes before the first day
pub total_before-first : (from to : ℤ) (flows : List Flow) → FallWithin from to flows → total_before from flows ≡ 0
total_before-first from to flows within = sum_by-zero (cents_before from) flows (λ k d lt. before-later from (get_or flows k d) (within k d lt).0)

-- what is left after a day
pub left_after : (day : ℤ) (receipts needs : List Flow) (before : ℕ) → total_before day needs + before ≡ total_before day receipts → total_by day needs ≤ total_by day receipts
    → total_before (day +ℤ pos 1) needs + (total_by day receipts - total_by day needs) ≡ total_before (day +ℤ pos 1) receipts
left_after day receipts needs before left meets = omega (arith, total_by-next day receipts, total_by-next day needs, meets)

-- the days of the entries
pub length-escrow_days : (settle : ℤ) → length (escrow_days settle) ≡ days_between_of settle (years_after_of settle 40) + 1
length-escrow_days settle =
    length-map (range_with_len 0 (days_between_of settle (years_after_of settle 40) + 1)) (λ place. settle +ℤ pos place)
    ∙ length-range_with_len 0 (days_between_of settle (years_after_of settle 40) + 1)

pub escrow_day : (settle : ℤ) (place : ℕ) (d : ℤ) → place < length (escrow_days settle) → get_or (escrow_days settle) place d ≡ settle +ℤ pos place
escrow_day settle place d within =
    let count = length-escrow_days settle in
    let numbers = range_with_len 0 (days_between_of settle (years_after_of settle 40) + 1) in
    let short : place < length numbers = omega (arith, within, count, length-range_with_len 0 (days_between_of settle (years_after_of settle 40) + 1)) in
    get_or-map (λ place. settle +ℤ pos place) numbers place 0 d short
    ∙ ap (λ n. settle +ℤ pos n) (get_or-range_with_len 0 (days_between_of settle (years_after_of settle 40) + 1) place 0 (omega (arith, within, count)) ∙ plus place)
  where
    plus : (n : ℕ) → 0 + n ≡ n
    plus n = omega arith

-- the entries up to one day more
abbrev pub entries_to : ℤ → List Flow → List Flow → ℕ → List Balance
entries_to settle receipts needs place = filter (is_listed settle) (map (entry_on receipts needs) (take place (escrow_days settle)))

entries_next : (settle : ℤ) (receipts needs : List Flow) (place : ℕ) → place < length (escrow_days settle)
    → entries_to settle receipts needs (place + 1) ≡ entries_to settle receipts needs place ++ filter (is_listed settle) (entry_on receipts needs (settle +ℤ pos place) ∷ [])
entries_next settle receipts needs place within =
    let days = take place (escrow_days settle) in
    let entry = entry_on receipts needs in
    let more = take_more (escrow_days settle) place settle within ∙ ap (λ (day : ℤ). days ++ day ∷ []) (escrow_day settle place settle within) in
    ap (λ (ds : List ℤ). filter (is_listed settle) (map entry ds)) more
    ∙ ap (filter (is_listed settle)) (map-append entry days ((settle +ℤ pos place) ∷ []))
    ∙ filter-append (is_listed settle) (map entry days) (entry (settle +ℤ pos place) ∷ [])

pub entries_more-listed : (settle : ℤ) (receipts needs : List Flow) (place : ℕ) (items more : List Balance) (entry : Balance) → place < length (escrow_days settle)
    → items ≡ entries_to settle receipts needs place → entry ≡ entry_on receipts needs (settle +ℤ pos place) → is_listed settle entry ≡ true → more ≡ items ++ entry ∷ []
    → more ≡ entries_to settle receipts needs (place + 1)
entries_more-listed settle receipts needs place items more entry within so_far is listed pushed =
    let alone : filter (is_listed settle) (entry ∷ []) ≡ entry ∷ [] = rw listed refl in
    pushed ∙ ap (λ (front : List Balance). front ++ entry ∷ []) so_far
    ∙ ap (λ (back : List Balance). entries_to settle receipts needs place ++ back) (sym alone ∙ ap (λ (e : Balance). filter (is_listed settle) (e ∷ [])) is)
    ∙ sym (entries_next settle receipts needs place within)

pub entries_more-left_out : (settle : ℤ) (receipts needs : List Flow) (place : ℕ) (items : List Balance) (entry : Balance) → place < length (escrow_days settle)
    → items ≡ entries_to settle receipts needs place → entry ≡ entry_on receipts needs (settle +ℤ pos place) → is_listed settle entry ≡ false
    → items ≡ entries_to settle receipts needs (place + 1)
entries_more-left_out settle receipts needs place items entry within so_far is left_out =
    let none : filter (is_listed settle) (entry ∷ []) ≡ [] = rw left_out refl in
    so_far ∙ sym (append-nil (entries_to settle receipts needs place))
    ∙ ap (λ (back : List Balance). entries_to settle receipts needs place ++ back) (sym none ∙ ap (λ (e : Balance). filter (is_listed settle) (e ∷ [])) is)
    ∙ sym (entries_next settle receipts needs place within)

pub entries_all : (settle : ℤ) (receipts needs : List Flow) (place : ℕ) → length (escrow_days settle) ≤ place → entries_to settle receipts needs place ≡ entries_of settle receipts needs
entries_all settle receipts needs place all =
    ap (λ (days : List ℤ). filter (is_listed settle) (map (entry_on receipts needs) days)) (take_all place (escrow_days settle) all)

-- parts of an entry
abbrev entry_with : ℤ → Cents → Cents → ℕ → Balance
entry_with day received needed left = record { day = day; receipts = received; needs = needed; balance = record { 0 = left } }

pub same_entry : (day : ℤ) (receipts needs : List Flow) (received needed : Cents) (left : ℕ) → received.0 ≡ cents_on day receipts → needed.0 ≡ cents_on day needs → left ≡ total_by day receipts - total_by day needs
    → entry_with day received needed left ≡ entry_on receipts needs day
same_entry day receipts needs received needed left a b c =
    ap (λ (n : ℕ). entry_with day (record { 0 = n }) needed left) a ∙ ap (λ (n : ℕ). entry_with day (record { 0 = cents_on day receipts }) (record { 0 = n }) left) b
    ∙ ap (λ (n : ℕ). entry_with day (record { 0 = cents_on day receipts }) (record { 0 = cents_on day needs }) n) c
