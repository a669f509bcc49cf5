-- Needs met on every need date are met on every day, and the first short need date is the first short day.
use Rattle.std.proofs.Common.{◌≡◌, ◌⊎◌, ℕ, zero, suc, ◌+◌, ◌<◌, ◌≤◌, Bool, true, false, cond, nat_lt, Option, Some, None, MatchOption, IfSome, IfNone, List, [], ◌∷◌, length, get_or, take, drop, map, refl, sym, ap, ◌∙◌, inl, inr, arith, ℤ, ◌<ℤ◌, ◌≤ℤ◌}
use Rattle.std.specs.List.{All, sum, sum_by, find}
use Rattle.std.proofs.lemmas.Bool.{cases_lt, lt-ltb, le-ltb, ltb-true}
use Rattle.std.proofs.lemmas.Bool.Decides.{nat_tests}
use Rattle.std.proofs.lemmas.Int.{ints, by_lt_z}
use Rattle.std.proofs.lemmas.List.{get_or-take, get_or-drop, get_or-map, get_or_default, length-take, length-drop, length-map}
use Rattle.std.proofs.lemmas.List.Elements.{All-head, All-tail, All-cons, All-nil}
use Rattle.std.proofs.lemmas.List.Sums.{sum_by-cons, sum_by-take-drop, sum_by-le-sum_by}
use Rattle.escrow_units.specs.declared.security.Flow.{Flow}
use Rattle.escrow_units.specs.Flows.{Rise, total}
use Rattle.day_sums.specs.Summed.{total_by}
use Rattle.offer_book.specs.Book.{BookContents}
use Rattle.offer_book.specs.Portfolio.{payments, Meets, IsFirstShort}
use Rattle.cash_table.specs.First.{is_short, first_short_of}
use Rattle.cash_table.specs.Receipts.{cents_by, AreReceipts, IsCovered, IsFirstUncovered}
use Rattle.cash_table.proofs.ZipFacts.{sum_by-zero}
use Rattle.cash_table.proofs.ReceiptFacts.{cents_by-due, cents_by-later}

sum_by-same : {X : Type 0} (f g : X → ℕ) (xs : List X) → All (λ x. f x ≡ g x) xs → sum_by f xs ≡ sum_by g xs
sum_by-same f g [] same = refl
sum_by-same f g (x ∷ xs) same =
    omega (arith, sum_by-cons f x xs, sum_by-cons g x xs, All-head (λ y. f y ≡ g y) x xs same, sum_by-same f g xs (All-tail (λ y. f y ≡ g y) x xs same))

-- flows that have all come, or none of which has
pub total_by-due : (t : ℤ) (flows : List Flow) → All (λ flow. flow.day ≤ℤ t) flows → total_by t flows ≡ total flows
total_by-due t flows due = sum_by-same (cents_by t) (λ flow. flow.cents.0) flows (λ k d h. cents_by-due t (get_or flows k d) (due k d h))

pub total_by-later : (t : ℤ) (flows : List Flow) → All (λ flow. t <ℤ flow.day) flows → total_by t flows ≡ 0
total_by-later t flows later = sum_by-zero (cents_by t) flows (λ k d h. cents_by-later t (get_or flows k d) (later k d h))

cents_by-le : (s t : ℤ) (flow : Flow) → s ≤ℤ t → cents_by s flow ≤ cents_by t flow
cents_by-le s t flow order =
    by_lt_z s flow.day
    (λ later. omega (arith, cents_by-later s flow later))
    (λ due. let due_then : flow.day ≤ℤ t = omega (arith, ints) in omega (arith, cents_by-due s flow due, cents_by-due t flow due_then))

pub total_by-le : (s t : ℤ) (flows : List Flow) → s ≤ℤ t → total_by s flows ≤ total_by t flows
total_by-le s t flows order = sum_by-le-sum_by (cents_by s) (cents_by t) flows (λ flow. cents_by-le s t flow order)

pub total_by-at_most : (t : ℤ) (flows : List Flow) → total_by t flows ≤ total flows
total_by-at_most t flows = sum_by-le-sum_by (cents_by t) (λ flow. flow.cents.0) flows (λ flow. at_most flow)
  where
    at_most : (flow : Flow) → cents_by t flow ≤ flow.cents.0
    at_most flow =
        by_lt_z t flow.day
        (λ later. omega (arith, cents_by-later t flow later))
        (λ due. omega (arith, cents_by-due t flow due))

-- s is the latest day of the flows up to and on t
record IsLatest (t : ℤ) (flows : List Flow) (s : ℤ) : Type 0 where
  not_after : s ≤ℤ t
  greatest : All (λ flow. flow.day ≤ℤ t → flow.day ≤ℤ s) flows
  place : ℕ
  within : place < length flows
  at : (d : Flow) → (get_or flows place d).day ≡ s

latest-cons_later : (t : ℤ) (flow : Flow) (flows : List Flow) (s : ℤ) → IsLatest t flows s → (flow.day ≤ℤ t → flow.day ≤ℤ s) → IsLatest t (flow ∷ flows) s
latest-cons_later t flow flows s l first = record {
  not_after = l.not_after;
  greatest = All-cons (λ (f : Flow). f.day ≤ℤ t → f.day ≤ℤ s) flow flows first l.greatest;
  place = suc l.place;
  within = omega (arith, l.within);
  at = λ d. l.at d;
}

latest-cons_here : (t : ℤ) (flow : Flow) (flows : List Flow) → flow.day ≤ℤ t → All (λ f. f.day ≤ℤ t → f.day ≤ℤ flow.day) flows → IsLatest t (flow ∷ flows) flow.day
latest-cons_here t flow flows due rest = record {
  not_after = due;
  greatest = All-cons (λ (f : Flow). f.day ≤ℤ t → f.day ≤ℤ flow.day) flow flows (λ _. omega (arith, ints)) rest;
  place = 0;
  within = omega arith;
  at = λ d. refl;
}

latest : (t : ℤ) (flows : List Flow) → All (λ flow. t <ℤ flow.day) flows ⊎ ((s : ℤ) × IsLatest t flows s)
latest t [] = inl (All-nil (λ flow. t <ℤ flow.day))
latest t (flow ∷ flows) = elim (latest t flows) [
  | inl none ↦ by_lt_z t flow.day
      (λ later. inl (All-cons (λ (f : Flow). t <ℤ f.day) flow flows later none))
      (λ due. inr (flow.day, latest-cons_here t flow flows due (λ k d h due_too. absurd (clash (get_or flows k d).day (none k d h) due_too))))
  | inr found ↦ by_lt_z found.0 flow.day
      (λ more. by_lt_z t flow.day
      (λ later. inr (found.0, latest-cons_later t flow flows found.0 found.1 (λ due. absurd (clash flow.day later due))))
      (λ due. inr (flow.day, latest-cons_here t flow flows due (λ k d h due_too. less (get_or flows k d).day found.0 flow.day (found.1.greatest k d h due_too) more))))
      (λ no_more. inr (found.0, latest-cons_later t flow flows found.0 found.1 (λ _. no_more)))
]
  where
    clash : (a : ℤ) → t <ℤ a → a ≤ℤ t → ⊥
    clash a h k = omega (arith, ints)

    less : (a b e : ℤ) → a ≤ℤ b → b <ℤ e → a ≤ℤ e
    less a b e h k = omega (arith, ints)

-- between the latest of its days and t nothing comes
total_by-latest : (t : ℤ) (flows : List Flow) (s : ℤ) → IsLatest t flows s → total_by t flows ≡ total_by s flows
total_by-latest t flows s l = sum_by-same (cents_by t) (cents_by s) flows (λ k d h. same (get_or flows k d) (l.greatest k d h))
  where
    same : (flow : Flow) → (flow.day ≤ℤ t → flow.day ≤ℤ s) → cents_by t flow ≡ cents_by s flow
    same flow within =
        let order = l.not_after in
        by_lt_z t flow.day
        (λ later. let later_then : s <ℤ flow.day = omega (arith, ints) in cents_by-later t flow later ∙ sym (cents_by-later s flow later_then))
        (λ due. cents_by-due t flow due ∙ sym (cents_by-due s flow (within due)))

-- what is met on each need date up to a day is met on the day
pub met_on_every_day : (needs flows : List Flow) (t : ℤ) → ((k : ℕ) (d : Flow) → k < length needs → (get_or needs k d).day ≤ℤ t → total_by (get_or needs k d).day needs ≤ total_by (get_or needs k d).day flows) → total_by t needs ≤ total_by t flows
met_on_every_day needs flows t met = elim (latest t needs) [
  | inl none ↦ omega (arith, total_by-later t needs none)
  | inr found ↦ here found.0 found.1
]
  where
    here : (s : ℤ) → IsLatest t needs s → total_by t needs ≤ total_by t flows
    here s l =
        let flow : Flow = record { day = s; cents = record { 0 = 0 } } in
        let at = l.at flow in
        let due : (get_or needs l.place flow).day ≤ℤ t = rw at l.not_after in
        let day_met : total_by s needs ≤ total_by s flows = rw at at (met l.place flow l.within due) in
        omega (arith, total_by-latest t needs s l, day_met, total_by-le s t flows l.not_after)

-- the first element that passes, as `find` gives it
pub find_at : {X : Type 0} (p : X → Bool) (xs : List X) (i : ℕ) (d : X) → i < length xs → ((k : ℕ) → k < i → p (get_or xs k d) ≡ false) → p (get_or xs i d) ≡ true → find p xs ≡ Some (get_or xs i d)
find_at p [] i d within before here = absurd (omega (arith, within))
find_at p (x ∷ xs) zero d within before here = ap (λ b. cond b (Some x) (find p xs)) here
find_at p (x ∷ xs) (suc i) d within before here =
    ap (λ b. cond b (Some x) (find p xs)) (before 0 (omega arith)) ∙ find_at p xs i d (omega arith) (λ k h. before (suc k) (omega arith)) here

pub find_none : {X : Type 0} (p : X → Bool) (xs : List X) → ((k : ℕ) (d : X) → k < length xs → p (get_or xs k d) ≡ false) → find p xs ≡ None
find_none p [] fails = refl
find_none p (x ∷ xs) fails =
    ap (λ b. cond b (Some x) (find p xs)) (fails 0 x (omega arith)) ∙ find_none p xs (λ k d h. fails (suc k) d (omega arith))

-- what `find` tells: no element passes, or x is the first that does
record IsFirstFound {X : Type 0} (p : X → Bool) (xs : List X) (x : X) : Type 0 where
  place : ℕ
  within : place < length xs
  at : (d : X) → get_or xs place d ≡ x
  passes : p x ≡ true
  before : (k : ℕ) (d : X) → k < place → p (get_or xs k d) ≡ false

abbrev FindTells : {X : Type 0} → (X → Bool) → List X → Option X → Type 0
FindTells {X} p xs found = MatchOption found ((k : ℕ) (d : X) → k < length xs → p (get_or xs k d) ≡ false) (IsFirstFound p xs)

first_place : {X : Type 0} (p : X → Bool) (x : X) (xs : List X) → p x ≡ true → FindTells p (x ∷ xs) (Some x)
first_place p x xs passes = record {
  place = 0;
  within = omega arith;
  at = λ d. refl;
  passes = passes;
  before = λ k d h. absurd (omega arith);
}

abbrev FailBelow : {X : Type 0} → (X → Bool) → List X → ℕ → Type 0
FailBelow {X} p xs n = (k : ℕ) (d : X) → k < n → p (get_or xs k d) ≡ false

fail_more : {X : Type 0} (p : X → Bool) (x : X) (xs : List X) (n : ℕ) → p x ≡ false → FailBelow p xs n → FailBelow p (x ∷ xs) (suc n)
fail_more p x xs n fails rest = λ k d h. cases k d h
  where
    cases : (k : ℕ) (d : _) → k < suc n → p (get_or (x ∷ xs) k d) ≡ false
    cases zero d h = fails
    cases (suc k) d h = rest k d (omega arith)

later_place : {X : Type 0} (p : X → Bool) (x : X) (xs : List X) (found : Option X) → p x ≡ false → FindTells p xs found → FindTells p (x ∷ xs) found
later_place p x xs None fails rest = fail_more p x xs (length xs) fails rest
later_place p x xs (Some y) fails rest = record {
  place = suc rest.place;
  within = omega (arith, rest.within);
  at = rest.at;
  passes = rest.passes;
  before = fail_more p x xs rest.place fails rest.before;
}

tells_by_test : {X : Type 0} (p : X → Bool) (x : X) (xs : List X) (b : Bool) → p x ≡ b → FindTells p xs (find p xs) → FindTells p (x ∷ xs) (cond b (Some x) (find p xs))
tells_by_test p x xs true test rest = first_place p x xs test
tells_by_test p x xs false test rest = later_place p x xs (find p xs) test rest

find_tells : {X : Type 0} (p : X → Bool) (xs : List X) → FindTells p xs (find p xs)
find_tells p [] = λ k d h. absurd (omega (arith, h))
find_tells p (x ∷ xs) = tells_by_test p x xs (p x) refl (find_tells p xs)

rising_lt : (needs : List Flow) → Rise needs → (i k : ℕ) (e d : Flow) → i < k → k < length needs → (get_or needs i e).day <ℤ (get_or needs k d).day
rising_lt needs rising i k e d order within =
    let later = rising i k e order within in
    let same = ap (λ flow. flow.day) (get_or_default needs k e d within) in
    omega (arith, ints)

rising_le : (needs : List Flow) → Rise needs → (i k : ℕ) (e d : Flow) → i ≤ k → k < length needs → (get_or needs i e).day ≤ℤ (get_or needs k d).day
rising_le needs rising i k e d order within = elim (cases_lt i k) [
  | inl less ↦ (let later = rising_lt needs rising i k e d less within in omega (arith, ints))
  | inr more ↦ (let at : i ≡ k = omega arith in
      let same = ap (λ flow. flow.day) (ap (λ n. get_or needs n e) at ∙ get_or_default needs k e d within) in
      omega (arith, ints))
]

-- the needs up to a need date are those at its place and before
pub total_by_need : (needs : List Flow) (k : ℕ) (d : Flow) → Rise needs → k < length needs → total_by (get_or needs k d).day needs ≡ total (take (k + 1) needs)
total_by_need needs k d rising within =
    let t = (get_or needs k d).day in
    let parts = sum_by-take-drop (cents_by t) needs (k + 1) in
    let due = total_by-due t (take (k + 1) needs)
    (λ i e h.
    let low : i < k + 1 = omega (arith, length-take (k + 1) needs) in
    let at = ap (λ flow. flow.day) (get_or-take (k + 1) needs i e low) in
    let order = rising_le needs rising i k e d (omega arith) within in
    omega (arith, ints)) in
    let later = total_by-later t (drop (k + 1) needs)
    (λ i e h.
    let high : k + 1 + i < length needs = omega (arith, length-drop (k + 1) needs) in
    let at = ap (λ flow. flow.day) (get_or-drop (k + 1) needs i e) in
    let order = rising_lt needs rising k (k + 1 + i) d e (omega arith) high in
    omega (arith, ints)) in
    omega (arith, parts, due, later)

-- the code's comparison at a need date is the test of the definition
is_short_at : (book : BookContents) (plan receipts : List ℕ) → Rise book.needs → AreReceipts book.needs (payments book plan) receipts → (k : ℕ) (d : Flow) → k < length book.needs → is_short book plan (get_or book.needs k d).day ≡ nat_lt (sum (take (k + 1) receipts)) (total (take (k + 1) book.needs))
is_short_at book plan receipts rising received k d within =
    ap (λ n. nat_lt n (total_by (get_or book.needs k d).day book.needs)) (sym (received k d within)) ∙ ap (nat_lt (sum (take (k + 1) receipts))) (total_by_need book.needs k d rising within)

covered_test : (needs : List Flow) (receipts : List ℕ) (k : ℕ) → IsCovered needs receipts k → nat_lt (sum (take (k + 1) receipts)) (total (take (k + 1) needs)) ≡ false
covered_test needs receipts k covered = le-ltb (sum (take (k + 1) receipts)) (total (take (k + 1) needs)) covered

abbrev days : List Flow → List ℤ
days needs = map (λ need. need.day) needs

-- the first need date that the code finds is the one of the definition
pub first_short_value : (book : BookContents) (plan receipts : List ℕ) (found : Option ℤ) → Rise book.needs → AreReceipts book.needs (payments book plan) receipts → IfNone found ((k : ℕ) → k < length book.needs → IsCovered book.needs receipts k) → IfSome found (λ day. (k : ℕ) × IsFirstUncovered book.needs receipts k × ((d : Flow) → day ≡ (get_or book.needs k d).day)) → found ≡ first_short_of book plan
first_short_value book plan receipts None rising received none some =
    sym (find_none (is_short book plan) (days book.needs)
    (λ k t h.
    let within : k < length book.needs = omega (arith, length-map book.needs (λ need. need.day)) in
    let flow : Flow = record { day = t; cents = record { 0 = 0 } } in
    ap (is_short book plan) (get_or-map (λ need. need.day) book.needs k flow t within) ∙ is_short_at book plan receipts rising received k flow within ∙ covered_test book.needs receipts k (none k within)))
first_short_value book plan receipts (Some day) rising received none some =
    let k = some.0 in
    let uncovered = some.1 in
    let flow : Flow = record { day = day; cents = record { 0 = 0 } } in
    let day_at = λ (j : ℕ) (h : j < length book.needs). get_or-map (λ need. need.day) book.needs j flow day h in
    let found = find_at (is_short book plan) (days book.needs) k day (omega (arith, uncovered.within, length-map book.needs (λ need. need.day)))
    (λ j h.
    let within : j < length book.needs = omega (arith, uncovered.within) in
    ap (is_short book plan) (day_at j within) ∙ is_short_at book plan receipts rising received j flow within ∙ covered_test book.needs receipts j (uncovered.before j h))
    (ap (is_short book plan) (day_at k uncovered.within) ∙ is_short_at book plan receipts rising received k flow uncovered.within ∙ lt-ltb (sum (take (k + 1) receipts)) (total (take (k + 1) book.needs)) uncovered.short) in
    sym (found ∙ ap Some (day_at k uncovered.within ∙ sym (some.2 flow)))

not_short : (book : BookContents) (plan : List ℕ) (t : ℤ) → is_short book plan t ≡ false → total_by t book.needs ≤ total_by t (payments book plan)
not_short book plan t test = ltb_fails (total_by t (payments book plan)) (total_by t book.needs) test
  where
    ltb_fails : (a b : ℕ) → nat_lt a b ≡ false → b ≤ a
    ltb_fails a b h = grind (arith, nat_tests)

-- what `find` tells of the need dates, said of every day
tells_of_days : (book : BookContents) (plan : List ℕ) (found : Option ℤ) → Rise book.needs → FindTells (is_short book plan) (days book.needs) found → MatchOption found (Meets book plan) (IsFirstShort book plan)
tells_of_days book plan None rising fails = λ t.
    met_on_every_day book.needs (payments book plan) t
    (λ k d within _.
    let at = get_or-map (λ need. need.day) book.needs k d d.day within in
    not_short book plan (get_or book.needs k d).day (ap (is_short book plan) (sym at) ∙ fails k d.day (omega (arith, length-map book.needs (λ need. need.day)))))
tells_of_days book plan (Some day) rising first = record {
  short = ltb-true (total_by day (payments book plan)) (total_by day book.needs) first.passes;
  before = λ s earlier.
      met_on_every_day book.needs (payments book plan) s
      (λ k d within due.
      let here : first.place < length book.needs = omega (arith, first.within, length-map book.needs (λ need. need.day)) in
      let day_is = sym (get_or-map (λ need. need.day) book.needs first.place d day here) ∙ first.at day in
      let order : k < first.place = elim (cases_lt k first.place) [
        | inl less ↦ less
        | inr more ↦ (let later = rising_le book.needs rising first.place k d d more within in absurd (omega (arith, ints)))
      ] in
      let at = get_or-map (λ need. need.day) book.needs k d d.day within in
      not_short book plan (get_or book.needs k d).day (ap (is_short book plan) (sym at) ∙ first.before k d.day order));
}

-- where a portfolio is short on no need date it meets the needs on every day, and else the first short need date is
-- the first short day
pub first_short_is : (book : BookContents) (plan : List ℕ) → Rise book.needs → MatchOption (first_short_of book plan) (Meets book plan) (IsFirstShort book plan)
first_short_is book plan rising = tells_of_days book plan (first_short_of book plan) rising (find_tells (is_short book plan) (days book.needs))
