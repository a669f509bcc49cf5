-- Days between, and amounts on days.
use Rattle.std.proofs.Common.{◌≡◌, ℕ, ◌<◌, suc, refl, ap, arith, ℤ, pos, ◌+ℤ◌, ◌-ℤ◌, ◌≤ℤ◌, ◌<ℤ◌, int_le, int_lt, unsigned_abs, Bool, true, false, if◌then◌else◌, List, [], ◌∷◌, map, get_or, AllPairs, ◌⊎◌, inl, inr}
use Rattle.std.proofs.lemmas.Int.{ints}
use Rattle.std.proofs.lemmas.List.Elements.{All-map}
use Rattle.std.proofs.lemmas.List.Kept.{AllPairs-cons}
use Rattle.jiff_core.proofs.SignedLemmas.{signed_arith}
use Rattle.escrow_units.specs.Flows.{ComeInOrder}
use Rattle.escrow_units.specs.Series.{days_between_of}
use Rattle.escrow_units.specs.declared.security.Flow.{Flow}
use Rattle.escrow_units.proofs.DateFacts.{pos_abs}

-- tests of signed numbers
pub int_le-test : (a b : ℤ) → a ≤ℤ b → int_le a b ≡ true
int_le-test a b h = grind (arith, ints)

pub int_le-not : (a b : ℤ) → b <ℤ a → int_le a b ≡ false
int_le-not a b h = grind (arith, ints)

pub int_lt-test : (a b : ℤ) → a <ℤ b → int_lt a b ≡ true
int_lt-test a b h = grind (arith, ints)

pub int_lt-not : (a b : ℤ) → b ≤ℤ a → int_lt a b ≡ false
int_lt-not a b h = grind (arith, ints)

pub int_lt-is : (a b : ℤ) → int_lt a b ≡ true → a <ℤ b
int_lt-is a b h = grind (arith, ints)

pub cases_int_le : (a b : ℤ) → (a ≤ℤ b) ⊎ (b <ℤ a)
cases_int_le a b = at (int_le a b) refl
  where
    at : (t : Bool) → int_le a b ≡ t → (a ≤ℤ b) ⊎ (b <ℤ a)
    at true e = inl (grind (arith, ints))
    at false e = inr (grind (arith, ints))

-- what an amount is that is chosen by a test
pub choice-true : (t : Bool) (a b : ℕ) → t ≡ true → (if t then a else b) ≡ a
choice-true t a b e = rw e refl

pub choice-false : (t : Bool) (a b : ℕ) → (t ≡ true → ⊥) → (if t then a else b) ≡ b
choice-false true a b h = absurd (h refl)
choice-false false a b h = refl

-- days between two days
pub days_between_of-whole : (from to : ℤ) → from ≤ℤ to → from +ℤ pos (days_between_of from to) ≡ to
days_between_of-whole from to order =
    let e = pos_abs (to -ℤ from) (omega (arith, signed_arith, order)) in
    omega (arith, signed_arith, e)

pub days_between_of-count : (from to : ℤ) (n : ℕ) → from +ℤ pos n ≡ to → days_between_of from to ≡ n
days_between_of-count from to n e = let apart : to -ℤ from ≡ pos n = omega (arith, signed_arith, e) in ap unsigned_abs apart

pub days_between_of-some : (from to : ℤ) → from <ℤ to → 0 < days_between_of from to
days_between_of-some from to less = omega (arith, signed_arith, less, days_between_of-whole from to (omega (arith, signed_arith, less)))

-- amounts on days that rise come in order, also where each is moved and none past another
pub order-map : (on : ℤ → ℤ) (flow : ℤ → Flow) → ((a b : ℤ) → a ≤ℤ b → on a ≤ℤ on b) → ((day : ℤ) → (flow day).day ≡ on day)
    → (dates : List ℤ) → AllPairs (λ a b. a <ℤ b) dates → ComeInOrder (map flow dates)
order-map on flow keeps falls [] h = λ i j d lt within. absurd (omega arith)
order-map on flow keeps falls (x ∷ xs) h =
    AllPairs-cons (λ (a b : Flow). a.day ≤ℤ b.day) (flow x) (map flow xs)
    (All-map (λ (b : Flow). (flow x).day ≤ℤ b.day) flow xs (λ k d lt.
    let y = get_or xs k d in
    let before : x <ℤ y = h 0 (suc k) d (omega arith) (omega arith) in
    rw (falls x, falls y) (keeps x y (omega (arith, signed_arith, before)))))
    (order-map on flow keeps falls xs (λ i j d lt within. h (suc i) (suc j) d (omega arith) (omega arith)))
