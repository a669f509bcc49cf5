-- What loops over the numbers of a line find.
use Rattle.std.proofs.Common.{◌≡◌, ◌∙◌, ℕ, suc, ◌+◌, ◌-◌, ◌*◌, ◌%◌, ◌<◌, ◌≤◌, Bool, true, false, ◌&&◌, ◌||◌, nat_le, nat_lt, bit_or, ◌⊎◌, inl, inr, List, [], ◌∷◌, All, length, drop, drop-cons, get_or, refl, sym, ap, arith, length-drop}
use Rattle.std.proofs.lemmas.Bool.{cases_lt}
use Rattle.std.proofs.lemmas.Nat.{le_or_l, le_or_r, or_lt}
use Rattle.proof_tree.specs.declared.prices.TheConstants.{PRICE_SCALE}
use Rattle.bound_certificate.specs.declared.packed.Change.{Change}
use Rattle.bound_certificate.specs.Grammar.{are_rising, changes_of, places_of, rises}

-- a price and the next one
pub rises-more : (prices : List ℕ) (place : ℕ) → 1 ≤ place → place < length prices →
    rises (drop (place - 1) prices) ≡ (nat_lt (get_or prices (place - 1) 0) (get_or prices place 0) || rises (drop place prices))
rises-more prices place some inside =
    let next : suc (place - 1) ≡ place = omega arith in
    let first : drop (place - 1) prices ≡ get_or prices (place - 1) 0 ∷ drop place prices =
    drop-cons prices (place - 1) 0 (omega arith) ∙ ap (λ (k : ℕ). get_or prices (place - 1) 0 ∷ drop k prices) next in
    let second : drop place prices ≡ get_or prices place 0 ∷ drop (suc place) prices = drop-cons prices place 0 inside in
    ap rises (first ∙ ap (λ (ps : List ℕ). get_or prices (place - 1) 0 ∷ ps) second)
    ∙ ap (λ (ps : List ℕ). nat_lt (get_or prices (place - 1) 0) (get_or prices place 0) || rises ps) (sym second)

one_price : (prices : List ℕ) → length prices ≤ 1 → rises prices ≡ false
one_price [] few = refl
one_price (x ∷ []) few = refl
one_price (x ∷ y ∷ prices) few = absurd (omega arith)

pub rises-end : (prices : List ℕ) (place : ℕ) → length prices ≤ place → rises (drop (place - 1) prices) ≡ false
rises-end prices place over = one_price (drop (place - 1) prices) (omega (arith, length-drop (place - 1) prices))

-- ---- differences, of which the highest bit is set where they are below 0
abbrev pub TOP : ℕ
TOP = 9223372036854775808

reaches : (n : ℕ) → TOP ≤ n → nat_le TOP n ≡ true
reaches n high = grind (arith, high)

misses : (n : ℕ) → n < TOP → nat_le TOP n ≡ false
misses n low = grind (arith, low)

-- the highest bit of either
pub top-either : (x y : ℕ) → nat_le TOP (bit_or x y) ≡ (nat_le TOP x || nat_le TOP y)
top-either x y = by (cases_lt x TOP) (cases_lt y TOP)
  where
    by : (x < TOP) ⊎ (TOP ≤ x) → (y < TOP) ⊎ (TOP ≤ y) → nat_le TOP (bit_or x y) ≡ (nat_le TOP x || nat_le TOP y)
    by (inl first) (inl second) =
        misses (bit_or x y) (or_lt 63 x y first second)
        ∙ sym (ap (λ (b : Bool). b || nat_le TOP y) (misses x first) ∙ misses y second)
    by (inl first) (inr second) =
        reaches (bit_or x y) (omega (arith, second, le_or_r x y))
        ∙ sym (ap (λ (b : Bool). b || nat_le TOP y) (misses x first) ∙ reaches y second)
    by (inr first) second = reaches (bit_or x y) (omega (arith, first, le_or_l x y)) ∙ sym (ap (λ (b : Bool). b || nat_le TOP y) (reaches x first))

either_after : (a b c : Bool) → ((a || b) || c) ≡ (a || (b || c))
either_after true b c = refl
either_after false b c = refl

-- the difference of prices
pub top-difference : (first second : ℕ) → first ≤ 2 * PRICE_SCALE → second ≤ 2 * PRICE_SCALE
    → nat_le TOP ((first + (18446744073709551616 - second)) % 18446744073709551616) ≡ nat_lt first second
top-difference first second few also = by (cases_lt first second)
  where
    difference : ℕ
    difference = (first + (18446744073709551616 - second)) % 18446744073709551616

    by : (first < second) ⊎ (second ≤ first) → nat_le TOP difference ≡ nat_lt first second
    by (inl up) = reaches difference (omega (arith, up, few, also)) ∙ sym (grind (arith, up))
    by (inr down) = misses difference (omega (arith, down, few, also)) ∙ sym (grind (arith, down))

-- the difference of a price and the one before, besides those before it
pub rises-next : (prices : List ℕ) (place differences : ℕ) → 1 ≤ place → place < length prices → All (λ price. price ≤ 2 * PRICE_SCALE) prices
    → (nat_le TOP (bit_or differences ((get_or prices (place - 1) 0 + (18446744073709551616 - get_or prices place 0)) % 18446744073709551616)) || rises (drop (place + 1 - 1) prices))
    ≡ (nat_le TOP differences || rises (drop (place - 1) prices))
rises-next prices place differences some inside few =
    let first : ℕ = get_or prices (place - 1) 0 in
    let second : ℕ = get_or prices place 0 in
    let next : place + 1 - 1 ≡ place = omega arith in
    ap (λ (k : ℕ). nat_le TOP (bit_or differences ((first + (18446744073709551616 - second)) % 18446744073709551616)) || rises (drop k prices)) next
    ∙ ap (λ (b : Bool). b || rises (drop place prices))
    (top-either differences ((first + (18446744073709551616 - second)) % 18446744073709551616)
    ∙ ap (λ (b : Bool). nat_le TOP differences || b) (top-difference first second (few (place - 1) 0 (omega (arith, inside))) (few place 0 inside)))
    ∙ either_after (nat_le TOP differences) (nat_lt first second) (rises (drop place prices)) ∙ ap (λ (b : Bool). nat_le TOP differences || b) (sym (rises-more prices place some inside))

-- a place and the next one
abbrev pub no_change : Change
no_change = record { place = 0; price = 0 }

pub places-more : (changes : List Change) (place : ℕ) → 1 ≤ place → place < length changes →
    are_rising (places_of (drop (place - 1) changes))
    ≡ (nat_lt (get_or changes (place - 1) no_change).place (get_or changes place no_change).place && are_rising (places_of (drop place changes)))
places-more changes place some inside =
    let next : suc (place - 1) ≡ place = omega arith in
    let first : drop (place - 1) changes ≡ get_or changes (place - 1) no_change ∷ drop place changes =
    drop-cons changes (place - 1) no_change (omega arith) ∙ ap (λ (k : ℕ). get_or changes (place - 1) no_change ∷ drop k changes) next in
    let second : drop place changes ≡ get_or changes place no_change ∷ drop (suc place) changes = drop-cons changes place no_change inside in
    ap (λ (cs : List Change). are_rising (places_of cs)) (first ∙ ap (λ (cs : List Change). get_or changes (place - 1) no_change ∷ cs) second)
    ∙ ap (λ (cs : List Change). nat_lt (get_or changes (place - 1) no_change).place (get_or changes place no_change).place && are_rising (places_of cs)) (sym second)

one_place : (changes : List Change) → length changes ≤ 1 → are_rising (places_of changes) ≡ true
one_place [] few = refl
one_place (x ∷ []) few = refl
one_place (x ∷ y ∷ changes) few = absurd (omega arith)

pub places-end : (changes : List Change) (place : ℕ) → length changes ≤ place → are_rising (places_of (drop (place - 1) changes)) ≡ true
places-end changes place over = one_place (drop (place - 1) changes) (omega (arith, length-drop (place - 1) changes))

pub places-here : (changes : List Change) (place : ℕ) → 1 ≤ place → place < length changes →
    (get_or changes place no_change).place ≤ (get_or changes (place - 1) no_change).place → are_rising (places_of (drop (place - 1) changes)) ≡ false
places-here changes place some inside down =
    let here : nat_lt (get_or changes (place - 1) no_change).place (get_or changes place no_change).place ≡ false = grind (arith, down) in
    places-more changes place some inside ∙ ap (λ (b : Bool). b && are_rising (places_of (drop place changes))) here

pub places-on : (changes : List Change) (place : ℕ) → 1 ≤ place → place < length changes →
    (get_or changes (place - 1) no_change).place < (get_or changes place no_change).place →
    are_rising (places_of (drop (place - 1) changes)) ≡ are_rising (places_of (drop place changes))
places-on changes place some inside up =
    let here : nat_lt (get_or changes (place - 1) no_change).place (get_or changes place no_change).place ≡ true = grind (arith, up) in
    places-more changes place some inside ∙ ap (λ (b : Bool). b && are_rising (places_of (drop place changes))) here

-- two numbers are a change
abbrev pub change_at : List ℕ → ℕ → Change
change_at numbers place = record { place = get_or numbers place 0; price = get_or numbers (place + 1) 0 }

pub changes-more : (numbers : List ℕ) (place : ℕ) → place + 1 < length numbers →
    changes_of (drop place numbers) ≡ record { place = get_or numbers place 0; price = get_or numbers (place + 1) 0 } ∷ changes_of (drop (place + 2) numbers)
changes-more numbers place inside =
    let first : drop place numbers ≡ get_or numbers place 0 ∷ drop (suc place) numbers = drop-cons numbers place 0 (omega arith) in
    let second : drop (suc place) numbers ≡ get_or numbers (suc place) 0 ∷ drop (suc (suc place)) numbers = drop-cons numbers (suc place) 0 (omega arith) in
    let one : suc place ≡ place + 1 = omega arith in
    let two : suc (suc place) ≡ place + 2 = omega arith in
    ap changes_of (first ∙ ap (λ (ns : List ℕ). get_or numbers place 0 ∷ ns) second)
    ∙ ap (λ (k : ℕ). record { place = get_or numbers place 0; price = get_or numbers k 0 } ∷ changes_of (drop (suc (suc place)) numbers)) one
    ∙ ap (λ (k : ℕ). record { place = get_or numbers place 0; price = get_or numbers (place + 1) 0 } ∷ changes_of (drop k numbers)) two

one_number : (numbers : List ℕ) → length numbers ≤ 1 → changes_of numbers ≡ []
one_number [] few = refl
one_number (x ∷ []) few = refl
one_number (x ∷ y ∷ numbers) few = absurd (omega arith)

pub changes-end : (numbers : List ℕ) (place : ℕ) → length numbers ≤ place + 1 → changes_of (drop place numbers) ≡ []
changes-end numbers place over = one_number (drop place numbers) (omega (arith, length-drop place numbers))
