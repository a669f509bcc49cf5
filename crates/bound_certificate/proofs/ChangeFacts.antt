-- The changes of a leaf, and its numbers.
use Rattle.std.proofs.Common.{◌≡◌, ◌≢◌, ◌∙◌, length-append, replicate, slice_index_or, Option, Some, None, ℕ, suc, ◌+◌, ◌-◌, ◌*◌, ◌%◌, ◌<◌, ◌≤◌, Bool, true, false, ◌==◌, ◌&&◌, nat_lt, if◌then◌else◌, List, [], ◌∷◌, length, get_or, All, AllPairs, refl, sym, subst, ap, arith, slice_set, take, drop, length-drop}
use Rattle.std.specs.List.{fold}
use Rattle.std.proofs.lemmas.Bool.{and_parts}
use Rattle.std.proofs.lemmas.List.{length-replicate, length-set, length-take, take_all}
use Rattle.std.proofs.lemmas.List.Elements.{All-append, All-cons, All-head, All-nil, All-replicate, All-set, All-tail, All-take}
use Rattle.std.proofs.lemmas.List.Kept.{AllPairs-cons}
use Rattle.proof_tree.specs.declared.prices.TheConstants.{PRICE_SCALE}
use Rattle.line_words.specs.declared.range.Range.{Range}
use Rattle.bound_certificate.specs.declared.packed.Change.{Change}
use Rattle.bound_certificate.specs.declared.row.Row.TheVariants as row
use Rattle.bound_certificate.specs.declared.weighing.Weighing.{Weighing}
use Rattle.bound_certificate.specs.Weights.{least_vector, most_weight}
use Rattle.bound_certificate.specs.declared.limits.TheConstants.{MOST_DATES}
use Rattle.bound_certificate.specs.Grammar.{ArePlaces, are_rising, changes_of, places_of}
use Rattle.bound_certificate.specs.Packed.{HasLength, IsChange, IsVector, changed, from_place, vector_of}
use Rattle.bound_certificate.specs.Taken.{IsBase}
use Rattle.bound_certificate.specs.Row.{AreRowNumbers, InRanges, leaf_range, price_range, row_fits}
use Rattle.bound_certificate.specs.Text.{change_numbers}
use Rattle.line_words.specs.Words.{from_to, is_in}
use Rattle.bound_certificate.proofs.PriceFacts.{IsPrice, in_range, within}
use Rattle.bound_certificate.proofs.RowFacts.{AreWritten}

-- ---- changes as numbers
-- the ranges of a leaf behind its three first numbers
even_range : (how : Weighing) (dates vectors place : ℕ) → 4 ≤ place → place % 2 ≡ 0 → leaf_range how dates vectors place ≡ from_to 1 dates
even_range how dates vectors place h even =
    let one : (place == 1) ≡ false = grind (arith, h) in
    let two : (place == 2) ≡ false = grind (arith, h) in
    let three : (place == 3) ≡ false = grind (arith, h) in
    let here : (place % 2 == 0) ≡ true = grind (arith, even) in
    ap (λ (b : Bool). if b then from_to 0 (most_weight how) else if place == 2 then from_to 0 PRICE_SCALE else if place == 3 then from_to (least_vector how) vectors
    else if place % 2 == 0 then from_to 1 dates else price_range) one
    ∙ ap (λ (b : Bool). if b then from_to 0 PRICE_SCALE else if place == 3 then from_to (least_vector how) vectors else if place % 2 == 0 then from_to 1 dates else price_range) two
    ∙ ap (λ (b : Bool). if b then from_to (least_vector how) vectors else if place % 2 == 0 then from_to 1 dates else price_range) three
    ∙ ap (λ (b : Bool). if b then from_to 1 dates else price_range) here

odd_range : (how : Weighing) (dates vectors place : ℕ) → 4 ≤ place → place % 2 ≡ 1 → leaf_range how dates vectors place ≡ price_range
odd_range how dates vectors place h odd =
    let one : (place == 1) ≡ false = grind (arith, h) in
    let two : (place == 2) ≡ false = grind (arith, h) in
    let low : 3 < place = omega arith in
    let three : (place == 3) ≡ false = grind (arith, low) in
    let here : (place % 2 == 0) ≡ false = grind (arith, odd) in
    ap (λ (b : Bool). if b then from_to 0 (most_weight how) else if place == 2 then from_to 0 PRICE_SCALE else if place == 3 then from_to (least_vector how) vectors
    else if place % 2 == 0 then from_to 1 dates else price_range) one
    ∙ ap (λ (b : Bool). if b then from_to 0 PRICE_SCALE else if place == 3 then from_to (least_vector how) vectors else if place % 2 == 0 then from_to 1 dates else price_range) two
    ∙ ap (λ (b : Bool). if b then from_to (least_vector how) vectors else if place % 2 == 0 then from_to 1 dates else price_range) three
    ∙ ap (λ (b : Bool). if b then from_to 1 dates else price_range) here

pub changes-in : (how : Weighing) (dates vectors : ℕ) (numbers : List ℕ) (place : ℕ) → 4 ≤ place → place % 2 ≡ 0 → InRanges (leaf_range how dates vectors) place numbers →
    All (IsChange dates) (changes_of numbers)
changes-in how dates vectors [] place h even inside = All-nil (IsChange dates)
changes-in how dates vectors (at ∷ []) place h even inside = All-nil (IsChange dates)
changes-in how dates vectors (at ∷ price ∷ numbers) place h even inside =
    let next : place + 1 + 1 ≡ place + 2 = omega arith in
    let P : ℕ → Type 0 = λ k. InRanges (leaf_range how dates vectors) k numbers in
    let first : is_in (from_to 1 dates) at ≡ true = ap (λ (r : Range). is_in r at) (sym (even_range how dates vectors place h even)) ∙ inside.0 in
    let second : is_in (from_to 0 (2 * PRICE_SCALE)) price ≡ true =
    ap (λ (r : Range). is_in r price) (sym (odd_range how dates vectors (place + 1) (omega arith) (omega (arith, even)))) ∙ inside.1.0 in
    let here : (1 ≤ at) × (at ≤ dates) = in_range 1 dates at first in
    let there : (0 ≤ price) × (price ≤ 2 * PRICE_SCALE) = in_range 0 (2 * PRICE_SCALE) price second in
    All-cons (IsChange dates) (record { place = at; price = price }) (changes_of numbers) (record { first = here.0; last = here.1; range = there.1 })
    (changes-in how dates vectors numbers (place + 2) (omega arith) (omega (arith, even)) (subst P next inside.1.1))

pub changes-ranges : (how : Weighing) (dates vectors : ℕ) (changes : List Change) (place : ℕ) → 4 ≤ place → place % 2 ≡ 0 → All (IsChange dates) changes →
    InRanges (leaf_range how dates vectors) place (change_numbers changes)
changes-ranges how dates vectors [] place h even all = tt
changes-ranges how dates vectors (change ∷ changes) place h even all =
    let next : place + 2 ≡ place + 1 + 1 = omega arith in
    let P : ℕ → Type 0 = λ k. InRanges (leaf_range how dates vectors) k (change_numbers changes) in
    let is : IsChange dates change = All-head (IsChange dates) change changes all in (
      ap (λ (r : Range). is_in r change.place) (even_range how dates vectors place h even) ∙ within 1 dates change.place is.first is.last,
      (
        ap (λ (r : Range). is_in r change.price) (odd_range how dates vectors (place + 1) (omega arith) (omega (arith, even))) ∙ within 0 (2 * PRICE_SCALE) change.price (omega arith) is.range,
        subst P next (changes-ranges how dates vectors changes (place + 2) (omega arith) (omega (arith, even)) (All-tail (IsChange dates) change changes all)),
      ),
    )

pub changes-written : (dates : ℕ) (changes : List Change) → dates ≤ MOST_DATES → All (IsChange dates) changes → AreWritten (change_numbers changes)
changes-written dates [] few all = tt
changes-written dates (change ∷ changes) few all =
    let is : IsChange dates change = All-head (IsChange dates) change changes all in
    (omega (arith, is.last, few), (omega (arith, is.range), changes-written dates changes few (All-tail (IsChange dates) change changes all)))

pub changes-back : (changes : List Change) → changes_of (change_numbers changes) ≡ changes
changes-back [] = refl
changes-back (change ∷ changes) = ap (λ (cs : List Change). change ∷ cs) (changes-back changes)

pub numbers-back : (numbers : List ℕ) → length numbers % 2 ≡ 0 → change_numbers (changes_of numbers) ≡ numbers
numbers-back [] even = refl
numbers-back (at ∷ []) even = absurd (omega (arith, even))
numbers-back (at ∷ price ∷ numbers) even = ap (λ (ns : List ℕ). at ∷ price ∷ ns) (numbers-back numbers (omega (arith, even)))

pub change-count : (changes : List Change) → length (change_numbers changes) ≡ 2 * length changes
change-count [] = refl
change-count (change ∷ changes) = let rest = change-count changes in omega (arith, rest)

-- ---- the order of places
abbrev Lower : Change → Change → Type 0
Lower earlier later = earlier.place < later.place

abbrev Above : ℕ → Change → Type 0
Above place change = place < change.place

pairs_tail : (change : Change) (changes : List Change) → AllPairs Lower (change ∷ changes) → AllPairs Lower changes
pairs_tail change changes h i j d before inside = h (suc i) (suc j) d (omega arith) (omega arith)

pairs_head : (change : Change) (changes : List Change) → AllPairs Lower (change ∷ changes) → All (Above change.place) changes
pairs_head change changes h i d inside = h 0 (suc i) d (omega arith) (omega arith)

higher : (low high : ℕ) (changes : List Change) → low ≤ high → All (Above high) changes → All (Above low) changes
higher low high changes h all i d inside = let here = all i d inside in omega (arith, here, h)

pub places-rising : (changes : List Change) → AllPairs Lower changes → are_rising (places_of changes) ≡ true
places-rising [] h = refl
places-rising (x ∷ []) h = refl
places-rising (x ∷ y ∷ changes) h =
    let first : x.place < y.place = All-head (Above x.place) y changes (pairs_head x (y ∷ changes) h) in
    let here : nat_lt x.place y.place ≡ true = grind (arith, first) in
    ap (λ (b : Bool). b && are_rising (places_of (y ∷ changes))) here ∙ places-rising (y ∷ changes) (pairs_tail x (y ∷ changes) h)

pub rising-places : (changes : List Change) → are_rising (places_of changes) ≡ true → AllPairs Lower changes
rising-places [] h = λ i j d before inside. absurd (omega (arith, before, inside))
rising-places (x ∷ []) h = λ i j d before inside. absurd (omega (arith, before, inside))
rising-places (x ∷ y ∷ changes) h =
    let both : (nat_lt x.place y.place ≡ true) × (are_rising (places_of (y ∷ changes)) ≡ true) = and_parts _ _ h in
    let rest : AllPairs Lower (y ∷ changes) = rising-places (y ∷ changes) both.1 in
    let first : x.place < y.place = grind (arith, both.0) in
    AllPairs-cons Lower x (y ∷ changes)
    (All-cons (Above x.place) y changes first (higher x.place y.place changes (omega arith) (pairs_head y changes rest))) rest

-- rising places up to the last are few
few_above : (dates low : ℕ) (changes : List Change) → low ≤ dates → All (IsChange dates) changes → All (Above low) changes → AllPairs Lower changes →
    length changes + low ≤ dates
few_above dates low [] h all above rising = omega arith
few_above dates low (change ∷ changes) h all above rising =
    let is : IsChange dates change = All-head (IsChange dates) change changes all in
    let over : low < change.place = All-head (Above low) change changes above in
    let rest : length changes + change.place ≤ dates =
    few_above dates change.place changes is.last (All-tail (IsChange dates) change changes all) (pairs_head change changes rising) (pairs_tail change changes rising) in
    omega (arith, over, rest)

above_none : (dates : ℕ) (changes : List Change) → All (IsChange dates) changes → All (Above 0) changes
above_none dates changes all i d inside = let here = all i d inside in omega (arith, here.first)

pub few-changes : (dates : ℕ) (changes : List Change) → All (IsChange dates) changes → AllPairs Lower changes → length changes ≤ dates
few-changes dates changes all rising = let few = few_above dates 0 changes (omega arith) all (above_none dates changes all) rising in omega (arith, few)

-- ---- prices after changes
-- a vector, where there is one, is one
abbrev pub IsVectorIn : ℕ → Option (List ℕ) → Type 0
IsVectorIn dates (Some prices) = IsVector dates prices
IsVectorIn dates None = Unit {0}

there_by : (dates number : ℕ) (vectors : List (List ℕ)) (b : Bool) → (number == 0) ≡ b → All (IsVector dates) vectors → number ≤ length vectors →
    IsVectorIn dates (if b then None else Some (slice_index_or vectors (number - 1) []))
there_by dates number vectors true none all last = tt
there_by dates number vectors false some all last = let first : number ≢ 0 = (λ zero. absurd (grind (arith, some, zero))) in all (number - 1) [] (omega (arith, first, last))

pub vector-there : (dates number : ℕ) (vectors : List (List ℕ)) → All (IsVector dates) vectors → number ≤ length vectors → IsVectorIn dates (vector_of vectors number)
vector-there dates number vectors all last = there_by dates number vectors (number == 0) refl all last

pub vector-length : (dates : ℕ) (vector : Option (List ℕ)) → IsVectorIn dates vector → HasLength dates vector
vector-length dates (Some prices) is = is.every_date
vector-length dates None is = tt

pub vector-base : (dates : ℕ) (vector : Option (List ℕ)) → IsVectorIn dates vector → IsBase dates vector
vector-base dates (Some prices) is = (is.every_date, is.falling)
vector-base dates None is = tt

pub base-length : (dates : ℕ) (vector : Option (List ℕ)) → IsBase dates vector → HasLength dates vector
base-length dates (Some prices) is = is.0
base-length dates None is = tt

set_length : (changes : List Change) (prices : List ℕ) → length (fold (λ (before : List ℕ) (change : Change). slice_set before (change.place - 1) change.price) prices changes) ≡ length prices
set_length [] prices = refl
set_length (change ∷ changes) prices =
    set_length changes (slice_set prices (change.place - 1) change.price) ∙ length-set prices (change.place - 1) change.price

pub from-length : (prices : List ℕ) (change : Change) → length (from_place prices change) ≡ length prices
from-length prices change =
    let place : ℕ = change.place - 1 in
    omega (
      arith,
      length-append (take place prices) (replicate (length prices - place) change.price),
      length-take place prices,
      length-replicate (length prices - place) change.price,
    )

steps_length : (changes : List Change) (prices : List ℕ) → length (fold from_place prices changes) ≡ length prices
steps_length [] prices = refl
steps_length (change ∷ changes) prices = steps_length changes (from_place prices change) ∙ from-length prices change

pub changed-length : (dates : ℕ) (changes : List Change) (vector : Option (List ℕ)) → HasLength dates vector → length (changed dates vector changes) ≡ dates
changed-length dates changes (Some prices) long = set_length changes prices ∙ long
changed-length dates changes None long = steps_length changes (replicate dates (2 * PRICE_SCALE)) ∙ length-replicate dates (2 * PRICE_SCALE)

set_range : (dates : ℕ) (changes : List Change) (prices : List ℕ) → All (IsChange dates) changes → All IsPrice prices →
    All IsPrice (fold (λ (before : List ℕ) (change : Change). slice_set before (change.place - 1) change.price) prices changes)
set_range dates [] prices all range = range
set_range dates (change ∷ changes) prices all range =
    let is : IsChange dates change = All-head (IsChange dates) change changes all in
    set_range dates changes (slice_set prices (change.place - 1) change.price) (All-tail (IsChange dates) change changes all)
    (All-set IsPrice prices (change.place - 1) change.price is.range range)

steps_range : (dates : ℕ) (changes : List Change) (prices : List ℕ) → All (IsChange dates) changes → All IsPrice prices → All IsPrice (fold from_place prices changes)
steps_range dates [] prices all range = range
steps_range dates (change ∷ changes) prices all range =
    let is : IsChange dates change = All-head (IsChange dates) change changes all in
    let place : ℕ = change.place - 1 in
    steps_range dates changes (from_place prices change) (All-tail (IsChange dates) change changes all)
    (All-append IsPrice (take place prices) (replicate (length prices - place) change.price) (All-take IsPrice place prices range)
    (All-replicate IsPrice (length prices - place) change.price is.range))

pub changed-range : (dates : ℕ) (changes : List Change) (vector : Option (List ℕ)) → All (IsChange dates) changes → IsVectorIn dates vector → All IsPrice (changed dates vector changes)
changed-range dates changes (Some prices) all is = set_range dates changes prices all is.range
changed-range dates changes None all is =
    steps_range dates changes (replicate dates (2 * PRICE_SCALE)) all (All-replicate IsPrice dates (2 * PRICE_SCALE) (omega arith))

-- the changes of a leaf's line are in range
pub leaf_three : (how : Weighing) (dates count : ℕ) → row_fits dates (row.Leaf how) count ≡ true → (3 ≤ count) × (count ≤ 3 + 2 * dates) × (count % 2 ≡ 1)
leaf_three how dates count h = (grind (arith, h), grind (arith, h), grind (arith, h))

pub leaf-changes : (how : Weighing) (dates vectors : ℕ) (numbers : List ℕ) → AreRowNumbers dates vectors (row.Leaf how) numbers → All (IsChange dates) (changes_of (drop 3 numbers))
leaf-changes how dates vectors [] are = absurd (omega (arith, (leaf_three how dates 0 are.fits).0))
leaf-changes how dates vectors (rho ∷ []) are = absurd (omega (arith, (leaf_three how dates 1 are.fits).0))
leaf-changes how dates vectors (rho ∷ mu ∷ []) are = absurd (omega (arith, (leaf_three how dates 2 are.fits).0))
leaf-changes how dates vectors (rho ∷ mu ∷ vector ∷ numbers) are = changes-in how dates vectors numbers 4 (omega arith) refl are.ranges.1.1.1

pub up-to : (dates last : ℕ) (changes : List Change) → dates ≤ last → All (IsChange dates) changes → ArePlaces last changes
up-to dates last changes few all i d inside = let here = all i d inside in (here.first, omega (arith, here.last, few))

pub leaf-places : (how : Weighing) (dates vectors last : ℕ) (numbers : List ℕ) → dates ≤ last → AreRowNumbers dates vectors (row.Leaf how) numbers →
    ArePlaces last (changes_of (take (length numbers - 3) (drop 3 numbers)))
leaf-places how dates vectors last numbers few are =
    let whole : take (length numbers - 3) (drop 3 numbers) ≡ drop 3 numbers = take_all (length numbers - 3) (drop 3 numbers) (omega (arith, length-drop 3 numbers)) in
    let P : List ℕ → Type 0 = λ ns. ArePlaces last (changes_of ns) in
    subst P (sym whole) (up-to dates last (changes_of (drop 3 numbers)) few (leaf-changes how dates vectors numbers are))

-- a vector that is there
pub leaf-vector : (how : Weighing) (dates vectors : ℕ) (numbers : List ℕ) → AreRowNumbers dates vectors (row.Leaf how) numbers → (least_vector how ≤ get_or numbers 2 0) × (get_or numbers 2 0 ≤ vectors)
leaf-vector how dates vectors [] are = absurd (omega (arith, (leaf_three how dates 0 are.fits).0))
leaf-vector how dates vectors (rho ∷ []) are = absurd (omega (arith, (leaf_three how dates 1 are.fits).0))
leaf-vector how dates vectors (rho ∷ mu ∷ []) are = absurd (omega (arith, (leaf_three how dates 2 are.fits).0))
leaf-vector how dates vectors (rho ∷ mu ∷ vector ∷ numbers) are = in_range (least_vector how) vectors vector are.ranges.1.1.0
