-- The weights of sums of a leaf, and the numbers of its tail.
use Rattle.std.proofs.Common.{◌≡◌, ◌∙◌, ℕ, suc, ◌+◌, ◌-◌, ◌*◌, ◌%◌, ◌<◌, ◌≤◌, Bool, true, false, ◌==◌, ◌&&◌, nat_lt, if◌then◌else◌, List, [], ◌∷◌, length, All, AllPairs, refl, sym, subst, ap, arith}
use Rattle.std.proofs.lemmas.Bool.{and_parts}
use Rattle.std.proofs.lemmas.List.Elements.{All-cons, All-head, All-nil, All-tail}
use Rattle.std.proofs.lemmas.List.Kept.{AllPairs-cons}
use Rattle.proof_tree.specs.Tree.{AreSumWeights, IsSumWeight}
use Rattle.proof_tree.specs.declared.prices.TheConstants.{PRICE_SCALE}
use Rattle.proof_tree.specs.declared.weights.Side.{Side}
use Rattle.proof_tree.specs.declared.weights.Side.TheVariants.{AtMost, AtLeast}
use Rattle.proof_tree.specs.declared.weights.SumWeight.{SumWeight}
use Rattle.line_words.specs.declared.range.Range.{Range}
use Rattle.bound_certificate.specs.declared.limits.TheConstants.{MOST_DATES}
use Rattle.bound_certificate.specs.declared.row.Row.TheVariants as row
use Rattle.bound_certificate.specs.Grammar.{are_rising, sums_of, weights_of}
use Rattle.bound_certificate.specs.Row.{AreRowNumbers, InRanges, row_fits, tail_range}
use Rattle.bound_certificate.specs.Text.{weight_numbers}
use Rattle.bound_certificate.specs.Weights.{side_number, side_said}
use Rattle.line_words.specs.Words.{from_to, is_in}
use Rattle.bound_certificate.proofs.PriceFacts.{in_range, within}
use Rattle.bound_certificate.proofs.RowFacts.{AreWritten}

-- ---- the ranges of a tail
date_range : (dates place : ℕ) → place % 3 ≡ 1 → tail_range dates place ≡ from_to 1 dates
date_range dates place h =
    let one : (place % 3 == 1) ≡ true = grind (arith, h) in
    ap (λ (b : Bool). if b then from_to 1 dates else if place % 3 == 2 then from_to 0 1 else from_to 1 PRICE_SCALE) one

side_range : (dates place : ℕ) → place % 3 ≡ 2 → tail_range dates place ≡ from_to 0 1
side_range dates place h =
    let one : (place % 3 == 1) ≡ false = grind (arith, h) in
    let two : (place % 3 == 2) ≡ true = grind (arith, h) in
    ap (λ (b : Bool). if b then from_to 1 dates else if place % 3 == 2 then from_to 0 1 else from_to 1 PRICE_SCALE) one
    ∙ ap (λ (b : Bool). if b then from_to 0 1 else from_to 1 PRICE_SCALE) two

own_range : (dates place : ℕ) → place % 3 ≡ 0 → tail_range dates place ≡ from_to 1 PRICE_SCALE
own_range dates place h =
    let one : (place % 3 == 1) ≡ false = grind (arith, h) in
    let two : (place % 3 == 2) ≡ false = grind (arith, h) in
    ap (λ (b : Bool). if b then from_to 1 dates else if place % 3 == 2 then from_to 0 1 else from_to 1 PRICE_SCALE) one
    ∙ ap (λ (b : Bool). if b then from_to 0 1 else from_to 1 PRICE_SCALE) two

-- the three numbers of a weight, within their ranges
record AreThree (dates date side weight : ℕ) : Type 0 where
  least : 1 ≤ date
  most : date ≤ dates
  side_is : side ≤ 1
  some : 1 ≤ weight
  few : weight ≤ PRICE_SCALE

three_in : (dates place date side weight : ℕ) → place % 3 ≡ 1 → is_in (tail_range dates place) date ≡ true → is_in (tail_range dates (place + 1)) side ≡ true →
    is_in (tail_range dates (place + 1 + 1)) weight ≡ true → AreThree dates date side weight
three_in dates place date side weight h first second third =
    let one : (1 ≤ date) × (date ≤ dates) = in_range 1 dates date (ap (λ (r : Range). is_in r date) (sym (date_range dates place h)) ∙ first) in
    let two : (0 ≤ side) × (side ≤ 1) = in_range 0 1 side (ap (λ (r : Range). is_in r side) (sym (side_range dates (place + 1) (omega (arith, h)))) ∙ second) in
    let three : (1 ≤ weight) × (weight ≤ PRICE_SCALE) =
    in_range 1 PRICE_SCALE weight (ap (λ (r : Range). is_in r weight) (sym (own_range dates (place + 1 + 1) (omega (arith, h)))) ∙ third) in
    record { least = one.0; most = one.1; side_is = two.1; some = three.0; few = three.1 }

weights_in : (dates : ℕ) (numbers : List ℕ) (place : ℕ) → place % 3 ≡ 1 → InRanges (tail_range dates) place numbers → All (IsSumWeight dates) (weights_of numbers)
weights_in dates [] place h inside = All-nil (IsSumWeight dates)
weights_in dates (date ∷ []) place h inside = All-nil (IsSumWeight dates)
weights_in dates (date ∷ side ∷ []) place h inside = All-nil (IsSumWeight dates)
weights_in dates (date ∷ side ∷ weight ∷ numbers) place h inside =
    let next : place + 1 + 1 + 1 ≡ place + 3 = omega arith in
    let P : ℕ → Type 0 = λ k. InRanges (tail_range dates) k numbers in
    let are : AreThree dates date side weight = three_in dates place date side weight h inside.0 inside.1.0 inside.1.1.0 in
    All-cons (IsSumWeight dates) (record { sum = date - 1; side = side_said side; weight = weight }) (weights_of numbers)
    (record { sum = omega (arith, are.least, are.most); some = are.some; most = are.few })
    (weights_in dates numbers (place + 3) (omega (arith, h)) (subst P next inside.1.1.1))

pub side-ends : (s : Side) → side_number s ≤ 1
side-ends AtMost = omega arith
side-ends AtLeast = omega arith

pub weights-ranges : (dates : ℕ) (weights : List SumWeight) (place : ℕ) → place % 3 ≡ 1 → All (IsSumWeight dates) weights → InRanges (tail_range dates) place (weight_numbers weights)
weights-ranges dates [] place h all = tt
weights-ranges dates (own ∷ weights) place h all =
    let next : place + 3 ≡ place + 1 + 1 + 1 = omega arith in
    let P : ℕ → Type 0 = λ k. InRanges (tail_range dates) k (weight_numbers weights) in
    let is : IsSumWeight dates own = All-head (IsSumWeight dates) own weights all in (
      ap (λ (r : Range). is_in r (own.sum + 1)) (date_range dates place h) ∙ within 1 dates (own.sum + 1) (omega arith) (omega (arith, is.sum)),
      (
        ap (λ (r : Range). is_in r (side_number own.side)) (side_range dates (place + 1) (omega (arith, h))) ∙ within 0 1 (side_number own.side) (omega arith) (side-ends own.side),
        (
          ap (λ (r : Range). is_in r own.weight) (own_range dates (place + 1 + 1) (omega (arith, h))) ∙ within 1 PRICE_SCALE own.weight is.some is.most,
          subst P next (weights-ranges dates weights (place + 3) (omega (arith, h)) (All-tail (IsSumWeight dates) own weights all)),
        ),
      ),
    )

pub weights-written : (dates : ℕ) (weights : List SumWeight) → dates ≤ MOST_DATES → All (IsSumWeight dates) weights → AreWritten (weight_numbers weights)
weights-written dates [] few all = tt
weights-written dates (own ∷ weights) few all =
    let is : IsSumWeight dates own = All-head (IsSumWeight dates) own weights all in (
      omega (arith, is.sum, few),
      (omega (arith, side-ends own.side), (omega (arith, is.most), weights-written dates weights few (All-tail (IsSumWeight dates) own weights all))),
    )

-- ---- there and back
side_back : (s : Side) → side_said (side_number s) ≡ s
side_back AtMost = refl
side_back AtLeast = refl

pub weights-back : (weights : List SumWeight) → weights_of (weight_numbers weights) ≡ weights
weights-back [] = refl
weights-back (own ∷ weights) =
    let back : own.sum + 1 - 1 ≡ own.sum = omega arith in
    let others : List SumWeight = weights_of (weight_numbers weights) in
    ap (λ (k : ℕ). record { sum = k; side = side_said (side_number own.side); weight = own.weight } ∷ others) back
    ∙ ap (λ (s : Side). record { sum = own.sum; side = s; weight = own.weight } ∷ others) (side_back own.side)
    ∙ ap (λ (ws : List SumWeight). own ∷ ws) (weights-back weights)

side_by : (side : ℕ) (b : Bool) → (side == 1) ≡ b → side ≤ 1 → side_number (if b then AtLeast else AtMost) ≡ side
side_by side true e h = sym (grind (arith, e))
side_by side false e h = let none : side ≡ 0 = grind (arith, e, h) in sym none

numbers_back : (dates : ℕ) (numbers : List ℕ) (place : ℕ) → place % 3 ≡ 1 → length numbers % 3 ≡ 0 → InRanges (tail_range dates) place numbers →
    weight_numbers (weights_of numbers) ≡ numbers
numbers_back dates [] place h whole inside = refl
numbers_back dates (date ∷ []) place h whole inside = absurd (omega (arith, whole))
numbers_back dates (date ∷ side ∷ []) place h whole inside = absurd (omega (arith, whole))
numbers_back dates (date ∷ side ∷ weight ∷ numbers) place h whole inside =
    let next : place + 1 + 1 + 1 ≡ place + 3 = omega arith in
    let P : ℕ → Type 0 = λ k. InRanges (tail_range dates) k numbers in
    let are : AreThree dates date side weight = three_in dates place date side weight h inside.0 inside.1.0 inside.1.1.0 in
    let first : date - 1 + 1 ≡ date = omega (arith, are.least) in
    let behind : List ℕ = weight_numbers (weights_of numbers) in
    ap (λ (k : ℕ). k ∷ side_number (side_said side) ∷ weight ∷ behind) first
    ∙ ap (λ (k : ℕ). date ∷ k ∷ weight ∷ behind) (side_by side (side == 1) refl are.side_is)
    ∙ ap (λ (ns : List ℕ). date ∷ side ∷ weight ∷ ns) (numbers_back dates numbers (place + 3) (omega (arith, h)) (omega (arith, whole)) (subst P next inside.1.1.1))

pub weight-count : (weights : List SumWeight) → length (weight_numbers weights) ≡ 3 * length weights
weight-count [] = refl
weight-count (own ∷ weights) = let rest = weight-count weights in omega (arith, rest)

-- ---- the order of sums
abbrev Lower : SumWeight → SumWeight → Type 0
Lower earlier later = earlier.sum < later.sum

abbrev Above : ℕ → SumWeight → Type 0
Above sum own = sum < own.sum

pairs_tail : (own : SumWeight) (weights : List SumWeight) → AllPairs Lower (own ∷ weights) → AllPairs Lower weights
pairs_tail own weights h i j d before inside = h (suc i) (suc j) d (omega arith) (omega arith)

pairs_head : (own : SumWeight) (weights : List SumWeight) → AllPairs Lower (own ∷ weights) → All (Above own.sum) weights
pairs_head own weights h i d inside = h 0 (suc i) d (omega arith) (omega arith)

higher : (low high : ℕ) (weights : List SumWeight) → low ≤ high → All (Above high) weights → All (Above low) weights
higher low high weights h all i d inside = let here = all i d inside in omega (arith, here, h)

pub sums-rising : (weights : List SumWeight) → AllPairs Lower weights → are_rising (sums_of weights) ≡ true
sums-rising [] h = refl
sums-rising (x ∷ []) h = refl
sums-rising (x ∷ y ∷ weights) h =
    let first : x.sum < y.sum = All-head (Above x.sum) y weights (pairs_head x (y ∷ weights) h) in
    let here : nat_lt x.sum y.sum ≡ true = grind (arith, first) in
    ap (λ (b : Bool). b && are_rising (sums_of (y ∷ weights))) here ∙ sums-rising (y ∷ weights) (pairs_tail x (y ∷ weights) h)

rising_sums : (weights : List SumWeight) → are_rising (sums_of weights) ≡ true → AllPairs Lower weights
rising_sums [] h = λ i j d before inside. absurd (omega (arith, before, inside))
rising_sums (x ∷ []) h = λ i j d before inside. absurd (omega (arith, before, inside))
rising_sums (x ∷ y ∷ weights) h =
    let both : (nat_lt x.sum y.sum ≡ true) × (are_rising (sums_of (y ∷ weights)) ≡ true) = and_parts _ _ h in
    let rest : AllPairs Lower (y ∷ weights) = rising_sums (y ∷ weights) both.1 in
    let first : x.sum < y.sum = grind (arith, both.0) in
    AllPairs-cons Lower x (y ∷ weights) (All-cons (Above x.sum) y weights first (higher x.sum y.sum weights (omega arith) (pairs_head y weights rest))) rest

-- ---- the numbers of a tail
pub tail_three : (dates count : ℕ) → row_fits dates row.Tail count ≡ true → (3 ≤ count) × (count ≤ 192) × (count % 3 ≡ 0)
tail_three dates count h = (grind (arith, h), grind (arith, h), grind (arith, h))

pub threes-back : (dates vectors : ℕ) (numbers : List ℕ) → AreRowNumbers dates vectors row.Tail numbers → weight_numbers (weights_of numbers) ≡ numbers
threes-back dates vectors numbers are = numbers_back dates numbers 1 refl (tail_three dates (length numbers) are.fits).2 are.ranges

pub three-weights : (dates vectors : ℕ) (numbers : List ℕ) → AreRowNumbers dates vectors row.Tail numbers → 3 * length (weights_of numbers) ≡ length numbers
three-weights dates vectors numbers are = sym (weight-count (weights_of numbers)) ∙ ap length (threes-back dates vectors numbers are)

pub tail-weights : (dates vectors : ℕ) (numbers : List ℕ) → AreRowNumbers dates vectors row.Tail numbers → are_rising (sums_of (weights_of numbers)) ≡ true →
    AreSumWeights dates (weights_of numbers)
tail-weights dates vectors numbers are rising = record {
  few = omega (arith, three-weights dates vectors numbers are, (tail_three dates (length numbers) are.fits).1);
  each = weights_in dates numbers 1 refl are.ranges;
  rising = rising_sums (weights_of numbers) rising;
}

abbrev pub IsSum : SumWeight → Type 0
IsSum own = own.sum < 65_535

pub sums-small : (dates vectors : ℕ) (numbers : List ℕ) → dates ≤ MOST_DATES → AreRowNumbers dates vectors row.Tail numbers → All IsSum (weights_of numbers)
sums-small dates vectors numbers few are i d inside =
    let here : IsSumWeight dates _ = weights_in dates numbers 1 refl are.ranges i d inside in omega (arith, here.sum, few)

pub tail-fits : (dates count : ℕ) → 1 ≤ count → count ≤ 64 → row_fits dates row.Tail (3 * count) ≡ true
tail-fits dates count some few =
    let low : 3 ≤ 3 * count = omega (arith, some) in
    let high : 3 * count ≤ 192 = omega (arith, few) in
    let whole : (3 * count) % 3 ≡ 0 = omega arith in grind (arith, low, high, whole)
