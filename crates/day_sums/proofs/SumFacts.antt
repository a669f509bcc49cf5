-- One more amount, and all of them: what the sums keep.
use Rattle.std.proofs.Common.{◌≡◌, refl, arith, ℕ, suc, ◌+◌, ◌*◌, ◌≤◌, List, [], ◌∷◌, ◌++◌, Bool, true, false, ℤ, inl, inr, if◌then◌else◌}
use Rattle.std.specs.Prelude.{All, AllPairs, sum_by, ◌==◌, ◌<ℤ◌, ⊤}
use Rattle.std.specs.Ordering.{int_cmp}
use Rattle.std.specs.declared.cmp.Ordering.{Ordering}
use Rattle.std.specs.declared.cmp.Ordering.TheVariants.{Less, Equal, Greater}
use Rattle.std.proofs.lemmas.Int.{ints}
use Rattle.std.proofs.lemmas.Cmp.{int_ranked}
use Rattle.std.proofs.lemmas.Bool.{cases_Bool}
use Rattle.std.proofs.lemmas.List.Kept.{AllPairs-cons}
use Rattle.std.proofs.lemmas.List.Elements.{All-nil, All-cons, All-head, All-tail, All-weaker}
use Rattle.std.proofs.lemmas.List.Sums.{sum_by-cons, sum_by-append}
use Rattle.escrow_units.specs.Flows.{Rise}
use Rattle.escrow_units.specs.declared.security.Flow.{Flow}
use Rattle.day_sums.specs.Summed.{on, with_amount, summed}
use Rattle.day_sums.specs.SummedLaws.{AreAboveZero, weighted}

-- which order two days have
pub less-from_cmp : (a b : ℤ) → int_cmp a b ≡ Less → a <ℤ b
less-from_cmp a b h = grind (arith, ints, int_ranked a b (int_cmp a b) refl)

pub same-from_cmp : (a b : ℤ) → int_cmp a b ≡ Equal → a ≡ b
same-from_cmp a b h = grind (arith, ints, int_ranked a b (int_cmp a b) refl)

pub greater-from_cmp : (a b : ℤ) → int_cmp a b ≡ Greater → b <ℤ a
greater-from_cmp a b h = grind (arith, ints, int_ranked a b (int_cmp a b) refl)

-- the cents of an amount, where its day passes a test
abbrev pub counted : (ℤ → Bool) → Flow → ℕ
counted test flow = if test flow.day then flow.cents.0 else 0

abbrev pub count : (ℤ → Bool) → List Flow → ℕ
count test flows = sum_by (counted test) flows

count-cons : (test : ℤ → Bool) (flow : Flow) (flows : List Flow) → count test (flow ∷ flows) ≡ counted test flow + count test flows
count-cons test flow flows = sum_by-cons (counted test) flow flows

pub count-append : (test : ℤ → Bool) (front back : List Flow) → count test (front ++ back) ≡ count test front + count test back
count-append test front back = sum_by-append (counted test) front back

joined-counts : (passes : Bool) (a b : ℕ) → (if passes then a + b else 0) ≡ (if passes then b else 0) + (if passes then a else 0)
joined-counts true a b = omega arith
joined-counts false a b = refl

count-at : (test : ℤ → Bool) (flow sum : Flow) (sums : List Flow) → count test (with_amount flow sums) ≡ counted test flow + count test sums
    → (order : Ordering) → int_cmp flow.day sum.day ≡ order
    → count test (with_amount flow (sum ∷ sums)) ≡ counted test flow + count test (sum ∷ sums)
unfolding with_amount
count-at test flow sum sums rest Less is = rw is (count-cons test flow (sum ∷ sums))
count-at test flow sum sums rest Equal is =
    let same = same-from_cmp flow.day sum.day is in
    let both = joined-counts (test sum.day) sum.cents.0 flow.cents.0 in
    rw (is, same) (omega (arith, count-cons test (on sum.day (sum.cents.0 + flow.cents.0)) sums, count-cons test sum sums, both))
count-at test flow sum sums rest Greater is =
    rw is (omega (arith, count-cons test sum (with_amount flow sums), count-cons test sum sums, rest))

-- an amount counts as it did
pub count-with_amount : (test : ℤ → Bool) (flow : Flow) (sums : List Flow) → count test (with_amount flow sums) ≡ counted test flow + count test sums
unfolding with_amount
count-with_amount test flow [] = count-cons test flow []
count-with_amount test flow (sum ∷ sums) = count-at test flow sum sums (count-with_amount test flow sums) (int_cmp flow.day sum.day) refl

zero-from_test : (n : ℕ) → (n == 0) ≡ true → n ≡ 0
zero-from_test n h = grind arith

some-from_test : (n : ℕ) → (n == 0) ≡ false → 1 ≤ n
some-from_test n h = grind arith

pub counted-zero : (passes : Bool) (n : ℕ) → n ≡ 0 → (if passes then n else 0) ≡ 0
counted-zero true n zero = zero
counted-zero false n zero = refl

-- and so do all
pub count-summed : (test : ℤ → Bool) (flows : List Flow) → count test (summed flows) ≡ count test flows
unfolding summed
count-summed test [] = refl
count-summed test (flow ∷ flows) =
    elim (cases_Bool (flow.cents.0 == 0)) [
      | inl none ↦
          let zero = counted-zero (test flow.day) flow.cents.0 (zero-from_test flow.cents.0 none) in
          rw none (omega (arith, count-cons test flow flows, count-summed test flows, zero))
      | inr some ↦
          rw some (omega (arith, count-cons test flow flows, count-with_amount test flow (summed flows), count-summed test flows))
    ]

-- and weighs as it did
at_weight : (ℤ → ℕ) → Flow → ℕ
at_weight weight flow = flow.cents.0 * weight flow.day

weighted-at : (weight : ℤ → ℕ) (flow sum : Flow) (sums : List Flow) → weighted weight (with_amount flow sums) ≡ flow.cents.0 * weight flow.day + weighted weight sums
    → (order : Ordering) → int_cmp flow.day sum.day ≡ order
    → weighted weight (with_amount flow (sum ∷ sums)) ≡ flow.cents.0 * weight flow.day + weighted weight (sum ∷ sums)
unfolding with_amount at_weight
weighted-at weight flow sum sums rest Less is = rw is (sum_by-cons (at_weight weight) flow (sum ∷ sums))
weighted-at weight flow sum sums rest Equal is =
    let same = same-from_cmp flow.day sum.day is in
    rw (is, same)
    (omega (arith, sum_by-cons (at_weight weight) (on sum.day (sum.cents.0 + flow.cents.0)) sums, sum_by-cons (at_weight weight) sum sums))
weighted-at weight flow sum sums rest Greater is =
    rw is (omega (arith, sum_by-cons (at_weight weight) sum (with_amount flow sums), sum_by-cons (at_weight weight) sum sums, rest))

weighted-with_amount : (weight : ℤ → ℕ) (flow : Flow) (sums : List Flow) → weighted weight (with_amount flow sums) ≡ flow.cents.0 * weight flow.day + weighted weight sums
unfolding with_amount at_weight
weighted-with_amount weight flow [] = sum_by-cons (at_weight weight) flow []
weighted-with_amount weight flow (sum ∷ sums) = weighted-at weight flow sum sums (weighted-with_amount weight flow sums) (int_cmp flow.day sum.day) refl

pub weighted-summed : (weight : ℤ → ℕ) (flows : List Flow) → weighted weight (summed flows) ≡ weighted weight flows
unfolding summed at_weight
weighted-summed weight [] = refl
weighted-summed weight (flow ∷ flows) =
    elim (cases_Bool (flow.cents.0 == 0)) [
      | inl none ↦
          let zero : flow.cents.0 * weight flow.day ≡ 0 = rw (zero-from_test flow.cents.0 none) (omega arith) in
          rw none (omega (arith, sum_by-cons (at_weight weight) flow flows, weighted-summed weight flows, zero))
      | inr some ↦
          rw some (omega (arith, sum_by-cons (at_weight weight) flow flows, weighted-with_amount weight flow (summed flows), weighted-summed weight flows))
    ]

-- what holds of the days of all amounts
abbrev pub DaysAre : (ℤ → Type 0) → List Flow → Type 0
DaysAre P flows = All (λ flow. P flow.day) flows

days-at : (P : ℤ → Type 0) (flow sum : Flow) (sums : List Flow) → P flow.day → P sum.day → DaysAre P sums → DaysAre P (with_amount flow sums)
    → (order : Ordering) → int_cmp flow.day sum.day ≡ order → DaysAre P (with_amount flow (sum ∷ sums))
unfolding with_amount
days-at P flow sum sums new first others rest Less is =
    rw is (All-cons (λ f. P f.day) flow (sum ∷ sums) new (All-cons (λ f. P f.day) sum sums first others))
days-at P flow sum sums new first others rest Equal is =
    rw is (All-cons (λ f. P f.day) (on sum.day (sum.cents.0 + flow.cents.0)) sums first others)
days-at P flow sum sums new first others rest Greater is = rw is (All-cons (λ f. P f.day) sum (with_amount flow sums) first rest)

-- holds of the days of the sums with one more
pub days-with_amount : (P : ℤ → Type 0) (flow : Flow) (sums : List Flow) → P flow.day → DaysAre P sums → DaysAre P (with_amount flow sums)
unfolding with_amount
days-with_amount P flow [] new all = All-cons (λ f. P f.day) flow [] new all
days-with_amount P flow (sum ∷ sums) new all =
    let others = All-tail (λ f. P f.day) sum sums all in
    days-at P flow sum sums new (All-head (λ f. P f.day) sum sums all) others (days-with_amount P flow sums new others) (int_cmp flow.day sum.day) refl

-- and of those of all
pub days-summed : (P : ℤ → Type 0) (flows : List Flow) → DaysAre P flows → DaysAre P (summed flows)
unfolding summed
days-summed P [] all = all
days-summed P (flow ∷ flows) all =
    let rest = days-summed P flows (All-tail (λ f. P f.day) flow flows all) in
    elim (cases_Bool (flow.cents.0 == 0)) [
      | inl none ↦ rw none rest
      | inr some ↦ rw some (days-with_amount P flow (summed flows) (All-head (λ f. P f.day) flow flows all) rest)
    ]

-- an amount of at least one cent
abbrev pub IsAbove : Flow → Type 0
IsAbove flow = 1 ≤ flow.cents.0

above-at : (flow sum : Flow) (sums : List Flow) → IsAbove flow → IsAbove sum → All IsAbove sums → All IsAbove (with_amount flow sums)
    → (order : Ordering) → int_cmp flow.day sum.day ≡ order → All IsAbove (with_amount flow (sum ∷ sums))
unfolding with_amount
above-at flow sum sums some first others rest Less is = rw is (All-cons IsAbove flow (sum ∷ sums) some (All-cons IsAbove sum sums first others))
above-at flow sum sums some first others rest Equal is =
    rw is (All-cons IsAbove (on sum.day (sum.cents.0 + flow.cents.0)) sums (omega (arith, first)) others)
above-at flow sum sums some first others rest Greater is = rw is (All-cons IsAbove sum (with_amount flow sums) first rest)

pub above-with_amount : (flow : Flow) (sums : List Flow) → IsAbove flow → All IsAbove sums → All IsAbove (with_amount flow sums)
unfolding with_amount
above-with_amount flow [] some all = All-cons IsAbove flow [] some all
above-with_amount flow (sum ∷ sums) some all =
    let others = All-tail IsAbove sum sums all in
    above-at flow sum sums some (All-head IsAbove sum sums all) others (above-with_amount flow sums some others) (int_cmp flow.day sum.day) refl

pub above-summed : (flows : List Flow) → AreAboveZero (summed flows)
unfolding summed
above-summed [] = All-nil IsAbove
above-summed (flow ∷ flows) =
    elim (cases_Bool (flow.cents.0 == 0)) [
      | inl none ↦ rw none (above-summed flows)
      | inr some ↦ rw some (above-with_amount flow (summed flows) (some-from_test flow.cents.0 some) (above-summed flows))
    ]

-- days that strictly rise, from each amount to the next
abbrev pub Rising : List Flow → Type 0
Rising [] = ⊤
Rising (sum ∷ sums) = DaysAre (λ day. sum.day <ℤ day) sums × Rising sums

later-still : (a b c : ℤ) → a <ℤ b → b <ℤ c → a <ℤ c
later-still a b c h k = omega (arith, ints)

-- days after a later one are after an earlier one
pub after-earlier : (a b : ℤ) (sums : List Flow) → a <ℤ b → DaysAre (λ day. b <ℤ day) sums → DaysAre (λ day. a <ℤ day) sums
after-earlier a b sums less all = All-weaker (λ (f : Flow). b <ℤ f.day) (λ (f : Flow). a <ℤ f.day) (λ f after. later-still a b f.day less after) sums all

rising-at : (flow sum : Flow) (sums : List Flow) → DaysAre (λ day. sum.day <ℤ day) sums → Rising sums → Rising (with_amount flow sums)
    → (order : Ordering) → int_cmp flow.day sum.day ≡ order → Rising (with_amount flow (sum ∷ sums))
unfolding with_amount
rising-at flow sum sums first others rest Less is =
    let less = less-from_cmp flow.day sum.day is in
    rw is (All-cons (λ (f : Flow). flow.day <ℤ f.day) sum sums less (after-earlier flow.day sum.day sums less first), (first, others))
rising-at flow sum sums first others rest Equal is = rw is (first, others)
rising-at flow sum sums first others rest Greater is =
    rw is (days-with_amount (λ day. sum.day <ℤ day) flow sums (greater-from_cmp flow.day sum.day is) first, rest)

pub rising-with_amount : (flow : Flow) (sums : List Flow) → Rising sums → Rising (with_amount flow sums)
unfolding with_amount
rising-with_amount flow [] rise = (All-nil (λ (f : Flow). flow.day <ℤ f.day), tt)
rising-with_amount flow (sum ∷ sums) rise = rising-at flow sum sums rise.0 rise.1 (rising-with_amount flow sums rise.1) (int_cmp flow.day sum.day) refl

pub rising-summed : (flows : List Flow) → Rising (summed flows)
unfolding summed
rising-summed [] = tt
rising-summed (flow ∷ flows) =
    elim (cases_Bool (flow.cents.0 == 0)) [
      | inl none ↦ rw none (rising-summed flows)
      | inr some ↦ rw some (rising-with_amount flow (summed flows) (rising-summed flows))
    ]

-- each before each later one, and the other way round
pairs-none : AllPairs (λ (a b : Flow). a.day <ℤ b.day) []
pairs-none i j d less short = absurd (omega arith)

pub pairs-from_rising : (sums : List Flow) → Rising sums → Rise sums
pairs-from_rising [] rise = pairs-none
pairs-from_rising (sum ∷ sums) rise = AllPairs-cons (λ (a b : Flow). a.day <ℤ b.day) sum sums rise.0 (pairs-from_rising sums rise.1)

pub rising-from_pairs : (sums : List Flow) → Rise sums → Rising sums
rising-from_pairs [] pairs = tt
rising-from_pairs (sum ∷ sums) pairs =
    ((λ j d short. pairs 0 (suc j) d (omega arith) (omega (arith, short))), rising-from_pairs sums (λ i j d less short. pairs (suc i) (suc j) d (omega (arith, less)) (omega (arith, short))))
