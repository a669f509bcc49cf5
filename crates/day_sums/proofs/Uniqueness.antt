-- Amounts have only one list of sums, and what follows.
use Rattle.std.proofs.Common.{◌≡◌, ◌∙◌, refl, sym, ap, arith, ℕ, ◌+◌, List, [], ◌∷◌, ◌++◌, true, false, ℤ, if◌then◌else◌}
use Rattle.std.specs.Prelude.{◌<ℤ◌, ◌≤ℤ◌, int_le}
use Rattle.std.specs.Ordering.{int_cmp, int_eq}
use Rattle.std.specs.declared.cmp.Ordering.{Ordering}
use Rattle.std.specs.declared.cmp.Ordering.TheVariants.{Less, Equal, Greater}
use Rattle.std.proofs.lemmas.Int.{ints}
use Rattle.std.proofs.lemmas.List.Elements.{All-cons, All-head, All-tail}
use Rattle.std.proofs.lemmas.List.Sums.{sum_by-cons}
use Rattle.escrow_units.specs.Flows.{total}
use Rattle.escrow_units.specs.declared.security.Flow.{Flow}
use Rattle.day_sums.specs.Summed.{cents_on, on, summed, with_amount}
use Rattle.day_sums.specs.SummedLaws.{AreAboveZero, SummedAreSums, SumsAreUnique, SummedKeepTotal, SummedKeepTotalBy, SummedKeepWeighted, SummedFallWithin, NothingSumsToNothing, SummedInSteps}
use Rattle.day_sums.proofs.SumFacts.{IsAbove, DaysAre, Rising, counted-zero, count-append, count-summed, count-with_amount, days-summed, weighted-summed, above-summed, above-with_amount, rising-summed, rising-with_amount, pairs-from_rising, rising-from_pairs, after-earlier, less-from_cmp, same-from_cmp, greater-from_cmp}

-- the cents of one amount on a day
abbrev pub here : ℤ → Flow → ℕ
here day flow = if int_eq flow.day day then flow.cents.0 else 0

pub on-cons : (day : ℤ) (flow : Flow) (flows : List Flow) → cents_on day (flow ∷ flows) ≡ here day flow + cents_on day flows
on-cons day flow flows = sum_by-cons (here day) flow flows

pub same-day : (a : ℤ) → int_eq a a ≡ true
same-day a = grind (arith, ints)

pub other-day : (a b : ℤ) → b <ℤ a → int_eq a b ≡ false
other-day a b h = grind (arith, ints)

pub here-same : (day : ℤ) (flow : Flow) → flow.day ≡ day → here day flow ≡ flow.cents.0
here-same day flow same = rw (same, same-day day) refl

pub here-later : (day : ℤ) (flow : Flow) → day <ℤ flow.day → here day flow ≡ 0
here-later day flow later = rw (other-day flow.day day later) refl

nothing-here : (day : ℤ) (flow : Flow) → flow.cents.0 ≡ 0 → here day flow ≡ 0
nothing-here day flow none = counted-zero (int_eq flow.day day) flow.cents.0 none

-- nothing falls on a day before all
pub on-earlier : (day : ℤ) (flows : List Flow) → DaysAre (λ d. day <ℤ d) flows → cents_on day flows ≡ 0
on-earlier day [] all = refl
on-earlier day (flow ∷ flows) all =
    let first = here-later day flow (All-head (λ f. day <ℤ f.day) flow flows all) in
    let rest = on-earlier day flows (All-tail (λ f. day <ℤ f.day) flow flows all) in
    omega (arith, on-cons day flow flows, first, rest)

-- on the first day of sums only the first falls
on-first : (sum : Flow) (sums : List Flow) → DaysAre (λ d. sum.day <ℤ d) sums → cents_on sum.day (sum ∷ sums) ≡ sum.cents.0
on-first sum sums after = omega (arith, on-cons sum.day sum sums, here-same sum.day sum refl, on-earlier sum.day sums after)

on-before : (day : ℤ) (sum : Flow) (sums : List Flow) → day <ℤ sum.day → DaysAre (λ d. sum.day <ℤ d) sums → cents_on day (sum ∷ sums) ≡ 0
on-before day sum sums less after =
    on-earlier day (sum ∷ sums) (All-cons (λ f. day <ℤ f.day) sum sums less (after-earlier day sum.day sums less after))

same-flow : (a b : Flow) → a.day ≡ b.day → a.cents.0 ≡ b.cents.0 → a ≡ b
same-flow a b day cents = ap (λ (d : ℤ). on d a.cents.0) day ∙ ap (λ (n : ℕ). on b.day n) cents

abbrev pub SameOnDays : List Flow → List Flow → Type 0
SameOnDays a b = (day : ℤ) → cents_on day a ≡ cents_on day b

rest-same : (a b : Flow) (others rest : List Flow) → a ≡ b → SameOnDays (a ∷ others) (b ∷ rest) → SameOnDays others rest
rest-same a b others rest first same day =
    let one : here day a ≡ here day b = ap (here day) first in
    omega (arith, on-cons day a others, on-cons day b rest, same day, one)

only-at : (a b : Flow) (others rest : List Flow) → DaysAre (λ d. a.day <ℤ d) others → DaysAre (λ d. b.day <ℤ d) rest → IsAbove a → IsAbove b
    → SameOnDays (a ∷ others) (b ∷ rest) → (order : Ordering) → int_cmp a.day b.day ≡ order → a ≡ b
only-at a b others rest after later some more same Less is =
    absurd (omega (arith, some, same a.day, on-first a others after, on-before a.day b rest (less-from_cmp a.day b.day is) later))
only-at a b others rest after later some more same Equal is =
    let day = same-from_cmp a.day b.day is in
    let on_b : cents_on a.day (b ∷ rest) ≡ b.cents.0 = ap (λ (d : ℤ). cents_on d (b ∷ rest)) day ∙ on-first b rest later in
    same-flow a b day (omega (arith, same a.day, on-first a others after, on_b))
only-at a b others rest after later some more same Greater is =
    absurd (omega (arith, more, same b.day, on-first b rest later, on-before b.day a others (greater-from_cmp a.day b.day is) after))

only-none : (sum : Flow) (sums : List Flow) → DaysAre (λ d. sum.day <ℤ d) sums → IsAbove sum → SameOnDays (sum ∷ sums) [] → ⊥
only-none sum sums after some same = omega (arith, some, same sum.day, on-first sum sums after)

pub only-sums : (a b : List Flow) → Rising a → Rising b → AreAboveZero a → AreAboveZero b → SameOnDays a b → a ≡ b
only-sums [] [] rise rises above tops same = refl
only-sums [] (y ∷ ys) rise rises above tops same = absurd (only-none y ys rises.0 (All-head IsAbove y ys tops) (λ day. sym (same day)))
only-sums (x ∷ xs) [] rise rises above tops same = absurd (only-none x xs rise.0 (All-head IsAbove x xs above) same)
only-sums (x ∷ xs) (y ∷ ys) rise rises above tops same =
    let first = only-at x y xs ys rise.0 rises.0 (All-head IsAbove x xs above) (All-head IsAbove y ys tops) same (int_cmp x.day y.day) refl in
    let after = only-sums xs ys rise.1 rises.1 (All-tail IsAbove x xs above) (All-tail IsAbove y ys tops) (rest-same x y xs ys first same) in
    ap (λ (f : Flow). f ∷ xs) first ∙ ap (λ (fs : List Flow). y ∷ fs) after

pub are-sums : SummedAreSums
are-sums flows = record {
  rise = pairs-from_rising (summed flows) (rising-summed flows);
  above = above-summed flows;
  days = λ day. count-summed (λ d. int_eq d day) flows;
}

pub unique : SumsAreUnique
unique flows sums is =
    only-sums sums (summed flows) (rising-from_pairs sums is.rise) (rising-summed flows) is.above (above-summed flows)
    (λ day. is.days day ∙ sym (count-summed (λ d. int_eq d day) flows))

pub keep-total : SummedKeepTotal
keep-total flows = count-summed (λ _. true) flows

pub keep-total_by : SummedKeepTotalBy
keep-total_by day flows = count-summed (λ d. int_le d day) flows

pub keep-weighted : SummedKeepWeighted
keep-weighted weight flows = weighted-summed weight flows

pub fall-within : SummedFallWithin
fall-within from to flows all = days-summed (λ day. (from ≤ℤ day) × (day ≤ℤ to)) flows all

pub nothing : NothingSumsToNothing
unfolding summed
nothing = refl

-- lists with the same amounts by day have the same sums
pub same-sums : (a b : List Flow) → SameOnDays a b → summed a ≡ summed b
same-sums a b same =
    only-sums (summed a) (summed b) (rising-summed a) (rising-summed b) (above-summed a) (above-summed b)
    (λ day. count-summed (λ d. int_eq d day) a ∙ (same day ∙ sym (count-summed (λ d. int_eq d day) b)))

pub in-steps : SummedInSteps
in-steps first others =
    same-sums (summed first ++ others) (first ++ others)
    (λ day. omega (arith, count-append (λ d. int_eq d day) (summed first) others, count-append (λ d. int_eq d day) first others, count-summed (λ d. int_eq d day) first))

-- sums are their own sums
pub sums-again : (sums : List Flow) → Rising sums → AreAboveZero sums → sums ≡ summed sums
sums-again sums rise above = only-sums sums (summed sums) rise (rising-summed sums) above (above-summed sums) (λ day. sym (count-summed (λ d. int_eq d day) sums))

-- one more amount at the end
pub one-more : (flow : Flow) (sums : List Flow) → Rising sums → AreAboveZero sums → IsAbove flow → with_amount flow sums ≡ summed (sums ++ flow ∷ [])
one-more flow sums rise above some =
    only-sums (with_amount flow sums) (summed (sums ++ flow ∷ [])) (rising-with_amount flow sums rise) (rising-summed (sums ++ flow ∷ []))
    (above-with_amount flow sums some above) (above-summed (sums ++ flow ∷ []))
    (λ day. omega (arith, count-with_amount (λ d. int_eq d day) flow sums, count-summed (λ d. int_eq d day) (sums ++ flow ∷ []), count-append (λ d. int_eq d day) sums (flow ∷ []), on-cons day flow []))

-- or nothing
pub nothing-more : (flow : Flow) (sums : List Flow) → Rising sums → AreAboveZero sums → flow.cents.0 ≡ 0 → sums ≡ summed (sums ++ flow ∷ [])
nothing-more flow sums rise above none =
    only-sums sums (summed (sums ++ flow ∷ [])) rise (rising-summed (sums ++ flow ∷ [])) above (above-summed (sums ++ flow ∷ []))
    (λ day. omega (arith, count-summed (λ d. int_eq d day) (sums ++ flow ∷ []), count-append (λ d. int_eq d day) sums (flow ∷ []), on-cons day flow [], nothing-here day flow none))

pub total-of : (start sums items flows : List Flow) → start ≡ [] → sums ≡ summed (start ++ flows) → items ≡ sums → total items ≡ total flows
total-of start sums items flows empty are is =
    ap total (is ∙ (are ∙ ap (λ (fs : List Flow). summed (fs ++ flows)) empty)) ∙ keep-total flows
