-- Tables of the cents of days: what they sum to.
use Rattle.std.proofs.Common.{◌≡◌, ◌∙◌, refl, sym, ap, subst, arith, ℕ, zero, suc, ◌+◌, ◌-◌, ◌<◌, ◌≤◌, List, [], ◌∷◌, ◌++◌, length, get_or, set, take, drop, Bool, true, false, ℤ, pos, ◌+ℤ◌, ◌≤ℤ◌, append_assoc}
use Rattle.std.specs.Prelude.{All, ◌<ℤ◌}
use Rattle.std.specs.List.{AllWithin}
use Rattle.std.specs.Ordering.{int_cmp, int_eq}
use Rattle.std.specs.declared.cmp.Ordering.{Ordering}
use Rattle.std.specs.declared.cmp.Ordering.TheVariants.{Less, Equal, Greater}
use Rattle.std.proofs.lemmas.Int.{ints}
use Rattle.std.proofs.lemmas.List.{append-nil, length-set, take_more, take_all, take-append-le}
use Rattle.std.proofs.lemmas.List.Elements.{All-nil, All-cons, All-head, All-tail, All-weaker}
use Rattle.std.proofs.lemmas.List.Sums.{sum_by-cons, sum_by-drop_more, sum_by_push}
use Rattle.escrow_units.specs.Flows.{FallWithin, total}
use Rattle.escrow_units.specs.declared.security.Flow.{Flow}
use Rattle.day_sums.specs.Summed.{cents_on, on, summed, with_amount}
use Rattle.day_sums.specs.Table.{HasPlace, SpanSums, day_amounts}
use Rattle.day_sums.proofs.SumFacts.{DaysAre, IsAbove, count, counted, count-append, days-summed, above-summed, rising-summed, less-from_cmp, same-from_cmp, count-summed}
use Rattle.day_sums.proofs.Uniqueness.{here, in-steps, keep-total, on-cons, on-earlier, same-day, nothing-more, one-more, same-sums, sums-again}

first-place : (first : ℤ) → first +ℤ pos 0 ≡ first
first-place first = omega (arith, ints)

next-place : (first : ℤ) (i : ℕ) → first +ℤ pos (suc i) ≡ (first +ℤ pos 1) +ℤ pos i
next-place first i = omega (arith, ints)

pub length-day_amounts : (first : ℤ) (cents : List ℕ) → length (day_amounts first cents) ≡ length cents
unfolding day_amounts
length-day_amounts first [] = refl
length-day_amounts first (c ∷ cs) = ap suc (length-day_amounts (first +ℤ pos 1) cs)

-- the amount at a place
pub get_or-day_amounts : (first : ℤ) (cents : List ℕ) (i : ℕ) (d : Flow) (e : ℕ) → i < length cents → get_or (day_amounts first cents) i d ≡ on (first +ℤ pos i) (get_or cents i e)
unfolding day_amounts
get_or-day_amounts first [] i d e short = absurd (omega (arith, short))
get_or-day_amounts first (c ∷ cs) zero d e short = ap (λ (day : ℤ). on day c) (sym (first-place first))
get_or-day_amounts first (c ∷ cs) (suc i) d e short =
    get_or-day_amounts (first +ℤ pos 1) cs i d e (omega (arith, short)) ∙ ap (λ (day : ℤ). on day (get_or cs i e)) (sym (next-place first i))

-- the amounts before a place fall on earlier days
pub days-before : (first : ℤ) (cents : List ℕ) (i : ℕ) → DaysAre (λ day. day <ℤ (first +ℤ pos i)) (take i (day_amounts first cents))
unfolding day_amounts
days-before first cents zero = All-nil (λ (f : Flow). f.day <ℤ (first +ℤ pos 0))
days-before first [] (suc i) = All-nil (λ (f : Flow). f.day <ℤ (first +ℤ pos (suc i)))
days-before first (c ∷ cs) (suc i) =
    All-cons (λ (f : Flow). f.day <ℤ (first +ℤ pos (suc i))) (on first c) (take i (day_amounts (first +ℤ pos 1) cs)) (omega (arith, ints))
    (All-weaker (λ (f : Flow). f.day <ℤ ((first +ℤ pos 1) +ℤ pos i)) (λ (f : Flow). f.day <ℤ (first +ℤ pos (suc i))) (λ f before. omega (arith, ints, before)) (take i (day_amounts (first +ℤ pos 1) cs)) (days-before (first +ℤ pos 1) cs i))

both : (passes : Bool) (a b : ℕ) → (counted (λ _. passes) (on (pos 0) (a + b))) ≡ counted (λ _. passes) (on (pos 0) a) + counted (λ _. passes) (on (pos 0) b)
both true a b = refl
both false a b = refl

count-cons : (test : ℤ → Bool) (flow : Flow) (flows : List Flow) → count test (flow ∷ flows) ≡ counted test flow + count test flows
count-cons test flow flows = sum_by-cons (counted test) flow flows

-- an amount that is added at its place counts as it does alone
count-set : (test : ℤ → Bool) (first : ℤ) (cents : List ℕ) (i n e : ℕ) → i < length cents
    → count test (day_amounts first (set cents i (get_or cents i e + n))) ≡ count test (day_amounts first cents) + counted test (on (first +ℤ pos i) n)
unfolding day_amounts
count-set test first [] i n e short = absurd (omega (arith, short))
count-set test first (c ∷ cs) zero n e short =
    let others = day_amounts (first +ℤ pos 1) cs in
    let here : counted test (on (first +ℤ pos 0) n) ≡ counted test (on first n) = ap (λ (day : ℤ). counted test (on day n)) (first-place first) in
    omega (arith, count-cons test (on first (c + n)) others, count-cons test (on first c) others, both (test first) c n, here)
count-set test first (c ∷ cs) (suc i) n e short =
    let there : counted test (on (first +ℤ pos (suc i)) n) ≡ counted test (on ((first +ℤ pos 1) +ℤ pos i) n) = ap (λ (day : ℤ). counted test (on day n)) (next-place first i) in
    omega (
      arith,
      count-cons test (on first c) (day_amounts (first +ℤ pos 1) (set cs i (get_or cs i e + n))),
      count-cons test (on first c) (day_amounts (first +ℤ pos 1) cs),
      count-set test (first +ℤ pos 1) cs i n e (omega (arith, short)),
      there,
    )

-- so it joins the sums
pub summed-set : (first : ℤ) (cents : List ℕ) (i e : ℕ) (flow : Flow) → i < length cents → flow.day ≡ first +ℤ pos i
    → summed (day_amounts first (set cents i (get_or cents i e + flow.cents.0))) ≡ summed (summed (day_amounts first cents) ++ flow ∷ [])
summed-set first cents i e flow short day =
    let new = day_amounts first (set cents i (get_or cents i e + flow.cents.0)) in
    let old = day_amounts first cents in
    same-sums new (old ++ flow ∷ [])
    (λ d. let there = ap (λ (x : ℤ). counted (λ y. int_eq y d) (on x flow.cents.0)) day in
    omega (arith, count-set (λ y. int_eq y d) first cents i flow.cents.0 e short, count-append (λ y. int_eq y d) old (flow ∷ []), count-cons (λ y. int_eq y d) flow [], there))
    ∙ sym (in-steps old (flow ∷ []))

-- cents that are put at a place of a table's own list, which is longer by what stands behind it
pub put-sums : (first : ℤ) (own cents new behind : List ℕ) (len place : ℕ) (flow : Flow) (sums : List Flow)
    → cents ≡ own → new ≡ set cents place (get_or cents place 0 + flow.cents.0) → length cents ≡ len → place < len → flow.day ≡ first +ℤ pos place
    → summed (day_amounts first own) ≡ sums → summed (day_amounts first (take len (new ++ behind))) ≡ summed (sums ++ flow ∷ [])
put-sums first own cents new behind len place flow sums same is long short day before =
    let own_sums = ap (λ (cs : List ℕ). summed (day_amounts first cs)) same ∙ before in
    let kept : length new ≡ len = ap length is ∙ (length-set cents place (get_or cents place 0 + flow.cents.0) ∙ long) in
    let whole : take len (new ++ behind) ≡ new = take-append-le len new behind (omega (arith, kept)) ∙ take_all len new (omega (arith, kept)) in
    ap (λ (cs : List ℕ). summed (day_amounts first cs)) (whole ∙ is)
    ∙ (summed-set first cents place 0 flow (omega (arith, long, short)) day ∙ ap (λ (before : List Flow). summed (before ++ flow ∷ [])) own_sums)

-- the cents of a day are at most the total
amount-total : (first : ℤ) (cents : List ℕ) (i e : ℕ) → i < length cents → get_or cents i e ≤ total (day_amounts first cents)
unfolding day_amounts
amount-total first [] i e short = absurd (omega (arith, short))
amount-total first (c ∷ cs) zero e short = omega (arith, sum_by-cons (λ (f : Flow). f.cents.0) (on first c) (day_amounts (first +ℤ pos 1) cs))
amount-total first (c ∷ cs) (suc i) e short =
    omega (arith, sum_by-cons (λ (f : Flow). f.cents.0) (on first c) (day_amounts (first +ℤ pos 1) cs), amount-total (first +ℤ pos 1) cs i e (omega (arith, short)))

pub amount-sums : (first : ℤ) (cents : List ℕ) (i e : ℕ) → i < length cents → get_or cents i e ≤ total (summed (day_amounts first cents))
amount-sums first cents i e short = omega (arith, amount-total first cents i e short, keep-total (day_amounts first cents))

-- a table without places has no sums
pub summed-none : (first : ℤ) → summed (day_amounts first []) ≡ []
unfolding day_amounts summed
summed-none first = refl

last-at : (flow sum : Flow) (sums : List Flow) → sum.day <ℤ flow.day → with_amount flow sums ≡ sums ++ flow ∷ [] → (order : Ordering) → int_cmp flow.day sum.day ≡ order
    → with_amount flow (sum ∷ sums) ≡ (sum ∷ sums) ++ flow ∷ []
unfolding with_amount
last-at flow sum sums before rest Less is = absurd (omega (arith, ints, before, less-from_cmp flow.day sum.day is))
last-at flow sum sums before rest Equal is = absurd (omega (arith, ints, before, same-from_cmp flow.day sum.day is))
last-at flow sum sums before rest Greater is = rw is (ap (λ (fs : List Flow). sum ∷ fs) rest)

with-last : (flow : Flow) (sums : List Flow) → DaysAre (λ day. day <ℤ flow.day) sums → with_amount flow sums ≡ sums ++ flow ∷ []
unfolding with_amount
with-last flow [] all = refl
with-last flow (sum ∷ sums) all =
    last-at flow sum sums (All-head (λ f. f.day <ℤ flow.day) sum sums all) (with-last flow sums (All-tail (λ f. f.day <ℤ flow.day) sum sums all)) (int_cmp flow.day sum.day) refl

-- one more amount on a later day: none
pub summed_more-none : (first : ℤ) (cents : List ℕ) (i e : ℕ) → i < length cents → get_or cents i e ≡ 0
    → summed (take (i + 1) (day_amounts first cents)) ≡ summed (take i (day_amounts first cents))
summed_more-none first cents i e short none =
    let flow = on (first +ℤ pos i) (get_or cents i e) in
    let so_far = take i (day_amounts first cents) in
    ap (λ (fs : List Flow). summed fs) (take_more (day_amounts first cents) i flow (omega (arith, short, length-day_amounts first cents)) ∙ ap (λ (f : Flow). so_far ++ f ∷ []) (get_or-day_amounts first cents i flow e short))
    ∙ sym (in-steps so_far (flow ∷ [])) ∙ sym (nothing-more flow (summed so_far) (rising-summed so_far) (above-summed so_far) none)

-- more amounts on later days: none
pub summed_skip-none : (first : ℤ) (cents : List ℕ) (i n : ℕ) → i + n ≤ length cents → AllWithin (λ amount. amount ≡ 0) cents i (i + n)
    → summed (take (i + n) (day_amounts first cents)) ≡ summed (take i (day_amounts first cents))
summed_skip-none first cents i zero short none =
    let same : i + 0 ≡ i = omega arith in
    rw same refl
summed_skip-none first cents i (suc n) short none =
    let same : i + suc n ≡ (i + n) + 1 = omega arith in
    rw same (summed_more-none first cents (i + n) 0 (omega (arith, short)) (none (i + n) 0 (omega arith) (omega arith))
    ∙ summed_skip-none first cents i n (omega (arith, short)) (λ k d low high. none k d low (omega (arith, high))))

pub summed_skip-to : (first : ℤ) (cents : List ℕ) (i j : ℕ) → i < length cents → get_or cents i 0 ≡ 0 → i + 1 ≤ j → j ≤ length cents → AllWithin (λ amount. amount ≡ 0) cents (i + 1) j
    → summed (take j (day_amounts first cents)) ≡ summed (take i (day_amounts first cents))
summed_skip-to first cents i j short here order bound none =
    let same : (i + 1) + (j - (i + 1)) ≡ j = omega (arith, order) in
    let skipped : summed (take ((i + 1) + (j - (i + 1))) (day_amounts first cents)) ≡ summed (take (i + 1) (day_amounts first cents)) =
    summed_skip-none first cents (i + 1) (j - (i + 1)) (omega (arith, same, bound)) (λ k d low high. none k d low (omega (arith, same, high))) in
    subst (λ (n : ℕ). summed (take n (day_amounts first cents)) ≡ summed (take (i + 1) (day_amounts first cents))) same skipped
    ∙ summed_more-none first cents i 0 short here

-- or some
pub summed_more-some : (first : ℤ) (cents : List ℕ) (i e : ℕ) → i < length cents → 0 < get_or cents i e
    → summed (take (i + 1) (day_amounts first cents)) ≡ summed (take i (day_amounts first cents)) ++ on (first +ℤ pos i) (get_or cents i e) ∷ []
summed_more-some first cents i e short some =
    let flow = on (first +ℤ pos i) (get_or cents i e) in
    let so_far = take i (day_amounts first cents) in
    let above : IsAbove flow = omega (arith, some) in
    ap (λ (fs : List Flow). summed fs) (take_more (day_amounts first cents) i flow (omega (arith, short, length-day_amounts first cents)) ∙ ap (λ (f : Flow). so_far ++ f ∷ []) (get_or-day_amounts first cents i flow e short))
    ∙ sym (in-steps so_far (flow ∷ [])) ∙ sym (one-more flow (summed so_far) (rising-summed so_far) (above-summed so_far) above)
    ∙ with-last flow (summed so_far) (days-summed (λ day. day <ℤ flow.day) so_far (days-before first cents i))

-- sums of some amounts, and then one more
pub summed_more : (start flows : List Flow) (i : ℕ) (d : Flow) (sums more : List Flow) → i < length flows → sums ≡ summed (start ++ take i flows) → more ≡ summed (sums ++ get_or flows i d ∷ [])
    → more ≡ summed (start ++ take (i + 1) flows)
summed_more start flows i d sums more short before is =
    let next : start ++ take (i + 1) flows ≡ (start ++ take i flows) ++ get_or flows i d ∷ [] = ap (λ (fs : List Flow). start ++ fs) (take_more flows i d short) ∙ sym (append_assoc start (take i flows) (get_or flows i d ∷ [])) in
    is ∙ (ap (λ (fs : List Flow). summed (fs ++ get_or flows i d ∷ [])) before
    ∙ (in-steps (start ++ take i flows) (get_or flows i d ∷ []) ∙ ap (λ (fs : List Flow). summed fs) (sym next)))

-- what is left to add
pub total-left : (sums more flows : List Flow) (i : ℕ) (d : Flow) (all : ℕ) → i < length flows → all ≡ total sums + total (drop i flows) → more ≡ summed (sums ++ get_or flows i d ∷ []) → all ≡ total more + total (drop (i + 1) flows)
total-left sums more flows i d all short before is =
    let left = sum_by-drop_more (λ (f : Flow). f.cents.0) flows i d short in
    let kept = ap total is ∙ (keep-total (sums ++ get_or flows i d ∷ []) ∙ sum_by_push (λ (f : Flow). f.cents.0) sums (get_or flows i d)) in
    omega (arith, before, left, kept)

-- each amount between two days has its place
pub places-within : (from to : ℤ) (days : ℕ) (flows : List Flow) → (to +ℤ pos 1) ≡ (from +ℤ pos days) → FallWithin from to flows → All (HasPlace from days) flows
places-within from to days flows same within =
    All-weaker (λ (f : Flow). (from ≤ℤ f.day) × (f.day ≤ℤ to)) (HasPlace from days) (λ f falls. record { after = falls.0; before = omega (arith, ints, same, falls.1) }) flows within

abbrev pub span : ℤ → ℤ → List Flow → SpanSums
span from to sums = record { from = from; to = to; sums = sums }

-- the parts of sums over a span
pub span_sums : {from to first last : ℤ} {sums others : List Flow} → from ≡ first → to ≡ last → sums ≡ others → span from to sums ≡ span first last others
span_sums {from} {to} {first} {last} {sums} {others} a b c = ap (λ (d : ℤ). span d to sums) a ∙ ap (λ (d : ℤ). span first d sums) b ∙ ap (span first last) c

-- none of the amounts yet
pub sums-start : (first : ℤ) (cents : List ℕ) → summed (day_amounts first cents) ≡ summed (summed (day_amounts first cents) ++ [])
sums-start first cents =
    let sums = summed (day_amounts first cents) in
    sums-again sums (rising-summed (day_amounts first cents)) (above-summed (day_amounts first cents)) ∙ sym (ap (λ (fs : List Flow). summed fs) (append-nil sums))

pub nothing-yet : [] ≡ summed []
unfolding summed
nothing-yet = refl

-- the sums of all days
pub all-sums : (first : ℤ) (cents : List ℕ) (i : ℕ) → length cents ≤ i → summed (take i (day_amounts first cents)) ≡ summed (day_amounts first cents)
all-sums first cents i long = ap (λ (fs : List Flow). summed fs) (take_all i (day_amounts first cents) (omega (arith, long, length-day_amounts first cents)))

-- one more sum
pub push-sum : (sums more so_far next : List Flow) (day there : ℤ) (cents : ℕ) → more ≡ sums ++ on day cents ∷ [] → sums ≡ so_far → day ≡ there → next ≡ so_far ++ on there cents ∷ [] → more ≡ next
push-sum sums more so_far next day there cents is before same after =
    is ∙ ap (λ (fs : List Flow). fs ++ on day cents ∷ []) before ∙ ap (λ (d : ℤ). so_far ++ on d cents ∷ []) same ∙ sym after

-- days of a table that begins later are later
days-from : (day first : ℤ) (cents : List ℕ) → day <ℤ first → DaysAre (λ d. day <ℤ d) (day_amounts first cents)
unfolding day_amounts
days-from day first [] less = All-nil (λ (f : Flow). day <ℤ f.day)
days-from day first (c ∷ cs) less =
    All-cons (λ (f : Flow). day <ℤ f.day) (on first c) (day_amounts (first +ℤ pos 1) cs) less (days-from day (first +ℤ pos 1) cs (omega (arith, ints, less)))

earlier-day : (a b : ℤ) → a <ℤ b → int_eq a b ≡ false
earlier-day a b h = grind (arith, ints)

-- the cents of the day at a place
on-place : (first : ℤ) (cents : List ℕ) (i e : ℕ) → i < length cents → cents_on (first +ℤ pos i) (day_amounts first cents) ≡ get_or cents i e
unfolding day_amounts
on-place first [] i e short = absurd (omega (arith, short))
on-place first (c ∷ cs) zero e short =
    let others = day_amounts (first +ℤ pos 1) cs in
    let none = on-earlier first others (days-from first (first +ℤ pos 1) cs (omega (arith, ints))) in
    let one : here first (on first c) ≡ c = rw (same-day first) refl in
    rw (first-place first) (omega (arith, on-cons first (on first c) others, none, one))
on-place first (c ∷ cs) (suc i) e short =
    let others = day_amounts (first +ℤ pos 1) cs in
    let none : here (first +ℤ pos (suc i)) (on first c) ≡ 0 = rw (earlier-day first (first +ℤ pos (suc i)) (omega (arith, ints))) refl in
    let rest = ap (λ (day : ℤ). cents_on day others) (next-place first i) ∙ on-place (first +ℤ pos 1) cs i e (omega (arith, short)) in
    omega (arith, on-cons (first +ℤ pos (suc i)) (on first c) others, none, rest)

-- nothing falls on a day behind the last place
past-place : (first day : ℤ) (cents : List ℕ) → (first +ℤ pos (length cents)) ≤ℤ day → cents_on day (day_amounts first cents) ≡ 0
unfolding day_amounts
past-place first day [] past = refl
past-place first day (c ∷ cs) past =
    let others = day_amounts (first +ℤ pos 1) cs in
    let none : here day (on first c) ≡ 0 = rw (earlier-day first day (omega (arith, ints, past))) refl in
    omega (arith, on-cons day (on first c) others, none, past-place (first +ℤ pos 1) day cs (omega (arith, ints, past)))

pub sum-past : (first day : ℤ) (cents : List ℕ) (i : ℕ) → day ≡ first +ℤ pos i → length cents ≤ i → 0 ≡ cents_on day (summed (day_amounts first cents))
sum-past first day cents i there past =
    sym (past-place first day cents (omega (arith, ints, there, past))) ∙ sym (count-summed (λ d. int_eq d day) (day_amounts first cents))

-- one more place, with nothing on it
amounts-longer : (first : ℤ) (cents : List ℕ) (more : ℕ) → day_amounts first (cents ++ more ∷ []) ≡ day_amounts first cents ++ on (first +ℤ pos (length cents)) more ∷ []
unfolding day_amounts
amounts-longer first [] more = ap (λ (day : ℤ). on day more ∷ []) (sym (first-place first))
amounts-longer first (c ∷ cs) more =
    ap (λ (fs : List Flow). on first c ∷ fs)
    (amounts-longer (first +ℤ pos 1) cs more ∙ ap (λ (day : ℤ). day_amounts (first +ℤ pos 1) cs ++ on day more ∷ []) (sym (next-place first (length cs))))

pub summed-longer : (first : ℤ) (cents : List ℕ) → summed (day_amounts first (cents ++ 0 ∷ [])) ≡ summed (day_amounts first cents)
summed-longer first cents =
    let flow = on (first +ℤ pos (length cents)) 0 in
    let so_far = day_amounts first cents in
    ap (λ (fs : List Flow). summed fs) (amounts-longer first cents 0)
    ∙ sym (in-steps so_far (flow ∷ [])) ∙ sym (nothing-more flow (summed so_far) (rising-summed so_far) (above-summed so_far) refl)

-- the sum of the day at a place
pub sum-at : (first day : ℤ) (cents : List ℕ) (i e : ℕ) → day ≡ first +ℤ pos i → i < length cents → get_or cents i e ≡ cents_on day (summed (day_amounts first cents))
sum-at first day cents i e there within =
    sym (on-place first cents i e within) ∙ ap (λ (d : ℤ). cents_on d (day_amounts first cents)) (sym there) ∙ sym (count-summed (λ d. int_eq d day) (day_amounts first cents))
