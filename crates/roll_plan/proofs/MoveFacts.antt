-- Flows, less what is taken from their days.
use Rattle.std.proofs.Common.{◌≡◌, ◌∙◌, ℕ, zero, suc, ◌+◌, ◌-◌, ◌*◌, ◌<◌, ◌≤◌, refl, sym, ap, subst, arith, ℤ, ◌<ℤ◌, inl, inr, true, false, Bool, List, [], ◌∷◌, ◌++◌, length, get_or, take, Some, None}
use Rattle.std.specs.List.{All, filter_map}
use Rattle.std.proofs.lemmas.Bool.{cases_Bool, cases_lt, lt-ltb, le-ltb}
use Rattle.std.proofs.lemmas.Int.{ints}
use Rattle.std.proofs.lemmas.List.{append-nil, take_more}
use Rattle.std.proofs.lemmas.List.Elements.{All-cons, All-head, All-nil, All-tail, filter_map-append}
use Rattle.std.proofs.lemmas.List.Sums.{sum_by-append}
use Rattle.escrow_units.specs.Flows.{total}
use Rattle.escrow_units.specs.declared.security.Flow.{Flow}
use Rattle.day_sums.specs.Summed.{cents_on, on, summed}
use Rattle.day_sums.specs.SummedLaws.{AreAboveZero, weighted}
use Rattle.day_sums.proofs.SumFacts.{DaysAre, Rising, count-append, count-summed, pairs-from_rising, rising-summed}
use Rattle.day_sums.proofs.Uniqueness.{here, here-same, keep-total, keep-weighted, on-cons, on-earlier, same-sums}
use Rattle.std.specs.Ordering.{int_eq}
use Rattle.roll_plan.specs.RolledFlows.{AreRolledFlows}
use Rattle.roll_plan.specs.Rolls.{returned, taken}
use Rattle.roll_plan.specs.Steps.{left_of, lessened_by}
use Rattle.roll_plan.specs.declared.planning.Roll.{Roll}
use Rattle.roll_plan.proofs.SumFacts.{here-apart, same_total}

-- ---- one flow after another
left_some : (away : List Flow) (flow : Flow) → cents_on flow.day away < flow.cents.0 → left_of away flow ≡ Some (on flow.day (flow.cents.0 - cents_on flow.day away))
left_some away flow more = rw (lt-ltb (cents_on flow.day away) flow.cents.0 more) refl

left_none : (away : List Flow) (flow : Flow) → flow.cents.0 ≤ cents_on flow.day away → left_of away flow ≡ None
left_none away flow less = rw (le-ltb (cents_on flow.day away) flow.cents.0 less) refl

pub lessened-kept : (away flows : List Flow) (i : ℕ) (flow : Flow) (left more : List Flow) → i < length flows → flow ≡ get_or flows i flow → left ≡ lessened_by away (take i flows) → (taken : ℕ)
    → taken ≡ cents_on flow.day away → 0 < flow.cents.0 - taken → more ≡ left ++ on flow.day (flow.cents.0 - taken) ∷ [] → more ≡ lessened_by away (take (i + 1) flows)
lessened-kept away flows i flow left more within at had taken is some pushed =
    let enough : cents_on flow.day away < flow.cents.0 = omega (arith, is, some) in
    let next = filter_map-append (left_of away) (take i flows) (flow ∷ []) in
    let one : filter_map (left_of away) (flow ∷ []) ≡ on flow.day (flow.cents.0 - cents_on flow.day away) ∷ [] = rw (left_some away flow enough) refl in
    let front : take (i + 1) flows ≡ take i flows ++ flow ∷ [] = take_more flows i flow within ∙ ap (λ (f : Flow). take i flows ++ f ∷ []) (sym at) in
    pushed ∙ ap (λ (l : List Flow). l ++ on flow.day (flow.cents.0 - taken) ∷ []) had ∙ ap (λ n. lessened_by away (take i flows) ++ on flow.day (flow.cents.0 - n) ∷ []) is
    ∙ ap (λ (l : List Flow). lessened_by away (take i flows) ++ l) (sym one) ∙ sym next ∙ ap (lessened_by away) (sym front)

pub lessened-left_out : (away flows : List Flow) (i : ℕ) (flow : Flow) (left : List Flow) → i < length flows → flow ≡ get_or flows i flow → left ≡ lessened_by away (take i flows) → (taken : ℕ)
    → taken ≡ cents_on flow.day away → flow.cents.0 - taken ≤ 0 → left ≡ lessened_by away (take (i + 1) flows)
lessened-left_out away flows i flow left within at had taken is none =
    let little : flow.cents.0 ≤ cents_on flow.day away = omega (arith, is, none) in
    let next = filter_map-append (left_of away) (take i flows) (flow ∷ []) in
    let one : filter_map (left_of away) (flow ∷ []) ≡ [] = rw (left_none away flow little) refl in
    let front : take (i + 1) flows ≡ take i flows ++ flow ∷ [] = take_more flows i flow within ∙ ap (λ (f : Flow). take i flows ++ f ∷ []) (sym at) in
    had ∙ sym (append-nil (lessened_by away (take i flows))) ∙ ap (λ (l : List Flow). lessened_by away (take i flows) ++ l) (sym one) ∙ sym next ∙ ap (lessened_by away) (sym front)

-- ---- what the whole list is
lessened_days : (P : ℤ → Type 0) (away flows : List Flow) → DaysAre P flows → DaysAre P (lessened_by away flows)
lessened_days P away [] all = All-nil (λ (f : Flow). P f.day)
lessened_days P away (flow ∷ flows) all =
    let rest = lessened_days P away flows (All-tail (λ (f : Flow). P f.day) flow flows all) in
    elim (cases_lt (cents_on flow.day away) flow.cents.0) [
      | inl more ↦ rw (left_some away flow more)
          (All-cons (λ (f : Flow). P f.day) (on flow.day (flow.cents.0 - cents_on flow.day away)) (lessened_by away flows) (All-head (λ (f : Flow). P f.day) flow flows all) rest)
      | inr less ↦ rw (left_none away flow less) rest
    ]

lessened_rise : (away flows : List Flow) → Rising flows → Rising (lessened_by away flows)
lessened_rise away [] rise = rise
lessened_rise away (flow ∷ flows) rise = elim (cases_lt (cents_on flow.day away) flow.cents.0) [
  | inl more ↦ rw (left_some away flow more) (lessened_days (λ day. flow.day <ℤ day) away flows rise.0, lessened_rise away flows rise.1)
  | inr less ↦ rw (left_none away flow less) (lessened_rise away flows rise.1)
]

lessened_above : (away flows : List Flow) → AreAboveZero (lessened_by away flows)
lessened_above away [] = All-nil (λ (f : Flow). 1 ≤ f.cents.0)
lessened_above away (flow ∷ flows) = elim (cases_lt (cents_on flow.day away) flow.cents.0) [
  | inl more ↦ rw (left_some away flow more)
      (All-cons (λ (f : Flow). 1 ≤ f.cents.0) (on flow.day (flow.cents.0 - cents_on flow.day away)) (lessened_by away flows) (omega (arith, more)) (lessened_above away flows))
  | inr less ↦ rw (left_none away flow less) (lessened_above away flows)
]

-- the head of a list: what is left of it on a day
head_left : (away flows : List Flow) (flow : Flow) (day : ℤ) → cents_on day (lessened_by away (flow ∷ flows)) ≡ here day (on flow.day (flow.cents.0 - cents_on flow.day away)) + cents_on day (lessened_by away flows)
head_left away flows flow day = elim (cases_lt (cents_on flow.day away) flow.cents.0) [
  | inl more ↦ rw (left_some away flow more) (on-cons day (on flow.day (flow.cents.0 - cents_on flow.day away)) (lessened_by away flows))
  | inr less ↦
      let nothing : flow.cents.0 - cents_on flow.day away ≡ 0 = omega (arith, less) in
      rw (left_none away flow less) (omega (arith, zero_here day flow.day (flow.cents.0 - cents_on flow.day away) nothing))
]
  where
    zero_here : (day there : ℤ) (n : ℕ) → n ≡ 0 → here day (on there n) ≡ 0
    zero_here day there n none = elim (cases_Bool (int_eq there day)) [
      | inl same ↦ rw same none
      | inr other ↦ rw other refl
    ]

lessened_on : (away flows : List Flow) (day : ℤ) → Rising flows → cents_on day (lessened_by away flows) ≡ cents_on day flows - cents_on day away
lessened_on away [] day rise = omega arith
lessened_on away (flow ∷ flows) day rise = elim (cases_Bool (int_eq flow.day day)) [
  | inl matches ↦
      let same : flow.day ≡ day = equal flow.day day matches in
      let none : cents_on day flows ≡ 0 = on-earlier day flows (subst (λ (z : ℤ). DaysAre (λ d. z <ℤ d) flows) same rise.0) in
      let left : cents_on day (lessened_by away flows) ≡ 0 = lessened_on away flows day rise.1 ∙ omega (arith, none) in
      let taken : cents_on flow.day away ≡ cents_on day away = ap (λ (z : ℤ). cents_on z away) same in
      omega (
        arith,
        head_left away flows flow day,
        here-same day (on flow.day (flow.cents.0 - cents_on flow.day away)) same,
        left,
        on-cons day flow flows,
        here-same day flow same,
        none,
        taken,
      )
  | inr differs ↦
      let apart : flow.day ≡ day → ⊥ = λ same. clash differs (test flow.day day same) in
      omega (
        arith,
        head_left away flows flow day,
        here-apart day (on flow.day (flow.cents.0 - cents_on flow.day away)) apart,
        on-cons day flow flows,
        here-apart day flow apart,
        lessened_on away flows day rise.1,
      )
]
  where
    equal : (a b : ℤ) → int_eq a b ≡ true → a ≡ b
    equal a b h = grind (arith, ints)

    test : (a b : ℤ) → a ≡ b → int_eq a b ≡ true
    test a b h = grind (arith, ints)

    clash : {t : Bool} → t ≡ false → t ≡ true → ⊥
    clash f t = absurd (cc)

-- ---- rolled flows
pub rolled_flows : (flows : List Flow) (rolls : List Roll) (moved : List Flow) → ((day : ℤ) → cents_on day (taken rolls) ≤ cents_on day flows + cents_on day (returned rolls))
    → moved ≡ lessened_by (summed (taken rolls ++ [])) (summed (flows ++ returned rolls)) → AreRolledFlows flows rolls moved
rolled_flows flows rolls moved within is =
    let all = summed (flows ++ returned rolls) in
    let away = summed (taken rolls ++ []) in
    subst (AreRolledFlows flows rolls) (sym is) (record {
      rise = pairs-from_rising (lessened_by away all) (lessened_rise away all (rising-summed (flows ++ returned rolls)));
      above = lessened_above away all;
      days = λ day.
          omega (
            arith,
            lessened_on away all day (rising-summed (flows ++ returned rolls)),
            count-summed (λ d. int_eq d day) (flows ++ returned rolls),
            count-summed (λ d. int_eq d day) (taken rolls ++ []),
            count-append (λ d. int_eq d day) flows (returned rolls),
            count-append (λ d. int_eq d day) (taken rolls) [],
            within day,
          );
    })

-- they come to as much
pub together : (flows : List Flow) (rolls : List Roll) (moved : List Flow) → AreRolledFlows flows rolls moved → summed (moved ++ taken rolls) ≡ summed (flows ++ returned rolls)
together flows rolls moved are =
    same-sums (moved ++ taken rolls) (flows ++ returned rolls)
    (λ day. omega (arith, count-append (λ d. int_eq d day) moved (taken rolls), count-append (λ d. int_eq d day) flows (returned rolls), are.days day))

pub same_sum : (flows : List Flow) (rolls : List Roll) (moved : List Flow) → AreRolledFlows flows rolls moved → total moved ≡ total flows
same_sum flows rolls moved are =
    omega (
      arith,
      ap total (together flows rolls moved are),
      keep-total (moved ++ taken rolls),
      keep-total (flows ++ returned rolls),
      same_total rolls,
      sum_by-append (λ (f : Flow). f.cents.0) moved (taken rolls),
      sum_by-append (λ (f : Flow). f.cents.0) flows (returned rolls),
    )

-- and where a later day weighs no more, they weigh no more
pub weigh_no_more : (weight : ℤ → ℕ) (flows : List Flow) (rolls : List Roll) (moved : List Flow) → AreRolledFlows flows rolls moved → weighted weight (returned rolls) ≤ weighted weight (taken rolls)
    → weighted weight moved ≤ weighted weight flows
weigh_no_more weight flows rolls moved are less =
    omega (
      arith,
      ap (weighted weight) (together flows rolls moved are),
      keep-weighted weight (moved ++ taken rolls),
      keep-weighted weight (flows ++ returned rolls),
      less,
      sum_by-append (λ (f : Flow). f.cents.0 * weight f.day) moved (taken rolls),
      sum_by-append (λ (f : Flow). f.cents.0 * weight f.day) flows (returned rolls),
    )

-- they fall where flows and returns do
pub moved_days : (P : ℤ → Type 0) (away all : List Flow) → DaysAre P all → DaysAre P (lessened_by away all)
moved_days P away all within = lessened_days P away all within

-- an amount of a rising list is all there is on its day
element_on : (flows : List Flow) (k : ℕ) (d : Flow) → Rising flows → k < length flows → cents_on (get_or flows k d).day flows ≡ (get_or flows k d).cents.0
element_on [] k d rise within = absurd (omega (arith, within))
element_on (flow ∷ flows) zero d rise within =
    omega (arith, on-cons flow.day flow flows, here-same flow.day flow refl, on-earlier flow.day flows rise.0)
element_on (flow ∷ flows) (suc k) d rise within =
    let later : flow.day <ℤ (get_or flows k d).day = rise.0 k d (omega (arith, within)) in
    omega (arith, on-cons (get_or flows k d).day flow flows, here-apart (get_or flows k d).day flow (before flow.day (get_or flows k d).day later), element_on flows k d rise.1 (omega (arith, within)))
  where
    before : (a b : ℤ) → a <ℤ b → a ≡ b → ⊥
    before a b less same = absurd (omega (arith, ints, less, same))

-- so what is taken from a day is there
pub taken_there : (flows : List Flow) (rolls : List Roll) → ((day : ℤ) → cents_on day (taken rolls) ≤ cents_on day flows + cents_on day (returned rolls))
    → All (λ (flow : Flow). cents_on flow.day (summed (taken rolls ++ [])) ≤ flow.cents.0) (summed (flows ++ returned rolls))
taken_there flows rolls within = λ k d here.
    let day = (get_or (summed (flows ++ returned rolls)) k d).day in
    omega (
      arith,
      element_on (summed (flows ++ returned rolls)) k d (rising-summed (flows ++ returned rolls)) here,
      count-summed (λ z. int_eq z day) (flows ++ returned rolls),
      count-summed (λ z. int_eq z day) (taken rolls ++ []),
      count-append (λ z. int_eq z day) flows (returned rolls),
      count-append (λ z. int_eq z day) (taken rolls) [],
      within day,
    )
