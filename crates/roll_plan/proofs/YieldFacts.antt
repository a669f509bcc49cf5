-- What rolled flows yield.
use Rattle.std.proofs.Common.{◌≡◌, ◌∙◌, ℕ, ◌*◌, ◌<◌, ◌≤◌, refl, sym, arith, ℤ, ◌≤ℤ◌, ◌<ℤ◌, true, false, Bool, nat_lt, nat_le, ◌==◌, ◌&&◌, if◌then◌else◌, List, [], ◌∷◌, length}
use Rattle.std.specs.List.{All}
use Rattle.std.proofs.lemmas.Bool.{ne_eqb}
use Rattle.std.proofs.lemmas.Bool.Decides.{nat_tests}
use Rattle.std.proofs.lemmas.Int.{ints}
use Rattle.std.proofs.lemmas.List.Elements.{All-cons, All-head, All-nil, All-tail}
use Rattle.std.proofs.lemmas.List.Sums.{sum_by-cons}
use Rattle.std.proofs.Math.Nat.{mul-le-mul_left}
use Rattle.escrow_units.specs.Calendar.{years_after_of}
use Rattle.escrow_units.specs.DayNumber.{IsDayNumber}
use Rattle.escrow_units.specs.SlgsTerms.{IsSettlement}
use Rattle.escrow_units.proofs.DayFacts.{thirty_day_place_of-mono}
use Rattle.escrow_units.proofs.YearFacts.{settlement-base}
use Rattle.cash_table.proofs.PointFacts.{indexes_near}
use Rattle.escrow_units.specs.Flows.{FallWithinFortyYears, index360_of, indexed, total}
use Rattle.escrow_units.specs.PresentValue.{IndexedFlow, last_index}
use Rattle.escrow_units.specs.declared.security.Flow.{Flow}
use Rattle.day_sums.specs.Summed.{on}
use Rattle.day_sums.specs.SummedLaws.{AreAboveZero, weighted}
use Rattle.fixed_powers.specs.DiscountPowers.{one, power_of}
use Rattle.fixed_powers.specs.PresentValues.{present_value, total_cents}
use Rattle.fixed_powers.specs.declared.side.Side.{Side}
use Rattle.fixed_powers.specs.declared.side.Side.TheVariants.{High, Low}
use Rattle.fixed_powers.proofs.PowerFacts.{falls_with_days}
use Rattle.yield_enclosure.specs.YieldAnswers.{lower_end, upper_end, yield_answer_of}
use Rattle.yield_enclosure.specs.declared.answer.YieldAnswer.{YieldAnswer}
use Rattle.yield_enclosure.specs.declared.answer.YieldAnswer.TheVariants.{Above, Between, Empty, Negative}
use Rattle.yield_enclosure.proofs.EndFacts.{last_index-le, lower_end-is, total-indexed, upper_end-is}
use Rattle.roll_plan.specs.RolledFlows.{AreRolledFlows, IsNoHigher, YieldsNoMore}
use Rattle.roll_plan.proofs.MoveFacts.{same_sum, weigh_no_more}
use Rattle.roll_plan.specs.Rolls.{returned, taken}
use Rattle.roll_plan.specs.declared.planning.Roll.{Roll}

-- ---- present values
abbrev weight_of : ℤ → Side → ℕ → ℤ → ℕ
weight_of settle side n day = power_of side n (index360_of settle day)

pub value_is : (settle : ℤ) (side : Side) (n : ℕ) (flows : List Flow) → present_value side n (indexed settle flows) ≡ weighted (weight_of settle side n) flows
value_is settle side n [] = refl
value_is settle side n (flow ∷ flows) =
    omega (
      arith,
      sum_by-cons (λ (f : IndexedFlow). f.cents * power_of side n f.index) (record { index = index360_of settle flow.day; cents = flow.cents.0 }) (indexed settle flows),
      sum_by-cons (λ (f : Flow). f.cents.0 * weight_of settle side n f.day) flow flows,
      value_is settle side n flows,
    )

-- a later day weighs no more
pub returns_weigh_less : (settle : ℤ) (side : Side) (n : ℕ) (rolls : List Roll) → All (λ (roll : Roll). index360_of settle roll.day ≤ index360_of settle roll.next) rolls
    → weighted (weight_of settle side n) (returned rolls) ≤ weighted (weight_of settle side n) (taken rolls)
returns_weigh_less settle side n [] later = omega arith
returns_weigh_less settle side n (roll ∷ rolls) later =
    let first = All-head (λ (r : Roll). index360_of settle r.day ≤ index360_of settle r.next) roll rolls later in
    let less : roll.cents.0 * weight_of settle side n roll.next ≤ roll.cents.0 * weight_of settle side n roll.day = mul-le-mul_left roll.cents.0 (falls_with_days side n (index360_of settle roll.day) (index360_of settle roll.next) first) in
    omega (
      arith,
      less,
      returns_weigh_less settle side n rolls (All-tail (λ (r : Roll). index360_of settle r.day ≤ index360_of settle r.next) roll rolls later),
      sum_by-cons (λ (f : Flow). f.cents.0 * weight_of settle side n f.day) (on roll.next roll.cents.0) (returned rolls),
      sum_by-cons (λ (f : Flow). f.cents.0 * weight_of settle side n f.day) (on roll.day roll.cents.0) (taken rolls),
    )

-- ---- answers
-- flows with the same sum, of which the moved ones are worth no more at any yield
pub record AreMoved (flows moved : List IndexedFlow) : Type 0 where
  pub total : total_cents moved ≡ total_cents flows
  pub worth : (side : Side) (n : ℕ) → present_value side n moved ≤ present_value side n flows
  pub empty : (length moved == 0) ≡ (length flows == 0)
  pub near : last_index flows ≤ 14_400
  pub near_moved : last_index moved ≤ 14_400

above_any : (answer : YieldAnswer) → IsNoHigher answer Above
above_any Empty = tt
above_any Negative = tt
above_any (Between lo hi) = tt
above_any Above = tt

-- the ends
ends : (flows moved : List IndexedFlow) (cost : ℕ) → AreMoved flows moved → cost ≤ total_cents flows → present_value Low 3_000_000_000 flows < one * cost
    → IsNoHigher (Between (record { 0 = lower_end moved cost }) (record { 0 = upper_end moved cost })) (Between (record { 0 = lower_end flows cost }) (record { 0 = upper_end flows cost }))
ends flows moved cost are covered small =
    let small_moved : present_value Low 3_000_000_000 moved < one * cost = omega (arith, small, are.worth Low 3_000_000_000) in
    let covered_moved : cost ≤ total_cents moved = omega (arith, covered, are.total) in
    let lower = lower_end-is flows cost covered small in
    let lower_moved = lower_end-is moved cost covered_moved small_moved in
    let upper = upper_end-is flows cost (lower_end flows cost) are.near small lower in
    let upper_moved = upper_end-is moved cost (lower_end moved cost) are.near_moved small_moved lower_moved in (
      lower.greatest (lower_end moved cost) (omega (arith, lower_moved.worth, are.worth Low (lower_end moved cost))),
      upper_moved.least (upper_end flows cost) (omega (arith, upper.no_dearer, are.worth High (upper_end flows cost))),
    )

le_of : (a b : ℕ) → nat_le a b ≡ true → a ≤ b
le_of a b h = grind (arith, nat_tests)

lt_of : (a b : ℕ) → nat_le a b ≡ false → b < a
lt_of a b h = grind (arith, nat_tests)

not_le : (a b : ℕ) → b < a → nat_le a b ≡ false
not_le a b h = grind (arith, nat_tests)

not_lt : (a b : ℕ) → nat_lt a b ≡ false → b ≤ a
not_lt a b h = grind (arith, nat_tests)

covered_answers : (flows moved : List IndexedFlow) (cost : ℕ) (worth : Bool) → AreMoved flows moved → cost ≤ total_cents flows → nat_le (one * cost) (present_value Low 3_000_000_000 flows) ≡ worth
    → IsNoHigher (if nat_le (one * cost) (present_value Low 3_000_000_000 moved) then Above else Between (record { 0 = lower_end moved cost }) (record { 0 = upper_end moved cost }))
    (if worth then Above else Between (record { 0 = lower_end flows cost }) (record { 0 = upper_end flows cost }))
covered_answers flows moved cost true are covered is = above_any _
covered_answers flows moved cost false are covered is =
    let small : present_value Low 3_000_000_000 flows < one * cost = lt_of (one * cost) (present_value Low 3_000_000_000 flows) is in
    let moved_small : nat_le (one * cost) (present_value Low 3_000_000_000 moved) ≡ false = not_le (one * cost) (present_value Low 3_000_000_000 moved) (omega (arith, small, are.worth Low 3_000_000_000)) in
    rw moved_small (ends flows moved cost are covered small)

pub no_higher : (flows moved : List IndexedFlow) (cost : ℕ) → AreMoved flows moved → IsNoHigher (yield_answer_of moved cost) (yield_answer_of flows cost)
no_higher flows moved cost are =
    rw (are.empty, are.total) (by_empty ((length flows == 0) && (cost == 0)) refl)
  where
    by_total : (less : Bool) → nat_lt (total_cents flows) cost ≡ less
        → IsNoHigher (if less then Negative else (if nat_le (one * cost) (present_value Low 3_000_000_000 moved) then Above else Between (record { 0 = lower_end moved cost }) (record { 0 = upper_end moved cost })))
        (if less then Negative else (if nat_le (one * cost) (present_value Low 3_000_000_000 flows) then Above else Between (record { 0 = lower_end flows cost }) (record { 0 = upper_end flows cost })))
    by_total true is = tt
    by_total false is = covered_answers flows moved cost (nat_le (one * cost) (present_value Low 3_000_000_000 flows)) are (not_lt (total_cents flows) cost is) refl

    by_empty : (empty : Bool) → ((length flows == 0) && (cost == 0)) ≡ empty
        → IsNoHigher (if empty then Empty else (if nat_lt (total_cents flows) cost then Negative else (if nat_le (one * cost) (present_value Low 3_000_000_000 moved) then Above else Between (record { 0 = lower_end moved cost }) (record { 0 = upper_end moved cost }))))
        (if empty then Empty else (if nat_lt (total_cents flows) cost then Negative else (if nat_le (one * cost) (present_value Low 3_000_000_000 flows) then Above else Between (record { 0 = lower_end flows cost }) (record { 0 = upper_end flows cost }))))
    by_empty true is = tt
    by_empty false is = by_total (nat_lt (total_cents flows) cost) refl

-- ---- empty lists
some_cents : (flow : Flow) (flows : List Flow) → AreAboveZero (flow ∷ flows) → 1 ≤ total (flow ∷ flows)
some_cents flow flows above = omega (arith, sum_by-cons (λ (f : Flow). f.cents.0) flow flows, All-head (λ (f : Flow). 1 ≤ f.cents.0) flow flows above)

pub same_empty : (settle : ℤ) (flows moved : List Flow) → AreAboveZero flows → AreAboveZero moved → total moved ≡ total flows → (length (indexed settle moved) == 0) ≡ (length (indexed settle flows) == 0)
same_empty settle [] [] above above_moved same = refl
same_empty settle [] (flow ∷ moved) above above_moved same = absurd (omega (arith, some_cents flow moved above_moved, same))
same_empty settle (flow ∷ flows) [] above above_moved same = absurd (omega (arith, some_cents flow flows above, same))
same_empty settle (flow ∷ flows) (other ∷ moved) above above_moved same =
    never (length (indexed settle (other ∷ moved))) (omega arith) ∙ sym (never (length (indexed settle (flow ∷ flows))) (omega arith))
  where
    never : (n : ℕ) → 1 ≤ n → (n == 0) ≡ false
    never n some = ne_eqb n 0 (λ none. absurd (omega (arith, none, some)))

-- ---- rolled flows
near : (settle : ℤ) (flows : List Flow) → IsSettlement settle → FallWithinFortyYears settle flows → last_index (indexed settle flows) ≤ 14_400
near settle flows h within = last_index-le 14_400 (indexed settle flows) (indexes_near settle flows h within)

later_indexes : (settle : ℤ) (rolls : List Roll) → IsSettlement settle → FallWithinFortyYears settle (taken rolls) → FallWithinFortyYears settle (returned rolls) → All (λ (roll : Roll). roll.day <ℤ roll.next) rolls
    → All (λ (roll : Roll). index360_of settle roll.day ≤ index360_of settle roll.next) rolls
later_indexes settle [] h from to order = All-nil (λ (roll : Roll). index360_of settle roll.day ≤ index360_of settle roll.next)
later_indexes settle (roll ∷ rolls) h from to order =
    let first = All-head (λ (flow : Flow). (settle ≤ℤ flow.day) × (flow.day ≤ℤ years_after_of settle 40)) (on roll.day roll.cents.0) (taken rolls) from in
    let last = All-head (λ (flow : Flow). (settle ≤ℤ flow.day) × (flow.day ≤ℤ years_after_of settle 40)) (on roll.next roll.cents.0) (returned rolls) to in
    let less = All-head (λ (r : Roll). r.day <ℤ r.next) roll rolls order in
    All-cons (λ (r : Roll). index360_of settle r.day ≤ index360_of settle r.next) roll rolls
    (omega (arith, thirty_day_place_of-mono roll.day roll.next (day_number settle roll.day h first) (day_number settle roll.next h last) (weaker roll.day roll.next less)))
    (later_indexes settle rolls h (All-tail (λ (flow : Flow). (settle ≤ℤ flow.day) × (flow.day ≤ℤ years_after_of settle 40)) (on roll.day roll.cents.0) (taken rolls) from)
    (All-tail (λ (flow : Flow). (settle ≤ℤ flow.day) × (flow.day ≤ℤ years_after_of settle 40)) (on roll.next roll.cents.0) (returned rolls) to) (All-tail (λ (r : Roll). r.day <ℤ r.next) roll rolls order))
  where
    weaker : (a b : ℤ) → a <ℤ b → a ≤ℤ b
    weaker a b less = omega (arith, ints, less)

    day_number : (settle day : ℤ) → IsSettlement settle → (settle ≤ℤ day) × (day ≤ℤ years_after_of settle 40) → IsDayNumber day
    day_number settle day h within =
        let base = settlement-base settle day h within.0 within.1 in
        (omega (arith, ints, base.0), omega (arith, ints, base.1))

pub yields_no_more : (settle : ℤ) (cost : ℕ) (flows : List Flow) (rolls : List Roll) (moved : List Flow) → IsSettlement settle → AreAboveZero flows → FallWithinFortyYears settle flows → FallWithinFortyYears settle moved
    → FallWithinFortyYears settle (taken rolls) → FallWithinFortyYears settle (returned rolls) → All (λ (roll : Roll). roll.day <ℤ roll.next) rolls → AreRolledFlows flows rolls moved → YieldsNoMore settle cost flows moved
yields_no_more settle cost flows rolls moved h above within within_moved from to order are =
    let sum = same_sum flows rolls moved are in
    let later = later_indexes settle rolls h from to order in
    no_higher (indexed settle flows) (indexed settle moved) cost (record {
      total = total-indexed settle moved ∙ sum ∙ sym (total-indexed settle flows);
      worth = λ side n.
          omega (
            arith,
            value_is settle side n moved,
            value_is settle side n flows,
            weigh_no_more (weight_of settle side n) flows rolls moved are (returns_weigh_less settle side n rolls later),
          );
      empty = same_empty settle flows moved above are.above sum;
      near = near settle flows h within;
      near_moved = near settle moved h within_moved;
    })
