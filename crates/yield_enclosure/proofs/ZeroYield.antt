-- Flows that sum to their cost yield 0.
use Rattle.std.proofs.Common.{◌≡◌, ◌∙◌, ℕ, suc, ◌*◌, ◌<◌, ◌≤◌, false, nat_lt, ◌==◌, ◌&&◌, List, length, inl, inr, sym, ap, subst, cond, arith}
use Rattle.std.proofs.lemmas.Bool.{cases_lt, lt-leb, ne_eqb}
use Rattle.escrow_units.specs.PresentValue.{IndexedFlow, last_index}
use Rattle.fixed_powers.specs.DiscountPowers.{one}
use Rattle.fixed_powers.specs.PresentValues.{HasLaterAmount, total_cents, present_value}
use Rattle.fixed_powers.specs.declared.side.Side.TheVariants.{Low, High}
use Rattle.fixed_powers.proofs.PresentValueFacts.{value_falls, low_value-le-high, value-at_zero, value_sharp}
use Rattle.yield_enclosure.specs.declared.answer.YieldAnswer.TheVariants.{Empty, Negative, Between}
use Rattle.yield_enclosure.specs.YieldAnswers.{answer_of_covered, yield_answer_of, IsLowerEnd, IsUpperEnd}
use Rattle.yield_enclosure.specs.YieldLaws.{YieldsZeroAtItsSum}
use Rattle.yield_enclosure.proofs.EndFacts.{last_index-le, between-covered}

-- at one unit of yield and above the flows are worth less than their sum
worth_less : (n : ℕ) (flows : List IndexedFlow) → last_index flows ≤ 14_400 → HasLaterAmount flows → 1 ≤ n → present_value Low n flows < one * total_cents flows
worth_less n flows near later some =
    let strict : present_value High 1 flows < present_value Low 0 flows = (value_sharp 0 flows (omega arith) near).strict later in
    omega (arith, value_falls Low 1 n flows some, low_value-le-high 1 flows, strict, value-at_zero Low flows)

lower_end-zero : (flows : List IndexedFlow) → last_index flows ≤ 14_400 → HasLaterAmount flows → IsLowerEnd flows (total_cents flows) 0
lower_end-zero flows near later = record {
  worth = omega (arith, value-at_zero Low flows);
  greatest = λ n enough. elim (cases_lt 0 n) [
    | inl some ↦ absurd (omega (arith, worth_less n flows near later some, enough))
    | inr none ↦ none
  ];
}

upper_end-zero : (flows : List IndexedFlow) → IsUpperEnd flows (total_cents flows) 0
upper_end-zero flows = record {
  no_dearer = omega (arith, value-at_zero High flows);
  least = λ n enough. omega arith;
}

-- flows with a later amount aren't empty, and are covered by their sum
covered : (flows : List IndexedFlow) → HasLaterAmount flows → yield_answer_of flows (total_cents flows) ≡ answer_of_covered flows (total_cents flows)
covered flows later =
    let sum = total_cents flows in
    let some : (length flows == 0) ≡ false = ne_eqb (length flows) 0 (λ none. absurd (omega (arith, later.2, none))) in
    let enough : nat_lt sum sum ≡ false = lt-leb (suc sum) sum (omega arith) in
    ap (λ empty. cond (empty && (sum == 0)) Empty (cond (nat_lt sum sum) Negative (answer_of_covered flows sum))) some
    ∙ ap (λ short. cond short Negative (answer_of_covered flows sum)) enough

pub zero_yield : YieldsZeroAtItsSum
zero_yield flows cost all later same =
    let sum = total_cents flows in
    let near = last_index-le 14_400 flows all in
    let less = worth_less 3_000_000_000 flows near later (omega arith) in
    let ends = between-covered flows sum (record { 0 = 0 }) (record { 0 = 0 }) near (omega arith) less (lower_end-zero flows near later) (upper_end-zero flows) in
    subst (λ (price : ℕ). yield_answer_of flows price ≡ Between (record { 0 = 0 }) (record { 0 = 0 })) same (covered flows later ∙ sym ends)
