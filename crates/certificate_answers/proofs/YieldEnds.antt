-- What the interval of a yield says, and the lower end that is worked out, proved.
use Rattle.std.proofs.Common.{◌≡◌, ℕ, suc, ◌+◌, ◌*◌, ◌<◌, ◌≤◌, ◌==◌, ◌&&◌, nat_lt, nat_eq, List, [], ◌∷◌, length, Bool, true, false, refl, arith}
use Rattle.std.specs.Prelude.{◌^◌, if◌then◌else◌}
use Rattle.std.proofs.lemmas.Bool.{ltb-false, ltb-true}
use Rattle.std.proofs.lemmas.Bool.Decides.{nat_tests}
use Rattle.std.proofs.Math.Nat.{mul-le-mul_left}
use Rattle.escrow_units.specs.PresentValue.{IndexedFlow, PresentValueAtMost, half_year, last_index, two_hundred_percent}
use Rattle.fixed_powers.specs.DiscountPowers.{one}
use Rattle.fixed_powers.specs.PresentValues.{present_value, total_cents}
use Rattle.fixed_powers.specs.declared.side.Side.TheVariants.{Low}
use Rattle.fixed_powers.proofs.PresentValueFacts.{low_value-encloses}
use Rattle.yield_enclosure.specs.YieldAnswers.{IsYieldAnswer, answer_of_covered, is_worth, lower_end, upper_end, yield_answer_of}
use Rattle.yield_enclosure.specs.declared.answer.YieldAnswer.TheVariants.{Above, Between, Empty, Negative}
use Rattle.yield_enclosure.proofs.EndFacts.{ends_are, lower_end-is, upper_end-is}

-- of flows that come to at least their cost
covered-is : (flows : List IndexedFlow) (cost : ℕ) → last_index flows ≤ 14_400 → cost ≤ total_cents flows → (worth : Bool) → is_worth flows cost 3_000_000_000 ≡ worth
    → IsYieldAnswer flows cost (if worth then Above else Between (record { 0 = lower_end flows cost }) (record { 0 = upper_end flows cost }))
covered-is flows cost near covered true test =
    let enough : one * cost ≤ present_value Low 3_000_000_000 flows = grind arith in
    low_value-encloses 3_000_000_000 flows cost enough
covered-is flows cost near covered false test =
    let less : present_value Low 3_000_000_000 flows < one * cost = grind arith in
    let lower = lower_end-is flows cost covered less in
    ends_are flows cost (lower_end flows cost) (upper_end flows cost) near covered less lower (upper_end-is flows cost (lower_end flows cost) near less lower)

no-flows : (flows : List IndexedFlow) (cost : ℕ) → ((length flows == 0) && (cost == 0)) ≡ true → (flows ≡ []) × (cost ≡ 0)
no-flows [] cost test = (refl, grind arith)
no-flows (flow ∷ flows) cost test = absurd (let some : nat_eq (length (flow ∷ flows)) 0 ≡ false = more (length flows) in let clash = rw some at test in cc)
  where
    more : (n : ℕ) → nat_eq (suc n) 0 ≡ false
    more n = grind (arith, nat_tests)

pub answer_is : (flows : List IndexedFlow) (cost : ℕ) → last_index flows ≤ 14_400 → IsYieldAnswer flows cost (yield_answer_of flows cost)
answer_is flows cost near = at ((length flows == 0) && (cost == 0)) (nat_lt (total_cents flows) cost) refl refl
  where
    at : (none less : Bool) → ((length flows == 0) && (cost == 0)) ≡ none → nat_lt (total_cents flows) cost ≡ less
        → IsYieldAnswer flows cost (if none then Empty else if less then Negative else answer_of_covered flows cost)
    at true less free is = no-flows flows cost free
    at false true free is = ltb-true (total_cents flows) cost is
    at false false free is = covered-is flows cost near (ltb-false (total_cents flows) cost is) (is_worth flows cost 3_000_000_000) refl

-- the exact yield isn't above a higher end
pub widened : (flows : List IndexedFlow) (cost low high : ℕ) → low ≤ high → PresentValueAtMost low flows cost → PresentValueAtMost high flows cost
widened flows cost low high less most = λ a b some factor. most a b some (omega (arith, factor, mul-le-mul_left (a ^ half_year) (shift low high less)))
  where
    shift : (m n : ℕ) → m ≤ n → two_hundred_percent + m ≤ two_hundred_percent + n
    shift m n h = omega (arith, h)
