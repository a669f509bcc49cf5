-- Amounts at a rate for each day come to the same before and after they are summed by day.
use Rattle.std.proofs.Common.{◌≡◌, ℕ, ◌+◌, ◌*◌, ◌==◌, List, [], ◌∷◌, refl, arith, ℤ, Bool, true, false, if◌then◌else◌}
use Rattle.std.proofs.lemmas.List.Sums.{sum_by-cons}
use Rattle.std.specs.List.{sum_by}
use Rattle.std.specs.Ordering.{int_cmp}
use Rattle.std.specs.declared.cmp.Ordering.{Ordering}
use Rattle.std.specs.declared.cmp.Ordering.TheVariants.{Less, Equal, Greater}
use Rattle.escrow_units.specs.declared.security.Flow.{Flow}
use Rattle.day_sums.specs.Summed.{on, summed, with_amount}
use Rattle.day_sums.proofs.SumFacts.{same-from_cmp}

-- an amount at the rate of its day
abbrev pub at_rate : (ℤ → ℕ) → Flow → ℕ
at_rate rate flow = rate flow.day * flow.cents.0

rate-at : (rate : ℤ → ℕ) (flow sum : Flow) (sums : List Flow) → sum_by (at_rate rate) (with_amount flow sums) ≡ at_rate rate flow + sum_by (at_rate rate) sums
    → (order : Ordering) → int_cmp flow.day sum.day ≡ order
    → sum_by (at_rate rate) (with_amount flow (sum ∷ sums)) ≡ at_rate rate flow + sum_by (at_rate rate) (sum ∷ sums)
unfolding with_amount
rate-at rate flow sum sums rest Less is = rw is (sum_by-cons (at_rate rate) flow (sum ∷ sums))
rate-at rate flow sum sums rest Equal is =
    let same = same-from_cmp flow.day sum.day is in
    rw (is, same) (omega (arith, sum_by-cons (at_rate rate) (on sum.day (sum.cents.0 + flow.cents.0)) sums, sum_by-cons (at_rate rate) sum sums))
rate-at rate flow sum sums rest Greater is =
    rw is (omega (arith, sum_by-cons (at_rate rate) sum (with_amount flow sums), sum_by-cons (at_rate rate) sum sums, rest))

rate-with_amount : (rate : ℤ → ℕ) (flow : Flow) (sums : List Flow) → sum_by (at_rate rate) (with_amount flow sums) ≡ at_rate rate flow + sum_by (at_rate rate) sums
unfolding with_amount
rate-with_amount rate flow [] = sum_by-cons (at_rate rate) flow []
rate-with_amount rate flow (sum ∷ sums) = rate-at rate flow sum sums (rate-with_amount rate flow sums) (int_cmp flow.day sum.day) refl

pub rate-summed : (rate : ℤ → ℕ) (flows : List Flow) → sum_by (at_rate rate) (summed flows) ≡ sum_by (at_rate rate) flows
unfolding summed
rate-summed rate [] = refl
rate-summed rate (flow ∷ flows) = at (flow.cents.0 == 0) refl (rate-summed rate flows)
  where
    at : (none : Bool) → (flow.cents.0 == 0) ≡ none → sum_by (at_rate rate) (summed flows) ≡ sum_by (at_rate rate) flows
        → sum_by (at_rate rate) (if none then summed flows else with_amount flow (summed flows)) ≡ sum_by (at_rate rate) (flow ∷ flows)
    at true none rest =
        let nothing : flow.cents.0 ≡ 0 = grind arith in
        let first : at_rate rate flow ≡ 0 = rw nothing (omega arith) in
        omega (arith, rest, sum_by-cons (at_rate rate) flow flows, first)
    at false some rest = omega (arith, rest, sum_by-cons (at_rate rate) flow flows, rate-with_amount rate flow (summed flows))
