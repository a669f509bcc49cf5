-- Flows that sum to their cost have the yield 0.
use Rattle.std.proofs.Common.{◌≡◌, ◌∙◌, ◌+◌, List, [], ◌∷◌, refl, sym, ap, arith, ℤ}
use Rattle.std.proofs.lemmas.List.Sums.{sum_by-cons}
use Rattle.escrow_units.specs.Flows.{index360_of, indexed, total}
use Rattle.escrow_units.specs.PresentValue.{IndexedFlow, YieldLiesIn}
use Rattle.escrow_units.specs.declared.security.Flow.{Flow}
use Rattle.fixed_powers.specs.PresentValues.{total_cents}
use Rattle.fixed_powers.specs.declared.side.Side.TheVariants.{Low, High}
use Rattle.fixed_powers.proofs.PresentValueFacts.{value-at_zero, low_value-encloses, high_value-encloses}

pub yields_nothing : (flows : List IndexedFlow) → YieldLiesIn flows (total_cents flows) 0 0
yields_nothing flows = record {
  at_least = low_value-encloses 0 flows (total_cents flows) (omega (arith, value-at_zero Low flows));
  at_most = high_value-encloses 0 flows (total_cents flows) (omega (arith, value-at_zero High flows));
}

pub total_cents-indexed : (settle : ℤ) (flows : List Flow) → total_cents (indexed settle flows) ≡ total flows
total_cents-indexed settle [] = refl
total_cents-indexed settle (flow ∷ flows) =
    let first : IndexedFlow = record { index = index360_of settle flow.day; cents = flow.cents.0 } in
    sum_by-cons (λ f. f.cents) first (indexed settle flows) ∙ ap (λ n. flow.cents.0 + n) (total_cents-indexed settle flows) ∙ sym (sum_by-cons (λ f. f.cents.0) flow flows)
