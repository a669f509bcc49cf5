use Rattle.std.proofs.Common.{◌≡◌, ◌∙◌, ◌<◌, get_or, length, inl, inr, sym, ap, arith}
use Rattle.std.proofs.lemmas.Bool.{cases_lt}
use Rattle.std.proofs.lemmas.Grind.{get_or-set_at}
use Rattle.std.proofs.lemmas.List.{get_or-set_other}
use Rattle.dual_tune.proofs.AsideFacts.{set-length}
use Rattle.dual_tune.proofs.SweepFacts.{same-items}
use Rattle.dual_tune.proofs.sweep.copy_leaf.Goals as goal

pub loop-place-preserved : goal.loop-place-preserved
loop-place-preserved c =
    let place = c.loop-place.place in
    let prices = c.loop-place.into.prices in
    let value = get_or c.as_slice-prices.result.now c.from.result 0 in
    let few : place < length prices = omega (arith, c.loop-place-test.true, c.loop-place.invariant.3, c.requires.from) in (
      c.loop-place.invariant.0,
      c.loop-place.invariant.1,
      c.loop-place.invariant.2,
      ap length c.put.ensures ∙ set-length prices place value ∙ c.loop-place.invariant.3,
      λ k lt.
          ap (λ ps. get_or ps k 0) c.put.ensures
          ∙ elim (cases_lt k place) [
            | inl before ↦ get_or-set_other prices place k value 0 (λ e. omega (arith, e, before)) ∙ c.loop-place.invariant.4 k before
            | inr from ↦
                let at : k ≡ place = omega (arith, lt, from) in
                get_or-set_at prices place k value 0 at few ∙ (λ i. get_or (c.as_slice-prices.ensures i) (c.from.ensures i) 0) ∙ ap (λ j. get_or c.args.from.now.prices j 0) (sym at)
          ],
    )

pub returns : goal.returns
returns c =
    let all = same-items c.loop-place.into.prices c.args.from.now.prices c.loop-place.invariant.3
    (λ k lt. c.loop-place.invariant.4 k (omega (arith, lt, c.loop-place-test.false, c.loop-place.invariant.3, c.requires.from))) in
    λ i. record { rho = c.loop-place.invariant.0 i; mu = c.loop-place.invariant.1 i; prices = all i; weights = (c.loop-place.invariant.2 ∙ sym c.requires.unweighted) i }
