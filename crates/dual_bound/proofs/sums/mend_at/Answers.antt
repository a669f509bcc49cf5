use Rattle.std.proofs.Common.{◌∙◌, inl, inr, arith}
use Rattle.std.proofs.lemmas.List.{get_or_default}
use Rattle.dual_bound.proofs.DateFacts.{ahead-more}
use Rattle.dual_bound.proofs.sums.mend_at.Goals as goal

pub loop-place-init : goal.loop-place-init
loop-place-init c = record {
  every = c.requires.every;
  small = c.requires.small;
  summed = λ k few was.
      elim was [
        | inl summed ↦ inl summed
        | inr there ↦ inr (there.0, omega arith, there.1, there.2)
      ];
}

pub loop-place-preserved : goal.loop-place-preserved
loop-place-preserved c =
    let index = c.loop-place.place-index in record {
      every = c.mend.auto.sums ∙ c.loop-place.invariant.every;
      small = c.mend.ensures.small;
      summed = λ k few was.
          elim (c.loop-place.invariant.summed k few was) [
            | inl summed ↦ inl (c.mend.ensures.summed k few (inl summed))
            | inr ahead ↦
                elim (ahead-more index _ c.args.places.now k c.loop-place-test.true (λ d. get_or_default c.args.places.now index d 0 c.loop-place-test.true) ahead) [
                  | inl at ↦ inl (c.mend.ensures.summed k few (inr at))
                  | inr more ↦ inr more
                ]
          ];
    }

pub returns-clause-summed : goal.returns-clause-summed
returns-clause-summed c =
    λ k few was.
    elim (c.loop-place.invariant.summed k few was) [
      | inl summed ↦ summed
      | inr ahead ↦ absurd (omega (arith, ahead.1, ahead.2, c.loop-place-test.false))
    ]
