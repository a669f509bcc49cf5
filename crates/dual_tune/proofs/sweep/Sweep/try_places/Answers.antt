use Rattle.std.proofs.Common.{◌≡◌, inl, inr, subst, arith}
use Rattle.std.proofs.lemmas.Bool.{cases_lt}
use Rattle.std.proofs.lemmas.Int.{ints}
use Rattle.dual_tune.specs.Sweep.{AreReached}
use Rattle.dual_tune.proofs.SweepFacts.{reached-more}
use Rattle.dual_tune.proofs.sweep.Sweep.try_places.Goals as goal

pub loop-place-preserved : goal.loop-place-preserved
loop-place-preserved c =
    let better = c.try_place-best.ensures.better in (
      c.try_place-best.ensures.kept,
      c.try_place-best.ensures.best,
      omega (arith, ints, c.loop-place.invariant.2, better),
      λ place lt.
          elim (cases_lt place c.loop-place.place) [
            | inl before ↦ reached-more _ _ _ _ better (c.loop-place.invariant.3 place before)
            | inr from ↦
                let at : c.loop-place.place ≡ place = omega (arith, lt, from) in
                subst (AreReached c.args.given.now c.try_place-best.result.bound) at c.try_place-best.ensures.tried
          ],
    )
