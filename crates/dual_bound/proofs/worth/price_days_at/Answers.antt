use Rattle.std.proofs.Common.{◌∙◌, ap, get_or, inl, inr, arith}
use Rattle.std.proofs.lemmas.List.{get_or_default, length-set}
use Rattle.dual_bound.specs.Columns.{worth_on}
use Rattle.dual_bound.proofs.DateFacts.{priced-more}
use Rattle.dual_bound.proofs.worth.price_days_at.Goals as goal

pub loop-place-init : goal.loop-place-init
loop-place-init c = record {
  every = c.requires.same;
  priced = λ day few was.
      elim was [
        | inl priced ↦ inl priced
        | inr there ↦ inr (there.0, omega arith, there.1, there.2)
      ];
}

pub loop-place-preserved : goal.loop-place-preserved
loop-place-preserved c =
    let places = c.args.places.now in
    let index = c.loop-place.place-index in
    let place = get_or places index 0 in
    let at = c.loop-place-test.true in
    record {
      every = length-set c.loop-place.worths place c.price_day.result ∙ c.loop-place.invariant.every;
      priced = λ day few was.
          priced-more c.args.leaf.now c.args.days.now places c.loop-place.worths index place c.price_day.result at (λ d. get_or_default places index d 0 at)
          (omega (arith, c.loop-place.invariant.every, c.requires.there index 0 at))
          (λ d. c.price_day.ensures ∙ ap (worth_on c.args.leaf.now) (get_or_default c.args.days.now place _ d (c.requires.there index 0 at)))
          day (c.loop-place.invariant.priced day few was);
    }

pub returns : goal.returns
returns c =
    λ day few was.
    elim (c.loop-place.invariant.priced day few was) [
      | inl priced ↦ priced
      | inr ahead ↦ absurd (omega (arith, ahead.1, ahead.2, c.loop-place-test.false))
    ]
