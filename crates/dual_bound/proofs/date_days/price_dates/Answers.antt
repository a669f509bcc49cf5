use Rattle.std.proofs.Common.{◌∙◌, List, subst, sym, inl, inr, arith}
use Rattle.std.specs.List.{Contains}
use Rattle.dual_bound.specs.Columns.{IsPriced}
use Rattle.dual_bound.specs.declared.worth.Worth.{Worth}
use Rattle.dual_bound.proofs.DateFacts.{all-priced, dates-more, listed-start}
use Rattle.dual_bound.proofs.date_days.price_dates.Goals as goal

pub loop-date-init : goal.loop-date-init
loop-date-init c = record {
  every = c.requires.same;
  priced = λ place few.
      elim (c.requires.others place few) [
        | inl priced ↦ inl priced
        | inr at ↦ inr (listed-start c.args.dates.now c.args.lists.now place at)
      ];
}

pub loop-date-preserved : goal.loop-date-preserved
loop-date-preserved c = record {
  every = c.price_days_at.auto.worths ∙ c.loop-date.invariant.every;
  priced = λ place few.
      let priced = λ (worths : List Worth). IsPriced c.args.leaf.now c.args.days.now worths place in
      dates-more (priced c.loop-date.worths) (priced c.price_days_at.new.worths) c.loop-date.date-index c.args.dates.now c.args.lists.now place
      (λ was. c.price_days_at.ensures place few (inl was))
      (λ listed. c.price_days_at.ensures place few (inr (subst (λ places. Contains places place) (sym c.as_slice.ensures.value) (listed c.index-lists-date.result))))
      (c.loop-date.invariant.priced place few);
}

pub returns : goal.returns
returns c =
    all-priced c.args.leaf.now c.args.days.now c.loop-date.worths c.loop-date.invariant.every
    (λ day few.
    elim (c.loop-date.invariant.priced day few) [
      | inl priced ↦ priced
      | inr ahead ↦ absurd (omega (arith, ahead.1, ahead.2, c.loop-date-test.false))
    ])
