use Rattle.std.proofs.Common.{◌∙◌, List, subst, sym, inl, inr, arith}
use Rattle.std.specs.List.{Contains}
use Rattle.dual_bound.specs.Columns.{IsSummed}
use Rattle.dual_bound.specs.declared.worth.Worth.{Worth}
use Rattle.dual_bound.proofs.DateFacts.{dates-more, listed-start}
use Rattle.dual_bound.proofs.sums.mend_dates.Goals as goal

pub loop-date-init : goal.loop-date-init
loop-date-init c = record {
  every = c.requires.every;
  small = c.requires.small;
  summed = λ k few.
      elim (c.requires.others k few) [
        | inl summed ↦ inl summed
        | inr at ↦ inr (listed-start c.args.dates.now c.args.lists.now k at)
      ];
}

pub loop-date-preserved : goal.loop-date-preserved
loop-date-preserved c = record {
  every = c.mend_at.auto.sums ∙ c.loop-date.invariant.every;
  small = c.mend_at.ensures.small;
  summed = λ k few.
      let summed = λ (sums : List Worth). IsSummed c.args.worths.now c.args.stops.now sums k in
      dates-more (summed c.loop-date.sums) (summed c.mend_at.new.sums) c.loop-date.date-index c.args.dates.now c.args.lists.now k
      (λ was. c.mend_at.ensures.summed k few (inl was))
      (λ listed. c.mend_at.ensures.summed k few (inr (subst (λ places. Contains places k) (sym c.as_slice.ensures.value) (listed c.index-lists-date.result))))
      (c.loop-date.invariant.summed k few);
}

pub returns : goal.returns
returns c = record {
  every = c.loop-date.invariant.every;
  summed = λ k few.
      elim (c.loop-date.invariant.summed k few) [
        | inl summed ↦ summed
        | inr ahead ↦ absurd (omega (arith, ahead.1, ahead.2, c.loop-date-test.false))
      ];
}
