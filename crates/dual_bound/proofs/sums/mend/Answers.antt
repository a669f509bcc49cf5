use Rattle.std.proofs.Common.{◌≡◌, ◌∙◌, ◌+◌, ◌*◌, ◌<◌, ◌≤◌, length, sym, arith}
use Rattle.std.proofs.lemmas.Bool.Decides.{nat_tests}
use Rattle.std.proofs.lemmas.List.{get_or-set_other, get_or-set_same, get_or_default, length-set}
use Rattle.dual_bound.specs.Columns.{IsSummed, sum_after, worth_at}
use Rattle.proof_tree.specs.declared.prices.TheConstants.{PRICE_SCALE}
use Rattle.dual_bound.specs.declared.series.Stop.TheVariants.{Start}
use Rattle.dual_bound.specs.declared.worth.Worth.{Worth}
use Rattle.dual_bound.proofs.SumFacts.{before-next, mended, mended-more, same-worth, small-more}
use Rattle.dual_bound.proofs.sums.mend.Goals as goal

pub returns-then-eq-clause-summed : goal.returns-then-eq-clause-summed
returns-then-eq-clause-summed c =
    let sums = c.loop-at.sums in
    let own = c.sum_after-together.result in
    let stored = worth_at sums c.loop-at.at in
    let above : stored.above ≡ own.above = grind (arith, nat_tests, c.eq.ensures, c.if-eq.true) in
    let below : stored.below ≡ own.below = grind (arith, nat_tests, c.eq.ensures, c.if-eq.true) in
    let summed : IsSummed c.args.worths.now c.args.stops.now sums c.loop-at.at =
    λ s. same-worth stored own above below ∙ c.sum_after-together.ensures.value
    ∙ (λ i. sum_after c.args.worths.now (c.loop-at.invariant.before i) (get_or_default c.args.stops.now c.loop-at.at Start s c.loop-at-test.true i)) in
    λ k few. mended c.args.worths.now c.args.stops.now c.args.sums.now sums c.args.from c.loop-at.at c.loop-at.auto.at summed
    c.loop-at.invariant.done c.loop-at.invariant.early c.loop-at.invariant.late k

pub loop-at-preserved : goal.loop-at-preserved
loop-at-preserved c =
    let sums = c.loop-at.sums in
    let own = c.sum_after-together.result in
    let none : Worth = record { above = 0; below = 0 } in
    let there : c.loop-at.at < length sums = omega (arith, c.loop-at-test.true, c.loop-at.invariant.every) in
    let room : own.above + own.below ≤ (c.loop-at.at + 1) * (2 * PRICE_SCALE) = omega (arith, c.sum_after-together.ensures.small, c.loop-at.invariant.room) in
    record {
      every = length-set sums c.loop-at.at own ∙ c.loop-at.invariant.every;
      small = small-more sums c.loop-at.at own there room c.loop-at.invariant.small;
      before = sym (before-next _ c.loop-at.at ∙ get_or-set_same sums c.loop-at.at own none there);
      room = room;
      done = mended-more c.args.worths.now c.args.stops.now sums c.args.from c.loop-at.at own there
          (λ s. c.sum_after-together.ensures.value
          ∙ (λ i. sum_after c.args.worths.now (c.loop-at.invariant.before i) (get_or_default c.args.stops.now c.loop-at.at Start s c.loop-at-test.true i)))
          c.loop-at.invariant.done;
      early = λ k lt. get_or-set_other sums c.loop-at.at k own none (λ e. absurd (omega (arith, e, lt, c.loop-at.auto.at))) ∙ c.loop-at.invariant.early k lt;
      late = λ k ge. get_or-set_other sums c.loop-at.at k own none (λ e. absurd (omega (arith, e, ge))) ∙ c.loop-at.invariant.late k (omega (arith, ge));
    }
