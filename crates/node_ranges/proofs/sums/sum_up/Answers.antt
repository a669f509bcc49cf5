use Rattle.std.proofs.Common.{◌≡◌, ℕ, suc, ◌-◌, ◌<◌, length, refl, sym, ap, subst, arith}
use Rattle.std.proofs.lemmas.List.{drop_all}
use Rattle.std.specs.List.{sum}
use Rattle.node_ranges.proofs.SumFacts.{AreSummedFrom, sum-next, sum-within, summed-more}
use Rattle.node_ranges.proofs.sums.sum_up.Goals as goal

-- the place before one
below-is : (place : ℕ) → 0 < place → suc (place - 1) ≡ place
below-is place some = omega arith

pub loop-place-init : goal.loop-place-init
loop-place-init c = record {
  same = refl;
  before = λ k d less. refl;
  summed = λ k d from within. absurd (omega (arith, from, within));
  total = sym (ap sum (drop_all (length c.args.counts.now) c.args.counts.now (omega arith)));
}

pub overflow_add-after : goal.overflow_add-after
overflow_add-after c =
    let some = below-is c.loop-place.place c.loop-place-test.true in
    let next = sum-next c.args.counts.now c.loop-place.counts (c.loop-place.place - 1) c.loop-place.after (omega (arith, some, c.loop-place.auto.place))
    (subst (λ (place : ℕ). AreSummedFrom c.args.counts.now c.loop-place.counts place c.loop-place.after) (sym some) c.loop-place.invariant) in
    let all = sum-within c.args.counts.now (c.loop-place.place - 1) in
    omega (arith, next, all, c.requires)

pub loop-place-preserved : goal.loop-place-preserved
loop-place-preserved c =
    let some = below-is c.loop-place.place c.loop-place-test.true in
    summed-more c.args.counts.now c.loop-place.counts (c.loop-place.place - 1) c.loop-place.after (omega (arith, some, c.loop-place.auto.place))
    (subst (λ (place : ℕ). AreSummedFrom c.args.counts.now c.loop-place.counts place c.loop-place.after) (sym some) c.loop-place.invariant)

pub returns-clause-sums : goal.returns-clause-sums
returns-clause-sums c = λ k d within. c.loop-place.invariant.summed k d (omega (arith, c.loop-place-test.false)) within
