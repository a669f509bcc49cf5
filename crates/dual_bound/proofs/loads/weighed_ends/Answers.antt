use mir.Syntax.{w128}
use Rattle.std.proofs.Common.{◌+ℤ◌, arith, to_z, of_z}
use Rattle.std.proofs.lemmas.Int.{ints}
use Rattle.dual_bound.specs.LeafBound.{weighed_end}
use Rattle.dual_bound.proofs.LoadFacts.{some-weight}
use Rattle.dual_bound.proofs.Signed.{read-again, signed_sum_more}
use Rattle.dual_bound.proofs.loads.weighed_ends.Goals as goal

pub loop-own-preserved : goal.loop-own-preserved
loop-own-preserved c =
    let own = read-again c.weighed_end-ends.result (omega (arith, c.weighed_end-ends.ensures.small)) in
    let more = signed_sum_more (weighed_end c.args.book.now c.args.sums.now) c.args.weights.now c.loop-own.own-index some-weight c.loop-own-test.true in
    let sum = read-again (to_z w128 c.loop-own.ends-bits +ℤ to_z w128 (of_z w128 c.weighed_end-ends.result)) (omega (arith, ints, own, c.loop-own.invariant.small, c.loop-own-test.true, c.requires.weights.few, c.weighed_end-ends.ensures.small)) in record {
      value = omega (arith, ints, sum, own, more, c.loop-own.invariant.value, c.weighed_end-ends.ensures.value);
      small = omega (arith, ints, sum, own, c.loop-own.invariant.small, c.weighed_end-ends.ensures.small);
    }
