use mir.Syntax.{w128}
use Rattle.std.proofs.Common.{◌∙◌, ◌+ℤ◌, sym, ap, arith, to_z, of_z, unsigned_abs}
use Rattle.std.proofs.lemmas.Int.{ints}
use Rattle.dual_bound.proofs.LoadFacts.{load-counted, load-passed, some-weight}
use Rattle.dual_bound.proofs.Signed.{read-again}
use Rattle.dual_bound.proofs.loads.load.Goals.{then-own-depth, else-own-depth}
use Rattle.dual_bound.proofs.loads.load.Goals as goal

pub loop-own-preserved : goal.loop-own-preserved
loop-own-preserved c =
    elim c.if-own-depth.branch [
      | then-own-depth w ↦
          let own = read-again w.signed_weight-load.result (omega (arith, w.signed_weight-load.ensures.small)) in
          let more = load-counted c.args.weights.now c.args.depth c.loop-own.own-index some-weight c.loop-own-test.true w.if-own-depth.true in
          let sum = read-again (to_z w128 c.loop-own.load-bits +ℤ to_z w128 (of_z w128 w.signed_weight-load.result)) (omega (arith, ints, own, c.loop-own.invariant.small, c.loop-own-test.true, c.requires.few, w.signed_weight-load.ensures.small)) in record {
            value = omega (arith, ints, w.load-is, sum, own, more, c.loop-own.invariant.value, w.signed_weight-load.ensures.value);
            small = omega (arith, ints, w.load-is, sum, own, c.loop-own.invariant.small, w.signed_weight-load.ensures.small);
          }
      | else-own-depth w ↦ record {
        value = w.load-is ∙ c.loop-own.invariant.value ∙ sym (load-passed c.args.weights.now c.args.depth c.loop-own.own-index some-weight c.loop-own-test.true w.if-own-depth.false);
        small = omega (arith, ap unsigned_abs w.load-is, c.loop-own.invariant.small);
      }
    ]
