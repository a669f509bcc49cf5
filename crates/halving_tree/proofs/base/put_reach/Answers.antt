use Rattle.std.proofs.Common.{◌≡◌, ◌∙◌, ◌+◌, ◌<◌, length, take, sym, ap, subst, arith}
use Rattle.std.proofs.Math.ListN.{length-set}
use Rattle.proof_tree.specs.Tree.{IsLeaf}
use Rattle.halving_tree.specs.Base.{reach_leaf}
use Rattle.halving_tree.proofs.Filled.{filled-all, filled-more}
use Rattle.halving_tree.proofs.Reach.{reach_is_leaf, reach_price}
use Rattle.halving_tree.proofs.base.put_reach.Goals as goal

pub loop-place-preserved : goal.loop-place-preserved
loop-place-preserved c =
    let prices = c.loop-place.leaf.prices in
    let place = c.loop-place.place in
    let needs = c.args.book.now.needs in
    let within : place < length needs = omega (arith, c.loop-place-test.true, c.need_count-place-end.ensures.value) in (
      c.loop-place.invariant.0,
      c.loop-place.invariant.1,
      c.loop-place.invariant.2,
      ap length c.put.ensures ∙ length-set prices place c.reach_price.result ∙ c.loop-place.invariant.3,
      ap (take (place + 1)) c.put.ensures
          ∙ filled-more (reach_price c.args.day) prices needs place c.reach_price.result c.need-need.result within (omega (arith, c.loop-place.invariant.3)) c.need-need.ensures c.reach_price.ensures
          c.loop-place.invariant.4,
    )

pub returns : goal.returns
returns c =
    let needs = c.args.book.now.needs in
    let «end» : length needs ≡ c.loop-place.place = omega (arith, c.loop-place-test.false, c.loop-place.auto.place-end, c.need_count-place-end.ensures.value) in
    let prices = filled-all (reach_price c.args.day) c.loop-place.leaf.prices needs c.loop-place.place (omega (arith, c.loop-place.invariant.3, «end»)) «end» c.loop-place.invariant.4 in
    let value : c.loop-place.leaf ≡ reach_leaf needs c.args.day = (λ i. record { rho = c.loop-place.invariant.0 i; mu = c.loop-place.invariant.1 i; prices = prices i; weights = c.loop-place.invariant.2 i }) in
    record { value = value; leaf = subst (IsLeaf (length needs)) (sym value) (reach_is_leaf needs c.args.day c.need_count-place-end.ensures.limits.needs.rising) }
