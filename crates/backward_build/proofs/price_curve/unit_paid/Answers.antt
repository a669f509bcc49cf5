use Rattle.std.proofs.Common.{◌≡◌, ◌∙◌, ◌+◌, ◌*◌, ◌^◌, ◌≤◌, take, true, false, sym, arith}
use Rattle.backward_build.specs.PriceCurve.{unit_paid_in}
use Rattle.backward_build.proofs.CurveFacts.{left_more, pay_small, worth_more, worth_small}
use Rattle.backward_build.proofs.price_curve.unit_paid.Goals as goal
use Rattle.backward_build.proofs.price_curve.unit_paid.Goals.{then-holds, else-holds}

pub loop-pay-preserved : goal.loop-pay-preserved
loop-pay-preserved c =
    let within = c.loop-pay-test.true in
    let at = c.pay-item.is in
    let price = c.from.ensures ∙ c.price_on.ensures.value in
    let high = pay_small c.args.pays.now c.loop-pay.pay-index c.pay-item.result within at c.requires.pays in
    let product = worth_small c.args.needs.now c.args.prices.now c.args.pays.now c.loop-pay.pay-index c.pay-item.result c.from.result within at c.requires.prices c.requires.pays price in
    let worth = worth_more c.args.needs.now c.args.prices.now c.args.pays.now c.loop-pay.pay-index c.pay-item.result c.from.result c.loop-pay.worth within at price c.loop-pay.invariant.0 in
    let left : (c.if-holds.left ≡ unit_paid_in c.args.span.now (take (c.loop-pay.pay-index + 1) c.args.pays.now)) × (c.if-holds.left ≤ (c.loop-pay.pay-index + 1) * 10 ^ 18) =
    elim c.if-holds.branch [
      | then-holds w ↦ (
        w.left-is ∙ sym (left_more c.args.span.now c.args.pays.now c.loop-pay.pay-index c.pay-item.result c.loop-pay.left true within at (sym c.holds.ensures ∙ w.if-holds.true) c.loop-pay.invariant.1),
        omega (arith, w.left-is, high, c.loop-pay.invariant.3),
      )
      | else-holds w ↦ (
        omega (arith, w.left-is, left_more c.args.span.now c.args.pays.now c.loop-pay.pay-index c.pay-item.result c.loop-pay.left false within at (sym c.holds.ensures ∙ w.if-holds.false) c.loop-pay.invariant.1),
        omega (arith, w.left-is, c.loop-pay.invariant.3),
      )
    ] in (
      worth,
      left.0,
      omega (arith, product, c.loop-pay.invariant.2),
      left.1,
    )
