use mir.Syntax.{w128}
use Rattle.std.proofs.Common.{List, ◌∙◌, pos, ◌-ℤ◌, ◌*ℤ◌, ap, arith}
use Rattle.std.proofs.lemmas.Int.{ints, to_z-of_z}
use Rattle.std.proofs.lemmas.List.{take_all}
use Rattle.escrow_units.specs.declared.security.Flow.{Flow}
use Rattle.offer_book.specs.Portfolio.{line_payments}
use Rattle.offer_book.specs.declared.coefficients.TheConstants.{COEFFICIENT_SCALE}
use Rattle.dual_bound.specs.LeafBound.{paid_worth, priced_cost, signed_sum}
use Rattle.dual_bound.proofs.Signed.{read-again, signed_sum_more}
use Rattle.dual_bound.proofs.Sizes.{line_cost-small}
use Rattle.dual_bound.proofs.leaf_bound.priced_cost.Goals as goal

pub loop-flow-preserved : goal.loop-flow-preserved
loop-flow-preserved c =
    let weight = paid_worth c.args.powers.now.yield_units c.args.book.now c.args.leaf.now c.args.line.now.kind in
    let more = signed_sum_more (λ (flow : Flow). weight flow.day *ℤ pos flow.cents.0) c.as_slice-flow-items.result.now c.loop-flow.flow-index c.flow-item.result c.loop-flow-test.true in
    let worth = read-again c.paid_worth-worth.result (omega (arith, c.paid_worth-worth.ensures.light)) ∙ c.paid_worth-worth.ensures.value in
    let here = c.weighed-paid.ensures.value ∙ ap (λ z. z *ℤ pos c.flow-item.result.cents.0) worth ∙ ap (λ (flow : Flow). weight flow.day *ℤ pos flow.cents.0) c.flow-item.is in (
      omega (arith, ints, c.loop-flow.paid-is, c.loop-flow.invariant.0, more, here),
      omega (arith, ints, c.loop-flow.paid-is, c.loop-flow.invariant.1, c.weighed-paid.ensures.small),
    )

pub weighed-cost-requires-clause-cents : goal.weighed-cost-requires-clause-cents
weighed-cost-requires-clause-cents c =
    omega (arith, c.cost.ensures, line_cost-small c.args.book.now.days c.args.line.now c.args.units c.requires.line c.requires.units)

pub returns : goal.returns
unfolding priced_cost
returns c =
    let weight = paid_worth c.args.powers.now.yield_units c.args.book.now c.args.leaf.now c.args.line.now.kind in
    let items = c.as_slice-flow-items.ensures.value ∙ c.payments.ensures.value ∙ ap (λ days. line_payments days c.args.line.now c.args.units) c.payment_days.ensures in
    let whole = take_all c.loop-flow.flow-index c.as_slice-flow-items.result.now (omega arith) ∙ items in
    let paid = c.loop-flow.invariant.0 ∙ ap (λ (flows : List Flow). signed_sum (λ (flow : Flow). weight flow.day *ℤ pos flow.cents.0) flows) whole in
    let own = read-again c.cost_worth.result (omega (arith, c.cost_worth.ensures.light)) ∙ c.cost_worth.ensures.value in
    let cost = read-again c.weighed-cost.result (omega (arith, c.weighed-cost.ensures.small)) ∙ c.weighed-cost.ensures.value ∙ (λ i. own i *ℤ pos (c.cost.ensures i)) in
    to_z-of_z w128 c.scaled_difference.result (record { sfits = c.scaled_difference.type_inv }) ∙ c.scaled_difference.ensures
    ∙ (λ i. pos COEFFICIENT_SCALE *ℤ (cost i -ℤ paid i))
