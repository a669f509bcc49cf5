use Rattle.std.proofs.Common.{◌∙◌, ◌≤ℤ◌, ap, sym, arith, unsigned_abs}
use Rattle.std.proofs.lemmas.Int.{ints}
use Rattle.std.proofs.lemmas.List.{take_all}
use Rattle.std.proofs.lemmas.List.Elements.{All-same}
use Rattle.escrow_units.specs.Calendar.{years_after_of}
use Rattle.offer_book.specs.Coefficients.{Enclosure, cost_coefficients, pay_coefficients}
use Rattle.offer_book.specs.declared.coefficients.PayCoefficients.{PayCoefficients}
use Rattle.dual_bound.specs.LeafBound.{cost_worth, paid_worth}
use Rattle.dual_bound.specs.declared.form.Form.{Form}
use Rattle.dual_bound.proofs.FormFacts.{amount_form, form_plus, priced_form-is, form_with, form_with-more, form_with-none, pays-within}
use Rattle.dual_bound.proofs.Signed.{read-again}
use Rattle.dual_bound.proofs.Sizes.{IsSized, abs-sum, cost-sized, pays-sized, step-small}
use Rattle.dual_bound.proofs.leaf_bound.priced_form.Goals as goal

pub of_amount-form-requires-clause-low : goal.of_amount-form-requires-clause-low
of_amount-form-requires-clause-low c =
    omega (arith, ap (λ (e : Enclosure). e.low) c.coefficients-coefficients.ensures.costs, (cost-sized c.args.book.now.days c.args.line.now c.requires.line).low, step-small c.args.book.now.days c.args.line.now c.requires.line)

pub of_amount-form-requires-clause-high : goal.of_amount-form-requires-clause-high
of_amount-form-requires-clause-high c =
    omega (arith, ap (λ (e : Enclosure). e.high) c.coefficients-coefficients.ensures.costs, (cost-sized c.args.book.now.days c.args.line.now c.requires.line).high, step-small c.args.book.now.days c.args.line.now c.requires.line)

pub of_amount-form-requires-clause-slack : goal.of_amount-form-requires-clause-slack
of_amount-form-requires-clause-slack c =
    omega (arith, ap (λ (e : Enclosure). e.slack) c.coefficients-coefficients.ensures.costs, (cost-sized c.args.book.now.days c.args.line.now c.requires.line).slack)

pub paid_worth-worth-requires-clause-from : goal.paid_worth-worth-requires-clause-from
paid_worth-worth-requires-clause-from c =
    let items = c.as_slice-pay-items.ensures.value ∙ c.coefficients-coefficients.ensures.pays ∙ ap (λ days. pay_coefficients days c.args.line.now) c.payment_days.ensures in
    let within = All-same (λ (pay : PayCoefficients). (c.args.book.now.days.settle ≤ℤ pay.day) × (pay.day ≤ℤ years_after_of c.args.book.now.days.settle 40)) c.as_slice-pay-items.result.now (pay_coefficients c.args.book.now.days c.args.line.now)
    items (pays-within c.args.book.now.days c.args.line.now c.requires.limits.settlement c.requires.line) c.loop-pay.pay-index c.pay-item.result c.loop-pay-test.true in
    omega (arith, ints, ap (λ (pay : PayCoefficients). pay.day) c.pay-item.is, within.0)

pub paid_worth-worth-requires-clause-to : goal.paid_worth-worth-requires-clause-to
paid_worth-worth-requires-clause-to c =
    let items = c.as_slice-pay-items.ensures.value ∙ c.coefficients-coefficients.ensures.pays ∙ ap (λ days. pay_coefficients days c.args.line.now) c.payment_days.ensures in
    let within = All-same (λ (pay : PayCoefficients). (c.args.book.now.days.settle ≤ℤ pay.day) × (pay.day ≤ℤ years_after_of c.args.book.now.days.settle 40)) c.as_slice-pay-items.result.now (pay_coefficients c.args.book.now.days c.args.line.now)
    items (pays-within c.args.book.now.days c.args.line.now c.requires.limits.settlement c.requires.line) c.loop-pay.pay-index c.pay-item.result c.loop-pay-test.true in
    omega (arith, ints, ap (λ (pay : PayCoefficients). pay.day) c.pay-item.is, within.1)

pub of_payment-requires-clause-low : goal.of_payment-requires-clause-low
of_payment-requires-clause-low c =
    let items = c.as_slice-pay-items.ensures.value ∙ c.coefficients-coefficients.ensures.pays ∙ ap (λ days. pay_coefficients days c.args.line.now) c.payment_days.ensures in
    let sized = All-same (IsSized c.args.line.now.step) c.as_slice-pay-items.result.now (pay_coefficients c.args.book.now.days c.args.line.now) items
    (pays-sized c.args.book.now.days c.args.line.now c.requires.limits.settlement c.requires.line) c.loop-pay.pay-index c.pay-item.result c.loop-pay-test.true in
    omega (arith, ap (λ (pay : PayCoefficients). pay.low) c.pay-item.is, sized.low, step-small c.args.book.now.days c.args.line.now c.requires.line)

pub of_payment-requires-clause-high : goal.of_payment-requires-clause-high
of_payment-requires-clause-high c =
    let items = c.as_slice-pay-items.ensures.value ∙ c.coefficients-coefficients.ensures.pays ∙ ap (λ days. pay_coefficients days c.args.line.now) c.payment_days.ensures in
    let sized = All-same (IsSized c.args.line.now.step) c.as_slice-pay-items.result.now (pay_coefficients c.args.book.now.days c.args.line.now) items
    (pays-sized c.args.book.now.days c.args.line.now c.requires.limits.settlement c.requires.line) c.loop-pay.pay-index c.pay-item.result c.loop-pay-test.true in
    omega (arith, ap (λ (pay : PayCoefficients). pay.high) c.pay-item.is, sized.high, step-small c.args.book.now.days c.args.line.now c.requires.line)

pub of_payment-requires-clause-slack : goal.of_payment-requires-clause-slack
of_payment-requires-clause-slack c =
    let items = c.as_slice-pay-items.ensures.value ∙ c.coefficients-coefficients.ensures.pays ∙ ap (λ days. pay_coefficients days c.args.line.now) c.payment_days.ensures in
    let sized = All-same (IsSized c.args.line.now.step) c.as_slice-pay-items.result.now (pay_coefficients c.args.book.now.days c.args.line.now) items
    (pays-sized c.args.book.now.days c.args.line.now c.requires.limits.settlement c.requires.line) c.loop-pay.pay-index c.pay-item.result c.loop-pay-test.true in
    omega (arith, ap (λ (pay : PayCoefficients). pay.slack) c.pay-item.is, sized.slack)

pub loop-pay-init : goal.loop-pay-init
loop-pay-init c =
    let costs = cost_coefficients c.args.line.now in
    let weight = paid_worth c.args.powers.now.yield_units c.args.book.now c.args.leaf.now c.args.line.now.kind in
    let own = cost_worth c.args.leaf.now c.args.line.now.kind in
    let is = sym c.coefficients-coefficients.ensures.costs in
    let worth = read-again c.cost_worth.result (omega (arith, c.cost_worth.ensures.light)) ∙ c.cost_worth.ensures.value in
    let value = c.of_amount-form.ensures.value ∙ (λ i. amount_form (worth i) (is i).low (is i).high (is i).slack)
    ∙ form_with-none weight own costs in
    (value, omega (arith, c.of_amount-form.ensures.slope), omega (arith, c.of_amount-form.ensures.slack))

pub loop-pay-preserved : goal.loop-pay-preserved
loop-pay-preserved c =
    let costs = cost_coefficients c.args.line.now in
    let weight = paid_worth c.args.powers.now.yield_units c.args.book.now c.args.leaf.now c.args.line.now.kind in
    let own = cost_worth c.args.leaf.now c.args.line.now.kind in
    let value = c.plus-form.ensures ∙ (λ i. form_plus (c.loop-pay.invariant.0 i) (c.of_payment.ensures.value i))
    ∙ form_with-more weight own costs c.as_slice-pay-items.result.now c.loop-pay.pay-index c.pay-item.result _ c.loop-pay-test.true c.pay-item.is
    (read-again c.paid_worth-worth.result (omega (arith, c.paid_worth-worth.ensures.light)) ∙ c.paid_worth-worth.ensures.value) in (
      value,
      omega (arith, ap (λ (f : Form). unsigned_abs f.slope) c.plus-form.ensures, abs-sum c.loop-pay.form.slope c.of_payment.result.slope, c.loop-pay.invariant.1, c.of_payment.ensures.slope),
      omega (arith, ap (λ (f : Form). f.slack) c.plus-form.ensures, c.loop-pay.invariant.2, c.of_payment.ensures.slack),
    )

pub returns : goal.returns
returns c =
    let items = c.as_slice-pay-items.ensures.value ∙ c.coefficients-coefficients.ensures.pays ∙ ap (λ days. pay_coefficients days c.args.line.now) c.payment_days.ensures in
    let whole = take_all c.loop-pay.pay-index c.as_slice-pay-items.result.now (omega arith) ∙ items in
    let weight = paid_worth c.args.powers.now.yield_units c.args.book.now c.args.leaf.now c.args.line.now.kind in
    c.loop-pay.invariant.0 ∙ ap (form_with weight (cost_worth c.args.leaf.now c.args.line.now.kind) (cost_coefficients c.args.line.now)) whole
    ∙ sym (priced_form-is c.args.powers.now.yield_units c.args.book.now c.args.leaf.now c.args.line.now)
