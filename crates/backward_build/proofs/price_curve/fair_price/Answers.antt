use Rattle.std.proofs.Common.{◌∙◌, ◌*◌, ◌^◌, ◌≤◌, ℕ, length, ap, arith}
use Rattle.std.proofs.lemmas.List.Elements.{All-same}
use Rattle.offer_book.specs.Coefficients.{Enclosure, pay_coefficients}
use Rattle.offer_book.specs.declared.coefficients.PayCoefficients.{PayCoefficients}
use Rattle.backward_build.specs.PriceCurve.{unit_paid_in}
use Rattle.backward_build.specs.Span.{span_of}
use Rattle.backward_build.specs.declared.span.Span.{Span}
use Rattle.backward_build.proofs.CurveFacts.{cost_small, own_pays_some, pays_small}
use Rattle.backward_build.proofs.price_curve.fair_price.Goals as goal

pub unit_paid-paid-requires-clause-pays : goal.unit_paid-paid-requires-clause-pays
unit_paid-paid-requires-clause-pays c =
    let items = c.as_slice.ensures.value ∙ c.coefficients-coefficients.ensures.pays ∙ ap (λ days. pay_coefficients days c.args.line.now) c.payment_days.ensures in
    All-same (λ (pay : PayCoefficients). pay.high ≤ 10 ^ 18) c.as_slice.result.now (pay_coefficients c.args.book.now.days c.args.line.now) items
    (pays_small c.args.book.now.days c.args.line.now c.needs-needs.ensures.limits.settlement c.requires.line)

pub overflow_mul-from : goal.overflow_mul-from
overflow_mul-from c =
    let low = ap (λ (e : Enclosure). e.low) c.coefficients-coefficients.ensures.costs in
    let small = cost_small c.args.book.now.days c.args.line.now c.requires.line in
    let product = ap (λ (n : ℕ). n * c.coefficients-coefficients.result.cost_low) c.from.ensures in
    record { fits = omega (arith, product, low, small) }

pub shared-requires : goal.shared-requires
shared-requires c =
    let items = c.as_slice.ensures.value ∙ c.coefficients-coefficients.ensures.pays ∙ ap (λ days. pay_coefficients days c.args.line.now) c.payment_days.ensures in
    let span = c.of-span.ensures ∙ ap (λ needs. span_of needs (length c.args.prices.now)) c.needs-needs.ensures.value in
    let left = c.unit_paid-paid.ensures.left
    ∙ ap (λ (s : Span). unit_paid_in s c.as_slice.result.now) span
    ∙ ap (unit_paid_in (span_of c.args.book.now.needs (length c.args.prices.now))) items in
    rw left (own_pays_some c.args.book.now.days c.args.book.now.needs (length c.args.prices.now) c.args.line.now c.needs-needs.ensures.limits.settlement c.needs-needs.ensures.limits.needs.rising c.requires.place c.requires.line c.requires.own)
