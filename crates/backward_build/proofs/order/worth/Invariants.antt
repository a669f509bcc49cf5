use Rattle.std.proofs.Common.{◌≡◌, ◌*◌, ◌^◌, ◌≤◌, take}
use Rattle.std.specs.List.{sum_by}
use Rattle.offer_book.specs.declared.coefficients.PayCoefficients.{PayCoefficients}
use Rattle.dual_bound.specs.LeafBound.{price_on}
use Rattle.backward_build.proofs.order.worth.Given as goal

abbrev pub invariant-loop-pay : goal.invariant-loop-pay
invariant-loop-pay l = record {
  value : l.worth ≡ sum_by (λ (pay : PayCoefficients). price_on l.needs l.prices pay.day * pay.high) (take l.pay-index l.pays);
  small : l.worth ≤ l.pay-index * (2 * 10 ^ 30);
}
