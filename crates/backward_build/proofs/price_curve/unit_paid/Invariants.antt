use Rattle.std.proofs.Common.{◌≡◌, ◌*◌, ◌^◌, ◌≤◌, take}
use Rattle.backward_build.specs.PriceCurve.{unit_paid_in, worth_at}
use Rattle.backward_build.proofs.price_curve.unit_paid.Given as goal

abbrev pub invariant-loop-pay : goal.invariant-loop-pay
invariant-loop-pay l =
    (l.worth ≡ worth_at l.needs l.prices (take l.pay-index l.pays)) × (l.left ≡ unit_paid_in l.span (take l.pay-index l.pays))
    × (l.worth ≤ l.pay-index * 10 ^ 30) × (l.left ≤ l.pay-index * 10 ^ 18)
