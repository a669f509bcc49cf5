use Rattle.std.proofs.Common.{◌≡◌, map, take}
use Rattle.offer_book.specs.Coefficients.{pay_by}
use Rattle.offer_book.proofs.coefficients.pays_of.Given as goal

abbrev pub invariant-loop-payment : goal.invariant-loop-payment
invariant-loop-payment l = l.pays.items ≡ map (pay_by l.rate.0 l.step.0) (take l.payment-index l.schedule)
