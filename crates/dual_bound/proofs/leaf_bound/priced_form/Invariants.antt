use Rattle.std.proofs.Common.{◌≡◌, ◌+◌, ◌*◌, ◌^◌, ◌≤◌, take, unsigned_abs}
use Rattle.offer_book.specs.Coefficients.{cost_coefficients}
use Rattle.dual_bound.specs.LeafBound.{cost_worth, paid_worth}
use Rattle.dual_bound.proofs.FormFacts.{form_with}
use Rattle.dual_bound.proofs.leaf_bound.priced_form.Given as goal

abbrev pub invariant-loop-pay : goal.invariant-loop-pay
invariant-loop-pay l =
    (l.form ≡ form_with (paid_worth l.powers.yield_units l.book l.leaf l.line.kind) (cost_worth l.leaf l.line.kind) (cost_coefficients l.line) (take l.pay-index l.pay-items))
    × (unsigned_abs l.form.slope ≤ (l.pay-index + 1) * (2 * 10 ^ 30)) × (l.form.slack ≤ (l.pay-index + 1) * (2 * 10 ^ 21))
