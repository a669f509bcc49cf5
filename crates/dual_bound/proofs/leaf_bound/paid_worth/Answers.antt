use Rattle.std.proofs.Common.{◌∙◌, ◌≤◌, ◌*◌, pos, ◌-ℤ◌, sym, subst, unsigned_abs, arith}
use Rattle.std.proofs.lemmas.Int.{ints}
use Rattle.dual_bound.specs.LeafBound.{limit_price, price_on}
use Rattle.proof_tree.specs.declared.prices.TheConstants.{PRICE_SCALE}
use Rattle.dual_bound.proofs.Sizes.{paid_worth-light}
use Rattle.dual_bound.proofs.leaf_bound.paid_worth.Goals as goal

pub returns-clause-value : goal.returns-clause-value
returns-clause-value c =
    (omega (arith, ints))
    ∙ (λ i. pos (price_on (c.needs.ensures.value i) (c.as_slice.ensures i) c.args.day)
    -ℤ pos (limit_price c.args.powers.now.yield_units (c.settle.ensures i) (c.limit_multiplier.ensures i) c.args.day))

pub returns-clause-light : goal.returns-clause-light
returns-clause-light c =
    subst (λ z. unsigned_abs z ≤ 2 * PRICE_SCALE) (sym (returns-clause-value c))
    (paid_worth-light c.args.powers.now.yield_units c.args.book.now c.args.leaf.now c.args.kind c.requires.leaf c.args.day)
