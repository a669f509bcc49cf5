use Rattle.std.proofs.Common.{◌≤◌, ◌*◌, ◌∙◌, sym, subst, arith}
use Rattle.proof_tree.specs.declared.prices.TheConstants.{PRICE_SCALE}
use Rattle.dual_bound.proofs.DayFacts.{found}
use Rattle.dual_bound.proofs.Sizes.{price_on-small}
use Rattle.dual_bound.proofs.leaf_bound.price_on.Goals as goal

pub returns-clause-value : goal.returns-clause-value
returns-clause-value c =
    c.price_at.ensures
    ∙ found c.args.needs.now c.args.prices.now c.args.day c.place_of.result (sym c.requires.same) c.place_of.ensures.bound (λ k d lt. c.place_of.ensures.before k d (omega arith) lt)
    c.place_of.ensures.from

pub returns-clause-small : goal.returns-clause-small
returns-clause-small c = λ small. subst (λ n. n ≤ 2 * PRICE_SCALE) (sym (returns-clause-value c)) (price_on-small c.args.needs.now c.args.prices.now c.args.day small)
