use mir.Syntax.{w128}
use Rattle.std.proofs.Common.{◌≡◌, ◌∙◌, length, inl, inr, sym, ap, subst, arith}
use Rattle.std.proofs.lemmas.Int.{ints, to_z-of_z}
use Rattle.proof_tree.specs.Tree.{IsLeaf, with_price}
use Rattle.dual_tune.specs.Steps.{price_beside}
use Rattle.dual_tune.specs.Sweep.{IsBest, IsPlaced, bound_at, stepped}
use Rattle.dual_tune.specs.declared.sweep.Best.{Best}
use Rattle.dual_tune.proofs.SweepFacts.{leaf-beside}
use Rattle.dual_tune.proofs.sweep.Sweep.try_price.Goals as goal

pub returns-clause-best : goal.returns-clause-best
returns-clause-best c =
    let given = c.args.given.now in
    let dates = length given.book.now.needs in
    let is : c.price_beside-price.result ≡ price_beside given.leaf.now.prices c.args.place c.args.side =
    c.price_beside-price.ensures ∙ ap (λ prices. price_beside prices c.args.place c.args.side) c.as_slice-prices.ensures in
    let step = subst (λ price. IsLeaf dates (with_price given.leaf.now c.args.place price)) (sym is) (leaf-beside dates given.leaf.now c.args.place c.args.side given.well_formed c.requires.place) in
    let reached = to_z-of_z w128 c.bound_of_price_step-reached.result (record { sfits = c.bound_of_price_step-reached.type_inv }) ∙ c.bound_of_price_step-reached.ensures.value
    ∙ ap (λ price. bound_at given (with_price given.leaf.now c.args.place price)) (sym is) in
    elim c.better.ensures.one [
      | inl same ↦ subst (IsBest given) (sym same) c.requires.best
      | inr same ↦
          record {
            placed = subst (λ (b : Best). IsPlaced (dates) b.step) (sym same) c.requires.place;
            well_formed = subst (λ (b : Best). IsLeaf (dates) (stepped given.leaf.now b.step)) (sym same) step;
            bound = ap (λ (b : Best). b.bound) same ∙ (reached ∙ sym (ap (λ (b : Best). bound_at given (stepped given.leaf.now b.step)) same));
            no_less = omega (arith, ints, c.requires.best.no_less, c.better.ensures.first);
          }
    ]

pub returns-clause-tried : goal.returns-clause-tried
returns-clause-tried c =
    let reached = to_z-of_z w128 c.bound_of_price_step-reached.result (record { sfits = c.bound_of_price_step-reached.type_inv }) ∙ c.bound_of_price_step-reached.ensures.value in
    omega (arith, ints, reached, c.better.ensures.second)
