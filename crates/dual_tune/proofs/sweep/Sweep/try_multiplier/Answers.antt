use mir.Syntax.{w128}
use Rattle.std.proofs.Common.{◌∙◌, length, inl, inr, sym, ap, subst, arith}
use Rattle.std.proofs.lemmas.Int.{ints, to_z-of_z}
use Rattle.proof_tree.specs.Tree.{IsLeaf}
use Rattle.dual_tune.specs.Steps.{with_multiplier}
use Rattle.dual_tune.specs.Sweep.{IsBest, IsPlaced, bound_at, stepped}
use Rattle.dual_tune.specs.declared.sweep.Best.{Best}
use Rattle.dual_tune.proofs.SweepFacts.{leaf-weighed}
use Rattle.dual_tune.proofs.sweep.Sweep.try_multiplier.Goals as goal

pub returns-clause-best : goal.returns-clause-best
returns-clause-best c =
    let given = c.args.given.now in
    let dates = length given.book.now.needs in
    let reached = to_z-of_z w128 c.bound_of_multiplier-reached.result (record { sfits = c.bound_of_multiplier-reached.type_inv }) ∙ c.bound_of_multiplier-reached.ensures.value
    ∙ ap (λ mu. bound_at given (with_multiplier given.leaf.now mu)) (sym c.mu_of.ensures.value) in
    elim c.better.ensures.one [
      | inl same ↦ subst (IsBest given) (sym same) c.requires.best
      | inr same ↦
          record {
            placed = subst (λ (b : Best). IsPlaced dates b.step) (sym same) tt;
            well_formed = subst (λ (b : Best). IsLeaf dates (stepped given.leaf.now b.step)) (sym same)
                (leaf-weighed dates given.leaf.now c.mu_of.result given.well_formed c.mu_of.ensures.limit);
            bound = ap (λ (b : Best). b.bound) same ∙ (reached ∙ sym (ap (λ (b : Best). bound_at given (stepped given.leaf.now b.step)) same));
            no_less = omega (arith, ints, c.requires.best.no_less, c.better.ensures.first);
          }
    ]

pub returns-clause-tried : goal.returns-clause-tried
returns-clause-tried c =
    let reached = to_z-of_z w128 c.bound_of_multiplier-reached.result (record { sfits = c.bound_of_multiplier-reached.type_inv }) ∙ c.bound_of_multiplier-reached.ensures.value in
    omega (arith, ints, reached, c.better.ensures.second)
