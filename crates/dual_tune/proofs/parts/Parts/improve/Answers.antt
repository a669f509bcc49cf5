use mir.Syntax.{w128}
use mir.Val.{SFits}
use Rattle.std.proofs.Common.{◌≡◌, ◌∙◌, ◌==◌, ℕ, length, sym, ap, subst, refl, arith, rules}
use Rattle.std.proofs.lemmas.Int.{ints, to_z-of_z}
use Rattle.node_ranges.specs.Claims.{least_cost}
use Rattle.proof_tree.specs.Tree.{IsLeaf}
use Rattle.proof_tree.specs.declared.tree.Leaf.{Leaf}
use Rattle.dual_tune.specs.Sweep.{bound_at, shown_at, stepped}
use Rattle.dual_tune.proofs.SweepFacts.{shown-rises, step-weight, step-weights, step-whole}
use Rattle.dual_tune.proofs.parts.Parts.improve.Goals as goal

pub returns-then-proposed-reached-clause-improved : goal.returns-then-proposed-reached-clause-improved
returns-then-proposed-reached-clause-improved c =
    let given = c.args.given.now in
    let best = c.best_step-best in
    let same = c.copy_leaf.ensures in
    let fits : SFits w128 best.result.bound = search rules in
    let reached : c.least_cost-reached.result ≡ least_cost given.leaf.now.rho best.result.bound =
    c.least_cost-reached.ensures ∙ ap (least_cost given.leaf.now.rho) (to_z-of_z w128 best.result.bound fits) in
    let shown : c.propose-proposed.result ≡ shown_at given c.copy_leaf.new.into = c.propose-proposed.ensures.shown ∙ ap (shown_at given) (sym same) in
    record {
      well_formed = subst (IsLeaf (length given.book.now.needs)) (sym same) c.propose-proposed.ensures.parts.proposed;
      unweighted = ap (λ (l : Leaf). l.weights) same ∙ c.propose-proposed.ensures.unweighted;
      alike = c.propose-proposed.ensures.alike ∙ ap (λ (l : Leaf). l.rho == 0) (sym same);
      given =
          let rises = shown-rises given given.leaf.now given.leaf.now.rho best.result.bound refl best.ensures.best.no_less in
          omega (arith, ints, shown, rises, reached, c.if-proposed-reached.true);
      steps = λ step is.
          let rises = shown-rises given step given.leaf.now.rho best.result.bound (step-weight given.leaf.now step is) (best.ensures.steps step is) in
          omega (arith, ints, shown, rises, reached, c.if-proposed-reached.true);
    }

pub returns-clause-improved : goal.returns-clause-improved
returns-clause-improved c =
    let given = c.args.given.now in
    let best = c.best_step-best in
    let same : c.take_step.new.leaf ≡ stepped given.leaf.now best.result.step = c.take_step.ensures ∙ ap (λ l. stepped l best.result.step) c.copy_leaf-2.ensures in
    let whole : c.take_step.new.leaf.rho ≡ given.leaf.now.rho = ap (λ (l : Leaf). l.rho) same ∙ step-whole given.leaf.now best.result.step in
    let bound : best.result.bound ≡ bound_at given c.take_step.new.leaf = best.ensures.best.bound ∙ ap (bound_at given) (sym same) in
    let shown : least_cost given.leaf.now.rho best.result.bound ≡ shown_at given c.take_step.new.leaf =
    ap (λ (w : ℕ). least_cost w best.result.bound) (sym whole) ∙ ap (least_cost c.take_step.new.leaf.rho) bound in
    record {
      well_formed = subst (IsLeaf (length given.book.now.needs)) (sym same) best.ensures.best.well_formed;
      unweighted = ap (λ (l : Leaf). l.weights) same ∙ step-weights given.leaf.now best.result.step ∙ given.unweighted;
      alike = ap (λ (w : ℕ). w == 0) (sym whole);
      given =
          let rises = shown-rises given given.leaf.now given.leaf.now.rho best.result.bound refl best.ensures.best.no_less in
          omega (arith, ints, shown, rises);
      steps = λ step is.
          let rises = shown-rises given step given.leaf.now.rho best.result.bound (step-weight given.leaf.now step is) (best.ensures.steps step is) in
          omega (arith, ints, shown, rises);
    }

pub returns-clause-shown : goal.returns-clause-shown
returns-clause-shown c =
    let given = c.args.given.now in
    let best = c.best_step-best in
    let same : c.take_step.new.leaf ≡ stepped given.leaf.now best.result.step = c.take_step.ensures ∙ ap (λ l. stepped l best.result.step) c.copy_leaf-2.ensures in
    let whole : c.take_step.new.leaf.rho ≡ given.leaf.now.rho = ap (λ (l : Leaf). l.rho) same ∙ step-whole given.leaf.now best.result.step in
    let bound : best.result.bound ≡ bound_at given c.take_step.new.leaf = best.ensures.best.bound ∙ ap (bound_at given) (sym same) in
    let fits : SFits w128 best.result.bound = search rules in
    let fits_reached : SFits w128 c.least_cost-reached.result = search rules in
    to_z-of_z w128 c.least_cost-reached.result fits_reached
    ∙ c.least_cost-reached.ensures ∙ ap (least_cost given.leaf.now.rho) (to_z-of_z w128 best.result.bound fits)
    ∙ ap (λ (w : ℕ). least_cost w best.result.bound) (sym whole) ∙ ap (least_cost c.take_step.new.leaf.rho) bound
