use Rattle.std.proofs.Common.{◌≡◌, ◌∙◌, sym, ap, subst, Option, None, is_some}
use Rattle.std.specs.Prelude.{IsNone}
use Rattle.case_file.specs.Case.{CaseContents}
use Rattle.node_pool.specs.Pool.{IsInHand, with_state}
use Rattle.node_pool.specs.Tree.{AreEnded}
use Rattle.node_pool.specs.declared.node.NodeId.{NodeId}
use Rattle.node_pool.specs.declared.node.State.TheVariants as state
use Rattle.search_tree.specs.Growing.{HasGrown, IsPopped, obeys}
use Rattle.search_tree.specs.Tree.{TreeContents}
use Rattle.branch_search.proofs.EndFacts.{none-by}
use Rattle.branch_search.proofs.GrowthFacts.{none-ended, popped-next}
use Rattle.branch_search.proofs.PartFacts.{covers-cheaper, no_dearer-trans}
use Rattle.branch_search.specs.Growth.{IsGrowth, IsTakenTo}
use Rattle.branch_search.specs.Parts.{best_cents}
use Rattle.branch_search.specs.declared.growing.Growth.{Growth}
use Rattle.branch_search.proofs.parts.Search.grow.Goals as goal

pub take-requires-clause-held : goal.take-requires-clause-held
take-requires-clause-held g c =
    let now = c.args.self.now in
    let tree = c.loop-node.tree in
    let best = best_cents c.loop-node.self.best in
    let number = c.in-Some.node.0 in
    let taken : IsInHand (with_state tree.pool.states number state.InHand) number = subst (λ (t : TreeContents). IsInHand t.pool.states number) c.in-Some.ensures.some.1 c.in-Some.ensures.in_hand in
    subst (λ (k : CaseContents). IsPopped k (obeys k c.args.rule) best c.pop.new.self.pool.states c.pop.new.self.nodes number) (sym c.loop-node.invariant.0)
    (subst (λ (t : TreeContents). IsPopped now.case (obeys now.case c.args.rule) best t.pool.states t.nodes number) (sym c.in-Some.ensures.some.1)
    (popped-next now.case (obeys now.case c.args.rule) best tree.pool.states tree.nodes number c.pop.ensures.one c.loop-node.invariant.1 c.in-Some.ensures.some.0 taken))

pub returns-in-Some-2-clause-growth : goal.returns-in-Some-2-clause-growth
returns-in-Some-2-clause-growth g c =
    let best = best_cents c.take.new.self.best in
    subst (λ (k : CaseContents). IsGrowth k (obeys k c.args.rule) best c.take.new.tree c.in-Some-2.growth) c.loop-node.invariant.0
    (subst (λ (e : Option Growth). IsTakenTo c.loop-node.self.case (obeys c.loop-node.self.case c.args.rule) best c.take.new.tree e) c.in-Some-2.is c.in_ok-growth.ensures.taken)

none-is : (found : Option NodeId) → found ≡ None → IsNone found
none-is found is = ap (λ (o : Option NodeId). is_some o) is

pub returns-clause-growth : goal.returns-clause-growth
returns-clause-growth g c =
    let now = c.args.self.now in
    let tree = c.loop-node.tree in
    let best = best_cents c.loop-node.self.best in
    let is : c.pop.result ≡ None = none-by c.pop.result c.in_default.not-Some in
    let told = c.pop.ensures.none (none-is c.pop.result is) in
    record {
      grown = subst (λ (t : TreeContents). HasGrown now.case (obeys now.case c.args.rule) best t.pool.states t.nodes) (sym told.1) c.loop-node.invariant.1;
      ended = subst (λ (t : TreeContents). AreEnded t.pool.states) (sym told.1) (none-ended tree.pool.states c.loop-node.invariant.1.1.none told.0);
    }

pub loop-node-preserved : goal.loop-node-preserved
loop-node-preserved g c =
    let now = c.args.self.now in
    let before = c.loop-node.self in
    let tree = c.take.new.tree in
    let best = best_cents c.take.new.self.best in (
      c.in_ok-growth.ensures.case ∙ c.loop-node.invariant.0,
      subst (λ (k : CaseContents). HasGrown k (obeys k c.args.rule) best tree.pool.states tree.nodes) c.loop-node.invariant.0
          (subst (λ (e : Option Growth). IsTakenTo before.case (obeys before.case c.args.rule) best tree e) (none-by c.in_ok-growth.field-0 c.in_default-2.not-Some) c.in_ok-growth.ensures.taken),
      covers-cheaper now.case (best_cents before.best) best c.in_ok-growth.ensures.no_dearer c.loop-node.invariant.2,
      no_dearer-trans (best_cents now.best) (best_cents before.best) best c.loop-node.invariant.3 c.in_ok-growth.ensures.no_dearer,
      c.in_ok-growth.ensures.capacity ∙ ap (λ (t : TreeContents). t.pool.capacity) c.in-Some.ensures.some.1 ∙ c.loop-node.invariant.4,
    )
