use Rattle.std.proofs.Common.{◌≡◌, ◌⊎◌, subst}
use Rattle.search_tree.specs.Tree.{IsBorneBy, IsNeededFor}
use Rattle.search_tree.specs.declared.node.SearchNode.{SearchNode}
use Rattle.branch_search.proofs.GapFacts.{gap-grown}
use Rattle.branch_search.proofs.gaps.tree_gap.Goals as goal

pub loop-number-preserved : goal.loop-number-preserved
loop-number-preserved c =
    gap-grown c.args.tree.now.nodes c.loop-number.number c.args.cost.0 c.loop-number.gap c.greater_gap-gap.result (record { borne = c.loop-number.invariant.borne; least = c.loop-number.invariant.least })
    c.greater_gap-gap.ensures.no_less
    (subst (λ (n : SearchNode). IsBorneBy n c.args.cost.0 c.greater_gap-gap.result) c.node.ensures c.greater_gap-gap.ensures.borne)
    (subst (λ (n : SearchNode). (c.greater_gap-gap.result ≡ c.loop-number.gap) ⊎ IsNeededFor n c.args.cost.0 c.greater_gap-gap.result) c.node.ensures c.greater_gap-gap.ensures.least)
