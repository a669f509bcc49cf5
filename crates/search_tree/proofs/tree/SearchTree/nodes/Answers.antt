use Rattle.std.proofs.Common.{List, length, sym, subst}
use Rattle.std.specs.List.{All}
use Rattle.node_pool.specs.Tree.{IsPreorderOf}
use Rattle.node_pool.specs.declared.node.Link.{Link}
use Rattle.search_tree.specs.Tree.{HaveOwnNumbers, IsInside, TreeContents}
use Rattle.search_tree.proofs.InsideFacts.{all-inside}
use Rattle.search_tree.proofs.tree.SearchTree.nodes.Goals as goal

pub loop-link-init : goal.loop-link-init
loop-link-init c =
    let preorder : IsPreorderOf c.self.inside.pool.states c.in_ok-links.links.items = c.in_ok-links.ensures in
    let own : HaveOwnNumbers c.self.inside.pool.states = subst (λ (t : TreeContents). HaveOwnNumbers t.pool.states) (sym c.self.view_is) c.requires.own in
    record {
      written = c.in_ok-nodes.ensures.items;
      inside = subst (λ (links : List Link). All (IsInside (length c.args.self.now.nodes)) links) (sym c.as_slice-link-items.ensures.value)
          (subst (λ (t : TreeContents). All (IsInside (length t.nodes)) c.in_ok-links.links.items) c.self.view_is
          (all-inside c.self.inside.pool.states c.in_ok-links.links.items (length c.self.inside.nodes.items) c.self.invariant.0 own preorder));
    }
