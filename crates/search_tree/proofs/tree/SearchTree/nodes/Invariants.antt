use Rattle.std.proofs.Common.{◌≡◌, length, map, take}
use Rattle.std.specs.List.{All}
use Rattle.search_tree.specs.Growing.{node_of}
use Rattle.search_tree.specs.Tree.{IsInside, end_node, link_node}
use Rattle.search_tree.proofs.tree.SearchTree.nodes.Given as goal

abbrev pub invariant-loop-link : goal.invariant-loop-link
invariant-loop-link l = record {
  written : l.nodes.items ≡ map (link_node (λ number. end_node l.book.needs (node_of l.fn.self.nodes number))) (take l.link-index l.link-items);
  inside : All (IsInside (length l.fn.self.nodes)) l.link-items;
}
