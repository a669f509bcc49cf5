use Rattle.search_tree.proofs.LawFacts.{closed_trees_show, full_trees_show}
use Rattle.search_tree.proofs.laws.tree_laws.Goals as goal

pub returns : goal.returns
returns c = record { closed = closed_trees_show; full = full_trees_show }
