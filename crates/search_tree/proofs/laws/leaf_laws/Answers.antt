use Rattle.search_tree.proofs.Rising.{bound-rises}
use Rattle.search_tree.proofs.ZeroFacts.{zeros-some}
use Rattle.search_tree.proofs.laws.leaf_laws.Goals as goal

pub returns : goal.returns
returns c = record { rise = bound-rises; zeros = zeros-some }
