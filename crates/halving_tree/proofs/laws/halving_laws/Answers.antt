use Rattle.halving_tree.proofs.Parts.{parts_are_few, parts_are_within}
use Rattle.halving_tree.proofs.laws.halving_laws.Goals as goal

pub returns : goal.returns
returns c = record { within = parts_are_within; few = parts_are_few }
