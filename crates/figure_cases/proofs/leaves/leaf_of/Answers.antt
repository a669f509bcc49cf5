use Rattle.figure_cases.proofs.leaves.leaf_of.Goals as goal

pub returns-in-Ok-copy : goal.returns-in-Ok-copy
returns-in-Ok-copy c = rw c.in-Ok-copy.ensures (c.in-Some.ensures c.args.dates (rw c.as_slice.ensures c.in-Ok.ensures.ok.well_formed.nodes))
