use Rattle.std.proofs.Common.{arith}
use Rattle.dual_bound.proofs.LoadFacts.{coarse-small}
use Rattle.dual_bound.proofs.leaf_bound.unit_load.Goals as goal

pub scaled_load-requires-clause-coarse : goal.scaled_load-requires-clause-coarse
scaled_load-requires-clause-coarse c = omega (arith, c.requires.coarse, coarse-small c.args.book.now c.requires.limits)
