use Rattle.std.proofs.Common.{arith}
use Rattle.dual_bound.proofs.LoadFacts.{coarse-small}
use Rattle.dual_bound.proofs.loads.Loads.take.Goals as goal

pub load_depths-requires-clause-coarse : goal.load_depths-requires-clause-coarse
load_depths-requires-clause-coarse c = omega (arith, c.requires.loads.coarse, coarse-small c.args.book.now c.requires.limits)
