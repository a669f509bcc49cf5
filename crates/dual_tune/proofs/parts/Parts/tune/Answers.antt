use Rattle.dual_tune.proofs.SweepFacts.{improved-more}
use Rattle.dual_tune.proofs.parts.Parts.tune.Goals as goal

pub returns-in-Some-clause-improved : goal.returns-in-Some-clause-improved
returns-in-Some-clause-improved c = improved-more c.args.given.now (improved-more c.args.given.now c.improve-shown.ensures.improved c.or_zeros-shown.ensures.better) c.better_of.ensures.better

pub returns-in-None-clause-improved : goal.returns-in-None-clause-improved
returns-in-None-clause-improved c = improved-more c.args.given.now c.improve-shown.ensures.improved c.or_zeros-shown.ensures.better
