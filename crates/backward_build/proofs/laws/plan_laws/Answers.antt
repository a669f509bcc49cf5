use Rattle.backward_build.proofs.BackwardFacts.{built_backward}
use Rattle.backward_build.proofs.laws.plan_laws.Goals as goal

pub returns : goal.returns
returns c = built_backward
