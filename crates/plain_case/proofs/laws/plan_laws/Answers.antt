use Rattle.plain_case.proofs.PlanFacts.{plan_worth}
use Rattle.plain_case.proofs.laws.plan_laws.Goals as goal

pub returns : goal.returns
returns c = plan_worth
