use Rattle.issue_schedule.proofs.NeedFacts.{needs-total, needs-above, needs-rise, needs-within}
use Rattle.issue_schedule.proofs.laws.needs_laws.Goals as goal

pub returns-clause-total : goal.returns-clause-total
returns-clause-total c = needs-total

pub returns-clause-above : goal.returns-clause-above
returns-clause-above c = needs-above

pub returns-clause-rise : goal.returns-clause-rise
returns-clause-rise c = needs-rise

pub returns-clause-within : goal.returns-clause-within
returns-clause-within c = needs-within
