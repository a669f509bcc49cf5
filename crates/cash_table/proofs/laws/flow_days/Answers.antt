use Rattle.cash_table.proofs.FlowFacts.{flows_within}
use Rattle.cash_table.proofs.LaterFacts.{flows_later}
use Rattle.cash_table.proofs.laws.flow_days.Goals as goal

pub returns-clause-within : goal.returns-clause-within
returns-clause-within c = flows_within

pub returns-clause-later : goal.returns-clause-later
returns-clause-later c = flows_later
