use Rattle.std.proofs.Common.{arith}
use Rattle.cash_table.proofs.CostFacts.{cost_at_most, security_cost_at_most}
use Rattle.cash_table.proofs.FlowFacts.{flows_at_most}
use Rattle.cash_table.proofs.laws.bounds.Goals as goal

pub returns-clause-cost : goal.returns-clause-cost
returns-clause-cost c = cost_at_most

pub returns-clause-flows : goal.returns-clause-flows
returns-clause-flows c = flows_at_most

pub returns-clause-limit : goal.returns-clause-limit
returns-clause-limit c = λ book plan limits permitted. omega (arith, flows_at_most book plan limits permitted, security_cost_at_most book plan limits permitted)
