use Rattle.cash_table.proofs.PortfolioLaws.{empty_flows, empty_at_no_cost}
use Rattle.cash_table.proofs.laws.empty_flows.Goals as goal

pub returns-clause-units : goal.returns-clause-units
returns-clause-units c = empty_flows

pub returns-clause-cost : goal.returns-clause-cost
returns-clause-cost c = empty_at_no_cost
