use Rattle.cash_table.proofs.PortfolioLaws.{cost_parts}
use Rattle.cash_table.proofs.laws.cost_parts.Goals as goal

pub returns : goal.returns
returns c = cost_parts
