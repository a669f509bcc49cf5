use Rattle.cash_table.proofs.PortfolioLaws.{meets_cost}
use Rattle.cash_table.proofs.laws.meets_cost.Goals as goal

pub returns : goal.returns
returns c = meets_cost
