use Rattle.cash_table.proofs.PortfolioLaws.{zero_yield}
use Rattle.cash_table.proofs.laws.zero_yield.Goals as goal

pub returns : goal.returns
returns c = zero_yield
