use Rattle.cash_table.proofs.PortfolioLaws.{zero_interest_total}
use Rattle.cash_table.proofs.laws.zero_interest_total.Goals as goal

pub returns : goal.returns
returns c = zero_interest_total
