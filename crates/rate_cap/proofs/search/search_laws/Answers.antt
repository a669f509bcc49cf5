use Rattle.rate_cap.proofs.EndFacts.{end-at_hundredths, end-at_zero}
use Rattle.rate_cap.proofs.search.search_laws.Goals as goal

pub returns-clause-hundredths : goal.returns-clause-hundredths
returns-clause-hundredths c = end-at_hundredths

pub returns-clause-zero : goal.returns-clause-zero
returns-clause-zero c = end-at_zero
