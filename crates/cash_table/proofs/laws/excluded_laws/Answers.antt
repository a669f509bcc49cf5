use Rattle.cash_table.proofs.PointFacts.{beyond_limit, beyond_no_rival, no_rival}
use Rattle.cash_table.proofs.laws.excluded_laws.Goals as goal

pub returns-clause-rivals : goal.returns-clause-rivals
returns-clause-rivals c = no_rival

pub returns-clause-beyond : goal.returns-clause-beyond
returns-clause-beyond c = beyond_limit

pub returns-clause-limit : goal.returns-clause-limit
returns-clause-limit c = beyond_no_rival
