use Rattle.plain_case.proofs.OwnFacts.{excess_little, own_worth}
use Rattle.plain_case.proofs.laws.purchase_laws.Goals as goal

pub returns-clause-excess : goal.returns-clause-excess
returns-clause-excess c = excess_little

pub returns-clause-worth : goal.returns-clause-worth
returns-clause-worth c = own_worth
