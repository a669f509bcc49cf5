use Rattle.held_escrow.proofs.CaseFacts.{cases-are_alike, cases-are_one, cases-keep_limits}
use Rattle.held_escrow.proofs.HoldingFacts.{files-give, files-hold}
use Rattle.held_escrow.proofs.ResidualLaws.{residuals-are_one}
use Rattle.held_escrow.proofs.laws.held_laws.Goals as goal

pub returns-clause-residuals : goal.returns-clause-residuals
returns-clause-residuals c = residuals-are_one

pub returns-clause-one : goal.returns-clause-one
returns-clause-one c = cases-are_one

pub returns-clause-limits : goal.returns-clause-limits
returns-clause-limits c = cases-keep_limits

pub returns-clause-alike : goal.returns-clause-alike
returns-clause-alike c = cases-are_alike

pub returns-clause-holdings : goal.returns-clause-holdings
returns-clause-holdings c = files-give

pub returns-clause-rows : goal.returns-clause-rows
returns-clause-rows c = files-hold
