use Rattle.escrow_units.proofs.YearFacts.{kinds-exclusive, kinds-exhaustive}
use Rattle.escrow_units.proofs.calendar_laws.kind_laws.Goals as goal

pub returns-clause-exclusive : goal.returns-clause-exclusive
returns-clause-exclusive c = kinds-exclusive

pub returns-clause-exhaustive : goal.returns-clause-exhaustive
returns-clause-exhaustive c = kinds-exhaustive
