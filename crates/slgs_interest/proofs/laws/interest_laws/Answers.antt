use Rattle.slgs_interest.proofs.LeapDays.{basis-counts}
use Rattle.slgs_interest.proofs.Series.{dates-before}
use Rattle.slgs_interest.proofs.laws.interest_laws.Goals as goal

pub returns-clause-before : goal.returns-clause-before
returns-clause-before c = dates-before

pub returns-clause-basis : goal.returns-clause-basis
returns-clause-basis c = basis-counts
