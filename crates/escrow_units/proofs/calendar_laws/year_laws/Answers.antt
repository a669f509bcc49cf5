use Rattle.escrow_units.proofs.SeriesFacts.{years_after_of-none}
use Rattle.escrow_units.proofs.YearFacts.{years_after_of-passes, years_after_of-day, settlement-base}
use Rattle.escrow_units.proofs.calendar_laws.year_laws.Goals as goal

pub returns-clause-pass : goal.returns-clause-pass
returns-clause-pass c = years_after_of-passes

pub returns-clause-none : goal.returns-clause-none
returns-clause-none c = years_after_of-none

pub returns-clause-days : goal.returns-clause-days
returns-clause-days c = years_after_of-day

pub returns-clause-base : goal.returns-clause-base
returns-clause-base c = settlement-base
