use Rattle.escrow_units.proofs.DayFacts.{thirty_day_place_of-mono, thirty_day_place_of-years}
use Rattle.escrow_units.proofs.calendar_laws.index_laws.Goals as goal

pub returns-clause-rise : goal.returns-clause-rise
returns-clause-rise c = thirty_day_place_of-mono

pub returns-clause-bound : goal.returns-clause-bound
returns-clause-bound c = thirty_day_place_of-years
