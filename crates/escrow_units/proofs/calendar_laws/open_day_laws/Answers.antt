use Rattle.escrow_units.proofs.OpenDayFacts.{open_day-least, open_day-unique, open_day-stays, none-is-moved, open_day-order, open_day-near}
use Rattle.escrow_units.proofs.calendar_laws.open_day_laws.Goals as goal

pub returns-clause-least : goal.returns-clause-least
returns-clause-least c = open_day-least

pub returns-clause-unique : goal.returns-clause-unique
returns-clause-unique c = open_day-unique

pub returns-clause-stay : goal.returns-clause-stay
returns-clause-stay c = open_day-stays

pub returns-clause-none : goal.returns-clause-none
returns-clause-none c = none-is-moved

pub returns-clause-order : goal.returns-clause-order
returns-clause-order c = open_day-order

pub returns-clause-near : goal.returns-clause-near
returns-clause-near c = open_day-near
