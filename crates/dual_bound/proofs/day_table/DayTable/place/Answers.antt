use Rattle.dual_bound.proofs.TableFacts.{on-ok}
use Rattle.dual_bound.proofs.day_table.DayTable.place.Goals as goal

pub returns-in-Cash-clause-table : goal.returns-in-Cash-clause-table
returns-in-Cash-clause-table c = on-ok c.cash_place.result c.cash_place.ensures.table (λ keeps. keeps c.args.powers.now.yield_units c.requires.table)
