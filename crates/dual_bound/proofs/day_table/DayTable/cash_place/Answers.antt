use Rattle.dual_bound.proofs.TableFacts.{on-ok-both, pushed}
use Rattle.dual_bound.proofs.day_table.DayTable.cash_place.Goals as goal

pub returns-clause-table : goal.returns-clause-table
returns-clause-table c =
    on-ok-both c.push.result c.push.ensures.days c.push.ensures.places
    (λ days places n h. pushed n c.args.book.now c.args.self.now c.push.new.self c.cash_day.result h c.cash_day.ensures.within days places)
