use Rattle.std.proofs.Common.{◌∙◌, pos, ◌+ℤ◌, ap, sym}
use Rattle.dual_bound.proofs.TableFacts.{known-day, put-day}
use Rattle.dual_bound.proofs.day_table.DayTable.security_place.Goals as goal

pub returns-in-Some-clause-there : goal.returns-in-Some-clause-there
returns-in-Some-clause-there c =
    (known-day c.args.powers.now.yield_units c.args.book.now c.args.self.now c.days_after-after.result c.in-Some.place c.args.day c.requires.table
    (ap (λ z. z +ℤ pos c.days_after-after.result) (sym c.settle.ensures) ∙ c.days_after-after.ensures.value) (sym c.in-Some.ensures)).0

pub returns-in-Some-clause-priced : goal.returns-in-Some-clause-priced
returns-in-Some-clause-priced c =
    (known-day c.args.powers.now.yield_units c.args.book.now c.args.self.now c.days_after-after.result c.in-Some.place c.args.day c.requires.table
    (ap (λ z. z +ℤ pos c.days_after-after.result) (sym c.settle.ensures) ∙ c.days_after-after.ensures.value) (sym c.in-Some.ensures)).1

pub returns-clause-table : goal.returns-clause-table
returns-clause-table c =
    put-day c.args.powers.now.yield_units c.args.book.now c.args.self.now c.push.new.self c.keep.new.self c.security_day.result c.days_after-after.result c.in_ok-place.place c.args.day
    c.requires.table (ap (λ z. z +ℤ pos c.days_after-after.result) (sym c.settle.ensures) ∙ c.days_after-after.ensures.value) c.security_day.ensures.value c.security_day.ensures.within
    c.in_ok-place.ensures.place c.in_ok-place.ensures.days c.in_ok-place.ensures.places c.in_ok-keep.ensures.days c.in_ok-keep.ensures.places
