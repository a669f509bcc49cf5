use Rattle.std.proofs.Common.{arith}
use Rattle.escrow_units.proofs.DayFacts.{thirty_day_place_of-mono, thirty_day_place_of-years}
use Rattle.escrow_units.proofs.calendar.index360.Goals as goal

pub overflow_sub-result : goal.overflow_sub-result
overflow_sub-result c =
    omega (arith, c.thirty_day_place.ensures.value, c.thirty_day_place-2.ensures.value, thirty_day_place_of-mono c.args.settle c.args.day c.thirty_day_place-2.ensures.years c.thirty_day_place.ensures.years c.requires.order)

pub returns-clause-bound : goal.returns-clause-bound
returns-clause-bound c =
    omega (arith, c.thirty_day_place.ensures.value, c.thirty_day_place-2.ensures.value, thirty_day_place_of-years c.args.settle c.args.day c.thirty_day_place-2.ensures.years c.thirty_day_place.ensures.years c.requires.near)
