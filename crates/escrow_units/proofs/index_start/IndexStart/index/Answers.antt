use Rattle.std.proofs.Common.{arith}
use Rattle.escrow_units.proofs.DayFacts.{thirty_day_place_of-mono, thirty_day_place_of-years}
use Rattle.escrow_units.proofs.index_start.IndexStart.index.Goals as goal

pub overflow_sub-result : goal.overflow_sub-result
overflow_sub-result c =
    omega (arith, c.self.invariant.1, c.thirty_day_place.ensures.value, thirty_day_place_of-mono c.self.inside.day c.args.day c.self.invariant.0 c.thirty_day_place.ensures.years (rw c.self.view_is c.requires.order))

pub returns-clause-bound : goal.returns-clause-bound
returns-clause-bound c =
    omega (arith, c.self.invariant.1, c.thirty_day_place.ensures.value, thirty_day_place_of-years c.self.inside.day c.args.day c.self.invariant.0 c.thirty_day_place.ensures.years (rw c.self.view_is c.requires.near))
