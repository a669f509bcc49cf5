use Rattle.std.proofs.Common.{arith}
use Rattle.dual_bound.proofs.DayFacts.{found}
use Rattle.dual_bound.proofs.day_table.need_place.Goals as goal

pub returns : goal.returns
returns c =
    λ prices same. found c.args.needs.now prices c.args.day c.place_of.result same c.place_of.ensures.bound (λ k d lt. c.place_of.ensures.before k d (omega arith) lt)
    c.place_of.ensures.from
