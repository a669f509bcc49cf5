use Rattle.std.proofs.Common.{arith}
use Rattle.dual_bound.proofs.DayFacts.{found}
use Rattle.dual_tune.proofs.payers.served.Goals as goal

pub returns : goal.returns
returns c =
    λ prices same. found c.args.needs.now prices c.args.day c.place_of.result same (omega (arith, c.place_of.ensures.bound))
    (λ k d h. c.place_of.ensures.before k d (omega arith) h)
    (λ k d ge lt. c.place_of.ensures.from k d ge lt)
