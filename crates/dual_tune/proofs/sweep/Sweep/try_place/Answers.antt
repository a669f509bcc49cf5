use Rattle.std.proofs.Common.{arith}
use Rattle.std.proofs.lemmas.Int.{ints}
use Rattle.dual_tune.proofs.sweep.Sweep.try_place.Goals as goal

pub returns-clause-tried : goal.returns-clause-tried
returns-clause-tried c = record {
  before = omega (arith, ints, c.try_price-best.ensures.tried, c.try_price.ensures.better);
  after = c.try_price.ensures.tried;
}
