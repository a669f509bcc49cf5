use Rattle.std.proofs.Common.{arith}
use Rattle.dual_bound.proofs.BoundSizes.{room-length}
use Rattle.dual_tune.proofs.parts.Parts.propose.Goals as goal

pub solve-requires : goal.solve-requires
solve-requires c = omega (arith, c.line_count-lines.ensures.value, room-length c.args.given.now.book.now.lines c.args.given.now.ranges.now.lines c.args.given.now.room)
