use Rattle.node_ranges.proofs.RangeFacts.{tight-of}
use Rattle.branch_search.proofs.parts.Search.relaxed.Goals as goal

pub stand-requires : goal.stand-requires
stand-requires c = rw c.self.invariant.tuned (tight-of c.self.inside.book.now c.self.inside.ranges c.self.invariant.tight)
