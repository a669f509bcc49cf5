use Rattle.node_ranges.proofs.RangeFacts.{tight-of}
use Rattle.branch_search.proofs.parts.Search.is_short_by.Goals as goal

pub bound-requires-clause-ranges : goal.bound-requires-clause-ranges
bound-requires-clause-ranges c = rw c.self.invariant.tuned (tight-of c.self.inside.book.now c.self.inside.ranges c.self.invariant.tight)
