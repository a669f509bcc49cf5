use Rattle.node_ranges.proofs.RangeFacts.{tight-of}
use Rattle.branch_search.proofs.parts.Search.dive.Goals as goal

pub dive-requires : goal.dive-requires
dive-requires c = rw c.self.invariant.finds (record { ranges = tight-of c.self.inside.book.now c.self.inside.ranges c.self.invariant.tight })
