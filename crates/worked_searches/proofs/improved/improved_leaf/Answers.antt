use Rattle.node_ranges.proofs.RangeFacts.{root-of}
use Rattle.worked_searches.proofs.improved.improved_leaf.Goals as goal

pub improve-requires-clause-ranges : goal.improve-requires-clause-ranges
improve-requires-clause-ranges c = rw c.in_ok-ranges.ensures (root-of c.args.book.now)

pub bound-requires-clause-ranges : goal.bound-requires-clause-ranges
bound-requires-clause-ranges c = rw c.in_ok-ranges.ensures (root-of c.args.book.now)
