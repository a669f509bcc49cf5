use Rattle.node_ranges.proofs.RangeFacts.{tight-of}
use Rattle.worked_searches.proofs.plans.dive.Goals as goal

pub dive-requires : goal.dive-requires
dive-requires c = record { ranges = tight-of c.args.finder.now.book c.args.ranges.now c.requires }
