use Rattle.std.proofs.Common.{rules}
use Rattle.yield_enclosure.proofs.EndFacts.{dearer-high}
use Rattle.yield_enclosure.proofs.enclosure.is_met_below.Goals as goal

pub returns-then-end : goal.returns-then-end
returns-then-end c =
    dearer-high c.args.flows.now c.args.cost.0 c.args.end.lo.0 (c.requires.dearer (search rules))
