use Rattle.std.proofs.Common.{◌∙◌, sym}
use Rattle.rate_table.proofs.OverlapFacts.{overlap-none, overlap-latest}
use Rattle.rate_table.proofs.index.RateIndex.overlaps.Goals as goal

pub returns-in-Some : goal.returns-in-Some
returns-in-Some c =
    rw (← c.self.view_is) (c.ends_from.ensures ∙ overlap-latest c.self.inside.ranges.items c.self.inside.by_first c.args.range.now c.in-Some.latest c.self.invariant c.in-Some.ensures)

pub returns-in-None : goal.returns-in-None
returns-in-None c =
    rw (← c.self.view_is) (sym (overlap-none c.self.inside.ranges.items c.self.inside.by_first c.args.range.now c.self.invariant c.in-None.ensures))
