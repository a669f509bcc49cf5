use Rattle.std.proofs.Common.{sym, rules}
use Rattle.rate_table.proofs.LookupFacts.{maximum_of-latest, maximum_of-none_by}
use Rattle.rate_table.proofs.index.RateIndex.maximum.Goals as goal

pub returns-in_err-latest : goal.returns-in_err-latest
returns-in_err-latest c =
    rw (c.from_residual.ensures, ← c.self.view_is) (sym (maximum_of-none_by c.self.inside.ranges.items c.self.inside.by_first c.args.maturity c.self.invariant c.in_err-latest.ensures))

pub returns-then-ends_from : goal.returns-then-ends_from
returns-then-ends_from c =
    rw (← c.self.view_is, maximum_of-latest c.self.inside.ranges.items c.self.inside.by_first c.args.maturity c.in_ok-latest.latest c.self.invariant c.in_ok-latest.ensures) (search rules)

pub returns-else-ends_from : goal.returns-else-ends_from
returns-else-ends_from c =
    rw (← c.self.view_is, maximum_of-latest c.self.inside.ranges.items c.self.inside.by_first c.args.maturity c.in_ok-latest.latest c.self.invariant c.in_ok-latest.ensures) (search rules)
