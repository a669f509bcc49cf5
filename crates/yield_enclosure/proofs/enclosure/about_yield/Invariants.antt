use Rattle.std.proofs.Common.{◌+◌, ◌<◌}
use Rattle.yield_enclosure.proofs.enclosure.about_yield.Given as goal

abbrev pub invariant-loop : goal.invariant-loop
invariant-loop l = l.guess + 1 < 3_000_000_000
