use Rattle.std.proofs.Common.{◌≡◌, take}
use Rattle.rate_table.proofs.index.RateIndex.make.Given as goal

abbrev pub invariant-loop-range : goal.invariant-loop-range
invariant-loop-range l = l.index ≡ take l.range-index l.fn.file.ranges
