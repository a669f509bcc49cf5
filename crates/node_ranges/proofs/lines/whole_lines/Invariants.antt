use Rattle.std.proofs.Common.{◌≡◌, take, map}
use Rattle.node_ranges.specs.Ranges.{whole_interval}
use Rattle.node_ranges.proofs.lines.whole_lines.Given as goal

abbrev pub invariant-loop-line : goal.invariant-loop-line
invariant-loop-line l = l.intervals.items ≡ map whole_interval (take l.line-index l.lines)
