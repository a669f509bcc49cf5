use Rattle.std.proofs.Common.{◌≡◌, length, map, take}
use Rattle.branch_search.proofs.EndPlans.{high_of}
use Rattle.branch_search.proofs.parts.put_high_ends.Given as goal

abbrev pub invariant-loop-line : goal.invariant-loop-line
invariant-loop-line l = (length l.plan ≡ length l.book.lines) × (take l.line l.plan ≡ take l.line (map high_of l.ranges.lines))
