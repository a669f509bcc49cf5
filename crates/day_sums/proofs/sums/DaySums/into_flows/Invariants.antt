use Rattle.std.proofs.Common.{◌≡◌, ◌≤◌, ◌-◌, length, take}
use Rattle.day_sums.specs.Summed.{summed}
use Rattle.day_sums.specs.Table.{day_amounts}
use Rattle.day_sums.proofs.sums.DaySums.into_flows.Given as goal

abbrev pub invariant-loop-place : goal.invariant-loop-place
invariant-loop-place l = record {
  bound : l.place ≤ length l.table;
  sums : l.sums.items ≡ summed (take l.place (day_amounts l.fn.self.from l.table));
}

abbrev pub decreases-loop-place : goal.decreases-loop-place
decreases-loop-place l = length l.table - l.place
