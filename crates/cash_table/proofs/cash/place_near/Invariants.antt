use Rattle.std.proofs.Common.{◌≤◌, ◌-◌, length, ◌<ℤ◌}
use Rattle.std.specs.List.{AllWithin}
use Rattle.cash_table.proofs.cash.place_near.Given as goal

-- the need dates before the place come before the day
abbrev pub invariant-loop-place : goal.invariant-loop-place
invariant-loop-place l = record {
  from : l.near ≤ l.place;
  bound : l.place ≤ length l.needs;
  before : AllWithin (λ need. need.day <ℤ l.day) l.needs 0 l.place;
}

abbrev pub decreases-loop-place : goal.decreases-loop-place
decreases-loop-place l = length l.needs - l.place
