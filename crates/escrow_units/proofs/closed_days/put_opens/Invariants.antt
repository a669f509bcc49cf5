use Rattle.std.proofs.Common.{◌≡◌, ◌≤◌, length}
use Rattle.escrow_units.specs.OpenDays.{Closings}
use Rattle.escrow_units.specs.OpenTable.{AreInOrder}
use Rattle.escrow_units.proofs.OpenTableFacts.{KnownFrom}
use Rattle.escrow_units.proofs.closed_days.put_opens.Given as goal

abbrev pub invariant-loop-place : goal.invariant-loop-place
invariant-loop-place l = record {
  count : length l.opens ≡ length l.ordered;
  within : l.place ≤ length l.ordered;
  known : (closed : Closings) → closed.weekends ≡ l.weekends → AreInOrder closed l.ordered → KnownFrom closed l.ordered l.opens l.place;
}

abbrev pub decreases-loop-place : goal.decreases-loop-place
decreases-loop-place l = l.place
