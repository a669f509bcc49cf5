use Rattle.std.proofs.Common.{◌≡◌, length, ◌-◌, ◌≤◌}
use Rattle.escrow_desk.specs.Content.{Wrote}
use Rattle.escrow_desk.proofs.transfer.write_all.Given as goal

abbrev pub invariant-loop-written : goal.invariant-loop-written
invariant-loop-written g l = record {
  within : l.written ≤ length l.bytes;
  wrote : Wrote (g.D.Desk.told l.fn.desk) l.name l.written l.bytes (g.D.Desk.told l.desk);
  counts : g.D.Desk.counts l.desk ≡ g.D.Desk.counts l.fn.desk;
}

abbrev pub decreases-loop-written : goal.decreases-loop-written
decreases-loop-written g l = length l.bytes - l.written
