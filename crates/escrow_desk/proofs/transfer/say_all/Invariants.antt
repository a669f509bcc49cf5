use Rattle.std.proofs.Common.{◌≡◌, length, ◌-◌, ◌≤◌}
use Rattle.escrow_desk.specs.Content.{Said}
use Rattle.escrow_desk.proofs.transfer.say_all.Given as goal

abbrev pub invariant-loop-said : goal.invariant-loop-said
invariant-loop-said g l = record {
  within : l.said ≤ length l.bytes;
  said : Said (g.D.Desk.told l.fn.desk) l.said l.bytes (g.D.Desk.told l.desk);
  counts : g.D.Desk.counts l.desk ≡ g.D.Desk.counts l.fn.desk;
}

abbrev pub decreases-loop-said : goal.decreases-loop-said
decreases-loop-said g l = length l.bytes - l.said
