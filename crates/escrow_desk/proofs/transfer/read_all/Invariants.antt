use Rattle.std.proofs.Common.{◌≡◌, ◌+◌, ◌-◌, length, vec_len}
use Rattle.escrow_desk.proofs.ContentFacts.{IsFront}
use Rattle.escrow_desk.proofs.transfer.read_all.Given as goal

abbrev pub invariant-pieces : goal.invariant-pieces
invariant-pieces g l = record {
  front : IsFront (g.D.Desk.told l.fn.desk) l.name l.bytes.items;
  told : g.D.Desk.told l.desk ≡ g.D.Desk.told l.fn.desk;
  room : length l.piece ≡ 8192;
  counts : g.D.Desk.counts l.desk ≡ g.D.Desk.counts l.fn.desk;
}

abbrev pub decreases-pieces : goal.decreases-pieces
decreases-pieces g l = l.limit + 1 - vec_len l.bytes
