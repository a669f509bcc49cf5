use Rattle.std.proofs.Common.{◌≡◌, ◌+◌, take}
use Rattle.arrayvec.specs.ArrayVec.{array_vec_len}
use Rattle.savings_table.proofs.ServiceFacts.{held_by}
use Rattle.savings_table.proofs.old_bonds.held_payments.Given as goal

abbrev pub invariant-loop-date : goal.invariant-loop-date
invariant-loop-date l = record {
  room : array_vec_len l.flows ≡ 1 + l.date-index;
  paid : l.flows.items ≡ held_by l.bond (take l.date-index l.date-items);
}
