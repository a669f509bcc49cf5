use Rattle.std.proofs.Common.{◌≡◌, ◌+◌, ◌≤◌, ◌++◌, take}
use Rattle.arrayvec.specs.ArrayVec.{array_vec_len}
use Rattle.issue_schedule.specs.Needs.{half_coupon}
use Rattle.issue_schedule.proofs.BondFacts.{paid}
use Rattle.issue_schedule.proofs.bond.push_interest.Given as goal

abbrev pub invariant-loop-date : goal.invariant-loop-date
invariant-loop-date l = record {
  room : array_vec_len l.flows ≤ 2 + l.date-index;
  paid : l.flows.items ≡ l.fn.flows.items ++ paid l.last (half_coupon l.bond) (take l.date-index l.after);
}
