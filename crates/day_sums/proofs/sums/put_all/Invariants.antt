use Rattle.std.proofs.Common.{◌≡◌, ◌+◌, ◌≤◌, ◌++◌, drop, take, vec_len, vec_capacity}
use Rattle.escrow_units.specs.Flows.{total}
use Rattle.day_sums.specs.Summed.{summed}
use Rattle.day_sums.specs.Table.{sums_of}
use Rattle.day_sums.proofs.sums.put_all.Given as goal

abbrev pub invariant-loop-flow : goal.invariant-loop-flow
invariant-loop-flow l = record {
  capacity : vec_capacity l.cents ≡ vec_capacity l.fn.cents;
  few : vec_len l.fn.cents ≤ vec_capacity l.fn.cents → vec_len l.cents ≤ vec_capacity l.fn.cents;
  sums : sums_of l.first l.cents.items ≡ summed (sums_of l.first l.fn.cents.items ++ take l.flow-index l.flows);
  total : total (sums_of l.first l.fn.cents.items) + total l.flows ≡ total (sums_of l.first l.cents.items) + total (drop l.flow-index l.flows);
}
