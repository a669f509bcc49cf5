use Rattle.std.proofs.Common.{◌≡◌, ◌≤◌, ℤ, vec_len, vec_capacity}
use Rattle.day_sums.specs.Table.{sums_of}
use Rattle.day_sums.proofs.sums.reach.Given as goal

abbrev pub invariant-loop : goal.invariant-loop
invariant-loop l = record {
  len : vec_len l.cents ≡ l.counter;
  capacity : vec_capacity l.cents ≡ vec_capacity l.fn.cents;
  few : vec_len l.fn.cents ≤ vec_capacity l.fn.cents → vec_len l.cents ≤ vec_capacity l.fn.cents;
  sums : (first : ℤ) → sums_of first l.cents.items ≡ sums_of first l.fn.cents.items;
}
