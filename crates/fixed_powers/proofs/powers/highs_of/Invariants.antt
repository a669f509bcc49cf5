use Rattle.std.proofs.Common.{◌≡◌, ◌≤◌, ◌+◌, ℕ, slice_index, vec_len, vec_capacity}
use Rattle.fixed_powers.specs.DiscountPowers.{one, up}
use Rattle.fixed_powers.proofs.powers.highs_of.Given as goal

-- the powers up to the counter stand in the table, and the last one is at hand
abbrev pub invariant-loop : goal.invariant-loop
invariant-loop l = record {
  room : vec_capacity l.table ≡ l.longest + 1;
  count : vec_len l.table ≡ l.counter + 1;
  values : (d : ℕ) → d ≤ l.counter → slice_index l.table.items d ≡ up l.factor d;
  last : l.power ≡ up l.factor l.counter;
  within : l.power ≤ one;
}
