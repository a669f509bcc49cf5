use Rattle.std.proofs.Common.{◌≡◌, ℕ, ◌+◌, ◌<◌, ◌≤◌, length, take, slice_index_or}
use Rattle.std.specs.List.{sum}
use Rattle.escrow_units.specs.Flows.{total}
use Rattle.escrow_units.specs.declared.security.Flow.{Flow}
use Rattle.day_sums.specs.Summed.{total_by}
use Rattle.cash_table.proofs.cash.add_receipts.Given as goal

abbrev pub invariant-loop-payment : goal.invariant-loop-payment
invariant-loop-payment l = record {
  by_day : (k : ℕ) (d : Flow) → k < length l.needs → sum (take (k + 1) l.receipts) ≡ sum (take (k + 1) l.fn.receipts) + total_by (slice_index_or l.needs k d).day (take l.payment-index l.payments);
  within : sum l.receipts ≤ sum l.fn.receipts + total (take l.payment-index l.payments);
}
