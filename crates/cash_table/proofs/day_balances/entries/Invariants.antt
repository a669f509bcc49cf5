use Rattle.std.proofs.Common.{◌≡◌, ◌+◌, ◌+ℤ◌, pos}
use Rattle.cash_table.specs.Receipts.{total_before}
use Rattle.cash_table.proofs.BalanceFacts.{entries_to}
use Rattle.cash_table.proofs.day_balances.entries.Given as goal

abbrev pub invariant-loop-place : goal.invariant-loop-place
invariant-loop-place l = record {
  listed : l.entries.items ≡ entries_to l.settle l.receipts.sums l.needs.sums l.place;
  left : total_before (l.settle +ℤ pos l.place) l.needs.sums + l.balance ≡ total_before (l.settle +ℤ pos l.place) l.receipts.sums;
}
