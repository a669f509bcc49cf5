use Rattle.std.proofs.Common.{◌≤◌, length, take}
use Rattle.std.specs.List.{sum, sum_by, flat_map, zip}
use Rattle.cash_table.specs.Receipts.{AreReceipts}
use Rattle.cash_table.proofs.PaymentFacts.{pair_payments, pair_total}
use Rattle.cash_table.proofs.cash.add_bought.Given as goal

abbrev pub invariant-loop-line : goal.invariant-loop-line
invariant-loop-line l = record {
  receipts : AreReceipts l.needs (flat_map (pair_payments l.days) (take (length l.yielded) (zip l.lines l.plan))) l.receipts;
  within : sum l.receipts ≤ sum_by (pair_total l.days) (take (length l.yielded) (zip l.lines l.plan));
}
