use Rattle.std.proofs.Common.{◌≡◌, ◌<◌, length, slice_index_or, ap, arith, rules}
use Rattle.std.proofs.lemmas.List.{take_all}
use Rattle.day_sums.specs.Summed.{total_by}
use Rattle.cash_table.proofs.ReceiptFacts.{receipts_next, total_next}
use Rattle.cash_table.proofs.cash.add_receipts.Goals as goal

pub loop-payment-preserved : goal.loop-payment-preserved
loop-payment-preserved c =
    let within : c.loop-payment.payment-index < length c.args.payments.now = search rules in
    let at : c.payment-item.result ≡ slice_index_or c.args.payments.now c.loop-payment.payment-index c.payment-item.result = search rules in
    record {
      by_day = λ k d here.
          receipts_next (slice_index_or c.args.needs.now k d).day c.args.payments.now c.loop-payment.payment-index c.payment-item.result _ _ _ within at
          (c.loop-payment.invariant.by_day k d here) (c.add_receipt-near.ensures.by_day k d here);
      within = total_next c.args.payments.now c.loop-payment.payment-index c.payment-item.result _ _ _ within at c.loop-payment.invariant.within c.add_receipt-near.ensures.whole;
    }

pub returns-clause-by_day : goal.returns-clause-by_day
returns-clause-by_day c = λ k d here.
    let whole = take_all c.loop-payment.payment-index c.args.payments.now (omega arith) in
    omega (arith, c.loop-payment.invariant.by_day k d here, ap (total_by (slice_index_or c.args.needs.now k d).day) whole)
