use Rattle.std.proofs.Common.{arith}
use Rattle.cash_table.proofs.ReceiptFacts.{receipt_added}
use Rattle.cash_table.proofs.cash.add_receipt.Goals as goal

pub returns-then-place-needs-clause-by_day : goal.returns-then-place-needs-clause-by_day
returns-then-place-needs-clause-by_day c = λ k d within.
    receipt_added c.args.needs.now c.args.receipts.now c.args.payment.now c.place_near-place.result k d (omega arith) c.place_near-place.ensures.before c.place_near-place.ensures.from within
