use Rattle.std.proofs.Common.{arith}
use Rattle.verification_report.proofs.BoughtFacts.{has_room, is_line}
use Rattle.verification_report.proofs.purchases.push_payments.Goals as goal

pub push_line_payments-requires-clause-line : goal.push_line_payments-requires-clause-line
push_line_payments-requires-clause-line c =
    rw c.payment_days.ensures
    (is_line c.args.book.now c.args.plan.now c.loop-number.number c.line.result.now c.line_count-number-end.ensures.limits c.requires
    (omega (arith, c.loop-number-test.true, c.line_count-number-end.ensures.value)) c.line.ensures)

pub push_line_payments-requires-clause-units : goal.push_line_payments-requires-clause-units
push_line_payments-requires-clause-units c =
    omega (
      arith,
      c.get.ensures,
      has_room c.args.book.now c.args.plan.now c.loop-number.number c.line.result.now c.requires
          (omega (arith, c.loop-number-test.true, c.line_count-number-end.ensures.value)) c.line.ensures,
    )
