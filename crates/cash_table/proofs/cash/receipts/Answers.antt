use Rattle.std.proofs.Common.{arith}
use Rattle.cash_table.proofs.PaymentFacts.{payments_at_most, all_lines}
use Rattle.cash_table.proofs.cash.receipts.Goals as goal

pub add_bought-requires-clause-room : goal.add_bought-requires-clause-room
add_bought-requires-clause-room c =
    rw (c.payment_days.ensures, c.lines.ensures.value, c.units.ensures) (omega (arith, payments_at_most c.args.book.now c.args.plan.now c.lines.ensures.limits c.requires))

pub add_bought-requires-clause-lines : goal.add_bought-requires-clause-lines
add_bought-requires-clause-lines c =
    rw (c.payment_days.ensures, c.lines.ensures.value) (all_lines c.args.book.now.days c.args.book.now.lines c.lines.ensures.limits.lines)

pub returns-clause-receipts : goal.returns-clause-receipts
returns-clause-receipts c = rw (c.needs.ensures.value, c.payment_days.ensures, c.lines.ensures.value, c.units.ensures) at c.add_bought.ensures.receipts
