use Rattle.std.proofs.Common.{arith}
use Rattle.cash_table.proofs.PaymentFacts.{payments_at_most, all_lines}
use Rattle.cash_table.proofs.DayFacts.{first_short_value, first_short_is}
use Rattle.cash_table.proofs.cash.first_short_of_units.Goals as goal

pub add_bought-requires-clause-room : goal.add_bought-requires-clause-room
add_bought-requires-clause-room c =
    rw (c.payment_days.ensures, c.lines.ensures.value) (omega (arith, payments_at_most c.args.book.now c.args.units.now c.lines.ensures.limits c.requires))

pub add_bought-requires-clause-lines : goal.add_bought-requires-clause-lines
add_bought-requires-clause-lines c =
    rw (c.payment_days.ensures, c.lines.ensures.value) (all_lines c.args.book.now.days c.args.book.now.lines c.lines.ensures.limits.lines)

pub returns-clause-value : goal.returns-clause-value
returns-clause-value c =
    first_short_value c.args.book.now c.args.units.now c.add_bought.new.receipts c.first_uncovered.result c.needs.ensures.limits.needs.rising
    (rw (c.needs.ensures.value, c.payment_days.ensures, c.lines.ensures.value) at c.add_bought.ensures.receipts)
    (rw c.needs-2.ensures.value at c.first_uncovered.ensures.none)
    (rw c.needs-2.ensures.value at c.first_uncovered.ensures.some)

pub returns-clause-first : goal.returns-clause-first
returns-clause-first c =
    rw (returns-clause-value c) (first_short_is c.args.book.now c.args.units.now c.needs.ensures.limits.needs.rising)
