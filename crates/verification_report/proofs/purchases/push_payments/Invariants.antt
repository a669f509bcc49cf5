use Rattle.std.proofs.Common.{◌≡◌, ◌++◌, drop}
use Rattle.verification_report.specs.Report.{of_bought, pay_lines}
use Rattle.verification_report.proofs.purchases.push_payments.Given as goal

abbrev pub invariant-loop-number : goal.invariant-loop-number
invariant-loop-number l =
    l.text.items ++ of_bought (pay_lines l.book.days) l.number (drop l.number l.book.lines) (drop l.number l.plan)
    ≡ l.fn.text.items ++ of_bought (pay_lines l.book.days) 1 (drop 1 l.book.lines) (drop 1 l.plan)
