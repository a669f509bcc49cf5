use Rattle.std.proofs.Common.{◌≡◌, ◌++◌, drop}
use Rattle.verification_report.specs.Report.{cash_lines}
use Rattle.verification_report.proofs.cash_flow.push_cash_flow.Given as goal

abbrev pub invariant-loop-place : goal.invariant-loop-place
invariant-loop-place l = l.text.items ++ cash_lines (drop l.place l.entries) ≡ l.fn.text.items ++ cash_lines l.entries
