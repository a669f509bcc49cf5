use Rattle.std.proofs.Common.{◌≡◌, ◌++◌, drop}
use Rattle.bound_certificate.specs.Text.{change_numbers, spaced_numbers}
use Rattle.bound_certificate.proofs.write.push_changes.Given as goal

abbrev pub invariant-loop-change : goal.invariant-loop-change
invariant-loop-change l = l.text.items ++ spaced_numbers (change_numbers (drop l.change-index l.changes)) ≡ l.fn.text.items ++ spaced_numbers (change_numbers l.changes)
