use Rattle.std.proofs.Common.{◌≡◌, ◌++◌, drop}
use Rattle.bound_certificate.specs.Text.{spaced_numbers}
use Rattle.bound_certificate.proofs.write.push_numbers.Given as goal

abbrev pub invariant-loop-number : goal.invariant-loop-number
invariant-loop-number l = l.text.items ++ spaced_numbers (drop l.number-index l.numbers) ≡ l.fn.text.items ++ spaced_numbers l.numbers
