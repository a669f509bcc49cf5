use Rattle.std.proofs.Common.{◌≡◌, ◌++◌, drop}
use Rattle.bound_certificate.specs.Text.{spaced_numbers, weight_numbers}
use Rattle.bound_certificate.proofs.write.push_weights.Given as goal

abbrev pub invariant-loop-own : goal.invariant-loop-own
invariant-loop-own l = l.text.items ++ spaced_numbers (weight_numbers (drop l.own-index l.weights)) ≡ l.fn.text.items ++ spaced_numbers (weight_numbers l.weights)
