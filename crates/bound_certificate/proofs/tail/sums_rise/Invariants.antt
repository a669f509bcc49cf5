use Rattle.std.proofs.Common.{◌≡◌, ◌-◌, drop}
use Rattle.bound_certificate.specs.Grammar.{are_rising, sums_of}
use Rattle.bound_certificate.proofs.tail.sums_rise.Given as goal

abbrev pub invariant-loop-place : goal.invariant-loop-place
invariant-loop-place l = are_rising (sums_of (drop (l.place - 1) l.weights)) ≡ are_rising (sums_of l.weights)
