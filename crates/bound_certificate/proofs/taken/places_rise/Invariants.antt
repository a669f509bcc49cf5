use Rattle.std.proofs.Common.{◌≡◌, ◌-◌, drop}
use Rattle.bound_certificate.specs.Grammar.{are_rising, places_of}
use Rattle.bound_certificate.proofs.taken.places_rise.Given as goal

abbrev pub invariant-loop-place : goal.invariant-loop-place
invariant-loop-place l = are_rising (places_of (drop (l.place - 1) l.changes)) ≡ are_rising (places_of l.changes)
