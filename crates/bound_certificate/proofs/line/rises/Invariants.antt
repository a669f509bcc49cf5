use Rattle.std.proofs.Common.{◌≡◌, ◌-◌, ◌||◌, drop, nat_le}
use Rattle.bound_certificate.specs.Grammar.{rises}
use Rattle.bound_certificate.proofs.LoopFacts.{TOP}
use Rattle.bound_certificate.proofs.line.rises.Given as goal

abbrev pub invariant-loop-place : goal.invariant-loop-place
invariant-loop-place l = (nat_le TOP l.differences || rises (drop (l.place - 1) l.prices)) ≡ rises l.prices
