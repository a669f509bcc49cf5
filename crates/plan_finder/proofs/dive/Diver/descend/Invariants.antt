use Rattle.std.proofs.Common.{◌≡◌}
use Rattle.plan_finder.proofs.dive.Diver.descend.Given as goal

abbrev pub invariant-loop-turn : goal.invariant-loop-turn
invariant-loop-turn l = l.self ≡ l.fn.self
