use Rattle.std.proofs.Common.{◌≡◌}
use Rattle.plan_finder.proofs.dive.Diver.start_whole.Given as goal

abbrev pub invariant-loop-line : goal.invariant-loop-line
invariant-loop-line l = l.self ≡ l.fn.self
