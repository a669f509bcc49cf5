use Rattle.std.proofs.Common.{◌<◌, length}
use Rattle.std.specs.Prelude.{IfSome}
use Rattle.plan_finder.proofs.dive.Diver.next_drawn.Given as goal

abbrev pub invariant-loop-ranked : goal.invariant-loop-ranked
invariant-loop-ranked l = IfSome l.next (λ line. line < length l.self.lines)
