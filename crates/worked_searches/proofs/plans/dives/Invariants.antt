use Rattle.std.proofs.Common.{◌≡◌}
use Rattle.worked_searches.proofs.plans.dives.Given as goal

abbrev pub invariant-loop-word : goal.invariant-loop-word
invariant-loop-word l = l.finder ≡ l.initial.finder
