use Rattle.std.proofs.Common.{◌≡◌, ℕ, ◌+◌, ◌<◌, get_or}
use Rattle.dual_bound.specs.declared.series.Stop.{Stop}
use Rattle.dual_bound.specs.declared.series.Stop.TheVariants.{Day}
use Rattle.dual_bound.proofs.series.stand.Given as goal

abbrev pub invariant-loop-at : goal.invariant-loop-at
invariant-loop-at l = (k d : ℕ) (s : Stop) → k < l.at → get_or l.stops (l.from + 1 + k) s ≡ Day (get_or l.places k d)
