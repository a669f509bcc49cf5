use Rattle.std.proofs.Common.{◌≡◌, ◌++◌, ◌∷◌, map, take}
use Rattle.dual_bound.specs.declared.series.Stop.TheVariants.{Day, Start}
use Rattle.dual_bound.proofs.series.Stops.add.Given as goal

abbrev pub invariant-loop-place : goal.invariant-loop-place
invariant-loop-place l = l.self.stops.items ≡ l.fn.self.stops.items ++ Start ∷ map Day (take l.place-index l.places)
