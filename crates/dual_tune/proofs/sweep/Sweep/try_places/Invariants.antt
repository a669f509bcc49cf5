use Rattle.std.proofs.Common.{◌<◌, ℕ, ◌≤ℤ◌}
use Rattle.dual_tune.specs.Sweep.{AreReached, IsBest, IsSweepOf}
use Rattle.dual_tune.proofs.sweep.Sweep.try_places.Given as goal

abbrev pub invariant-loop-place : goal.invariant-loop-place
invariant-loop-place l =
    IsSweepOf l.given l.self × IsBest l.given l.best × (l.fn.first.bound ≤ℤ l.best.bound)
    × ((place : ℕ) → place < l.place → AreReached l.given l.best.bound place)
