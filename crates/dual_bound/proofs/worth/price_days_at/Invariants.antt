use Rattle.std.proofs.Common.{◌≡◌, ◌⊎◌, ◌<◌, ℕ, length}
use Rattle.std.specs.List.{Contains}
use Rattle.dual_bound.specs.Columns.{IsPriced}
use Rattle.dual_bound.proofs.DateFacts.{IsAhead}
use Rattle.dual_bound.proofs.worth.price_days_at.Given as goal

abbrev pub invariant-loop-place : goal.invariant-loop-place
invariant-loop-place l = record {
  every : length l.worths ≡ length l.days;
  priced : (day : ℕ) → day < length l.days → IsPriced l.leaf l.days l.fn.worths day ⊎ Contains l.places day → IsPriced l.leaf l.days l.worths day ⊎ IsAhead l.place-index l.places day;
}
