use Rattle.std.proofs.Common.{◌≡◌, ◌⊎◌, ℕ, ◌<◌, length}
use Rattle.dual_bound.specs.Columns.{IsPriced}
use Rattle.dual_bound.proofs.DateFacts.{IsListedAhead}
use Rattle.dual_bound.proofs.date_days.price_dates.Given as goal

abbrev pub invariant-loop-date : goal.invariant-loop-date
invariant-loop-date l = record {
  every : length l.worths ≡ length l.days;
  priced : (place : ℕ) → place < length l.days → IsPriced l.leaf l.days l.worths place ⊎ IsListedAhead l.date-index l.dates l.lists place;
}
