-- Rounding to the nearest whole number, halves up: this project's own rule for every amount in cents.
use Rattle.std.specs.Prelude.{ℕ, ◌+◌, ◌*◌, ◌/◌, ◌<◌, ◌≤◌}

-- the whole number nearest to a / b, and the greater one where two are equally near
unfoldable pub near : ℕ → ℕ → ℕ
near a b = (2 * a + b) / (2 * b)

-- n is above a / b by at most one half, and below it by less than one half
pub record IsNearest (a b n : ℕ) : Type 0 where
  pub above : 2 * b * n ≤ 2 * a + b
  pub below : 2 * a < 2 * b * n + b
