-- The greatest and the least number up to a top that pass a test.
use Rattle.std.specs.Prelude.{ℕ, zero, suc, Bool, if◌then◌else◌}

-- the greatest number up to a top that passes a test; 0 where none does
unfoldable pub greatest_passing : (ℕ → Bool) → ℕ → ℕ
greatest_passing passes zero = zero
greatest_passing passes (suc top) = if passes (suc top) then suc top else greatest_passing passes top

-- the least number up to a top that passes a test; the top where none does
unfoldable pub least_passing : (ℕ → Bool) → ℕ → ℕ
least_passing passes zero = zero
least_passing passes (suc top) = if passes (least_passing passes top) then least_passing passes top else suc top
