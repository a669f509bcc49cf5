-- Amounts that may be below 0, printed. The text is this project's own.
use Rattle.std.specs.Prelude.{ℕ, List, ◌∷◌, if◌then◌else◌, int_lt, unsigned_abs, ℤ, pos}
use Rattle.escrow_units.specs.Digits.{fixed}

-- cents in dollars with two decimals, and `-` before an amount below 0
abbrev pub signed_cents : ℤ → List ℕ
signed_cents value = if int_lt value (pos 0) then 45 ∷ fixed 2 (unsigned_abs value) else fixed 2 (unsigned_abs value)
