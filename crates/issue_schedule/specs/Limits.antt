-- How much an issue may come to. The limit is this project's own.
use Rattle.std.specs.Prelude.{ℕ, nat_le, if◌then◌else◌, Option, Some, None}
use Rattle.escrow_units.specs.declared.limits.TheConstants.{AMOUNT_LIMIT}

-- a sum that keeps to the limit of amounts, which all needs together, and all payments together, keep to
abbrev pub limited : ℕ → Option ℕ
limited sum = if nat_le sum AMOUNT_LIMIT then Some sum else None
