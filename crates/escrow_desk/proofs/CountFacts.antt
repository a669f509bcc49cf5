-- Counts that rose, and counts that didn't.
use Rattle.std.proofs.Common.{ℕ, arith}
use Rattle.escrow_desk.specs.Counts.{Rose, IsSteady}

-- a count that is steady didn't rise
pub Rose-IsSteady : (old new : ℕ) → IsSteady old new → Rose old new → ⊥
Rose-IsSteady old new steady rose = omega arith
