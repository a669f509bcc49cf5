-- What callers know of a linear program: how many need dates and lines it has. How good its prices are isn't said.
use Rattle.std.specs.Prelude.{ℕ}

pub record ProgramSize : Type 0 where
  pub dates : ℕ
  pub lines : ℕ
