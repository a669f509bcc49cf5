-- Sums as code keeps them: a table with the cents of each day of a span.
use Rattle.std.specs.Prelude.{◌≡◌, ℕ, ◌≤◌, List, [], ◌∷◌, ℤ, pos, ◌+ℤ◌, ◌≤ℤ◌, ◌<ℤ◌}
use Rattle.escrow_units.specs.DayNumber.{IsDayNumber}
use Rattle.escrow_units.specs.declared.security.Flow.{Flow}
use Rattle.day_sums.specs.Summed.{on, summed}

-- the sums of amounts that fall on the days of a span, from its first day to its last
pub record SpanSums : Type 0 where
  pub from : ℤ
  pub to : ℤ
  pub sums : List Flow

-- an amount for each day from a first day on
unfoldable pub day_amounts : ℤ → List ℕ → List Flow
day_amounts first [] = []
day_amounts first (cents ∷ others) = on first cents ∷ day_amounts (first +ℤ pos 1) others

-- a table has places for the first days of its span, so many, and room for all
pub record IsTable (from to : ℤ) (places room : ℕ) : Type 0 where
  pub first : IsDayNumber from
  pub last : IsDayNumber to
  pub few : places ≤ room
  pub days : (to +ℤ pos 1) ≡ (from +ℤ pos room)

-- the sums that a table stands for
abbrev pub sums_of : ℤ → List ℕ → List Flow
sums_of first cents = summed (day_amounts first cents)

-- an amount falls on one of so many days from a first day on
pub record HasPlace (first : ℤ) (days : ℕ) (flow : Flow) : Type 0 where
  pub after : first ≤ℤ flow.day
  pub before : flow.day <ℤ (first +ℤ pos days)
