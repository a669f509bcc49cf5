-- The table by which open days are found: the days of the list in order, and beside each its open day.
use Rattle.std.specs.Prelude.{◌≡◌, ℕ, ◌<◌, List, length, slice_index_or, All, IsPermutation, IsSorted, ℤ, ◌≤ℤ◌}
use Rattle.std.specs.Ordering.{int_cmp}
use Rattle.escrow_units.specs.OpenDays.{Closings, IsBy2190, IsOpenDay}

-- the days of the list in order
pub record AreInOrder (closed : Closings) (ordered : List ℤ) : Type 0 where
  pub same : IsPermutation closed.days ordered
  pub rise : IsSorted int_cmp ordered

-- beside each of them that isn't before a day its open day
abbrev pub OpenFrom : Closings → List ℤ → List ℤ → ℤ → Type 0
OpenFrom closed ordered opens day =
    (place : ℕ) (d e : ℤ) → place < length ordered → day ≤ℤ slice_index_or ordered place d
    → IsOpenDay closed (slice_index_or ordered place d) (slice_index_or opens place e)

-- the whole table
pub record IsOpenTable (closed : Closings) (ordered opens : List ℤ) : Type 0 where
  pub by : All IsBy2190 closed.days
  pub order : AreInOrder closed ordered
  pub count : length opens ≡ length ordered
  pub all : (day : ℤ) → OpenFrom closed ordered opens day
