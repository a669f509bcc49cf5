-- Ranges by their first days.
use Rattle.std.specs.Prelude.{◌≡◌, ℤ, ◌≤ℤ◌, List, Contains, All, Some, None, IsSome}
use Rattle.std.specs.BTreeMap.{BTreeMap, get}
use Rattle.std.specs.Ordering.{int_cmp}
use Rattle.rate_table.specs.declared.table.RateRange.{RateRange}
use Rattle.rate_table.specs.Table.{AreApart, IsRange}

-- a range of the list that begins on this day
pub record IsListed (ranges : List RateRange) (first : ℤ) (range : RateRange) : Type 0 where
  pub among : Contains ranges range
  pub begins : range.from ≡ first

-- the map has each range at its first day, and nothing else
pub record IsIndex (ranges : List RateRange) (by_first : BTreeMap ℤ RateRange) : Type 0 where
  pub has : (range : RateRange) → Contains ranges range → get int_cmp by_first range.from ≡ Some range
  pub only : (first : ℤ) (range : RateRange) → get int_cmp by_first first ≡ Some range → IsListed ranges first range

-- ranges as a file has them, which have no day in common, and the map of them
pub record IsRateIndex (ranges : List RateRange) (by_first : BTreeMap ℤ RateRange) : Type 0 where
  pub order : All IsRange ranges
  pub apart : AreApart ranges
  pub entries : IsIndex ranges by_first

-- the range at the latest first day up to this day
pub record IsLatest (by_first : BTreeMap ℤ RateRange) (day : ℤ) (range : RateRange) : Type 0 where
  pub first : ℤ
  pub entry : get int_cmp by_first first ≡ Some range
  pub early : first ≤ℤ day
  pub latest : (other : ℤ) → other ≤ℤ day → IsSome (get int_cmp by_first other) → other ≤ℤ first

-- the map has no first day up to this day
abbrev pub HasNoneBy : BTreeMap ℤ RateRange → ℤ → Type 0
HasNoneBy by_first day = (first : ℤ) → first ≤ℤ day → get int_cmp by_first first ≡ None
