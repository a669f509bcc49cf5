-- Changes: need dates among which are all whose prices differ at two leaves, and what they price.
use Rattle.std.specs.Prelude.{◌≡◌, ℕ, ◌<◌, List, All, length, slice_index, slice_index_or}
use Rattle.std.specs.List.{Contains}
use Rattle.dual_bound.specs.declared.date_days.DateDays.{DateDays}

-- of the first so many need dates, each whose price differs is among these
pub record AreChangedOf (count : ℕ) (old new dates : List ℕ) : Type 0 where
  pub there : All (λ date. date < count) dates
  pub every : (date : ℕ) → date < count → ¬ (slice_index old date ≡ slice_index new date) → Contains dates date

-- each need date whose price differs is among these
abbrev pub AreChangedDates : List ℕ → List ℕ → List ℕ → Type 0
AreChangedDates old new dates = AreChangedOf (length old) old new dates

-- a place stands in the list of one of these need dates
pub record IsListedAt (dates : List ℕ) (lists : List DateDays) (place : ℕ) : Type 0 where
  pub date : ℕ
  pub among : Contains dates date
  pub listed : (e : DateDays) → Contains (slice_index_or lists date e).places.items place
