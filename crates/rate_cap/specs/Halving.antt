-- How far a search by halves has come. This is this project's own.
use Rattle.std.specs.Prelude.{◌≡◌, ◌⊎◌, ℕ, ◌+◌, ◌-◌, ◌*◌, ◌^◌, ◌<◌, ◌≤◌, nat_le, ◌==◌, if◌then◌else◌, List, [], ◌∷◌, length, All, Option, Some, None, slice_get}
use Rattle.std.specs.List.{Contains}
use Rattle.escrow_units.specs.declared.amount.Rate.{Rate}
use Rattle.rate_table.specs.Table.{IsTableRate}
use Rattle.rate_cap.specs.Search.{CapsTold, IsCapUpTo, IsGreatest, IsLeast, middle, tells, zero_cap}

-- the last cap of a list
abbrev pub last : List Rate → Option Rate
last caps = slice_get caps (length caps - 1)

-- the middle, unless the two are one hundredth apart
abbrev pub middle_of : Rate → Rate → Option Rate
middle_of low high = if nat_le high.0 (low.0 + 10) then None else Some (middle low high)

-- what is asked, by the last found and the last not found
abbrev pub next_of : Rate → Option Rate → Option Rate → Option Rate
next_of top None None = Some top
next_of top (Some low) None = None
next_of top None (Some high) = if high.0 == 0 then None else Some zero_cap
next_of top (Some low) (Some high) = middle_of low high

-- caps of a table, of which the lower was found and the higher wasn't, and which are close enough for so many more halves
pub record AreEnds (top low high : Rate) (left : ℕ) : Type 0 where
  pub low_cap : IsTableRate low
  pub high_cap : IsCapUpTo top high
  pub order : low.0 < high.0
  pub close : high.0 ≤ low.0 + 10 * 2 ^ left

-- the top wasn't found, 0 was, and the search goes on between the last of each
pub record IsHalving (told : CapsTold) : Type 0 where
  pub low : Rate
  pub high : Rate
  pub left : ℕ
  pub count : tells told + left ≡ 14
  pub ends : AreEnds told.top low high left
  pub low_last : last told.found ≡ Some low
  pub high_last : last told.not_found ≡ Some high
  pub greatest : IsGreatest told.found low
  pub least : IsLeast told.not_found high
  pub top_first : Contains told.not_found told.top
  pub found : All (IsCapUpTo told.top) told.found
  pub not_found : All (IsCapUpTo told.top) told.not_found

-- these caps were told, as found and as not found
abbrev pub AreTold : CapsTold → List Rate → List Rate → Type 0
AreTold told found not_found = (told.found ≡ found) × (told.not_found ≡ not_found)

-- neither the top nor 0 was found
pub record IsZeroTold (told : CapsTold) : Type 0 where
  pub lists : AreTold told [] (told.top ∷ zero_cap ∷ [])
  pub above : 0 < told.top.0

-- how far a search has come: nothing is told; the top was found; it wasn't; 0 wasn't either; or it was
abbrev pub IsUnderWay : CapsTold → Type 0
IsUnderWay told =
    IsTableRate told.top
    × (AreTold told [] [] ⊎ (AreTold told (told.top ∷ []) [] ⊎ (AreTold told [] (told.top ∷ []) ⊎ (IsZeroTold told ⊎ IsHalving told))))
