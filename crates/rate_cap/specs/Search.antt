-- The search by halves of the greatest common cap at which an escrow is found: what it is told, what it asks next, and what it
-- comes to. The common cap is this project's own.
use Rattle.std.specs.Prelude.{◌≡◌, ◌≢◌, ◌⊎◌, ℕ, ◌+◌, ◌*◌, ◌/◌, ◌<◌, ◌≤◌, List, [], length, All, Option, Some, None}
use Rattle.std.specs.List.{Contains}
use Rattle.escrow_units.specs.declared.amount.Rate.{Rate}
use Rattle.rate_table.specs.Table.{IsTableRate}

-- what a search is told: the top, at which it begins, and the caps at which an escrow was found, and at which none was, each in the
-- order of telling. Rates and caps are in thousandths of a percentage point
pub record CapsTold : Type 0 where
  pub top : Rate
  pub found : List Rate
  pub not_found : List Rate

-- how many caps were told
abbrev pub tells : CapsTold → ℕ
tells told = length told.found + length told.not_found

-- a cap of 0: no SLGS security bears interest
abbrev pub zero_cap : Rate
zero_cap = record { 0 = 0 }

-- the greatest cap of a list
pub record IsGreatest (caps : List Rate) (cap : Rate) : Type 0 where
  pub among : Contains caps cap
  pub greatest : All (λ other. other.0 ≤ cap.0) caps

-- the least one
pub record IsLeast (caps : List Rate) (cap : Rate) : Type 0 where
  pub among : Contains caps cap
  pub least : All (λ other. cap.0 ≤ other.0) caps

-- the middle of two caps, rounded down to a hundredth of a percentage point
abbrev pub middle : Rate → Rate → Rate
middle low high = record { 0 = (low.0 + high.0) / 20 * 10 }

-- the cap that is asked next: first the top, then 0, and then the middle of the greatest found and the least not found
pub record IsNext (told : CapsTold) (cap : Rate) : Type 0 where
  pub first : told.found ≡ [] → told.not_found ≡ [] → cap ≡ told.top
  pub second : told.found ≡ [] → told.not_found ≢ [] → cap ≡ zero_cap
  pub later : (low high : Rate) → IsGreatest told.found low → IsLeast told.not_found high → cap ≡ middle low high

-- a found cap is one hundredth of a percentage point below one that isn't
pub record AreOneApart (told : CapsTold) : Type 0 where
  pub low : Rate
  pub high : Rate
  pub found : Contains told.found low
  pub not_found : Contains told.not_found high
  pub apart : high.0 ≡ low.0 + 10

-- nothing more is asked: the top was found, 0 wasn't, or a found cap and one that isn't are one hundredth apart
abbrev pub IsSettled : CapsTold → Type 0
IsSettled told = Contains told.found told.top ⊎ (Contains told.not_found zero_cap ⊎ AreOneApart told)

-- what a search comes to: the greatest cap that was told as found, or none
abbrev pub IsBest : List Rate → Option Rate → Type 0
IsBest found None = found ≡ []
IsBest found (Some best) = IsGreatest found best

-- a cap of a search: a rate that the table may have, up to the top
pub record IsCapUpTo (top cap : Rate) : Type 0 where
  pub rate : IsTableRate cap
  pub most : cap.0 ≤ top.0

-- what a search keeps: its caps, of which each that was found is below each that wasn't; the top is told first; and there are
-- at most fourteen
pub record IsSearch (told : CapsTold) : Type 0 where
  pub found : All (IsCapUpTo told.top) told.found
  pub not_found : All (IsCapUpTo told.top) told.not_found
  pub apart : (low high : Rate) → Contains told.found low → Contains told.not_found high → low.0 < high.0
  pub top_first : told.not_found ≢ [] → Contains told.not_found told.top
  pub few : tells told ≤ 14

-- ---- laws
-- where nothing more is asked, and the greatest found cap is below the top, the next hundredth was told as not found
abbrev pub SearchesEndAtHundredths : Type 0
SearchesEndAtHundredths =
    (told : CapsTold) (best : Rate) → IsSearch told → IsSettled told → IsGreatest told.found best → best.0 < told.top.0
    → Contains told.not_found (record { 0 = best.0 + 10 })

-- where nothing more is asked, and no cap was found, 0 wasn't
abbrev pub SearchesEndAtZero : Type 0
SearchesEndAtZero = (told : CapsTold) → IsSearch told → IsSettled told → told.found ≡ [] → Contains told.not_found zero_cap
