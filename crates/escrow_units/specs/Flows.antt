-- Lists of amounts on days: their sum, their order, their span, and their places in the day count of the yield.
use Rattle.std.specs.Prelude.{◌≡◌, false, ℕ, ◌-◌, List, [], ◌∷◌, ◌++◌, map, All, AllPairs, sum_by, ℤ, ◌<ℤ◌, ◌≤ℤ◌}
use Rattle.escrow_units.specs.Calendar.{thirty_day_place_of, years_after_of}
use Rattle.escrow_units.specs.OpenDays.{Closings, is_closed}
use Rattle.escrow_units.specs.PresentValue.{IndexedFlow}
use Rattle.escrow_units.specs.declared.security.Flow.{Flow}

-- the sum of amounts, in cents
abbrev pub total : List Flow → ℕ
total flows = sum_by (λ flow. flow.cents.0) flows

-- each amount falls before each later one
abbrev pub Rise : List Flow → Type 0
Rise flows = AllPairs (λ earlier later. earlier.day <ℤ later.day) flows

-- no amount falls after a later one of the list
abbrev pub ComeInOrder : List Flow → Type 0
ComeInOrder flows = AllPairs (λ earlier later. earlier.day ≤ℤ later.day) flows

-- no amount falls on a closed day
abbrev pub FallOnOpenDays : Closings → List Flow → Type 0
FallOnOpenDays closed flows = All (λ flow. is_closed closed flow.day ≡ false) flows

-- each amount falls from one day to another
abbrev pub FallWithin : ℤ → ℤ → List Flow → Type 0
FallWithin from to flows = All (λ flow. (from ≤ℤ flow.day) × (flow.day ≤ℤ to)) flows

-- each amount falls from settlement to 40 years later
abbrev pub FallWithinFortyYears : ℤ → List Flow → Type 0
FallWithinFortyYears settle flows = FallWithin settle (years_after_of settle 40) flows

-- the last amount falls on a day
pub record EndsOn (day : ℤ) (flows : List Flow) : Type 0 where
  pub before : List Flow
  pub last : Flow
  pub order : flows ≡ before ++ last ∷ []
  pub falls : last.day ≡ day

-- the days from settlement to a day by years of twelve months of thirty days (30E/360, where each 31st counts as the 30th)
abbrev pub index360_of : ℤ → ℤ → ℕ
index360_of settle day = thirty_day_place_of day - thirty_day_place_of settle

-- amounts by their index, which counts from settlement
abbrev pub indexed : ℤ → List Flow → List IndexedFlow
indexed settle flows = map (λ flow. record { index = index360_of settle flow.day; cents = flow.cents.0 }) flows
