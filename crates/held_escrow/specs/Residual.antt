-- What is still needed beside holdings. This project's own.
use Rattle.std.specs.Prelude.{◌≡◌, ◌↔◌, ℕ, ◌+◌, ◌-◌, ◌≤◌, max, nat_lt, if◌then◌else◌, List, [], ◌∷◌, ◌++◌, ℤ, ◌≤ℤ◌}
use Rattle.day_sums.specs.Summed.{on, total_by}
use Rattle.day_sums.specs.SummedLaws.{AreAboveZero}
use Rattle.escrow_units.specs.Flows.{ComeInOrder, Rise}
use Rattle.escrow_units.specs.declared.security.Flow.{Flow}

-- ---- what the residual is
-- what is lacking on a day: the needs up to and on it, less the holdings up to and on it, or 0
abbrev pub shortfall : List Flow → List Flow → ℤ → ℕ
shortfall needs held day = total_by day needs - total_by day held

-- the greatest shortfall so far: that of some day up to a day, and none of the days up to it has a greater one
pub record IsGreatestShortfall (needs held : List Flow) (day : ℤ) (cents : ℕ) : Type 0 where
  pub most : (earlier : ℤ) → earlier ≤ℤ day → shortfall needs held earlier ≤ cents
  pub at : ℤ
  pub by : at ≤ℤ day
  pub reached : shortfall needs held at ≡ cents

-- the residual of needs beside holdings: in order of day, none of 0 cents, and up to and on each day it comes to the greatest shortfall
-- so far. So on each day it is the growth of the greatest shortfall
pub record IsResidual (needs held residual : List Flow) : Type 0 where
  pub rise : Rise residual
  pub above : AreAboveZero residual
  pub days : (day : ℤ) → IsGreatestShortfall needs held day (total_by day residual)

-- ---- need by need
-- a growth of a day, if there is one
abbrev pub growth_on : ℤ → ℕ → ℕ → List Flow
growth_on day before now = if nat_lt before now then on day (now - before) ∷ [] else []

-- the growths on the days of needs, from a greatest shortfall before them
unfoldable pub growths : List Flow → List Flow → ℕ → List Flow → List Flow
growths needs held before [] = []
growths needs held before (need ∷ later) =
    growth_on need.day before (shortfall needs held need.day) ++ growths needs held (max before (shortfall needs held need.day)) later

-- the residual of needs, which come in order of day
abbrev pub residual_of : List Flow → List Flow → List Flow
residual_of needs held = growths needs held 0 needs

-- ---- laws
-- needs in order of day have one residual, and it is that
abbrev pub ResidualsAreOne : Type 0
ResidualsAreOne =
    (needs held residual : List Flow) → ComeInOrder needs → IsResidual needs held residual ↔ (residual ≡ residual_of needs held)

-- whatever is paid is at least the residual up to and on every day exactly where, with the holdings, it is at least the needs
abbrev pub StandsForNeeds : (needs held residual : List Flow) → Type 0
StandsForNeeds needs held residual =
    (paid : List Flow) → ((t : ℤ) → total_by t residual ≤ total_by t paid) ↔ ((t : ℤ) → total_by t needs ≤ total_by t paid + total_by t held)
