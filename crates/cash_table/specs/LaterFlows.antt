-- Flows whose worth depends on the yield.
use Rattle.std.specs.Prelude.{◌≡◌, ◌⊎◌, List, [], ℤ}
use Rattle.escrow_units.specs.Flows.{indexed}
use Rattle.escrow_units.specs.declared.security.Flow.{Flow}
use Rattle.fixed_powers.specs.PresentValues.{HasLaterAmount}

-- where there are flows, one above 0 falls at an index of 1 or more, so that the yield matters
abbrev pub HaveLaterAmount : ℤ → List Flow → Type 0
HaveLaterAmount settle flows = (flows ≡ []) ⊎ HasLaterAmount (indexed settle flows)
