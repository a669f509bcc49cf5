-- How far amounts in order of day were passed, one after another.
use Rattle.std.specs.Prelude.{◌≡◌, ◌+◌, List, drop, ℤ}
use Rattle.day_sums.specs.Summed.{total_by}
use Rattle.escrow_units.specs.declared.security.Flow.{Flow}
use Rattle.held_escrow.specs.declared.shortfall.Passed.{Passed}

-- up to and on a day amounts come to what was passed, and to those ahead
abbrev pub CountsOn : List Flow → Passed → ℤ → Type 0
CountsOn flows passed day = total_by day flows ≡ passed.cents + total_by day (drop passed.count flows)
