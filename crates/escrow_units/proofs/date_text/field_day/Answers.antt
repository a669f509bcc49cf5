use Rattle.std.proofs.Common.{arith, pos, ◌≤ℤ◌, ◌<ℤ◌}
use Rattle.jiff_core.proofs.SignedLemmas.{signed_casts}
use Rattle.jiff_core.proofs.DateLemmas.{civil}
use Rattle.escrow_units.proofs.DayFacts.{days_in_years}
use Rattle.escrow_units.proofs.date_text.field_day.Goals as goal

pub day_of_date-requires : goal.day_of_date-requires
day_of_date-requires c =
    let y = c.in-Ok.ensures.value.0 in
    let low : pos 1900 ≤ℤ c.in-Ok.date.year = omega (arith, signed_casts, y) in
    let high : c.in-Ok.date.year <ℤ pos 2300 = omega (arith, signed_casts, y) in
    rw c.to_plain.ensures (days_in_years c.in-Ok.date.year c.in-Ok.date.month c.in-Ok.date.day (civil c.in-Ok.date) low high)
