use Rattle.std.proofs.Common.{refl, arith, rules, ◌≡◌, FitsSigned, w16, to_z, of_z}
use Rattle.std.proofs.lemmas.Int.{to_z-of_z}
use Rattle.jiff_core.proofs.SignedLemmas.{signed_arith}
use Rattle.escrow_units.proofs.DateFacts.{pos_abs}
use Rattle.escrow_units.proofs.DayFacts.{thirty_day_place_of-date, year_in_days}
use Rattle.escrow_units.proofs.calendar.thirty_day_place.Goals as goal

pub overflow_cast-result : goal.overflow_cast-result
overflow_cast-result c =
    let y = year_in_days c.plain_date-date.result (rw c.plain_date-date.ensures.number c.plain_date-date.ensures.years) in
    let fits : FitsSigned w16 c.plain_date-date.result.year = search rules in
    let same : to_z w16 (of_z w16 c.plain_date-date.result.year) ≡ c.plain_date-date.result.year = to_z-of_z w16 c.plain_date-date.result.year fits in
    let p = pos_abs c.plain_date-date.result.year (omega (arith, signed_arith)) in
    rw same (omega (arith, signed_arith), record { fits = omega (arith, signed_arith) })

pub returns-clause-value : goal.returns-clause-value
returns-clause-value c =
    let fits : FitsSigned w16 c.plain_date-date.result.year = search rules in
    let same : to_z w16 (of_z w16 c.plain_date-date.result.year) ≡ c.plain_date-date.result.year = to_z-of_z w16 c.plain_date-date.result.year fits in
    let e = rw c.plain_date-date.ensures.number at (thirty_day_place_of-date c.plain_date-date.result (rw c.plain_date-date.ensures.number c.plain_date-date.ensures.years)) in
    rw (same, e, c.min.ensures) refl

pub returns-clause-bound : goal.returns-clause-bound
returns-clause-bound c =
    let y = year_in_days c.plain_date-date.result (rw c.plain_date-date.ensures.number c.plain_date-date.ensures.years) in
    let fits : FitsSigned w16 c.plain_date-date.result.year = search rules in
    let same : to_z w16 (of_z w16 c.plain_date-date.result.year) ≡ c.plain_date-date.result.year = to_z-of_z w16 c.plain_date-date.result.year fits in
    let p = pos_abs c.plain_date-date.result.year (omega (arith, signed_arith)) in
    rw same (omega (arith, signed_arith, c.plain_date-date.result.month_in, c.min.ensures))
