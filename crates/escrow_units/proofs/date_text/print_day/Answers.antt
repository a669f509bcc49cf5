use Rattle.std.proofs.Common.{arith, rules, ◌≡◌, FitsSigned, w16, to_z, of_z, append_assoc}
use Rattle.std.proofs.lemmas.Int.{to_z-of_z}
use Rattle.jiff_core.proofs.SignedLemmas.{signed_arith}
use Rattle.escrow_units.proofs.DateFacts.{pos_abs}
use Rattle.escrow_units.proofs.DayFacts.{date_of-date, year_in_days}
use Rattle.escrow_units.proofs.TextFacts.{day_of-text}
use Rattle.escrow_units.proofs.date_text.print_day.Goals as goal

pub overflow_cast-date : goal.overflow_cast-date
overflow_cast-date c =
    let y = year_in_days c.plain_date-date.result (rw c.plain_date-date.ensures.number c.plain_date-date.ensures.years) in
    let fits : FitsSigned w16 c.plain_date-date.result.year = search rules in
    let same : to_z w16 (of_z w16 c.plain_date-date.result.year) ≡ c.plain_date-date.result.year = to_z-of_z w16 c.plain_date-date.result.year fits in
    let p = pos_abs c.plain_date-date.result.year (omega (arith, signed_arith)) in
    rw same (omega (arith, signed_arith), record { fits = omega (arith, signed_arith) })

pub returns-clause-text : goal.returns-clause-text
returns-clause-text c =
    let fits : FitsSigned w16 c.plain_date-date.result.year = search rules in
    let same : to_z w16 (of_z w16 c.plain_date-date.result.year) ≡ c.plain_date-date.result.year = to_z-of_z w16 c.plain_date-date.result.year fits in
    let civil = rw c.plain_date-date.ensures.number at (date_of-date c.plain_date-date.result (rw c.plain_date-date.ensures.number c.plain_date-date.ensures.years)) in
    rw (civil, c.push_last-3.ensures, c.push_ascii-2.ensures, c.push_last-2.ensures, c.push_ascii.ensures, c.push_last.ensures, c.new-text.ensures, same) (simp append_assoc)

pub returns-clause-again : goal.returns-clause-again
returns-clause-again c = λ field. rw (returns-clause-text c) (day_of-text c.args.value field)
