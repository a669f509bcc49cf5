use Rattle.std.proofs.Common.{rules, sym, ap, ◌≡◌, ◌∙◌, FitsSigned, w16, to_z, of_z}
use Rattle.std.proofs.lemmas.Int.{to_z-of_z}
use Rattle.escrow_units.specs.Calendar.{CivilDate}
use Rattle.escrow_units.proofs.DayFacts.{date_of-date}
use Rattle.slgs_interest.proofs.leap_day.year_of.Goals as goal

pub returns-clause-year : goal.returns-clause-year
returns-clause-year c =
    let narrow : FitsSigned w16 c.plain_date.result.year = search rules in
    let same : to_z w16 (of_z w16 c.plain_date.result.year) ≡ c.plain_date.result.year = to_z-of_z w16 c.plain_date.result.year narrow in
    let date = rw c.plain_date.ensures.number at (date_of-date c.plain_date.result (rw c.plain_date.ensures.number c.plain_date.ensures.years)) in
    same ∙ sym (ap (λ (d : CivilDate). d.year) date)
