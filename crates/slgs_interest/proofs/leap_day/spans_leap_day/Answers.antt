use Rattle.std.proofs.Common.{rules, ◌∙◌, inl, inr, FitsSigned, w16}
use Rattle.std.proofs.lemmas.Int.{to_z-of_z}
use Rattle.slgs_interest.proofs.leap_day.spans_leap_day.Goals as goal

pub returns-else-has_leap_day : goal.returns-else-has_leap_day
returns-else-has_leap_day c =
    let first_narrow : FitsSigned w16 c.year_of.result = search rules in
    let last_narrow : FitsSigned w16 c.year_of-else-has_leap_day.result = search rules in
    let first = to_z-of_z w16 c.year_of.result first_narrow ∙ c.year_of.ensures.year in
    let last = to_z-of_z w16 c.year_of-else-has_leap_day.result last_narrow ∙ c.year_of-else-has_leap_day.ensures.year in (
      λ t. inr (rw last at (c.has_leap_day-else-has_leap_day.ensures.0 t)),
      λ leap. elim leap [
        | inl a ↦ let t = c.has_leap_day.ensures.1 (rw first a) in cc (t, c.if-has_leap_day.false)
        | inr b ↦ c.has_leap_day-else-has_leap_day.ensures.1 (rw last b)
      ],
    )
