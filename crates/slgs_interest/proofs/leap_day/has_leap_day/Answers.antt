use Rattle.std.proofs.Common.{rules, ◌≡◌, ◌∙◌, FitsSigned, w16, w32, to_z, of_z}
use Rattle.std.proofs.lemmas.Int.{to_z-of_z}
use Rattle.slgs_interest.proofs.LeapDays.{leap-end, end-leap}
use Rattle.slgs_interest.proofs.leap_day.has_leap_day.Goals as goal

pub returns : goal.returns
returns c =
    let narrow : FitsSigned w16 c.args.year = c.ranges.year in
    let same : to_z w16 (of_z w16 c.args.year) ≡ c.args.year = to_z-of_z w16 c.args.year narrow in
    let wide : FitsSigned w32 c.to_unix_epoch_day.result = search rules in
    let number = to_z-of_z w32 c.to_unix_epoch_day.result wide ∙ c.to_unix_epoch_day.ensures.value in
    let date = c.constrain-end_of_february.result in
    let year = c.constrain-end_of_february.ensures.year ∙ same in
    let month = c.constrain-end_of_february.ensures.month in
    let day = rw same at c.constrain-end_of_february.ensures.day in (
      λ t. let within = rw number at (c.lies_after.ensures.0 t) in
          leap-end c.args.year c.args.after c.args.last date year month day c.if-end_of_february-lt29.false within.0 within.1,
      λ leap. c.lies_after.ensures.1 (rw number (end-leap c.args.year c.args.after c.args.last date year month day leap)),
    )
