use Rattle.std.proofs.Common.{arith, ◌≡◌, ◌∙◌, pos, ◌*◌, ◌*ℤ◌, to_z, of_z, w32, ◌≤◌, unsigned_abs}
use Rattle.jiff_core.proofs.SignedLemmas.{signed_casts}
use Rattle.escrow_units.proofs.DayFacts.{moved}
use Rattle.escrow_units.proofs.calendar.years_after.Goals as goal

pub day_of_date-requires : goal.day_of_date-requires
day_of_date-requires c =
    let m : to_z w32 (of_z w32 (pos 12 *ℤ to_z w32 c.args.years)) ≡ pos (12 * c.args.years) = omega (arith, signed_casts) in
    let few : unsigned_abs (pos (12 * c.args.years)) ≤ 600 = omega arith in
    let f = rw (m, c.from_plain-date.ensures) at c.shifted.ensures in
    rw c.to_plain.ensures (moved c.args.day c.plain_date.result c.shifted.result (pos (12 * c.args.years)) c.requires.base c.plain_date.ensures.number f few).1

pub returns : goal.returns
returns c =
    let m : to_z w32 (of_z w32 (pos 12 *ℤ to_z w32 c.args.years)) ≡ pos (12 * c.args.years) = omega (arith, signed_casts) in
    let few : unsigned_abs (pos (12 * c.args.years)) ≤ 600 = omega arith in
    let f = rw (m, c.from_plain-date.ensures) at c.shifted.ensures in
    c.day_of_date.ensures ∙ rw c.to_plain.ensures (moved c.args.day c.plain_date.result c.shifted.result (pos (12 * c.args.years)) c.requires.base c.plain_date.ensures.number f few).0
