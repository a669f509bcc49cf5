use Rattle.std.proofs.Common.{refl, arith, rules, ◌≡◌, FitsSigned, w16, to_z, of_z, pos, neg_ℤ}
use Rattle.std.proofs.lemmas.Int.{to_z-of_z}
use Rattle.jiff.specs.Words.{shifted_year, shifted_month}
use Rattle.jiff_core.proofs.SignedLemmas.{signed_arith, signed_casts}
use Rattle.escrow_units.proofs.DateFacts.{pos_abs}
use Rattle.escrow_units.proofs.DayFacts.{year_in_base}
use Rattle.escrow_units.proofs.calendar.months_before.Goals as goal

pub overflow_cast-place : goal.overflow_cast-place
overflow_cast-place c =
    let y = year_in_base c.args.date c.requires.base in
    let fits : FitsSigned w16 c.args.date.year = search rules in
    let same : to_z w16 (of_z w16 c.args.date.year) ≡ c.args.date.year = to_z-of_z w16 c.args.date.year fits in
    let p = pos_abs c.args.date.year (omega (arith, signed_arith)) in
    rw same (omega (arith, signed_arith), record { fits = omega (arith, signed_arith) })

pub overflow_sub-place-2 : goal.overflow_sub-place-2
overflow_sub-place-2 c =
    let y = year_in_base c.args.date c.requires.base in
    let fits : FitsSigned w16 c.args.date.year = search rules in
    let same : to_z w16 (of_z w16 c.args.date.year) ≡ c.args.date.year = to_z-of_z w16 c.args.date.year fits in
    let p = pos_abs c.args.date.year (omega (arith, signed_arith)) in
    rw same (omega (arith, signed_arith, c.requires.few))

pub returns : goal.returns
returns c =
    let y = year_in_base c.args.date c.requires.base in
    let fits : FitsSigned w16 c.args.date.year = search rules in
    let same : to_z w16 (of_z w16 c.args.date.year) ≡ c.args.date.year = to_z-of_z w16 c.args.date.year fits in
    let p = pos_abs c.args.date.year (omega (arith, signed_arith)) in
    let in_year = rw same at c.constrain.ensures.year in
    let in_month = rw same at c.constrain.ensures.month in
    let year : c.constrain.result.year ≡ shifted_year c.args.date (neg_ℤ (pos c.args.months)) = omega (arith, signed_arith, signed_casts, in_year, c.requires.few, c.args.date.month_in) in
    let month : c.constrain.result.month ≡ shifted_month c.args.date (neg_ℤ (pos c.args.months)) = omega (arith, signed_arith, signed_casts, in_month, c.requires.few, c.args.date.month_in) in
    rw (c.constrain.ensures.day, ← c.constrain.ensures.year, ← c.constrain.ensures.month, year, month) refl
