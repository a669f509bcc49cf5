use Rattle.std.proofs.Common.{arith, rules, ◌≡◌, ◌==◌, true, false, ◌∙◌, refl, eq-eqb, pos, neg_ℤ, ◌*◌, ◌≤◌, unsigned_abs, FitsSigned, w16, to_z, of_z}
use Rattle.std.proofs.lemmas.Int.{to_z-of_z}
use Rattle.std.proofs.lemmas.Bool.Decides.{nat_tests}
use Rattle.jiff.specs.Words.{days_in_month, epoch_day}
use Rattle.escrow_units.proofs.DayFacts.{moved, ended, month_end_test, abs-neg, base_number}
use Rattle.escrow_units.proofs.calendar.half_years_before.Goals as goal

pub day_of_date-requires : goal.day_of_date-requires
day_of_date-requires c =
    let few : unsigned_abs (neg_ℤ (pos (6 * c.args.k))) ≤ 600 = omega (arith, abs-neg (6 * c.args.k)) in
    (moved (epoch_day c.args.date) c.args.date c.months_before-back.result (neg_ℤ (pos (6 * c.args.k))) c.requires.base refl c.months_before-back.ensures few).1

pub day_of_date-requires-then-date-days_in_month : goal.day_of_date-requires-then-date-days_in_month
day_of_date-requires-then-date-days_in_month c =
    let few : unsigned_abs (neg_ℤ (pos (6 * c.args.k))) ≤ 600 = omega (arith, abs-neg (6 * c.args.k)) in
    let l = c.last_of_month.ensures in
    (ended (epoch_day c.args.date) c.args.date c.months_before-back.result c.last_of_month.result (neg_ℤ (pos (6 * c.args.k))) c.requires.base refl c.months_before-back.ensures few l.year l.month l.day).1

pub day_of_date-requires-else-date-days_in_month : goal.day_of_date-requires-else-date-days_in_month
day_of_date-requires-else-date-days_in_month c =
    let few : unsigned_abs (neg_ℤ (pos (6 * c.args.k))) ≤ 600 = omega (arith, abs-neg (6 * c.args.k)) in
    (moved (epoch_day c.args.date) c.args.date c.months_before-back.result (neg_ℤ (pos (6 * c.args.k))) c.requires.base refl c.months_before-back.ensures few).1

pub returns-in-SameDay : goal.returns-in-SameDay
returns-in-SameDay c =
    let few : unsigned_abs (neg_ℤ (pos (6 * c.args.k))) ≤ 600 = omega (arith, abs-neg (6 * c.args.k)) in
    rw c.in-SameDay.is (c.day_of_date.ensures ∙ (moved (epoch_day c.args.date) c.args.date c.months_before-back.result (neg_ℤ (pos (6 * c.args.k))) c.requires.base refl c.months_before-back.ensures few).0)

pub returns-then-date-days_in_month : goal.returns-then-date-days_in_month
returns-then-date-days_in_month c =
    let few : unsigned_abs (neg_ℤ (pos (6 * c.args.k))) ≤ 600 = omega (arith, abs-neg (6 * c.args.k)) in
    let l = c.last_of_month.ensures in
    let e = ended (epoch_day c.args.date) c.args.date c.months_before-back.result c.last_of_month.result (neg_ℤ (pos (6 * c.args.k))) c.requires.base refl c.months_before-back.ensures few l.year l.month l.day in
    let fits : FitsSigned w16 c.args.date.year = search rules in
    let same : to_z w16 (of_z w16 c.args.date.year) ≡ c.args.date.year = to_z-of_z w16 c.args.date.year fits in
    let length = rw same at c.days_in_month.ensures.value in
    let t : (c.args.date.day == days_in_month c.args.date.year c.args.date.month) ≡ true = eq-eqb _ _ (omega (arith, c.if-date-days_in_month.true, length)) in
    let end = month_end_test (epoch_day c.args.date) c.args.date true (base_number _ c.requires.base) refl t in
    rw (c.in-MonthEnd.is, end) (c.day_of_date-then-date-days_in_month.ensures ∙ e.0)

pub returns-else-date-days_in_month : goal.returns-else-date-days_in_month
returns-else-date-days_in_month c =
    let few : unsigned_abs (neg_ℤ (pos (6 * c.args.k))) ≤ 600 = omega (arith, abs-neg (6 * c.args.k)) in
    let fits : FitsSigned w16 c.args.date.year = search rules in
    let same : to_z w16 (of_z w16 c.args.date.year) ≡ c.args.date.year = to_z-of_z w16 c.args.date.year fits in
    let length = rw same at c.days_in_month.ensures.value in
    let t : (c.args.date.day == days_in_month c.args.date.year c.args.date.month) ≡ false = grind (arith, nat_tests, c.if-date-days_in_month.false, length) in
    let end = month_end_test (epoch_day c.args.date) c.args.date false (base_number _ c.requires.base) refl t in
    rw (c.in-MonthEnd.is, end) (c.day_of_date-else-date-days_in_month.ensures ∙ (moved (epoch_day c.args.date) c.args.date c.months_before-back.result (neg_ℤ (pos (6 * c.args.k))) c.requires.base refl c.months_before-back.ensures few).0)
