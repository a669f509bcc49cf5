-- The dates of a made-up case.
use Rattle.std.proofs.Common.{◌≡◌, ◌∙◌, ℕ, ◌-◌, ◌*◌, ◌≤◌, pos, neg_ℤ, ◌+ℤ◌, ◌*ℤ◌, refl, ap, sym, arith}
use Rattle.jiff_core.specs.Calendar.{IsCivilDate}
use Rattle.jiff_core.proofs.CalendarLemmas.{days_in_month_bounds}
use Rattle.jiff_core.proofs.SignedLemmas.{signed_arith}
use Rattle.escrow_units.specs.Calendar.{CivilDate, date_of, half_back_of, months_later, number_of}
use Rattle.escrow_units.specs.declared.security.StepRule.TheVariants as rule
use Rattle.escrow_units.proofs.DayFacts.{date_of-number}
use Rattle.escrow_units.proofs.SeriesFacts.{half_back_of-day}
use Rattle.case_maker.specs.Files.{date}

last : CivilDate
last = record { year = pos 2046; month = 1; day = 15 }

last-is : date_of (pos 27_773) ≡ record { year = pos 2046; month = 1; day = 15 }
unfolding date_of
last-is = refl

-- months before the last date are months after settlement
back : (k : ℕ) → k ≤ 40 → months_later (record { year = pos 2046; month = 1; day = 15 }) (neg_ℤ (pos (6 * (40 - k)))) ≡ date k
unfolding date
back k few =
    let place : pos 2046 *ℤ pos 12 +ℤ pos (1 - 1) +ℤ neg_ℤ (pos (6 * (40 - k))) ≡ pos 2026 *ℤ pos 12 +ℤ pos (1 - 1) +ℤ pos (6 * k) = omega (arith, signed_arith) in
    rw place refl

civil : (k : ℕ) → k ≤ 40 → IsCivilDate (date k).year (date k).month (date k).day
unfolding date
civil k few =
    let long = days_in_month_bounds (date k).year (date k).month in
    ((omega (arith, signed_arith), omega (arith, signed_arith)), (omega arith, omega arith), (omega arith, omega arith))

pub date_is : (k : ℕ) → k ≤ 40 → date_of (half_back_of (pos 27_773) (40 - k) rule.SameDay) ≡ date k
date_is k few =
    let number : half_back_of (pos 27_773) (40 - k) rule.SameDay ≡ number_of (date k) = ap number_of (ap (λ d. months_later d (neg_ℤ (pos (6 * (40 - k))))) last-is ∙ back k few) in
    date_of-number (half_back_of (pos 27_773) (40 - k) rule.SameDay) (date k) (half_back_of-day (pos 27_773) rule.SameDay (40 - k) (omega (arith, signed_arith), omega (arith, signed_arith)) (omega arith)) (civil k few) (sym number)
