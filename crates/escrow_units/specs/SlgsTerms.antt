-- The terms of SLGS time deposit securities (31 CFR part 344).
use Rattle.std.specs.Prelude.{◌≡◌, ℕ, ◌==◌, if◌then◌else◌, Bool, ◌&&◌, ℤ, pos, ◌+ℤ◌, ◌≤ℤ◌, ◌<ℤ◌, int_le}
use Rattle.jiff_core.specs.Calendar.{IsBetween}
use Rattle.escrow_units.specs.Calendar.{IsSeriesDate, years_after_of}
use Rattle.escrow_units.specs.declared.limits.TheConstants.{FIRST_WAIT}
use Rattle.escrow_units.specs.declared.security.Slgs.{Slgs}
use Rattle.escrow_units.specs.declared.security.SlgsKind.{SlgsKind}
use Rattle.escrow_units.specs.declared.security.SlgsKind.TheVariants as kind
use Rattle.escrow_units.specs.declared.security.StepRule.TheVariants as rule

-- a settlement day: from 2000-01-01 to 2150-01-01 (this project's own)
abbrev pub IsSettlement : ℤ → Type 0
IsSettlement n = IsBetween (pos 10_957) (pos 65_744) n

-- whether a day is one
abbrev pub is_settlement : ℤ → Bool
is_settlement n = int_le (pos 10_957) n && int_le n (pos 65_744)

-- the fewest days to maturity: 30, or 15 for a security that bears no interest (31 CFR part 344)
abbrev pub shortest_term : ℕ → ℕ
shortest_term rate = if rate == 0 then 15 else 30

-- a certificate of indebtedness runs at most one year, a note longer and at most ten years, a bond longer
-- (31 CFR part 344)
abbrev pub IsOfKind : SlgsKind → ℤ → ℤ → Type 0
IsOfKind kind.Certificate settle maturity = maturity ≤ℤ years_after_of settle 1
IsOfKind kind.Note settle maturity =
    (years_after_of settle 1 <ℤ maturity) × (maturity ≤ℤ years_after_of settle 10)
IsOfKind kind.Bond settle maturity = years_after_of settle 10 <ℤ maturity

-- a first payment of interest falls on a date of the series, at least 30 days and at most one year after settlement
-- (this project's own)
pub record IsFirstInterest (settle maturity first : ℤ) : Type 0 where
  pub series : IsSeriesDate maturity rule.SameDay first
  pub late : (settle +ℤ pos FIRST_WAIT) ≤ℤ first
  pub early : first ≤ℤ years_after_of settle 1

-- a certificate pays once, at maturity; notes and bonds pay interest by the half-year (31 CFR part 344)
abbrev pub IsFirstPayment : SlgsKind → ℤ → ℤ → ℤ → Type 0
IsFirstPayment kind.Certificate settle maturity first = first ≡ maturity
IsFirstPayment kind.Note settle maturity first = IsFirstInterest settle maturity first
IsFirstPayment kind.Bond settle maturity first = IsFirstInterest settle maturity first

-- a security that keeps the terms; the greatest length of 40 years is this project's own
pub record IsSlgs (slgs : Slgs) : Type 0 where
  pub least : (slgs.settle +ℤ pos (shortest_term slgs.rate.0)) ≤ℤ slgs.maturity
  pub most : slgs.maturity ≤ℤ years_after_of slgs.settle 40
  pub kind : IsOfKind slgs.kind slgs.settle slgs.maturity
  pub first : IsFirstPayment slgs.kind slgs.settle slgs.maturity slgs.first
