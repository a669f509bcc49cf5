-- Interest of one unit, scaled: what a call hands to the next.
use Rattle.std.specs.Prelude.{◌≡◌, ℕ, ◌^◌, ◌<◌}
use Rattle.escrow_units.specs.declared.interest.Accrual.{Accrual}
use Rattle.offer_book.specs.Coefficients.{interest_high, interest_low}
use Rattle.offer_book.specs.declared.coefficients.Scaled.{Scaled}

-- the scale times the interest of an accrual on a step, rounded down and up, with room for a principal in 128 bits
pub record IsInterest (step rate : ℕ) (accrual : Accrual) (interest : Scaled) : Type 0 where
  pub low : interest.low ≡ interest_low step rate accrual
  pub high : interest.high ≡ interest_high step rate accrual
  pub low_room : interest.low < 2 ^ 93
  pub high_room : interest.high < 2 ^ 93
