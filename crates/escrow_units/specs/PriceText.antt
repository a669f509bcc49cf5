-- The prices that fields spell, in percent of par: a decimal, or whole percents and thirty-seconds of one.
-- The spellings and the limits are this project's own.
use Rattle.std.specs.Prelude.{◌≡◌, ◌↔◌, ◌⊎◌, ℕ, ◌+◌, ◌-◌, ◌*◌, ◌^◌, ◌≤◌, List, [], ◌∷◌, ◌++◌, length, codes, Bool, true, nat_le, ◌&&◌, ◌==◌, if◌then◌else◌, Option, Some, None, Result, option_map, option_and_then}
use Rattle.std.specs.List.{list_all, list_any, before_first, after_first}
use Rattle.std.specs.Char.{is_ascii_digit}
use Rattle.std.specs.Str.Parse.{digits_value}
use Rattle.escrow_units.specs.Digits.{last_digits}
use Rattle.escrow_units.specs.declared.amount.Price8.{Price8}
use Rattle.escrow_units.specs.declared.fault.NumberFault.{NumberFault}
use Rattle.escrow_units.specs.declared.fault.NumberFault.TheVariants.{PriceRange}
use Rattle.escrow_units.specs.declared.limits.TheConstants.{GREATEST_PRICE, LEAST_PRICE}
use Rattle.escrow_units.specs.NumberText.{whole_of, decimal_of, ranged, SpellsDecimal}

-- two digits, from 00 to 31
abbrev pub thirty_seconds_of : ℕ → ℕ → Option ℕ
thirty_seconds_of tens ones = option_and_then (λ n. if nat_le n 31 then Some n else None) (whole_of 2 (tens ∷ ones ∷ []))

-- one digit from 0 to 7, or + for four eighths of a thirty-second
abbrev pub eighths_of : ℕ → Option ℕ
eighths_of byte = if byte == 43 then Some 4 else (if nat_le 48 byte && nat_le byte 55 then Some (byte - 48) else None)

-- the units of 10^-8 percent of thirty-seconds, and then optionally of eighths of one
unfoldable pub fraction_of : List ℕ → Option ℕ
fraction_of (tens ∷ ones ∷ []) = option_map (λ n. n * 3_125_000) (thirty_seconds_of tens ones)
fraction_of (tens ∷ ones ∷ last ∷ []) =
    option_and_then (λ n. option_map (λ eighths. n * 3_125_000 + eighths * 390_625) (eighths_of last)) (thirty_seconds_of tens ones)
fraction_of _ = None

-- the units of 1 to 3 digits before a hyphen and of the fraction after it
unfoldable pub quoted_of : List ℕ → List ℕ → Option ℕ
quoted_of front back =
    option_and_then (λ whole. option_map (λ part. whole * 100_000_000 + part) (fraction_of back)) (whole_of 3 front)

-- the hyphen before the thirty-seconds
abbrev pub is_hyphen : ℕ → Bool
is_hyphen byte = byte == 45

-- the units of 10^-8 percent: of a quote in thirty-seconds where there is a hyphen, else of a decimal
unfoldable pub price_units_of : List ℕ → Option ℕ
price_units_of bytes =
    if list_any is_hyphen bytes
    then quoted_of (before_first is_hyphen bytes) (after_first is_hyphen bytes)
    else decimal_of 3 8 bytes

-- what may follow the digits of thirty-seconds: nothing, or `+` for four eighths of one, or a digit from 0 to 7 of eighths
abbrev pub SpellsEighths : ℕ → List ℕ → Type 0
SpellsEighths eighths text =
    ((text ≡ []) × (eighths ≡ 0)) ⊎ (((text ≡ codes "+") × (eighths ≡ 4)) ⊎ ((text ≡ (48 + eighths) ∷ []) × (eighths ≤ 7)))

-- bytes spell units of 10^-8 percent in thirty-seconds: 1 to 3 digits of whole percents, a hyphen, two digits from 00 to 31,
-- and then the eighths. An eighth of a thirty-second is a 256th of a percent
pub record SpellsThirtySeconds (units : ℕ) (bytes : List ℕ) : Type 0 where
  pub percents : List ℕ
  pub thirty_seconds : ℕ
  pub eighths : ℕ
  pub last : List ℕ
  pub text : bytes ≡ percents ++ 45 ∷ (last_digits 2 thirty_seconds ++ last)
  pub digits : list_all is_ascii_digit percents ≡ true
  pub some : 1 ≤ length percents
  pub most_digits : length percents ≤ 3
  pub within : thirty_seconds ≤ 31
  pub follows : SpellsEighths eighths last
  pub value : 256 * units ≡ 10 ^ 8 * (256 * digits_value 10 percents + 8 * thirty_seconds + eighths)

-- the units that bytes give are just those that they spell, as a decimal with at most 8 decimals or in thirty-seconds
abbrev pub PricesAreSpelled : Type 0
PricesAreSpelled =
    (units : ℕ) (bytes : List ℕ)
    → (price_units_of bytes ≡ Some units) ↔ (SpellsDecimal 3 8 units bytes ⊎ SpellsThirtySeconds units bytes)

-- from 10 to 300 percent of par
unfoldable pub price_of : List ℕ → Result Price8 NumberFault
price_of bytes = ranged (λ n. record { 0 = n }) LEAST_PRICE GREATEST_PRICE PriceRange (price_units_of bytes)
