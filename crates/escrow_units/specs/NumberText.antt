-- The numbers that fields spell. The spellings and the limits are this project's own.
use Rattle.std.specs.Prelude.{ℕ, ◌+◌, ◌-◌, ◌*◌, ◌^◌, List, length, Bool, nat_le, ◌&&◌, ◌==◌, if◌then◌else◌, Option, Some, None, Result, Ok, Err, option_map, option_and_then, ◌≡◌, ◌≤◌, [], ◌∷◌, ◌++◌, true}
use Rattle.std.specs.List.{list_all, list_any, before_first, after_first}
use Rattle.std.specs.Char.{is_ascii_digit}
use Rattle.std.specs.Str.Parse.{digits_value}
use Rattle.escrow_units.specs.declared.amount.Cents.{Cents}
use Rattle.escrow_units.specs.declared.amount.Rate.{Rate}
use Rattle.escrow_units.specs.declared.amount.YieldUnits.{YieldUnits}
use Rattle.escrow_units.specs.declared.fault.NumberFault.{NumberFault}
use Rattle.escrow_units.specs.declared.fault.NumberFault.TheVariants.{BadNumber, OutOfRange}
use Rattle.escrow_units.specs.declared.limits.TheConstants.{AMOUNT_LIMIT, GREATEST_GIVEN_YIELD, GREATEST_RATE}

-- the number that 1 to most digits write: leading zeros are allowed, and counted
unfoldable pub whole_of : ℕ → List ℕ → Option ℕ
whole_of most bytes =
    if nat_le 1 (length bytes) && nat_le (length bytes) most && list_all is_ascii_digit bytes
    then Some (digits_value 10 bytes) else None

-- the units of 10^-places that 1 to most digits before a point and 1 to places digits after it write
unfoldable pub parted_of : ℕ → ℕ → List ℕ → List ℕ → Option ℕ
parted_of most places front back =
    option_and_then (λ whole. option_map (λ part. whole * 10 ^ places + part * 10 ^ (places - length back))
    (whole_of places back)) (whole_of most front)

-- the point before the decimals
abbrev pub is_point : ℕ → Bool
is_point byte = byte == 46

-- the units of 10^-places that 1 to most digits write, then optionally a point and 1 to places digits
unfoldable pub decimal_of : ℕ → ℕ → List ℕ → Option ℕ
decimal_of most places bytes =
    if list_any is_point bytes
    then parted_of most places (before_first is_point bytes) (after_first is_point bytes)
    else option_map (λ whole. whole * 10 ^ places) (whole_of most bytes)

-- digits, and where there are decimals a point and these
abbrev pub decimal_text : List ℕ → List ℕ → List ℕ
decimal_text whole [] = whole
decimal_text whole (digit ∷ digits) = whole ++ 46 ∷ digit ∷ digits

-- bytes spell units of 10^-places: 1 to most digits, and at most places decimals. What all these digits write, over
-- 10 for each decimal, is units over 10^places. A law has that this is just what decimal_of reads
pub record SpellsDecimal (most places units : ℕ) (bytes : List ℕ) : Type 0 where
  pub whole : List ℕ
  pub decimals : List ℕ
  pub text : bytes ≡ decimal_text whole decimals
  pub digits : list_all is_ascii_digit (whole ++ decimals) ≡ true
  pub some : 1 ≤ length whole
  pub most_digits : length whole ≤ most
  pub most_decimals : length decimals ≤ places
  pub value : units * 10 ^ length decimals ≡ digits_value 10 (whole ++ decimals) * 10 ^ places

-- a number from least to most, or else why the field has none: it spells no number, or one outside these
abbrev pub ranged : {T : Type 0} → (ℕ → T) → ℕ → ℕ → NumberFault → Option ℕ → Result T NumberFault
ranged make least most outside None = Err BadNumber
ranged make least most outside (Some n) = if nat_le least n && nat_le n most then Ok (make n) else Err outside

-- 1 to 15 digits, then optionally a point and 1 or 2 digits: dollars and cents, at most 10^13 cents
unfoldable pub cents_of : List ℕ → Result Cents NumberFault
cents_of bytes = ranged (λ n. record { 0 = n }) 0 AMOUNT_LIMIT OutOfRange (decimal_of 15 2 bytes)

-- 1 to 15 digits: whole dollars, from 1 to 1,000,000,000
unfoldable pub dollars_of : List ℕ → Result ℕ NumberFault
dollars_of bytes = ranged (λ n. n) 1 1_000_000_000 OutOfRange (whole_of 15 bytes)

-- 1 to 3 digits, then optionally a point and 1 to 3 digits: percent, at most 30.000
unfoldable pub rate_of : List ℕ → Result Rate NumberFault
rate_of bytes = ranged (λ n. record { 0 = n }) 0 GREATEST_RATE OutOfRange (decimal_of 3 3 bytes)

-- 1 to 3 digits, then optionally a point and 1 to 8 digits: percent, at most 29.99
unfoldable pub yield_of : List ℕ → Result YieldUnits NumberFault
yield_of bytes = ranged (λ n. record { 0 = n }) 0 GREATEST_GIVEN_YIELD OutOfRange (decimal_of 3 8 bytes)

-- 1 to 6 digits: a number from 1 to 10,000
unfoldable pub count_of : List ℕ → Result ℕ NumberFault
count_of bytes = ranged (λ n. n) 1 10_000 OutOfRange (whole_of 6 bytes)
