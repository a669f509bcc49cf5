-- Digits, and the numbers that they write.
use Rattle.std.proofs.Common.{◌≡◌, ◌∙◌, ℕ, suc, ◌+◌, ◌-◌, ◌*◌, ◌^◌, ◌<◌, ◌≤◌, ◌||◌, Bool, true, false, cond, not, ltb, Some, None, List, [], ◌∷◌, length, take, drop, get_or, refl, ap, add-one, arith}
use Rattle.std.proofs.Math.Nat.{pow-le-pow_right, pow-suc, mul-le-mul_right, one-le-pow}
use Rattle.std.proofs.lemmas.Nat.{pow-add}
use Rattle.std.proofs.lemmas.Int.Digits.{digits_value_more}
use Rattle.std.proofs.lemmas.Grind.{common_steps}
use Rattle.std.specs.List.{list_any, position_or_len, position, before_first, after_first}
use Rattle.std.specs.Option.{option_map}
use Rattle.escrow_units.specs.NumberText.{whole_of, parted_of, decimal_of, is_point}
use Rattle.escrow_units.specs.PriceText.{is_hyphen, quoted_of, price_units_of}
use Rattle.std.specs.Char.{is_ascii_digit, digit_value}
use Rattle.std.specs.Str.Parse.{digits_value}

-- at most 19 digits fit 64 bits
pub digits_fit : (n i : ℕ) → i ≤ 19 → n < 10 ^ i → n < 2 ^ 64
digits_fit n i few below = omega (arith, pow-le-pow_right {n = 10} (omega arith) {i = i} {j = 19} few)

pub digit-value : (c : ℕ) → is_ascii_digit c ≡ true → digit_value c ≡ c - 48
digit-value c digit = grind (arith, common_steps)

pub digit-bound : (c : ℕ) → is_ascii_digit c ≡ true → c - 48 < 10
digit-bound c digit = grind (arith, common_steps)

-- one digit more
pub more-below : (n d i : ℕ) → n < 10 ^ i → d < 10 → 10 * n + d < 10 ^ (i + 1)
more-below n d i below digit = rw (add-one, pow-suc 10 i) (omega arith)

pub digits_value-more : (bytes : List ℕ) (i : ℕ) → i < length bytes → is_ascii_digit (get_or bytes i 0) ≡ true →
    digits_value 10 (take (i + 1) bytes) ≡ 10 * digits_value 10 (take i bytes) + (get_or bytes i 0 - 48)
digits_value-more bytes i inside digit = digits_value_more 10 bytes i inside ∙ omega (arith, digit-value (get_or bytes i 0) digit)

-- a number of w digits, times 10 ^ p
pub scaled-step : (n w p : ℕ) → n < 10 ^ w → n * 10 ^ p + 10 ^ p ≤ 10 ^ (w + p)
scaled-step n w p below =
    let step : (n + 1) * 10 ^ p ≤ 10 ^ w * 10 ^ p = mul-le-mul_right (10 ^ p) (omega arith) in
    rw pow-add (omega (arith, step))

pub power-positive : (p : ℕ) → 0 < 10 ^ p
power-positive p = one-le-pow p 10 (omega arith)

pub scaled-below : (n w p : ℕ) → n < 10 ^ w → n * 10 ^ p < 10 ^ (w + p)
scaled-below n w p below = omega (arith, scaled-step n w p below, power-positive p)

-- digits before a point and digits after it, of places at most
pub parted-below : (whole part front back places : ℕ) → whole < 10 ^ front → part < 10 ^ back → back ≤ places →
    whole * 10 ^ places + part * 10 ^ (places - back) < 10 ^ (front + places)
parted-below whole part front back places small fraction few =
    let same : back + (places - back) ≡ places = omega arith in
    let rest : part * 10 ^ (places - back) < 10 ^ places = rw same at (scaled-below part back (places - back) fraction) in
    omega (arith, scaled-step whole front places small, rest)

ltb-next : (m n : ℕ) → ltb m n ≡ ltb (1 + m) (suc n)
ltb-next m n = grind (arith, common_steps)

ltb-first : (n : ℕ) → true ≡ ltb 0 (suc n)
ltb-first n = grind (arith, common_steps)

-- an element passes where the first place that passes is inside
pub list_any-is : (p : ℕ → Bool) (xs : List ℕ) → list_any p xs ≡ ltb (position_or_len p xs) (length xs)
list_any-is p [] = refl
list_any-is p (x ∷ xs) =
    elim (p x) as (λ b. (b || list_any p xs) ≡ ltb (cond (not b) (1 + position_or_len p xs) 0) (suc (length xs)))
    [ true ↦ ltb-first (length xs) | false ↦ list_any-is p xs ∙ ltb-next (position_or_len p xs) (length xs) ]

pub cond-Some : (b : Bool) (i j : ℕ) → cond b (Some i) None ≡ Some j → (b ≡ true) × (i ≡ j)
cond-Some true i j same = (refl, cc)
cond-Some false i j same = cc

pub cond-None : (b : Bool) (i : ℕ) → cond b (Some i) None ≡ None → b ≡ false
cond-None true i same = cc
cond-None false i same = refl

-- where a mark first stands, a list is parted there
pub record IsParted (mark : ℕ → Bool) (bytes : List ℕ) (place : ℕ) : Type 0 where
  pub found : list_any mark bytes ≡ true
  pub front : before_first mark bytes ≡ take place bytes
  pub back : after_first mark bytes ≡ drop (place + 1) bytes

pub parted_at : (mark : ℕ → Bool) (bytes : List ℕ) (place : ℕ) → position mark bytes ≡ Some place → IsParted mark bytes place
parted_at mark bytes place same =
    let parts = cond-Some (ltb (position_or_len mark bytes) (length bytes)) (position_or_len mark bytes) place same in
    record {
      found = list_any-is mark bytes ∙ parts.0;
      front = ap (λ i. take i bytes) parts.1;
      back = ap (λ i. drop (i + 1) bytes) parts.1;
    }

pub missing_at : (mark : ℕ → Bool) (bytes : List ℕ) → position mark bytes ≡ None → list_any mark bytes ≡ false
missing_at mark bytes same =
    list_any-is mark bytes ∙ cond-None (ltb (position_or_len mark bytes) (length bytes)) (position_or_len mark bytes) same

-- a field with a point is read in two parts, and one without a point in one
pub decimal_of-parted : (most places : ℕ) (bytes : List ℕ) (point : ℕ) → position is_point bytes ≡ Some point →
    decimal_of most places bytes ≡ parted_of most places (take point bytes) (drop (point + 1) bytes)
unfolding decimal_of
decimal_of-parted most places bytes point same =
    let parts = parted_at is_point bytes point same in
    rw (parts.found, parts.front, parts.back)

pub decimal_of-unparted : (most places : ℕ) (bytes : List ℕ) → position is_point bytes ≡ None →
    decimal_of most places bytes ≡ option_map (λ whole. whole * 10 ^ places) (whole_of most bytes)
unfolding decimal_of
decimal_of-unparted most places bytes same = rw (missing_at is_point bytes same)

-- the same of a price and its hyphen
pub price_units_of-parted : (bytes : List ℕ) (hyphen : ℕ) → position is_hyphen bytes ≡ Some hyphen →
    price_units_of bytes ≡ quoted_of (take hyphen bytes) (drop (hyphen + 1) bytes)
unfolding price_units_of
price_units_of-parted bytes hyphen same =
    let parts = parted_at is_hyphen bytes hyphen same in
    rw (parts.found, parts.front, parts.back)

pub price_units_of-unparted : (bytes : List ℕ) → position is_hyphen bytes ≡ None → price_units_of bytes ≡ decimal_of 3 8 bytes
unfolding price_units_of
price_units_of-unparted bytes same = rw (missing_at is_hyphen bytes same)
