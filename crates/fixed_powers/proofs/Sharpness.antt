-- Rounding never hides one unit of yield.
use Rattle.std.proofs.Common.{◌≡◌, inl, inr, ℕ, zero, suc, ◌+◌, ◌-◌, ◌*◌, ◌/◌, ◌^◌, ◌<◌, ◌≤◌, refl, ap, arith}
use Rattle.std.proofs.Math.Nat.{mul-le-mul, mul-le-mul_left, mul-le-mul_right}
use Rattle.std.proofs.lemmas.Bool.{cases_lt}
use Rattle.std.specs.Int.{div_ceil}
use Rattle.escrow_units.specs.PresentValue.{half_year, two_hundred_percent}
use Rattle.fixed_powers.specs.DiscountPowers.{one, down, up, root_low, root_high, low, high}
use Rattle.fixed_powers.specs.PowerLaws.{IsSharp}
use Rattle.fixed_powers.specs.declared.side.Side.TheVariants.{Low}
use Rattle.std.proofs.Math.Nat.{div-mul-le_self}
use Rattle.std.proofs.lemmas.Nat.{le-div}
use Rattle.fixed_powers.proofs.WholeNumbers.{div_ceil-le-div-suc}
use Rattle.fixed_powers.proofs.ChainFacts.{down-zero, up-zero, down-suc, up-suc, down-mono, up-one, down-nothing, up-near-down}
use Rattle.fixed_powers.proofs.RootFacts.{root_low-is, root_high-is}
use Rattle.fixed_powers.proofs.PowerFacts.{root_low-antitone, falls_with_days}

-- what is a little above the root rounded down has a half-year's power that is large enough
above_root : (n t : ℕ) → t ≤ one → root_low n < t → one * two_hundred_percent < up t half_year * (two_hundred_percent + n)
above_root n t within above =
    elim (cases_lt (one * two_hundred_percent) (up t half_year * (two_hundred_percent + n))) [
      | inl lt ↦ lt
      | inr le ↦ absurd (omega (arith, (root_low-is n).greatest t within le))
    ]

below_root : (n t : ℕ) → t < root_high n → down t half_year * (two_hundred_percent + n) < one * two_hundred_percent
below_root n t below =
    elim (cases_lt (down t half_year * (two_hundred_percent + n)) (one * two_hundred_percent)) [
      | inl lt ↦ lt
      | inr le ↦ absurd (omega (arith, (root_high-is n).least t le))
    ]

-- a / t ≤ u and v < a / (t + 1) are apart by more than e, where e * t * (t + 1) is less than a
too_near : (a u v t e : ℕ) → a ≤ u * t → v * (t + 1) < a → u ≤ v + e → e * (t * (t + 1)) < a → ⊥
too_near a u v t e large small near little =
    let first = mul-le-mul_right (t + 1) large in
    let second = mul-le-mul_right (t * (t + 1)) near in
    let third = mul-le-mul_left t small in
    omega (arith, first, second, third, little)

-- what the widening of a half-year's chains comes to, at yields up to 30 percent
little_enough : (n : ℕ) → n ≤ 3_000_000_000 → 180 * (2 ^ 19 + 1 + 1) * ((two_hundred_percent + n) * (two_hundred_percent + n + 1)) < one * two_hundred_percent
little_enough n le =
    let first : two_hundred_percent + n ≤ 23_000_000_000 = omega arith in
    let second : two_hundred_percent + n + 1 ≤ 23_000_000_001 = omega arith in
    let wide = mul-le-mul first second in
    omega (arith, wide)

-- a factor t at or above the root, and one below the next yield's root, aren't within 2 ^ 19 + 1 of each other
apart : (n t x : ℕ) → n ≤ 3_000_000_000 → t ≤ one → x ≤ one → one * two_hundred_percent ≤ up t half_year * (two_hundred_percent + n) → down x half_year * (two_hundred_percent + (n + 1)) < one * two_hundred_percent → x + (2 ^ 19 + 1) < t
apart n t x le within low large small =
    elim (cases_lt (x + (2 ^ 19 + 1)) t) [
      | inl lt ↦ lt
      | inr near ↦
          absurd (too_near (one * two_hundred_percent) (up t half_year) (down x half_year) (two_hundred_percent + n) (180 * (2 ^ 19 + 1 + 1)) large (omega (arith, small)) (up-near-down x t (2 ^ 19 + 1) 180 low within near) (little_enough n le))
    ]

-- the next yield's root rounded up isn't 0
root_high-some : (n : ℕ) → 0 < root_high n
root_high-some n =
    elim (cases_lt 0 (root_high n)) [
      | inl lt ↦ lt
      | inr le ↦
          let enough = (root_high-is n).enough in
          let none : root_high n ≡ 0 = omega arith in
          let at_none = rw (none, down-nothing 179) at enough in
          absurd (omega arith)
    ]

-- the roots of neighbouring yields are far apart
pub root_gap : (n : ℕ) → n ≤ 3_000_000_000 → root_high (n + 1) + 2 ^ 19 ≤ root_low n
root_gap n le =
    let is = root_low-is n in
    let next = root_high-is (n + 1) in
    let some = root_high-some (n + 1) in
    let small = below_root (n + 1) (root_high (n + 1) - 1) (omega arith) in
    elim (cases_lt (root_low n) one) [
      | inl lt ↦
          let large = above_root n (root_low n + 1) (omega arith) (omega arith) in
          let far = apart n (root_low n + 1) (root_high (n + 1) - 1) le (omega arith) (omega (arith, next.within)) (omega (arith, large)) small in
          omega (arith, far, some)
      | inr top ↦
          let same : root_low n ≡ one = omega (arith, is.within) in
          let far = apart n one (root_high (n + 1) - 1) le (omega arith) (omega (arith, next.within)) (rw (up-one 180) (omega arith)) small in
          omega (arith, far, some, same)
    ]

-- a factor that is low enough at 30 percent, and its power of 40 years
known_factor : up 4_608_000_000_000_000_000 180 * 23_000_000_000 ≤ one * two_hundred_percent
unfolding up
known_factor = omega arith

known_power : 2 ^ 44 ≤ down 4_608_000_000_000_000_000 14_400
unfolding down
known_power = omega arith

pub low-large : (n d : ℕ) → n ≤ 3_000_000_000 → d ≤ 14_400 → 2 ^ 44 ≤ low n d
low-large n d yield days =
    let root = (root_low-is 3_000_000_000).greatest 4_608_000_000_000_000_000 (omega arith) known_factor in
    let falls = root_low-antitone n 3_000_000_000 yield in
    let rises = down-mono 4_608_000_000_000_000_000 (root_low n) 14_400 (omega (arith, root, falls)) in
    omega (arith, known_power, rises, falls_with_days Low n d 14_400 days)

-- one step: the product is ahead by twice the divisor, so that the quotients stay in order
step_apart : (v w p q o g h : ℕ) → 0 < o → v ≤ w → p + g ≤ q → h ≤ w → h * g ≡ 2 * o → div_ceil (v * p) o < w * q / o
step_apart v w p q o g h pos ordered gap large twice =
    let first = mul-le-mul_left w gap in
    let second = mul-le-mul_right g large in
    let third = mul-le-mul_right p ordered in
    let above = le-div (v * p / o + 2) (w * q) o pos (omega (arith, first, second, third, twice, div-mul-le_self (v * p) o)) in
    omega (arith, above, div_ceil-le-div-suc (v * p) o pos)

high-lt-low : (n d : ℕ) → n ≤ 3_000_000_000 → suc d ≤ 14_400 → high (n + 1) d ≤ low n d → high (n + 1) (suc d) < low n (suc d)
high-lt-low n d yield days ordered =
    let step = step_apart (high (n + 1) d) (low n d) (root_high (n + 1)) (root_low n) one (2 ^ 19) (2 ^ 44) (omega arith) ordered (root_gap n yield) (low-large n d yield (omega arith)) refl in
    rw (up-suc (root_high (n + 1)) d, down-suc (root_low n) d) step

pub high-le-low : (n d : ℕ) → n ≤ 3_000_000_000 → d ≤ 14_400 → high (n + 1) d ≤ low n d
high-le-low n zero yield days = omega (arith, up-zero (root_high (n + 1)), down-zero (root_low n))
high-le-low n (suc d) yield days =
    omega (arith, high-lt-low n d yield days (high-le-low n d yield (omega arith)))

pub sharp : IsSharp
sharp n d yield days = record {
  ordered = high-le-low n d yield days;
  strict = λ some.
      let same : suc (d - 1) ≡ d = omega arith in
      let before = high-le-low n (d - 1) yield (omega arith) in
      let less = high-lt-low n (d - 1) yield (omega arith) before in
      omega (arith, less, ap (high (n + 1)) same, ap (low n) same);
}
