-- Rounded interest.
use Rattle.std.proofs.Common.{◌≡◌, ℕ, ◌+◌, ◌*◌, ◌^◌, ◌<◌, ◌≤◌, arith, refl}
use Rattle.std.proofs.Math.Nat.{mul-div-mul_right, mul-le-mul, mul-le-mul_right}
use Rattle.std.specs.Prelude.{ℤ, pos, ◌+ℤ◌, ◌≤ℤ◌, ◌<ℤ◌}
use Rattle.escrow_units.proofs.FlowFacts.{days_between_of-count, int_lt-not, int_lt-test}
use Rattle.escrow_units.proofs.RoundingFacts.{near-at-most, near-zero}
use Rattle.escrow_units.specs.Rounding.{near}
use Rattle.escrow_units.specs.Interest.{earned_of, half_coupon_of}
use Rattle.slgs_interest.specs.Payments.{accrual_to}

-- the same part of a whole
pub near-scaled : (a b d : ℕ) → 0 < d → near (a * d) (b * d) ≡ near a b
unfolding near
near-scaled a b d h =
    let above : 2 * (a * d) + b * d ≡ (2 * a + b) * d = omega arith in
    let below : 2 * (b * d) ≡ 2 * b * d = omega arith in
    rw (above, below) (mul-div-mul_right (2 * a + b) (2 * b) h)

-- the accrual of a long first period, and of a short one
pub long-period : (settle first before second : ℤ) (half days : ℕ) → settle <ℤ before → second +ℤ pos half ≡ before → settle +ℤ pos days ≡ before
    → record { parts = half + days; year = 2 * half } ≡ accrual_to settle first before second
long-period settle first before second half days less h d =
    rw (int_lt-test settle before less, days_between_of-count second before half h, days_between_of-count settle before days d) refl

pub short-period : (settle first before second : ℤ) (half days : ℕ) → before ≤ℤ settle → before +ℤ pos half ≡ first → settle +ℤ pos days ≡ first
    → record { parts = days; year = 2 * half } ≡ accrual_to settle first before second
short-period settle first before second half days less h d =
    rw (int_lt-not settle before less, days_between_of-count before first half h, days_between_of-count settle first days d) refl

-- half a year earns half a coupon
pub whole-period : (face rate half : ℕ) → 0 < half → earned_of face rate half (2 * half) ≡ half_coupon_of face rate
whole-period face rate half some =
    let twice : 100_000 * (2 * half) ≡ 200_000 * half = omega arith in
    rw twice (near-scaled (face * rate) 200_000 half some)

-- without a rate there is no interest
pub no-interest : (face rate parts year : ℕ) → rate ≡ 0 → 0 < year → earned_of face rate parts year ≡ 0
no-interest face rate parts year none some =
    near-zero (face * rate * parts) (100_000 * year) (rw none (omega arith)) (omega arith)

yearly : (face rate days : ℕ) → face ≤ 10 ^ 11 → rate ≤ 30_000 → face * rate * days ≤ 3_000_000_000_000_000 * days
yearly face rate days f r =
    let product = mul-le-mul f r in
    mul-le-mul_right days (omega (arith, product))

-- half a year's interest at no more than 30 percent is at most fifteen hundredths of the greatest face
pub half-at-most : (face rate : ℕ) → face ≤ 10 ^ 11 → rate ≤ 30_000 → earned_of face rate 1 2 ≤ 15 * 10 ^ 9
half-at-most face rate f r =
    let product = yearly face rate 1 f r in
    near-at-most (face * rate * 1) (100_000 * 2) (15 * 10 ^ 9) (omega arith) (omega (arith, product))

-- interest at no more than 30 percent, for so few days that it is at most four tenths of the face
pub interest-at-most : (face rate days year : ℕ) → face ≤ 10 ^ 11 → rate ≤ 30_000 → 0 < year → 3 * days ≤ 4 * year
    → earned_of face rate days year ≤ 4 * 10 ^ 10
interest-at-most face rate days year f r some few =
    let product = yearly face rate days f r in
    near-at-most (face * rate * days) (100_000 * year) (4 * 10 ^ 10) (omega arith) (omega (arith, product))
