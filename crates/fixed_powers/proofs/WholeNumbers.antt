-- Laws of whole numbers: quotients rounded down and up, powers of products, products of both sides.
use Rattle.std.proofs.Common.{◌≡◌, ◌≢◌, inl, inr, ℕ, ◌+◌, ◌*◌, ◌/◌, ◌^◌, ◌<◌, ◌≤◌, arith}
use Rattle.std.proofs.Math.Nat.{mul-le-mul_right, div-mul-le_self, le_of_mul-le-mul_left, pow-lt-pow_left, pow-suc, pow-zero}
use Rattle.std.proofs.lemmas.Nat.{le-div, mul-pow}
use Rattle.std.proofs.lemmas.Bool.{cases_lt}
use Rattle.std.proofs.lemmas.Grind.{div_ceil_times}
use Rattle.std.specs.Int.{div_ceil}

-- a quotient rounded down doesn't fall as its dividend rises
pub div-le-div : (a b k : ℕ) → 0 < k → a ≤ b → a / k ≤ b / k
div-le-div a b k pos le = le-div (a / k) b k pos (omega (arith, le, div-mul-le_self a k))

-- a quotient rounded up covers its dividend
pub le-div_ceil-mul : (a k : ℕ) → 0 < k → a ≤ div_ceil a k * k
le-div_ceil-mul a k pos = (div_ceil_times a k pos).0

-- what times the divisor covers the dividend is at least the quotient rounded up
pub div_ceil-le : (a c k : ℕ) → 0 < k → a ≤ c * k → div_ceil a k ≤ c
div_ceil-le a c k pos le =
    elim (cases_lt c (div_ceil a k)) [
      | inl lt ↦ absurd (omega (arith, (div_ceil_times a k pos).1, le, mul-le-mul_right k lt))
      | inr done ↦ done
    ]

-- a quotient rounded up doesn't fall as its dividend rises
pub div_ceil-mono : (a b k : ℕ) → 0 < k → a ≤ b → div_ceil a k ≤ div_ceil b k
div_ceil-mono a b k pos le = div_ceil-le a (div_ceil b k) k pos (omega (arith, le, le-div_ceil-mul b k pos))

-- rounding up and down differ by one at most
pub div-le-div_ceil : (a k : ℕ) → 0 < k → a / k ≤ div_ceil a k
div-le-div_ceil a k pos = omega arith

pub div_ceil-le-div-suc : (a k : ℕ) → 0 < k → div_ceil a k ≤ a / k + 1
div_ceil-le-div-suc a k pos = omega arith

-- the greater power has the greater base
pub le_of_pow-le : (a b k : ℕ) → k ≢ 0 → a ^ k ≤ b ^ k → a ≤ b
le_of_pow-le a b k some le =
    elim (cases_lt b a) [
      | inl lt ↦ absurd (omega (arith, le, pow-lt-pow_left lt some))
      | inr done ↦ done
    ]

-- a factor that both sides share cancels
pub cancel-le : (a b k : ℕ) → 0 < k → a * k ≤ b * k → a ≤ b
cancel-le a b k pos le = le_of_mul-le-mul_left {k = k} (omega (arith, le)) pos

-- one fraction is at most a second, which is at most a third: a / b ≤ c / d ≤ e / f, said by products
pub cross-le : (a b c d e f : ℕ) → 0 < d → a * d ≤ c * b → c * f ≤ e * d → a * f ≤ e * b
cross-le a b c d e f pos first second =
    cancel-le (a * f) (e * b) d pos (omega (arith, mul-le-mul_right f first, mul-le-mul_right b second))

-- two orders of products of powers make one of the products
pub mul-le-mul-pow : (a b c d k : ℕ) → k ≢ 0 → a ^ k * b ^ k ≤ c ^ k * d ^ k → a * b ≤ c * d
mul-le-mul-pow a b c d k some le =
    let powers : (a * b) ^ k ≤ (c * d) ^ k = rw (mul-pow a b k, mul-pow c d k) le in
    le_of_pow-le (a * b) (c * d) k some powers

pub pow-one : (a : ℕ) → a ^ 1 ≡ a
pow-one a = let step : a ^ 1 ≡ a ^ 0 * a = pow-suc a 0 in rw (step, pow-zero a) (omega arith)
