-- The nearest whole number.
use Rattle.std.proofs.Common.{◌≡◌, ℕ, ◌+◌, ◌*◌, ◌/◌, ◌<◌, ◌≤◌, arith}
use Rattle.std.proofs.Math.Nat.{div-div-eq-div-mul, div-eq_of_lt, div-mul-le_self, mul-div-le, lt-mul-div-succ}
use Rattle.std.proofs.lemmas.Nat.{div_below, le-div}
use Rattle.escrow_units.specs.Rounding.{near, IsNearest}

-- halving first gives the same quotient, and no product of b
pub near-halved : (a b : ℕ) → (2 * a + b) / 2 / b ≡ near a b
unfolding near
near-halved a b = div-div-eq-div-mul (2 * a + b) 2 b

pub near-IsNearest : (a b : ℕ) → 0 < b → IsNearest a b (near a b)
unfolding near
near-IsNearest a b above =
    let low = mul-div-le (2 * a + b) (2 * b) in
    let high = lt-mul-div-succ (2 * a + b) {b = 2 * b} (omega arith) in
    record { above = low; below = omega (arith, high) }

-- no part of a whole
pub near-zero : (a b : ℕ) → a ≡ 0 → 0 < b → near a b ≡ 0
unfolding near
near-zero a b e h = rw e (below b (2 * b) (omega arith))
  where
    below : (n m : ℕ) → n < m → (2 * 0 + n) / m ≡ 0
    below n m h = let e : 2 * 0 + n ≡ n = omega arith in rw e (div-eq_of_lt h)

-- a greater part
pub near-mono : (a b c : ℕ) → 0 < b → a ≤ c → near a b ≤ near c b
unfolding near
near-mono a b c h le =
    let less = div-mul-le_self (2 * a + b) (2 * b) in
    le-div ((2 * a + b) / (2 * b)) (2 * c + b) (2 * b) (omega arith) (omega (arith, less))

-- a part of a whole that is at most c times the whole
pub near-at-most : (a b c : ℕ) → 0 < b → a ≤ c * b → near a b ≤ c
unfolding near
near-at-most a b c h le =
    let below = div_below (2 * a + b) (2 * b) (c + 1) (omega arith) (omega arith) in
    omega (arith, below)
