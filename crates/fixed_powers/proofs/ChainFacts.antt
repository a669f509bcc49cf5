-- Powers of a factor, rounded down and up at each step.
use Rattle.std.proofs.Common.{◌≡◌, ℕ, zero, suc, ◌+◌, ◌*◌, ◌/◌, ◌^◌, ◌<◌, ◌≤◌, refl, ap, add-zero, arith}
use Rattle.std.proofs.Math.Nat.{mul-le-mul, mul-le-mul_left, mul-le-mul_right, div-mul-le_self, pow-suc, pow-zero, lt-div-mul-add}
use Rattle.std.specs.Int.{div_ceil}
use Rattle.fixed_powers.specs.DiscountPowers.{one, down, up}
use Rattle.fixed_powers.proofs.WholeNumbers.{div-le-div, le-div_ceil-mul, div_ceil-le, div_ceil-mono, div-le-div_ceil, cancel-le}

pub down-zero : (q : ℕ) → down q 0 ≡ one
unfolding down
down-zero q = refl

pub down-suc : (q d : ℕ) → down q (suc d) ≡ down q d * q / one
unfolding down
down-suc q d = refl

pub up-zero : (q : ℕ) → up q 0 ≡ one
unfolding up
up-zero q = refl

pub up-suc : (q d : ℕ) → up q (suc d) ≡ div_ceil (up q d * q) one
unfolding up
up-suc q d = refl

one_above : 0 < one
one_above = omega arith

-- the greater factor has powers that are no less
pub down-mono : (p q d : ℕ) → p ≤ q → down p d ≤ down q d
unfolding down
down-mono p q zero le = omega arith
down-mono p q (suc d) le = div-le-div (down p d * p) (down q d * q) one one_above (mul-le-mul (down-mono p q d le) le)

pub up-mono : (p q d : ℕ) → p ≤ q → up p d ≤ up q d
unfolding up
up-mono p q zero le = omega arith
up-mono p q (suc d) le = div_ceil-mono (up p d * p) (up q d * q) one one_above (mul-le-mul (up-mono p q d le) le)

-- rounded down, a power is at most the same power rounded up
pub down-le-up : (q d : ℕ) → down q d ≤ up q d
unfolding down up
down-le-up q zero = omega arith
down-le-up q (suc d) =
    let first = div-le-div (down q d * q) (up q d * q) one one_above (mul-le-mul_right q (down-le-up q d)) in
    let second = div-le-div_ceil (up q d * q) one one_above in
    omega (arith, first, second)

-- the powers of one are one
pub down-one : (d : ℕ) → down one d ≡ one
unfolding down
down-one zero = refl
down-one (suc d) = rw (down-one d) refl

pub up-one : (d : ℕ) → up one d ≡ one
unfolding up
up-one zero = refl
up-one (suc d) = rw (up-one d) refl

-- a factor of at most one has powers of at most one
pub down-within : (q d : ℕ) → q ≤ one → down q d ≤ one
down-within q d le = rw (down-one d) at (down-mono q one d le)

pub up-within : (q d : ℕ) → q ≤ one → up q d ≤ one
up-within q d le = rw (up-one d) at (up-mono q one d le)

-- the powers of nothing are nothing
pub up-nothing : (d : ℕ) → up 0 (suc d) ≡ 0
up-nothing d =
    let none : div_ceil (up 0 d * 0) one ≤ 0 = div_ceil-le (up 0 d * 0) 0 one one_above (omega arith) in
    omega (arith, up-suc 0 d, none)

pub down-nothing : (d : ℕ) → down 0 (suc d) ≡ 0
down-nothing d =
    let none : down 0 d * 0 / one ≤ 0 = div-le-div (down 0 d * 0) 0 one one_above (omega arith) in
    omega (arith, down-suc 0 d, none)

-- the first power is at most the factor
pub down-first : (q : ℕ) → down q 1 ≤ q
down-first q =
    let step : down q 1 ≡ down q 0 * q / one = down-suc q 0 in
    rw (step, down-zero q) (omega arith)

-- with a factor of at most one, no power rises with its exponent
pub down-falls : (q d : ℕ) → q ≤ one → down q (suc d) ≤ down q d
down-falls q d le =
    let less = mul-le-mul_left (down q d) le in
    let floor = div-mul-le_self (down q d * q) one in
    let step : down q d * q / one ≤ down q d = cancel-le (down q d * q / one) (down q d) one one_above (omega (arith, floor, less)) in
    omega (arith, down-suc q d, step)

pub up-falls : (q d : ℕ) → q ≤ one → up q (suc d) ≤ up q d
up-falls q d le =
    let step = div_ceil-le (up q d * q) (up q d) one one_above (mul-le-mul_left (up q d) le) in
    omega (arith, up-suc q d, step)

pub down-antitone : (q d e : ℕ) → q ≤ one → down q (d + e) ≤ down q d
down-antitone q d zero le = omega (arith, ap (down q) (add-zero d))
down-antitone q d (suc e) le =
    let same : d + suc e ≡ suc (d + e) = omega arith in
    omega (arith, ap (down q) same, down-falls q (d + e) le, down-antitone q d e le)

pub up-antitone : (q d e : ℕ) → q ≤ one → up q (d + e) ≤ up q d
up-antitone q d zero le = omega (arith, ap (up q) (add-zero d))
up-antitone q d (suc e) le =
    let same : d + suc e ≡ suc (d + e) = omega arith in
    omega (arith, ap (up q) same, up-falls q (d + e) le, up-antitone q d e le)

-- one step rounded down: v / o at most p / r and q / o at most a / b give a quotient at most the product
step_below : (v q b r p a o : ℕ) → 0 < o → v * r ≤ o * p → q * b ≤ o * a → v * q / o * (r * b) ≤ o * (p * a)
step_below v q b r p a o pos first second =
    let floor = mul-le-mul_right (r * b) (div-mul-le_self (v * q) o) in
    let both = mul-le-mul first second in
    cancel-le (v * q / o * (r * b)) (o * (p * a)) o pos (omega (arith, floor, both))

step_above : (v q b r p a o : ℕ) → 0 < o → o * p ≤ v * r → o * a ≤ q * b → o * (p * a) ≤ div_ceil (v * q) o * (r * b)
step_above v q b r p a o pos first second =
    let ceil = mul-le-mul_right (r * b) (le-div_ceil-mul (v * q) o pos) in
    let both = mul-le-mul first second in
    cancel-le (o * (p * a)) (div_ceil (v * q) o * (r * b)) o pos (omega (arith, ceil, both))

-- where a factor is at most a fraction, so is each power rounded down; where it is at least one, so is each rounded up
pub down-below : (q a b d : ℕ) → q * b ≤ one * a → down q d * b ^ d ≤ one * a ^ d
down-below q a b zero le = rw (down-zero q, pow-zero a, pow-zero b) (omega arith)
down-below q a b (suc d) le =
    rw (down-suc q d, pow-suc a d, pow-suc b d) (step_below (down q d) q b (b ^ d) (a ^ d) a one one_above (down-below q a b d le) le)

pub up-above : (q a b d : ℕ) → one * a ≤ q * b → one * a ^ d ≤ up q d * b ^ d
up-above q a b zero le = rw (up-zero q, pow-zero a, pow-zero b) (omega arith)
up-above q a b (suc d) le =
    rw (up-suc q d, pow-suc a d, pow-suc b d) (step_above (up q d) q b (b ^ d) (a ^ d) a one one_above (up-above q a b d le) le)

-- one step of two chains whose factors differ by c and whose values differ by e
step_widens : (v w p q c e o : ℕ) → 0 < o → p ≤ o → w ≤ o → q ≤ p + c → w ≤ v + e → div_ceil (w * q) o ≤ v * p / o + (e + (c + 1))
step_widens v w p q c e o pos low within near close =
    let floor = lt-div-mul-add {a = v * p} {b = o} pos in
    let wider = mul-le-mul_left w near in
    let first = mul-le-mul_right p close in
    let second = mul-le-mul_left e low in
    let third = mul-le-mul_right c within in
    div_ceil-le (w * q) (v * p / o + (e + (c + 1))) o pos (omega (arith, floor, wider, first, second, third))

-- a chain rounded up of a factor that is greater by at most c stays within c + 1 a step of the chain rounded down
pub up-near-down : (p q c d : ℕ) → p ≤ one → q ≤ one → q ≤ p + c → up q d ≤ down p d + d * (c + 1)
up-near-down p q c zero low within near = omega (arith, up-zero q, down-zero p)
up-near-down p q c (suc d) low within near =
    let step = step_widens (down p d) (up q d) p q c (d * (c + 1)) one one_above low (up-within q d within) near (up-near-down p q c d low within near) in
    omega (arith, up-suc q d, down-suc p d, step)
