-- The factors of one index day, rounded down and up.
use Rattle.std.proofs.Common.{◌≡◌, ◌≢◌, inl, inr, ℕ, ◌+◌, ◌*◌, ◌^◌, ◌<◌, ◌≤◌, arith}
use Rattle.std.proofs.Math.Nat.{mul-le-mul_left, mul-le-mul_right}
use Rattle.std.proofs.lemmas.Bool.{cases_lt, le-leb, leb-true}
use Rattle.escrow_units.specs.PresentValue.{half_year, two_hundred_percent}
use Rattle.fixed_powers.specs.DiscountPowers.{one, down, up, is_low_enough, is_high_enough, root_low, root_high, IsRootLow, IsRootHigh}
use Rattle.escrow_units.specs.PresentValue.{AtLeastDayFactor, AtMostDayFactor}
use Rattle.fixed_powers.proofs.WholeNumbers.{cancel-le, cross-le, mul-le-mul-pow}
use Rattle.fixed_powers.proofs.SearchFacts.{greatest-within, greatest-passes, greatest-most, least-within, least-passes, least-most}
use Rattle.fixed_powers.proofs.ChainFacts.{down-one, up-nothing, down-mono, up-mono, down-below, up-above}

-- nothing is low enough, and one is high enough
pub nothing_low : (n : ℕ) → up 0 half_year * (two_hundred_percent + n) ≤ one * two_hundred_percent
nothing_low n = rw (up-nothing 179) (omega arith)

pub one_high : (n : ℕ) → one * two_hundred_percent ≤ down one half_year * (two_hundred_percent + n)
one_high n = rw (down-one 180) (omega arith)

pub root_low-is : (n : ℕ) → IsRootLow n (root_low n)
unfolding root_low
root_low-is n =
    let test = is_low_enough n in
    let some = le-leb (up 0 half_year * (two_hundred_percent + n)) (one * two_hundred_percent) (nothing_low n) in
    record {
      within = greatest-within test one;
      enough = leb-true _ _ (greatest-passes test one 0 (omega arith) some);
      greatest = λ p le enough. greatest-most test one p le (le-leb _ _ enough);
    }

pub root_high-is : (n : ℕ) → IsRootHigh n (root_high n)
unfolding root_high
root_high-is n =
    let test = is_high_enough n in
    let some = le-leb (one * two_hundred_percent) (down one half_year * (two_hundred_percent + n)) (one_high n) in
    record {
      within = least-within test one;
      enough = leb-true _ _ (least-passes test one one (omega arith) some);
      least = λ p enough. elim (cases_lt one p) [
        | inl lt ↦ omega (arith, least-within test one)
        | inr le ↦ least-most test one p le (le-leb _ _ enough)
      ];
    }

-- there is one greatest and one least
pub root_low-only : (n q : ℕ) → IsRootLow n q → q ≡ root_low n
root_low-only n q is =
    let other = root_low-is n in
    omega (arith, is.greatest (root_low n) other.within other.enough, other.greatest q is.within is.enough)

pub root_high-only : (n q : ℕ) → IsRootHigh n q → q ≡ root_high n
root_high-only n q is =
    let other = root_high-is n in
    omega (arith, is.least (root_high n) other.enough, other.least q is.enough)

-- the two tests are monotone: this is what lets bisection find the greatest and the least
pub low_enough-below : (n p q : ℕ) → p ≤ q → up q half_year * (two_hundred_percent + n) ≤ one * two_hundred_percent → up p half_year * (two_hundred_percent + n) ≤ one * two_hundred_percent
low_enough-below n p q le enough = omega (arith, enough, mul-le-mul_right (two_hundred_percent + n) (up-mono p q 180 le))

pub high_enough-above : (n p q : ℕ) → p ≤ q → one * two_hundred_percent ≤ down p half_year * (two_hundred_percent + n) → one * two_hundred_percent ≤ down q half_year * (two_hundred_percent + n)
high_enough-above n p q le enough = omega (arith, enough, mul-le-mul_right (two_hundred_percent + n) (down-mono p q 180 le))

-- what is low enough lies below what isn't, and what is high enough above
pub low_enough-lt : (n p q : ℕ) → one * two_hundred_percent < up q half_year * (two_hundred_percent + n) → up p half_year * (two_hundred_percent + n) ≤ one * two_hundred_percent → p < q
low_enough-lt n p q fails enough =
    elim (cases_lt p q) [
      | inl lt ↦ lt
      | inr le ↦ absurd (omega (arith, fails, low_enough-below n q p le enough))
    ]

pub high_enough-lt : (n p q : ℕ) → down q half_year * (two_hundred_percent + n) < one * two_hundred_percent → one * two_hundred_percent ≤ down p half_year * (two_hundred_percent + n) → q < p
high_enough-lt n p q fails enough =
    elim (cases_lt q p) [
      | inl lt ↦ lt
      | inr le ↦ absurd (omega (arith, fails, high_enough-above n p q le enough))
    ]

-- the chains against exact powers of their factor
down-exact : (q d : ℕ) → down q d * one ^ d ≤ q ^ d * one
down-exact q d = omega (arith, down-below q q one d (omega arith))

up-exact : (q d : ℕ) → q ^ d * one ≤ up q d * one ^ d
up-exact q d = omega (arith, up-above q q one d (omega arith))

-- q ^ k / o ^ k ≤ u / o ≤ m / t ≤ a ^ k / b ^ k, so that q / o ≤ a / b
base_below : (o q a b u m t k : ℕ) → 0 < o → 0 < t → k ≢ 0 → q ^ k * o ≤ u * o ^ k → u * t ≤ o * m → b ^ k * m ≤ a ^ k * t → q * b ≤ o * a
base_below o q a b u m t k one_pos t_pos some exact enough factor =
    let first = cross-le (q ^ k) (o ^ k) u o m t one_pos exact (omega (arith, enough)) in
    let second = cross-le (q ^ k) (o ^ k) m t (a ^ k) (b ^ k) t_pos first (omega (arith, factor)) in
    omega (arith, mul-le-mul-pow q b a o k some second)

-- a ^ k / b ^ k ≤ m / t ≤ v / o ≤ q ^ k / o ^ k, so that a / b ≤ q / o
base_above : (o q a b v m t k : ℕ) → 0 < o → 0 < t → k ≢ 0 → v * o ^ k ≤ q ^ k * o → o * m ≤ v * t → a ^ k * t ≤ b ^ k * m → o * a ≤ q * b
base_above o q a b v m t k one_pos t_pos some exact enough factor =
    let first = cross-le (a ^ k) (b ^ k) m t v o t_pos (omega (arith, factor)) (omega (arith, enough)) in
    let second = cross-le (a ^ k) (b ^ k) v o (q ^ k) (o ^ k) one_pos first exact in
    omega (arith, mul-le-mul-pow a o q b k some second)

pub root_low-below : (n q a b : ℕ) → up q half_year * (two_hundred_percent + n) ≤ one * two_hundred_percent → AtLeastDayFactor n a b → q * b ≤ one * a
root_low-below n q a b enough factor =
    base_below one q a b (up q 180) two_hundred_percent (two_hundred_percent + n) 180 (omega arith) (omega arith) (omega arith) (up-exact q 180) enough factor

pub root_high-above : (n q a b : ℕ) → one * two_hundred_percent ≤ down q half_year * (two_hundred_percent + n) → AtMostDayFactor n a b → one * a ≤ q * b
root_high-above n q a b enough factor =
    base_above one q a b (down q 180) two_hundred_percent (two_hundred_percent + n) 180 (omega arith) (omega arith) (omega arith) (down-exact q 180) enough factor

-- o * m ≤ v * t and v / o ≤ q ^ k / o ^ k
root_power_above : (o q v m t k : ℕ) → 0 < o → v * o ^ k ≤ q ^ k * o → o * m ≤ v * t → o ^ k * m ≤ q ^ k * t
root_power_above o q v m t k one_pos exact enough =
    cancel-le (o ^ k * m) (q ^ k * t) o one_pos (omega (arith, mul-le-mul_right t exact, mul-le-mul_left (o ^ k) enough))

-- the roots are in order: rounded down at most rounded up
pub root_low-le-root_high : (n : ℕ) → root_low n ≤ root_high n
root_low-le-root_high n =
    let below = root_low-below n (root_low n) (root_high n) one (root_low-is n).enough in
    let at_least : AtLeastDayFactor n (root_high n) one =
    root_power_above one (root_high n) (down (root_high n) 180) two_hundred_percent (two_hundred_percent + n) 180 (omega arith) (down-exact (root_high n) 180) (root_high-is n).enough in
    cancel-le (root_low n) (root_high n) one (omega arith) (omega (arith, below at_least))
