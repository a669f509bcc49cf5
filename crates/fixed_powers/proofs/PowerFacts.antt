-- Powers of the day's discount factor, rounded to either side.
use Rattle.std.proofs.Common.{◌≡◌, ◌∙◌, ℕ, ◌+◌, ◌-◌, ◌≤◌, refl, sym, ap, subst, arith}
use Rattle.std.proofs.Math.Nat.{mul-le-mul, mul-le-mul_left}
use Rattle.escrow_units.specs.PresentValue.{half_year}
use Rattle.fixed_powers.specs.DiscountPowers.{one, down, up, root_low, root_high, low, high, root_of, chain, power_of, IsAtMostPower, IsAtLeastPower, LiesOutward}
use Rattle.fixed_powers.specs.PowerLaws.{FallsWithDays, FallsWithYield, LowAtMostHigh, IsOneAtZero, IsOneAtNoDays, ProductsFit, ChainsRise}
use Rattle.fixed_powers.specs.declared.side.Side.{Side}
use Rattle.fixed_powers.specs.declared.side.Side.TheVariants.{Low, High}
use Rattle.fixed_powers.proofs.ChainFacts.{down-zero, up-zero, down-one, up-one, down-mono, up-mono, down-le-up, down-within, up-within, down-antitone, down-first, up-antitone, down-below, up-above}
use Rattle.fixed_powers.proofs.RootFacts.{root_low-is, root_high-is, root_low-only, root_low-below, root_high-above, root_low-le-root_high}

-- a root is at most one
pub root_of-within : (side : Side) (n : ℕ) → root_of side n ≤ one
root_of-within Low n = (root_low-is n).within
root_of-within High n = (root_high-is n).within

pub power_of-within : (side : Side) (n d : ℕ) → power_of side n d ≤ one
power_of-within Low n d = down-within (root_low n) d (root_low-is n).within
power_of-within High n d = up-within (root_high n) d (root_high-is n).within

pub low-encloses : (n d : ℕ) → IsAtMostPower n d (low n d)
low-encloses n d a b some factor = down-below (root_low n) a b d (root_low-below n (root_low n) a b (root_low-is n).enough factor)

pub high-encloses : (n d : ℕ) → IsAtLeastPower n d (high n d)
high-encloses n d a b some factor = up-above (root_high n) a b d (root_high-above n (root_high n) a b (root_high-is n).enough factor)

pub power_of-encloses : (side : Side) (n d : ℕ) → LiesOutward side n d (power_of side n d)
power_of-encloses Low n d = low-encloses n d
power_of-encloses High n d = high-encloses n d

pub low-le-high : LowAtMostHigh
low-le-high n d =
    omega (arith, down-mono (root_low n) (root_high n) d (root_low-le-root_high n), down-le-up (root_high n) d)

pub falls_with_days : FallsWithDays
falls_with_days Low n d e le =
    let same : d + (e - d) ≡ e = omega arith in
    omega (arith, ap (low n) same, down-antitone (root_low n) d (e - d) (root_low-is n).within)
falls_with_days High n d e le =
    let same : d + (e - d) ≡ e = omega arith in
    omega (arith, ap (high n) same, up-antitone (root_high n) d (e - d) (root_high-is n).within)

-- a root doesn't rise with the yield
pub root_low-antitone : (n m : ℕ) → n ≤ m → root_low m ≤ root_low n
root_low-antitone n m le =
    let other = root_low-is m in
    let less = mul-le-mul_left (up (root_low m) half_year) le in
    (root_low-is n).greatest (root_low m) other.within (omega (arith, less, other.enough))

pub root_high-antitone : (n m : ℕ) → n ≤ m → root_high m ≤ root_high n
root_high-antitone n m le =
    let other = root_high-is n in
    let less = mul-le-mul_left (down (root_high n) half_year) le in
    (root_high-is m).least (root_high n) (omega (arith, less, other.enough))

pub falls_with_yield : FallsWithYield
falls_with_yield Low n m d le = down-mono (root_low m) (root_low n) d (root_low-antitone n m le)
falls_with_yield High n m d le = up-mono (root_high m) (root_high n) d (root_high-antitone n m le)

-- the roots of the yield 0 are one
pub root_low-zero : root_low 0 ≡ one
root_low-zero = sym (root_low-only 0 one record {
  within = omega arith;
  enough = rw (up-one 180) (omega arith);
  greatest = λ p le enough. le;
})

pub root_high-zero : root_high 0 ≡ one
root_high-zero =
    let is = root_high-is 0 in
    let falls = down-antitone (root_high 0) 1 179 is.within in
    omega (arith, is.within, is.enough, falls, down-first (root_high 0))

pub one_at_zero : IsOneAtZero
one_at_zero Low d = ap (λ q. down q d) root_low-zero ∙ down-one d
one_at_zero High d = ap (λ q. up q d) root_high-zero ∙ up-one d

pub one_at_no_days : IsOneAtNoDays
one_at_no_days Low n = down-zero (root_low n)
one_at_no_days High n = up-zero (root_high n)

pub products_fit : ProductsFit
products_fit side n d = omega (arith, mul-le-mul (power_of-within side n d) (root_of-within side n))

pub chains_rise : ChainsRise
chains_rise Low p q d le = down-mono p q d le
chains_rise High p q d le = up-mono p q d le

-- a chain of a root is a power
pub power_of-chain : (side : Side) (n d : ℕ) → chain side (root_of side n) d ≡ power_of side n d
power_of-chain Low n d = refl
power_of-chain High n d = refl

pub chain-zero : (side : Side) (q : ℕ) → chain side q 0 ≡ one
chain-zero Low q = down-zero q
chain-zero High q = up-zero q

-- what is a power lies on its side and within one
pub power-encloses : (side : Side) (n d v : ℕ) → v ≡ power_of side n d → LiesOutward side n d v
power-encloses side n d v is = subst (λ (w : ℕ). LiesOutward side n d w) (sym is) (power_of-encloses side n d)

pub power-within : (side : Side) (n d v : ℕ) → v ≡ power_of side n d → v ≤ one
power-within side n d v is = omega (arith, is, power_of-within side n d)

pub ruleset chain_facts = (chain-zero, power_of-chain)
