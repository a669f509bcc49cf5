-- What a leaf shows that a rival costs at least: its bound divided by how much it weighs the cost, rounded up.
use Rattle.std.proofs.Common.{◌≡◌, ◌∙◌, ℕ, zero, suc, ◌+◌, ◌*◌, ◌/◌, ◌<◌, ◌≤◌, ℤ, pos, negsuc, neg_ℤ, ◌-ℤ◌, ◌*ℤ◌, ◌≤ℤ◌, ◌<ℤ◌, Bool, true, false, refl, sym, ap, subst, arith, unsigned_abs, int_lt, Some, None, mod-lt, div-le_self}
use Rattle.std.proofs.Math.Nat.{mod-eq-sub-div-mul, div-mul-le_self, mul-le-mul_left}
use Rattle.std.proofs.lemmas.Int.{ints}
use Rattle.node_ranges.specs.Claims.{Claim, bears_out, bears_out_by, least_cost}
use Rattle.offer_book.specs.declared.coefficients.TheConstants.{COEFFICIENT_SCALE}

-- a quotient, times the divisor, isn't above the number, and one more is
quotient-within : (n less : ℕ) → suc less * (n / suc less) ≤ n
quotient-within n less = omega (arith, div-mul-le_self n (suc less))

quotient-over : (n less : ℕ) → n < suc less * (n / suc less + 1)
quotient-over n less =
    let some : zero < suc less = omega arith in
    omega (arith, mod-lt n some, mod-eq-sub-div-mul n (suc less), div-mul-le_self n (suc less))

-- products with a number that isn't above 0
times-neg : (r q : ℕ) → (pos r *ℤ neg_ℤ (pos q)) ≡ neg_ℤ (pos (r * q))
times-neg r zero =
    let none : r * zero ≡ zero = omega arith in
    ap pos none ∙ sym (ap (λ (n : ℕ). neg_ℤ (pos n)) none)
times-neg r (suc q) = refl

one-less : (q : ℕ) → pos (q + 1) -ℤ pos 1 ≡ pos q
one-less q = omega (arith, ints)

neg-less : (q : ℕ) → neg_ℤ (pos q) -ℤ pos 1 ≡ neg_ℤ (pos (q + 1))
neg-less q = omega (arith, ints)

neg-above : (n p : ℕ) → p ≤ suc n → negsuc n ≤ℤ neg_ℤ (pos p)
neg-above n p low = omega (arith, ints, low)

neg-below : (n p : ℕ) → suc n < p → neg_ℤ (pos p) <ℤ negsuc n
neg-below n p high = omega (arith, ints, high)

-- a least cost, times the weight, isn't below the bound
pub cost-reaches : (rho : ℕ) (bound : ℤ) → 1 ≤ rho → bound ≤ℤ (pos rho *ℤ least_cost rho bound)
cost-reaches zero bound some = absurd (omega (arith, some))
cost-reaches (suc less) (pos zero) some = omega (arith, ints)
cost-reaches (suc less) (pos (suc below)) some = omega (arith, ints, quotient-over below less)
cost-reaches (suc less) (negsuc above) some =
    subst (λ (z : ℤ). negsuc above ≤ℤ z) (sym (times-neg (suc less) (suc above / suc less)))
    (neg-above above (suc less * (suc above / suc less)) (quotient-within (suc above) less))

-- and one unit less is
pub cost-least : (rho : ℕ) (bound : ℤ) → 1 ≤ rho → (pos rho *ℤ (least_cost rho bound -ℤ pos 1)) <ℤ bound
cost-least zero bound some = absurd (omega (arith, some))
cost-least (suc less) (pos zero) some = omega (arith, ints)
cost-least (suc less) (pos (suc below)) some =
    subst (λ (z : ℤ). (pos (suc less) *ℤ z) <ℤ pos (suc below)) (sym (one-less (below / suc less)))
    (let within = quotient-within below less in omega (arith, ints, within))
cost-least (suc less) (negsuc above) some =
    subst (λ (z : ℤ). (pos (suc less) *ℤ z) <ℤ negsuc above) (sym (neg-less (suc above / suc less)))
    (subst (λ (z : ℤ). z <ℤ negsuc above) (sym (times-neg (suc less) (suc above / suc less + 1)))
    (neg-below above (suc less * (suc above / suc less + 1)) (quotient-over (suc above) less)))

-- ---- products of whole numbers keep their order
neg-order : (p q : ℕ) → q ≤ p → neg_ℤ (pos p) ≤ℤ neg_ℤ (pos q)
neg-order p q le = omega (arith, ints, le)

neg-low : (p n : ℕ) → neg_ℤ (pos p) ≤ℤ pos n
neg-low p n = omega (arith, ints)

-- what is at most another, times a number
scaled : (rho : ℕ) (a b : ℤ) → a ≤ℤ b → (pos rho *ℤ a) ≤ℤ (pos rho *ℤ b)
scaled rho (pos m) (pos n) le = let low : m ≤ n = omega (arith, ints, le) in omega (arith, ints, mul-le-mul_left rho low)
scaled rho (pos m) (negsuc n) le = absurd (omega (arith, ints, le))
scaled rho (negsuc m) (pos n) le = neg-low (rho * suc m) (rho * n)
scaled rho (negsuc m) (negsuc n) le = let low : suc n ≤ suc m = omega (arith, ints, le) in neg-order (rho * suc m) (rho * suc n) (mul-le-mul_left rho low)

-- a product that is below another has the lower factor
unscaled : (rho : ℕ) (a b : ℤ) → (pos rho *ℤ a) <ℤ (pos rho *ℤ b) → a <ℤ b
unscaled rho a b lt = by (int_lt a b) refl
  where
    by : (t : Bool) → int_lt a b ≡ t → a <ℤ b
    by true is = omega (arith, ints, is)
    by false is = absurd (let le : b ≤ℤ a = omega (arith, ints, is) in let up = scaled rho b a le in omega (arith, ints, up, lt))

-- a product of three
swapped : (scale rho : ℕ) (m : ℤ) → (pos (scale * rho) *ℤ m) ≡ (pos rho *ℤ (pos scale *ℤ m))
swapped scale rho (pos n) = ap pos (turned n)
  where
    turned : (n : ℕ) → (scale * rho) * n ≡ rho * (scale * n)
    turned n = omega arith
swapped scale rho (negsuc n) = ap (λ (k : ℕ). neg_ℤ (pos k)) (turned (suc n)) ∙ sym (times-neg rho (scale * suc n))
  where
    turned : (n : ℕ) → (scale * rho) * n ≡ rho * (scale * n)
    turned n = omega arith

-- ---- what follows of it
-- a greater bound shows no lower least cost
pub cost-rises : (rho : ℕ) (low high : ℤ) → low ≤ℤ high → least_cost rho low ≤ℤ least_cost rho high
cost-rises zero low high le = le
cost-rises (suc less) low high le =
    let below : (least_cost (suc less) low -ℤ pos 1) <ℤ least_cost (suc less) high =
    unscaled (suc less) (least_cost (suc less) low -ℤ pos 1) (least_cost (suc less) high)
    (let least = cost-least (suc less) low (omega arith) in let reaches = cost-reaches (suc less) high (omega arith) in omega (arith, ints, least, reaches, le)) in
    omega (arith, ints, below)

-- a bound that isn't below 0 shows a least cost that isn't
pub cost-some : (rho : ℕ) (bound : ℤ) → pos 0 ≤ℤ bound → pos 0 ≤ℤ least_cost rho bound
cost-some zero bound some = some
cost-some (suc less) (pos zero) some = omega (arith, ints)
cost-some (suc less) (pos (suc below)) some = omega (arith, ints)
cost-some (suc less) (negsuc above) some = absurd (omega (arith, ints, some))

-- a number is below the least cost where, weighed, it is below the bound
below-alike : (rho : ℕ) (bound cost weighed : ℤ) → 1 ≤ rho → weighed ≡ (pos rho *ℤ cost) → int_lt cost (least_cost rho bound) ≡ int_lt weighed bound
below-alike rho bound cost weighed some same = by (int_lt cost (least_cost rho bound)) (int_lt weighed bound) refl refl
  where
    by : (a b : Bool) → int_lt cost (least_cost rho bound) ≡ a → int_lt weighed bound ≡ b → int_lt cost (least_cost rho bound) ≡ int_lt weighed bound
    by true true one two = one ∙ sym two
    by false false one two = one ∙ sym two
    by true false one two = absurd (
        let up = scaled rho cost (least_cost rho bound -ℤ pos 1) (omega (arith, ints, one)) in
        let least = cost-least rho bound some in
        omega (arith, ints, two, same, up, least))
    by false true one two = absurd (
        let up = scaled rho (least_cost rho bound) cost (omega (arith, ints, one)) in
        let reaches = cost-reaches rho bound some in
        omega (arith, ints, two, same, up, reaches))

-- it is no farther from 0 than the bound
pub cost-size : (rho : ℕ) (bound : ℤ) → unsigned_abs (least_cost rho bound) ≤ unsigned_abs bound
cost-size zero bound = omega arith
cost-size (suc less) (pos zero) = omega arith
cost-size (suc less) (pos (suc below)) = omega (arith, div-le_self below (suc less))
cost-size (suc less) (negsuc above) = farther (suc above / suc less) (div-le_self (suc above) (suc less))
  where
    farther : (n : ℕ) → n ≤ suc above → unsigned_abs (neg_ℤ (pos n)) ≤ suc above
    farther n le = omega (arith, ints, le)

-- a least cost bears out what the bound does
pub cost-bears : (rho : ℕ) (bound : ℤ) (claim : Claim) → 1 ≤ rho → bears_out (least_cost rho bound) claim ≡ bears_out_by rho bound claim
cost-bears rho bound None some = refl
cost-bears rho bound (Some least) some =
    below-alike rho bound (pos COEFFICIENT_SCALE *ℤ (least -ℤ pos 1)) (pos (COEFFICIENT_SCALE * rho) *ℤ (least -ℤ pos 1)) some
    (swapped COEFFICIENT_SCALE rho (least -ℤ pos 1))
