-- The greatest and the least number up to a top that pass a test.
use Rattle.std.proofs.Common.{◌≡◌, inl, inr, ℕ, zero, suc, ◌≤◌, Bool, true, false, if◌then◌else◌, refl, ap, subst, arith}
use Rattle.std.proofs.lemmas.Bool.{cases_Bool, cases_lt, both_ways}
use Rattle.fixed_powers.specs.Searches.{greatest_passing, least_passing}

greatest-here : (passes : ℕ → Bool) (top : ℕ) → passes (suc top) ≡ true → greatest_passing passes (suc top) ≡ suc top
unfolding greatest_passing
greatest-here passes top here = ap (λ b. if b then suc top else greatest_passing passes top) here

greatest-below : (passes : ℕ → Bool) (top : ℕ) → passes (suc top) ≡ false → greatest_passing passes (suc top) ≡ greatest_passing passes top
unfolding greatest_passing
greatest-below passes top not_here = ap (λ b. if b then suc top else greatest_passing passes top) not_here

greatest-zero : (passes : ℕ → Bool) → greatest_passing passes 0 ≡ 0
unfolding greatest_passing
greatest-zero passes = refl

pub greatest-within : (passes : ℕ → Bool) (top : ℕ) → greatest_passing passes top ≤ top
greatest-within passes zero = omega (arith, greatest-zero passes)
greatest-within passes (suc top) =
    elim (cases_Bool (passes (suc top))) [
      | inl here ↦ omega (arith, greatest-here passes top here)
      | inr not_here ↦ omega (arith, greatest-below passes top not_here, greatest-within passes top)
    ]

-- a number up to suc top that passes is at most top, where suc top doesn't pass
passes_below : (passes : ℕ → Bool) (top k : ℕ) → k ≤ suc top → passes k ≡ true → passes (suc top) ≡ false → k ≤ top
passes_below passes top k le pass not_here =
    elim (cases_lt top k) [
      | inl lt ↦ let same : k ≡ suc top = omega arith in absurd (both_ways (passes (suc top)) not_here (subst (λ (j : ℕ). passes j ≡ true) same pass))
      | inr done ↦ done
    ]

-- where some number passes, the greatest_passing passes
pub greatest-passes : (passes : ℕ → Bool) (top k : ℕ) → k ≤ top → passes k ≡ true → passes (greatest_passing passes top) ≡ true
greatest-passes passes zero k le pass =
    let same : k ≡ greatest_passing passes 0 = omega (arith, greatest-zero passes) in subst (λ (j : ℕ). passes j ≡ true) same pass
greatest-passes passes (suc top) k le pass =
    elim (cases_Bool (passes (suc top))) [
      | inl here ↦ rw (greatest-here passes top here) here
      | inr not_here ↦ rw (greatest-below passes top not_here) (greatest-passes passes top k (passes_below passes top k le pass not_here) pass)
    ]

-- each number that passes is at most the greatest
pub greatest-most : (passes : ℕ → Bool) (top k : ℕ) → k ≤ top → passes k ≡ true → k ≤ greatest_passing passes top
greatest-most passes zero k le pass = omega arith
greatest-most passes (suc top) k le pass =
    elim (cases_Bool (passes (suc top))) [
      | inl here ↦ omega (arith, greatest-here passes top here)
      | inr not_here ↦ omega (arith, greatest-below passes top not_here, greatest-most passes top k (passes_below passes top k le pass not_here) pass)
    ]

least-here : (passes : ℕ → Bool) (top : ℕ) → passes (least_passing passes top) ≡ true → least_passing passes (suc top) ≡ least_passing passes top
unfolding least_passing
least-here passes top here = ap (λ b. if b then least_passing passes top else suc top) here

least-above : (passes : ℕ → Bool) (top : ℕ) → passes (least_passing passes top) ≡ false → least_passing passes (suc top) ≡ suc top
unfolding least_passing
least-above passes top not_here = ap (λ b. if b then least_passing passes top else suc top) not_here

least-zero : (passes : ℕ → Bool) → least_passing passes 0 ≡ 0
unfolding least_passing
least-zero passes = refl

pub least-within : (passes : ℕ → Bool) (top : ℕ) → least_passing passes top ≤ top
least-within passes zero = omega (arith, least-zero passes)
least-within passes (suc top) =
    elim (cases_Bool (passes (least_passing passes top))) [
      | inl here ↦ omega (arith, least-here passes top here, least-within passes top)
      | inr not_here ↦ omega (arith, least-above passes top not_here)
    ]

-- where some number passes, the least_passing passes
pub least-passes : (passes : ℕ → Bool) (top k : ℕ) → k ≤ top → passes k ≡ true → passes (least_passing passes top) ≡ true
least-passes passes zero k le pass =
    let same : k ≡ least_passing passes 0 = omega (arith, least-zero passes) in subst (λ (j : ℕ). passes j ≡ true) same pass
least-passes passes (suc top) k le pass =
    elim (cases_Bool (passes (least_passing passes top))) [
      | inl here ↦ rw (least-here passes top here) here
      | inr not_here ↦ elim (cases_lt top k) [
        | inl lt ↦ let same : k ≡ suc top = omega arith in rw (least-above passes top not_here) (subst (λ (j : ℕ). passes j ≡ true) same pass)
        | inr below ↦ absurd (both_ways (passes (least_passing passes top)) not_here (least-passes passes top k below pass))
      ]
    ]

-- each number that passes is at least the least
pub least-most : (passes : ℕ → Bool) (top k : ℕ) → k ≤ top → passes k ≡ true → least_passing passes top ≤ k
least-most passes zero k le pass = omega (arith, least-zero passes)
least-most passes (suc top) k le pass =
    elim (cases_lt top k) [
      | inl lt ↦ omega (arith, least-within passes (suc top))
      | inr below ↦ omega (arith, least-here passes top (least-passes passes top k below pass), least-most passes top k below pass)
    ]
