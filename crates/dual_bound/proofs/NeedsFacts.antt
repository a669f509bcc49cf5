-- What needs are worth, where one price changes.
use Rattle.std.proofs.Common.{◌≡◌, ℕ, zero, suc, ◌+◌, ◌*◌, ◌<◌, ◌≤◌, List, [], ◌∷◌, get_or, length, set, ap, arith, pos}
use Rattle.std.specs.List.{zip}
use Rattle.std.proofs.lemmas.List.{get_or_default}
use Rattle.std.proofs.lemmas.List.Sums.{sum_by-cons}
use Rattle.escrow_units.specs.declared.security.Flow.{Flow}
use Rattle.dual_bound.specs.LeafBound.{priced_needs}

-- the cents of the need at a place
abbrev pub cents_at : List Flow → ℕ → ℕ
cents_at needs date = (get_or needs date (record { day = pos 0; cents = record { 0 = 0 } })).cents.0

-- of a need that is there they don't hang on what would stand for one that isn't
pub cents-there : (needs : List Flow) (date : ℕ) (d : Flow) → date < length needs → (get_or needs date d).cents.0 ≡ cents_at needs date
cents-there needs date d few = ap (λ (f : Flow). f.cents.0) (get_or_default needs date d (record { day = pos 0; cents = record { 0 = 0 } }) few)

abbrev worth_of : Flow × ℕ → ℕ
worth_of p = p.0.cents.0 * p.1

-- with another price, a need is worth by so much more or less
pub priced-set : (needs : List Flow) (prices : List ℕ) (date price : ℕ) → length needs ≡ length prices → date < length prices
    → priced_needs needs (set prices date price) + cents_at needs date * get_or prices date 0 ≡ priced_needs needs prices + cents_at needs date * price
unfolding priced_needs
priced-set [] [] date price same there = absurd (omega arith)
priced-set [] (own ∷ prices) date price same there = absurd (omega arith)
priced-set (need ∷ needs) [] date price same there = absurd (omega arith)
priced-set (need ∷ needs) (own ∷ prices) zero price same there =
    omega (arith, sum_by-cons worth_of (need, price) (zip needs prices), sum_by-cons worth_of (need, own) (zip needs prices))
priced-set (need ∷ needs) (own ∷ prices) (suc date) price same there =
    omega (
      arith,
      sum_by-cons worth_of (need, own) (zip needs (set prices date price)),
      sum_by-cons worth_of (need, own) (zip needs prices),
      priced-set needs prices date price (omega (arith, same)) (omega (arith, there)),
    )

-- what one need is worth is part of what all are
pub priced-one : (needs : List Flow) (prices : List ℕ) (date : ℕ) → length needs ≡ length prices → date < length prices → cents_at needs date * get_or prices date 0 ≤ priced_needs needs prices
unfolding priced_needs
priced-one [] [] date same there = absurd (omega arith)
priced-one [] (own ∷ prices) date same there = absurd (omega arith)
priced-one (need ∷ needs) [] date same there = absurd (omega arith)
priced-one (need ∷ needs) (own ∷ prices) zero same there = omega (arith, sum_by-cons worth_of (need, own) (zip needs prices))
priced-one (need ∷ needs) (own ∷ prices) (suc date) same there =
    omega (arith, sum_by-cons worth_of (need, own) (zip needs prices), priced-one needs prices date (omega (arith, same)) (omega (arith, there)))
