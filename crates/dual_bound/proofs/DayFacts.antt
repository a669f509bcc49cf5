-- Days by what prices them.
use Rattle.std.proofs.Common.{◌≡◌, ℕ, zero, suc, ◌<◌, ◌≤◌, List, [], ◌∷◌, get_or, length, refl, arith, ℤ, ◌≤ℤ◌, ◌<ℤ◌, int_le, Bool, true, false, if◌then◌else◌}
use Rattle.std.proofs.lemmas.Int.{ints}
use Rattle.escrow_units.specs.declared.security.Flow.{Flow}
use Rattle.dual_bound.specs.LeafBound.{price_on}

-- the price of a day is that at the place of the first need date on or after it
pub found : (needs : List Flow) (prices : List ℕ) (day : ℤ) (place : ℕ) → length prices ≡ length needs → place ≤ length needs
    → ((k : ℕ) (d : Flow) → k < place → (get_or needs k d).day <ℤ day)
    → ((k : ℕ) (d : Flow) → place ≤ k → k < length needs → day ≤ℤ (get_or needs k d).day)
    → get_or prices place 0 ≡ price_on needs prices day
unfolding price_on
found [] [] day zero same few before after = refl
found [] [] day (suc place) same few before after = absurd (omega arith)
found [] (price ∷ prices) day place same few before after = absurd (omega arith)
found (need ∷ needs) [] day place same few before after = absurd (omega arith)
found (need ∷ needs) (price ∷ prices) day zero same few before after = at (int_le day need.day) refl (after 0 need (omega arith) (omega arith))
  where
    at : (t : Bool) → int_le day need.day ≡ t → day ≤ℤ need.day → price ≡ (if t then price else price_on needs prices day)
    at true test due = refl
    at false test due = absurd (omega (arith, ints))
found (need ∷ needs) (price ∷ prices) day (suc place) same few before after =
    at (int_le day need.day) refl (before 0 need (omega arith))
    (found needs prices day place (omega arith) (omega arith) (λ k d lt. before (suc k) d (omega arith)) (λ k d ge lt. after (suc k) d (omega arith) (omega arith)))
  where
    at : (t : Bool) → int_le day need.day ≡ t → need.day <ℤ day → get_or prices place 0 ≡ price_on needs prices day
        → get_or prices place 0 ≡ (if t then price else price_on needs prices day)
    at true test late rest = absurd (omega (arith, ints))
    at false test late rest = rest
