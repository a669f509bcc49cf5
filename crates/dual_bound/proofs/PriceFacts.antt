-- The price of a day, one need date after another.
use Rattle.std.proofs.Common.{◌≡◌, ◌∙◌, ℕ, zero, suc, ◌+◌, ◌<◌, ◌≤◌, List, [], ◌∷◌, drop, get_or, length, refl, sym, ap, arith, ℤ, ◌≤ℤ◌, ◌<ℤ◌, int_le, Bool, true, false, if◌then◌else◌}
use Rattle.std.proofs.lemmas.Int.{ints}
use Rattle.escrow_units.specs.declared.security.Flow.{Flow}
use Rattle.dual_bound.specs.LeafBound.{price_on}

pub price_on-here : (needs : List Flow) (prices : List ℕ) (day : ℤ) (place : ℕ) (d : Flow) (e : ℕ) → length needs ≡ length prices → place < length needs
    → day ≤ℤ (get_or needs place d).day → price_on (drop place needs) (drop place prices) day ≡ get_or prices place e
unfolding price_on
price_on-here [] prices day place d e same few due = absurd (omega arith)
price_on-here (need ∷ needs) [] day place d e same few due = absurd (omega arith)
price_on-here (need ∷ needs) (price ∷ prices) day zero d e same few due = at (int_le day need.day) refl
  where
    at : (t : Bool) → int_le day need.day ≡ t → (if t then price else price_on needs prices day) ≡ price
    at true test = refl
    at false test = absurd (omega (arith, ints))
price_on-here (need ∷ needs) (price ∷ prices) day (suc place) d e same few due = price_on-here needs prices day place d e (omega arith) (omega arith) due

pub price_on-later : (needs : List Flow) (prices : List ℕ) (day : ℤ) (place : ℕ) (d : Flow) → length needs ≡ length prices → place < length needs
    → (get_or needs place d).day <ℤ day → price_on (drop place needs) (drop place prices) day ≡ price_on (drop (place + 1) needs) (drop (place + 1) prices) day
unfolding price_on
price_on-later [] prices day place d same few late = absurd (omega arith)
price_on-later (need ∷ needs) [] day place d same few late = absurd (omega arith)
price_on-later (need ∷ needs) (price ∷ prices) day zero d same few late = at (int_le day need.day) refl
  where
    at : (t : Bool) → int_le day need.day ≡ t → (if t then price else price_on needs prices day) ≡ price_on needs prices day
    at true test = absurd (omega (arith, ints))
    at false test = refl
price_on-later (need ∷ needs) (price ∷ prices) day (suc place) d same few late =
    let next : suc place + 1 ≡ suc (place + 1) = omega arith in
    price_on-later needs prices day place d (omega arith) (omega arith) late
    ∙ ap (λ k. price_on (drop k (need ∷ needs)) (drop k (price ∷ prices)) day) (sym next)

drop-nil : (place : ℕ) → drop {A = ℕ} place [] ≡ []
drop-nil zero = refl
drop-nil (suc place) = refl

pub price_on-past : (needs : List Flow) (prices : List ℕ) (day : ℤ) (place : ℕ) → length needs ≤ place → price_on (drop place needs) (drop place prices) day ≡ 0
unfolding price_on
price_on-past [] prices day zero past = refl
price_on-past [] prices day (suc place) past = refl
price_on-past (need ∷ needs) prices day zero past = absurd (omega arith)
price_on-past (need ∷ needs) [] day (suc place) past = ap (λ prices. price_on (drop place needs) prices day) (sym (drop-nil place)) ∙ price_on-past needs [] day place (omega arith)
price_on-past (need ∷ needs) (price ∷ prices) day (suc place) past = price_on-past needs prices day place (omega arith)
