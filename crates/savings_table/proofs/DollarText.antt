-- The last two digits of an amount in cents.
use Rattle.std.proofs.Common.{◌≡◌, ◌∙◌, sym, ap, arith, ℕ, ◌+◌, ◌/◌, ◌%◌, List, [], ◌∷◌, ◌++◌, append_assoc}
use Rattle.std.specs.Prelude.{decimal}
use Rattle.escrow_units.specs.Digits.{fixed, last_digits}

two_digits : (n : ℕ) → last_digits 2 (n % 100) ≡ (48 + n % 100 / 10) ∷ (48 + n % 10) ∷ []
unfolding last_digits
two_digits n =
    let tens : n % 100 / 10 % 10 ≡ n % 100 / 10 = omega arith in
    let ones : n % 100 % 10 ≡ n % 10 = omega arith in
    ap (λ (d : ℕ). (48 + d) ∷ (48 + n % 100 % 10) ∷ []) tens ∙ ap (λ (d : ℕ). (48 + n % 100 / 10) ∷ (48 + d) ∷ []) ones

-- dollars, a point and two digits, one after the other, are the text of cents
pub dollars-pushed : (cents : ℕ) (before dollars point tens all : List ℕ)
    → dollars ≡ before ++ decimal (cents / 100) → point ≡ dollars ++ 46 ∷ [] → tens ≡ point ++ (48 + cents % 100 / 10) ∷ []
    → all ≡ tens ++ (48 + cents % 10) ∷ [] → all ≡ before ++ fixed 2 cents
dollars-pushed cents before dollars point tens all is_dollars is_point is_tens is_all =
    let d = decimal (cents / 100) in
    let ten = 48 + cents % 100 / 10 in
    let one = 48 + cents % 10 in
    is_all ∙ (ap (λ (t : List ℕ). t ++ one ∷ []) (is_tens ∙ ap (λ (t : List ℕ). t ++ ten ∷ []) (is_point ∙ ap (λ (t : List ℕ). t ++ 46 ∷ []) is_dollars))
    ∙ (joined before d ten one
    ∙ ap (λ (t : List ℕ). before ++ (d ++ 46 ∷ t)) (back cents)))
  where
    joined : (before d : List ℕ) (ten one : ℕ) → (((before ++ d) ++ 46 ∷ []) ++ ten ∷ []) ++ one ∷ [] ≡ before ++ (d ++ 46 ∷ ten ∷ one ∷ [])
    joined before d ten one = simp append_assoc

    back : (n : ℕ) → (48 + n % 100 / 10) ∷ (48 + n % 10) ∷ [] ≡ last_digits 2 (n % 100)
    back n = sym (two_digits n)
