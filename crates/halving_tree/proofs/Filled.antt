-- A list of numbers that is filled place by place.
use Rattle.std.proofs.Common.{◌≡◌, ◌∙◌, ℕ, ◌+◌, ◌<◌, ◌≤◌, List, [], ◌∷◌, ◌++◌, length, take, map, set, get_or, sym, ap, arith}
use Rattle.std.proofs.Math.ListN.{length-set}
use Rattle.std.proofs.lemmas.List.{get_or-map, get_or-set_same, length-map, take-set, take_all, take_more}

-- one place more
pub filled-more : {X : Type 0} (f : X → ℕ) (units : List ℕ) (xs : List X) (place value : ℕ) (x : X) → place < length xs → length xs ≤ length units → x ≡ get_or xs place x → value ≡ f x
    → take place units ≡ take place (map f xs) → take (place + 1) (set units place value) ≡ take (place + 1) (map f xs)
filled-more f units xs place value x within room at is before =
    let here : get_or (map f xs) place 0 ≡ value = get_or-map f xs place x 0 within ∙ sym (ap f at) ∙ sym is in
    let short : place < length (set units place value) = omega (arith, length-set units place value) in
    take_more (set units place value) place 0 short
    ∙ ap (λ (n : ℕ). take place (set units place value) ++ n ∷ []) (get_or-set_same units place value 0 (omega arith))
    ∙ ap (λ (front : List ℕ). front ++ value ∷ []) (take-set units place value ∙ before)
    ∙ ap (λ (n : ℕ). take place (map f xs) ++ n ∷ []) (sym here)
    ∙ sym (take_more (map f xs) place 0 (omega (arith, length-map xs f)))

-- every place
pub filled-all : {X : Type 0} (f : X → ℕ) (units : List ℕ) (xs : List X) (place : ℕ) → length units ≡ place → length xs ≡ place → take place units ≡ take place (map f xs) → units ≡ map f xs
filled-all f units xs place long same before =
    sym (take_all place units (omega (arith, long))) ∙ before ∙ take_all place (map f xs) (omega (arith, same, length-map xs f))
