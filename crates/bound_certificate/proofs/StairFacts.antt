-- Stairs, written place by place.
use Rattle.std.proofs.Common.{◌≡◌, ◌≢◌, ◌∙◌, ℕ, ◌+◌, ◌-◌, ◌*◌, ◌<◌, ◌≤◌, ◌⊎◌, inl, inr, true, List, [], ◌∷◌, ◌++◌, length, length-append, get_or, slice_set, take, drop, drop-cons, replicate, None, sym, subst, ap, arith, add-one, append_assoc}
use Rattle.std.specs.List.{fold}
use Rattle.std.proofs.Math.Seq.{take-append_seam, take-suc-set}
use Rattle.std.proofs.lemmas.Bool.{cases_lt}
use Rattle.std.proofs.lemmas.List.{append-nil, drop_all, get_or_default, length-replicate, length-set, length-take-le, replicate-append-replicate, take_all, take_more}
use Rattle.proof_tree.specs.declared.prices.TheConstants.{PRICE_SCALE}
use Rattle.bound_certificate.specs.declared.packed.Change.{Change}
use Rattle.bound_certificate.specs.Grammar.{ArePlaces, are_rising, places_of}
use Rattle.bound_certificate.specs.Packed.{changed, from_place}
use Rattle.bound_certificate.proofs.ChangeFacts.{rising-places}
use Rattle.bound_certificate.proofs.LoopFacts.{no_change}

-- prices up to a place, and then one price on each need date that is left
abbrev pub level : List ℕ → ℕ → ℕ → ℕ → List ℕ
level prices dates place price = take place prices ++ replicate (dates - place) price

-- one more place has the price
put_one : (prices : List ℕ) (dates place price : ℕ) → length prices ≡ dates → place < dates →
    level (slice_set prices place price) dates (place + 1) price ≡ level prices dates place price
put_one prices dates place price long inside =
    let left : ℕ = dates - (place + 1) in
    let one : 1 + left ≡ dates - place = omega (arith, inside) in
    ap (λ (k : ℕ). take k (slice_set prices place price) ++ replicate left price) (add-one place)
    ∙ ap (λ (ps : List ℕ). ps ++ replicate left price) (take-suc-set prices place price (omega (arith, inside, long)))
    ∙ append_assoc (take place prices) (price ∷ []) (replicate left price)
    ∙ ap (λ (ps : List ℕ). take place prices ++ ps) (replicate-append-replicate 1 left price)
    ∙ ap (λ (k : ℕ). take place prices ++ replicate k price) one

-- a place at which they are level
pub level-on : (prices : List ℕ) (dates place price : ℕ) → length prices ≡ dates → place < dates → get_or prices place 0 ≡ price →
    level prices dates (place + 1) price ≡ level prices dates place price
level-on prices dates place price long inside here =
    let left : ℕ = dates - (place + 1) in
    let one : 1 + left ≡ dates - place = omega (arith, inside) in
    ap (λ (ps : List ℕ). ps ++ replicate left price) (take_more prices place 0 (omega (arith, inside, long)))
    ∙ ap (λ (p : ℕ). (take place prices ++ p ∷ []) ++ replicate left price) here
    ∙ append_assoc (take place prices) (price ∷ []) (replicate left price)
    ∙ ap (λ (ps : List ℕ). take place prices ++ ps) (replicate-append-replicate 1 left price)
    ∙ ap (λ (k : ℕ). take place prices ++ replicate k price) one

level_length : (prices : List ℕ) (dates place price : ℕ) → length prices ≡ dates → place ≤ dates → length (level prices dates place price) ≡ dates
level_length prices dates place price long inside =
    omega (
      arith,
      length-append (take place prices) (replicate (dates - place) price),
      length-take-le place prices (omega (arith, long, inside)),
      length-replicate (dates - place) price,
      inside,
    )

-- a step from the place on
pub step-one : (prices : List ℕ) (dates place price : ℕ) (step : Change) → length prices ≡ dates → place < dates → step.place ≡ place + 1 →
    from_place (level prices dates place price) step ≡ level prices dates place step.price
step-one prices dates place price step long inside here =
    let front : List ℕ = take place prices in
    let whole : List ℕ = level prices dates place price in
    let count : length front ≡ place = length-take-le place prices (omega (arith, inside, long)) in
    let at : step.place - 1 ≡ place = omega (arith, here) in
    ap (λ (k : ℕ). take k whole ++ replicate (length whole - k) step.price) at
    ∙ ap (λ (n : ℕ). take place whole ++ replicate (n - place) step.price) (level_length prices dates place price long (omega (arith, inside)))
    ∙ ap (λ (k : ℕ). take k whole ++ replicate (dates - place) step.price) (sym count)
    ∙ ap (λ (ps : List ℕ). ps ++ replicate (dates - place) step.price) (take-append_seam front (replicate (dates - place) price))

-- what is still to come above a place
abbrev AreAbove : ℕ → ℕ → List Change → Type 0
AreAbove place next steps = (i : ℕ) (d : Change) → next ≤ i → i < length steps → place < (get_or steps i d).place

abbrev Lower : Change → Change → Type 0
Lower earlier later = earlier.place < later.place

-- the steps from a place on, of prices that are level there
abbrev still : List ℕ → ℕ → ℕ → ℕ → ℕ → List Change → List ℕ
still prices dates place price next steps = fold from_place (level prices dates place price) (drop next steps)

step_here : (prices : List ℕ) (dates place price next : ℕ) (steps : List Change) → length prices ≡ dates → place < dates → next < length steps →
    (get_or steps next no_change).place ≡ place + 1 →
    still (slice_set prices place (get_or steps next no_change).price) dates (place + 1) (get_or steps next no_change).price (next + 1) steps ≡ still prices dates place price next steps
step_here prices dates place price next steps long inside there here =
    let step : Change = get_or steps next no_change in
    ap (λ (ps : List ℕ). fold from_place ps (drop (next + 1) steps)) (put_one prices dates place step.price long inside)
    ∙ ap (λ (ps : List ℕ). fold from_place ps (drop (next + 1) steps)) (sym (step-one prices dates place price step long inside here))
    ∙ ap (λ (k : ℕ). fold from_place (from_place (level prices dates place price) step) (drop k steps)) (add-one next)
    ∙ ap (λ (cs : List Change). fold from_place (level prices dates place price) cs) (sym (drop-cons steps next no_change there))

level_here : (prices : List ℕ) (dates place price next : ℕ) (steps : List Change) → length prices ≡ dates → place < dates →
    still (slice_set prices place price) dates (place + 1) price next steps ≡ still prices dates place price next steps
level_here prices dates place price next steps long inside = ap (λ (ps : List ℕ). fold from_place ps (drop next steps)) (put_one prices dates place price long inside)

above_first : (dates : ℕ) (steps : List Change) → ArePlaces dates steps → AreAbove 0 0 steps
above_first dates steps places i d low inside = let here = places i d inside in omega (arith, here.0)

above_step : (place next : ℕ) (steps : List Change) → are_rising (places_of steps) ≡ true → next < length steps → (get_or steps next no_change).place ≡ place + 1 →
    AreAbove (place + 1) (next + 1) steps
above_step place next steps rising there here i d low inside =
    let up : (get_or steps next no_change).place < (get_or steps i no_change).place = rising-places steps rising next i no_change (omega (arith, low)) inside in
    let same : get_or steps i d ≡ get_or steps i no_change = get_or_default steps i d no_change inside in
    let placed : (get_or steps i d).place ≡ (get_or steps i no_change).place = ap (λ (c : Change). c.place) same in
    omega (arith, up, here, placed)

above_level : (place next : ℕ) (steps : List Change) → are_rising (places_of steps) ≡ true → AreAbove place next steps →
    (next < length steps → (get_or steps next no_change).place ≢ place + 1) → AreAbove (place + 1) next steps
above_level place next steps rising above other i d low inside = by (cases_lt next i)
  where
    same : (get_or steps i d).place ≡ (get_or steps i no_change).place
    same = ap (λ (c : Change). c.place) (get_or_default steps i d no_change inside)

    by : (next < i) ⊎ (i ≤ next) → place + 1 < (get_or steps i d).place
    by (inl over) =
        let up : (get_or steps next no_change).place < (get_or steps i no_change).place = rising-places steps rising next i no_change over inside in
        let first : place < (get_or steps next no_change).place = above next no_change (omega arith) (omega (arith, over, inside)) in
        omega (arith, up, first, same)
    by (inr equal) =
        let own : next ≡ i = omega (arith, equal, low) in
        let here : place < (get_or steps i d).place = above i d low inside in
        let off : (get_or steps i d).place ≢ place + 1 = (λ is. other (omega (arith, own, inside)) (ap (λ (k : ℕ). (get_or steps k no_change).place) own ∙ sym same ∙ is)) in
        omega (arith, here, off)

-- no step is left at the end
none_left : (dates next : ℕ) (steps : List Change) → ArePlaces dates steps → AreAbove dates next steps → length steps ≤ next
none_left dates next steps places above = by (cases_lt next (length steps))
  where
    by : (next < length steps) ⊎ (length steps ≤ next) → length steps ≤ next
    by (inl more) =
        let over : dates < (get_or steps next no_change).place = above next no_change (omega arith) more in
        let most = places next no_change more in
        absurd (omega (arith, over, most.1))
    by (inr over) = over

-- prices are written up to a place, and so many steps are taken
pub record AreStairsTo (dates : ℕ) (steps : List Change) (prices : List ℕ) (place price next : ℕ) : Type 0 where
  pub long : length prices ≡ dates
  pub above : AreAbove place next steps
  pub so_far : still prices dates place price next steps ≡ changed dates None steps

pub stairs-begin : (dates : ℕ) (steps : List Change) (prices : List ℕ) → length prices ≡ dates → ArePlaces dates steps → AreStairsTo dates steps prices 0 (2 * PRICE_SCALE) 0
stairs-begin dates steps prices long places =
    let all : dates - 0 ≡ dates = omega arith in
    record { long = long; above = above_first dates steps places; so_far = ap (λ (k : ℕ). fold from_place (replicate k (2 * PRICE_SCALE)) steps) all }

pub stairs-step : (dates : ℕ) (steps : List Change) (prices : List ℕ) (place price next : ℕ) → are_rising (places_of steps) ≡ true → place < dates → next < length steps →
    (get_or steps next no_change).place ≡ place + 1 → AreStairsTo dates steps prices place price next →
    AreStairsTo dates steps (slice_set prices place (get_or steps next no_change).price) (place + 1) (get_or steps next no_change).price (next + 1)
stairs-step dates steps prices place price next rising inside there here is = record {
  long = length-set prices place (get_or steps next no_change).price ∙ is.long;
  above = above_step place next steps rising there here;
  so_far = step_here prices dates place price next steps is.long inside there here ∙ is.so_far;
}

pub stairs-level : (dates : ℕ) (steps : List Change) (prices : List ℕ) (place price next : ℕ) → are_rising (places_of steps) ≡ true → place < dates →
    (next < length steps → (get_or steps next no_change).place ≢ place + 1) → AreStairsTo dates steps prices place price next →
    AreStairsTo dates steps (slice_set prices place price) (place + 1) price next
stairs-level dates steps prices place price next rising inside other is = record {
  long = length-set prices place price ∙ is.long;
  above = above_level place next steps rising is.above other;
  so_far = level_here prices dates place price next steps is.long inside ∙ is.so_far;
}

pub stairs-end : (dates : ℕ) (steps : List Change) (prices : List ℕ) (place price next : ℕ) → place ≡ dates → ArePlaces dates steps → AreStairsTo dates steps prices place price next →
    prices ≡ changed dates None steps
stairs-end dates steps prices place price next end places is =
    let over : AreAbove dates next steps = subst (λ (k : ℕ). AreAbove k next steps) end is.above in
    let none : drop next steps ≡ [] = drop_all next steps (none_left dates next steps places over) in
    let left : dates - place ≡ 0 = omega (arith, end) in
    sym
    (sym is.so_far ∙ ap (λ (cs : List Change). fold from_place (level prices dates place price) cs) none
    ∙ ap (λ (k : ℕ). take place prices ++ replicate k price) left ∙ append-nil (take place prices) ∙ take_all place prices (omega (arith, is.long, end)))
