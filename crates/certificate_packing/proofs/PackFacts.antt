-- The changes of a leaf from a vector.
use Rattle.std.proofs.Common.{◌≡◌, ◌≢◌, ◌∙◌, ℕ, suc, ◌+◌, ◌-◌, ◌*◌, ◌<◌, ◌≤◌, Bool, true, false, ◌==◌, ◌||◌, Some, None, replicate, List, [], ◌∷◌, ◌++◌, length, take, drop, drop-cons, get_or, All, AllPairs, refl, sym, subst, ap, arith, add-one, append_assoc, slice_set, slice_index, length-take}
use Rattle.std.proofs.Math.Seq.{set-append_seam}
use Rattle.std.proofs.lemmas.List.{append-nil, drop_all, take_all, take_more}
use Rattle.std.proofs.lemmas.List.Elements.{All-append, All-cons, All-head, All-nil, All-tail}
use Rattle.std.proofs.lemmas.List.Quantifiers.{all_pairs_push}
use Rattle.std.proofs.lemmas.List.Sums.{fold-append}
use Rattle.bound_certificate.specs.declared.packed.Change.{Change}
use Rattle.proof_tree.specs.declared.prices.TheConstants.{PRICE_SCALE}
use Rattle.bound_certificate.specs.Packed.{changed, from_place, repeats, restates}
use Rattle.bound_certificate.proofs.PriceFacts.{neither}
use Rattle.bound_certificate.proofs.StairFacts.{level, level-on, step-one}
use Rattle.certificate_packing.specs.Packing.{IsDifference}

abbrev UpTo : ℕ → Change → Type 0
UpTo last change = (1 ≤ change.place) × (change.place ≤ last)

abbrev Value : List ℕ → Change → Type 0
Value prices change = change.price ≡ slice_index prices (change.place - 1)

abbrev Other : List ℕ → Change → Type 0
Other vector change = change.price ≢ slice_index vector (change.place - 1)

-- the prices below a place are those of the list, the others the vector's
pub record IsSoFar (vector prices : List ℕ) (place : ℕ) (changes : List Change) : Type 0 where
  pub same : changed (length prices) (Some vector) changes ≡ take place prices ++ drop place vector
  pub places : All (UpTo place) changes
  pub values : All (Value prices) changes
  pub other : All (Other vector) changes
  pub rising : AllPairs (λ earlier later. earlier.place < later.place) changes

pub none-yet : (vector prices : List ℕ) → IsSoFar vector prices 0 []
none-yet vector prices = record {
  same = refl;
  places = All-nil (UpTo 0);
  values = All-nil (Value prices);
  other = All-nil (Other vector);
  rising = λ i j d before inside. absurd (omega (arith, before, inside));
}

up_more : (place : ℕ) (changes : List Change) → All (UpTo place) changes → All (UpTo (place + 1)) changes
up_more place changes all i d inside = let here = all i d inside in (here.0, omega (arith, here.1))

-- a place at which they don't differ
pub no-change : (vector prices : List ℕ) (place : ℕ) (changes : List Change) → IsSoFar vector prices place changes → place < length vector → length vector ≡ length prices →
    get_or vector place 0 ≡ get_or prices place 0 → IsSoFar vector prices (place + 1) changes
no-change vector prices place changes is inside long equal = record {
  same =
      is.same ∙ ap (λ (ps : List ℕ). take place prices ++ ps) (drop-cons vector place 0 inside)
      ∙ ap (λ (p : ℕ). take place prices ++ p ∷ drop (suc place) vector) equal
      ∙ sym (append_assoc (take place prices) (get_or prices place 0 ∷ []) (drop (suc place) vector))
      ∙ ap (λ (ps : List ℕ). ps ++ drop (suc place) vector) (sym (take_more prices place 0 (omega (arith, inside, long))))
      ∙ ap (λ (k : ℕ). take (place + 1) prices ++ drop k vector) (sym (add-one place));
  places = up_more place changes is.places;
  values = is.values;
  other = is.other;
  rising = is.rising;
}

-- and one at which they do
pub one-change : (vector prices : List ℕ) (place : ℕ) (changes : List Change) → IsSoFar vector prices place changes → place < length vector → length vector ≡ length prices →
    get_or vector place 0 ≢ get_or prices place 0 → IsSoFar vector prices (place + 1) (changes ++ record { place = place + 1; price = get_or prices place 0 } ∷ [])
one-change vector prices place changes is inside long differ =
    let change : Change = record { place = place + 1; price = get_or prices place 0 } in
    let front : List ℕ = take place prices in
    let count : length front ≡ place = omega (arith, length-take place prices, inside, long) in
    let at : place + 1 - 1 ≡ place = omega arith in
    record {
      same =
          fold-append (λ (before : List ℕ) (c : Change). slice_set before (c.place - 1) c.price) vector changes (change ∷ [])
          ∙ ap (λ (ps : List ℕ). slice_set ps (place + 1 - 1) change.price) (is.same ∙ ap (λ (ps : List ℕ). front ++ ps) (drop-cons vector place 0 inside))
          ∙ ap (λ (k : ℕ). slice_set (front ++ get_or vector place 0 ∷ drop (suc place) vector) k change.price) (at ∙ sym count)
          ∙ set-append_seam front (get_or vector place 0) (drop (suc place) vector) change.price
          ∙ sym (append_assoc front (change.price ∷ []) (drop (suc place) vector))
          ∙ ap (λ (ps : List ℕ). ps ++ drop (suc place) vector) (sym (take_more prices place 0 (omega (arith, inside, long))))
          ∙ ap (λ (k : ℕ). take (place + 1) prices ++ drop k vector) (sym (add-one place));
      places = All-append (UpTo (place + 1)) changes (change ∷ []) (up_more place changes is.places)
          (All-cons (UpTo (place + 1)) change [] (omega arith, omega arith) (All-nil (UpTo (place + 1))));
      values = All-append (Value prices) changes (change ∷ []) is.values
          (All-cons (Value prices) change [] (ap (λ (k : ℕ). slice_index prices k) (sym at)) (All-nil (Value prices)));
      other = All-append (Other vector) changes (change ∷ []) is.other
          (All-cons (Other vector) change [] (λ same. differ (sym (same ∙ ap (λ (k : ℕ). slice_index vector k) at))) (All-nil (Other vector)));
      rising = all_pairs_push (λ (earlier later : Change). earlier.place < later.place) changes change is.rising
          (λ k d within. (let here = is.places k d within in omega (arith, here.1)));
    }

apart : (x y : ℕ) → x ≢ y → (b : Bool) → (x == y) ≡ b → b ≡ false
apart x y h true e = absurd (h (grind (arith, e)))
apart x y h false e = refl

others-read : (vector : List ℕ) (changes : List Change) → All (Other vector) changes → restates (Some vector) changes ≡ false
others-read vector [] all = refl
others-read vector (change ∷ changes) all =
    let here : (change.price == slice_index vector (change.place - 1)) ≡ false =
    apart change.price (slice_index vector (change.place - 1)) (All-head (Other vector) change changes all) _ refl in
    ap (λ (b : Bool). b || restates (Some vector) changes) here ∙ others-read vector changes (All-tail (Other vector) change changes all)

pub whole-difference : (vector prices : List ℕ) (place : ℕ) (changes : List Change) → IsSoFar vector prices place changes → length vector ≡ length prices → place ≡ length prices →
    IsDifference (Some vector) prices changes
whole-difference vector prices place changes is long all =
    let P : ℕ → Type 0 = λ k. All (UpTo k) changes in
    record {
      same = is.same ∙ ap (λ (ps : List ℕ). ps ++ drop place vector) (take_all place prices (omega (arith, all)))
          ∙ ap (λ (ps : List ℕ). prices ++ ps) (drop_all place vector (omega (arith, all, long))) ∙ append-nil prices;
      places = subst P all is.places;
      values = is.values;
      other = others-read vector changes is.other;
      rising = is.rising;
    }

-- ---- stairs
-- the price of the last of changes, and where there are none this price
abbrev pub last_price : ℕ → List Change → ℕ
last_price price [] = price
last_price price (change ∷ changes) = last_price change.price changes

last_push : (price : ℕ) (changes : List Change) (change : Change) → last_price price (changes ++ change ∷ []) ≡ change.price
last_push price [] change = refl
last_push price (first ∷ changes) change = last_push first.price changes change

repeats_push : (price : ℕ) (changes : List Change) (change : Change) → repeats price changes ≡ false → change.price ≢ last_price price changes → repeats price (changes ++ change ∷ []) ≡ false
repeats_push price [] change none other = ap (λ (b : Bool). b || false) (apart change.price price other _ refl)
repeats_push price (first ∷ changes) change none other =
    let both : ((first.price == price) ≡ false) × (repeats first.price changes ≡ false) = neither _ _ none in
    ap (λ (b : Bool). b || repeats first.price (changes ++ change ∷ [])) both.0 ∙ repeats_push first.price changes change both.1 other

-- the prices below a place are those of the list, and from it on they are all the last one
pub record AreStepsSoFar (prices : List ℕ) (place before : ℕ) (changes : List Change) : Type 0 where
  pub same : changed (length prices) None changes ≡ level prices (length prices) place before
  pub places : All (UpTo place) changes
  pub values : All (Value prices) changes
  pub other : repeats (2 * PRICE_SCALE) changes ≡ false
  pub last : before ≡ last_price (2 * PRICE_SCALE) changes
  pub rising : AllPairs (λ earlier later. earlier.place < later.place) changes

pub no-steps : (prices : List ℕ) → AreStepsSoFar prices 0 (2 * PRICE_SCALE) []
no-steps prices =
    let all : length prices - 0 ≡ length prices = omega arith in
    record {
      same = ap (λ (k : ℕ). replicate k (2 * PRICE_SCALE)) (sym all);
      places = All-nil (UpTo 0);
      values = All-nil (Value prices);
      other = refl;
      last = refl;
      rising = λ i j d before inside. absurd (omega (arith, before, inside));
    }

-- a place at which the price is the one before
pub no-step : (prices : List ℕ) (place before : ℕ) (changes : List Change) → AreStepsSoFar prices place before changes → place < length prices → get_or prices place 0 ≡ before →
    AreStepsSoFar prices (place + 1) before changes
no-step prices place before changes is inside equal = record {
  same = is.same ∙ sym (level-on prices (length prices) place before refl inside equal);
  places = up_more place changes is.places;
  values = is.values;
  other = is.other;
  last = is.last;
  rising = is.rising;
}

-- and one at which it isn't
pub one-step : (prices : List ℕ) (place before : ℕ) (changes : List Change) → AreStepsSoFar prices place before changes → place < length prices → get_or prices place 0 ≢ before →
    AreStepsSoFar prices (place + 1) (get_or prices place 0) (changes ++ record { place = place + 1; price = get_or prices place 0 } ∷ [])
one-step prices place before changes is inside differ =
    let change : Change = record { place = place + 1; price = get_or prices place 0 } in
    let at : place + 1 - 1 ≡ place = omega arith in
    let dates : ℕ = length prices in
    record {
      same =
          fold-append from_place (replicate dates (2 * PRICE_SCALE)) changes (change ∷ [])
          ∙ ap (λ (ps : List ℕ). from_place ps change) is.same
          ∙ step-one prices dates place before change refl inside refl
          ∙ sym (level-on prices dates place change.price refl inside refl);
      places = All-append (UpTo (place + 1)) changes (change ∷ []) (up_more place changes is.places)
          (All-cons (UpTo (place + 1)) change [] (omega arith, omega arith) (All-nil (UpTo (place + 1))));
      values = All-append (Value prices) changes (change ∷ []) is.values
          (All-cons (Value prices) change [] (ap (λ (k : ℕ). slice_index prices k) (sym at)) (All-nil (Value prices)));
      other = repeats_push (2 * PRICE_SCALE) changes change is.other (λ same. differ (same ∙ sym is.last));
      last = sym (last_push (2 * PRICE_SCALE) changes change);
      rising = all_pairs_push (λ (earlier later : Change). earlier.place < later.place) changes change is.rising
          (λ k d within. (let here = is.places k d within in omega (arith, here.1)));
    }

pub whole-steps : (prices : List ℕ) (place before : ℕ) (changes : List Change) → AreStepsSoFar prices place before changes → place ≡ length prices → IsDifference None prices changes
whole-steps prices place before changes is all =
    let P : ℕ → Type 0 = λ k. All (UpTo k) changes in
    let left : length prices - place ≡ 0 = omega (arith, all) in
    record {
      same = is.same ∙ ap (λ (k : ℕ). take place prices ++ replicate k before) left ∙ append-nil (take place prices) ∙ take_all place prices (omega (arith, all));
      places = subst P all is.places;
      values = is.values;
      other = is.other;
      rising = is.rising;
    }
