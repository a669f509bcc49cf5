-- Where prices rise after changes to a vector whose prices never rise: beside a change alone.
use Rattle.std.proofs.Common.{◌≡◌, ◌≢◌, ◌∙◌, ℕ, zero, suc, ◌+◌, ◌-◌, ◌*◌, ◌<◌, ◌≤◌, Bool, true, false, ◌||◌, nat_lt, ◌⊎◌, inl, inr, List, [], ◌∷◌, AllPairs, length, get_or, get_or-set_other, slice_set, replicate, take, Option, Some, None, refl, sym, subst, ap, arith}
use Rattle.std.proofs.lemmas.Bool.{cases_lt}
use Rattle.std.proofs.lemmas.List.{get_or-append_right, get_or-replicate, get_or-take, get_or_past, length-replicate, length-take, length-take-le}
use Rattle.std.proofs.Math.ListN.{get_or-append}
use Rattle.std.specs.List.{fold}
use Rattle.proof_tree.specs.declared.prices.TheConstants.{PRICE_SCALE}
use Rattle.std.proofs.lemmas.List.Elements.{All-head, All-tail}
use Rattle.bound_certificate.specs.declared.packed.Change.{Change}
use Rattle.bound_certificate.specs.Grammar.{ArePlaces, rises}
use Rattle.bound_certificate.specs.Packed.{changed, from_place}
use Rattle.bound_certificate.specs.Taken.{IsBase}
use Rattle.bound_certificate.proofs.ChangeFacts.{from-length}
use Rattle.bound_certificate.proofs.PriceFacts.{NotAbove, neither, order-falling}

-- the price at a place is above the one before it, or below the one behind it
abbrev pub at_place : List ℕ → ℕ → Bool
at_place prices place = nat_lt (get_or prices (place - 1) 0) (get_or prices place 0) || nat_lt (get_or prices place 0) (get_or prices (place + 1) 0)

-- so it is at a change
abbrev pub near : List ℕ → List Change → Bool
near prices [] = false
near prices (change ∷ changes) = at_place prices (change.place - 1) || near prices changes

-- the price behind a place isn't above the one at it; behind the last one there is nothing
abbrev pub Falls : List ℕ → ℕ → Type 0
Falls prices place = get_or prices (suc place) 0 ≤ get_or prices place 0

either : (a b : Bool) → (a || b) ≡ true → (a ≡ true) ⊎ (b ≡ true)
either true b h = inl refl
either false b h = inr h

-- ---- where a price rises
there : (prices : List ℕ) (place : ℕ) → suc place < length prices → get_or prices place 0 < get_or prices (suc place) 0 → rises prices ≡ true
there prices place inside up = by (rises prices) refl
  where
    by : (b : Bool) → rises prices ≡ b → rises prices ≡ true
    by true is = is
    by false is =
        let down : get_or prices (suc place) 0 ≤ get_or prices place 0 = order-falling prices is place (suc place) 0 (omega arith) inside in
        absurd (omega (arith, up, down))

before_it : (prices : List ℕ) (place : ℕ) → place < length prices → get_or prices (place - 1) 0 < get_or prices place 0 → rises prices ≡ true
before_it prices zero inside up = absurd (omega (arith, up))
before_it prices (suc place) inside up =
    let own : suc place - 1 ≡ place = omega arith in there prices place inside (subst (λ (k : ℕ). get_or prices k 0 < get_or prices (suc place) 0) own up)

behind_it : (prices : List ℕ) (place : ℕ) → get_or prices place 0 < get_or prices (suc place) 0 → rises prices ≡ true
behind_it prices place up = by (cases_lt (suc place) (length prices))
  where
    by : (suc place < length prices) ⊎ (length prices ≤ suc place) → rises prices ≡ true
    by (inl inside) = there prices place inside up
    by (inr over) = let none : get_or prices (suc place) 0 ≡ 0 = get_or_past prices (suc place) 0 over in absurd (omega (arith, up, none))

at_true : (prices : List ℕ) (place : ℕ) → place < length prices → at_place prices place ≡ true → rises prices ≡ true
at_true prices place inside is = by (either (nat_lt (get_or prices (place - 1) 0) (get_or prices place 0)) (nat_lt (get_or prices place 0) (get_or prices (place + 1) 0)) is)
  where
    by : (nat_lt (get_or prices (place - 1) 0) (get_or prices place 0) ≡ true) ⊎ (nat_lt (get_or prices place 0) (get_or prices (place + 1) 0) ≡ true) → rises prices ≡ true
    by (inl up) = before_it prices place inside (grind (arith, up))
    by (inr up) =
        let next : place + 1 ≡ suc place = omega arith in
        let over : get_or prices place 0 < get_or prices (place + 1) 0 = grind (arith, up) in
        behind_it prices place (subst (λ (k : ℕ). get_or prices place 0 < get_or prices k 0) next over)

abbrev InPlace : List ℕ → Change → Type 0
InPlace prices change = (1 ≤ change.place) × (change.place ≤ length prices)

one_of : (prices : List ℕ) (change : Change) (changes : List Change) → InPlace prices change → (near prices changes ≡ true → rises prices ≡ true)
    → (at_place prices (change.place - 1) ≡ true) ⊎ (near prices changes ≡ true) → rises prices ≡ true
one_of prices change changes own later (inl here) = at_true prices (change.place - 1) (omega (arith, own.0, own.1)) here
one_of prices change changes own later (inr on) = later on

near_true : (prices : List ℕ) (changes : List Change) → ArePlaces (length prices) changes → near prices changes ≡ true → rises prices ≡ true
near_true prices [] places is = absurd (cc)
near_true prices (change ∷ changes) places is =
    one_of prices change changes (All-head (InPlace prices) change changes places) (near_true prices changes (All-tail (InPlace prices) change changes places))
    (either (at_place prices (change.place - 1)) (near prices changes) is)

-- ---- where none rises
falls-order : (prices : List ℕ) → ((place : ℕ) → Falls prices place) → rises prices ≡ false
falls-order [] falls = refl
falls-order (x ∷ []) falls = refl
falls-order (x ∷ y ∷ prices) falls =
    let first : y ≤ x = falls 0 in
    let here : nat_lt x y ≡ false = grind (arith, first) in
    ap (λ (b : Bool). b || rises (y ∷ prices)) here ∙ falls-order (y ∷ prices) (λ place. falls (suc place))

vector_falls : (vector : List ℕ) → AllPairs NotAbove vector → (place : ℕ) → Falls vector place
vector_falls vector falling place = by (cases_lt (suc place) (length vector))
  where
    by : (suc place < length vector) ⊎ (length vector ≤ suc place) → Falls vector place
    by (inl inside) = falling place (suc place) 0 (omega arith) inside
    by (inr over) = let none : get_or vector (suc place) 0 ≡ 0 = get_or_past vector (suc place) 0 over in omega (arith, none)

-- a change beside which nothing rises
sides : (prices : List ℕ) (at : ℕ) → at_place prices at ≡ false →
    (nat_lt (get_or prices (at - 1) 0) (get_or prices at 0) ≡ false) × (nat_lt (get_or prices at 0) (get_or prices (at + 1) 0) ≡ false)
sides prices at quiet = neither (nat_lt (get_or prices (at - 1) 0) (get_or prices at 0)) (nat_lt (get_or prices at 0) (get_or prices (at + 1) 0)) quiet

beside_behind : (prices : List ℕ) (at place : ℕ) → at_place prices at ≡ false → place ≡ at → Falls prices place
beside_behind prices at place quiet same =
    let down : get_or prices (at + 1) 0 ≤ get_or prices at 0 = grind (arith, (sides prices at quiet).1) in
    let next : at + 1 ≡ suc place = omega (arith, same) in
    let low : get_or prices (suc place) 0 ≤ get_or prices at 0 = subst (λ (k : ℕ). get_or prices k 0 ≤ get_or prices at 0) next down in
    subst (λ (k : ℕ). get_or prices (suc place) 0 ≤ get_or prices k 0) (sym same) low

beside_front : (prices : List ℕ) (at place : ℕ) → at_place prices at ≡ false → suc place ≡ at → Falls prices place
beside_front prices at place quiet same =
    let down : get_or prices at 0 ≤ get_or prices (at - 1) 0 = grind (arith, (sides prices at quiet).0) in
    let own : at - 1 ≡ place = omega (arith, same) in
    let low : get_or prices at 0 ≤ get_or prices place 0 = subst (λ (k : ℕ). get_or prices at 0 ≤ get_or prices k 0) own down in
    subst (λ (k : ℕ). get_or prices k 0 ≤ get_or prices place 0) (sym same) low

-- what fell before a change falls after it, or isn't above its neighbours in the end
once : (before after : List ℕ) (at price : ℕ) → at_place after at ≡ false → (place : ℕ) → Falls before place ⊎ Falls after place
    → Falls (slice_set before at price) place ⊎ Falls after place
once before after at price quiet place (inr done) = inr done
once before after at price quiet place (inl own) = by (cases_lt place at) (cases_lt at place)
  where
    apart : place ≢ at → suc place ≢ at → Falls (slice_set before at price) place
    apart off next_off =
        let here : get_or (slice_set before at price) place 0 ≡ get_or before place 0 = get_or-set_other before at place price 0 off in
        let then : get_or (slice_set before at price) (suc place) 0 ≡ get_or before (suc place) 0 = get_or-set_other before at (suc place) price 0 next_off in
        omega (arith, here, then, own)

    lower : place < at → (suc place < at) ⊎ (at ≤ suc place) → Falls (slice_set before at price) place ⊎ Falls after place
    lower low (inl far) = inl (apart (λ same. absurd (omega (arith, far, same))) (λ same. absurd (omega (arith, far, same))))
    lower low (inr close) = inr (beside_front after at place quiet (omega (arith, low, close)))

    by : (place < at) ⊎ (at ≤ place) → (at < place) ⊎ (place ≤ at) → Falls (slice_set before at price) place ⊎ Falls after place
    by (inl low) other = lower low (cases_lt (suc place) at)
    by (inr high) (inl above) = inl (apart (λ same. absurd (omega (arith, above, same))) (λ same. absurd (omega (arith, above, same))))
    by (inr high) (inr low) = inr (beside_behind after at place quiet (omega (arith, high, low)))

-- of stairs what is before a step is as it was, and what is behind it is level
from_front : (prices : List ℕ) (change : Change) (place : ℕ) → place < change.place - 1 → place < length prices → get_or (from_place prices change) place 0 ≡ get_or prices place 0
from_front prices change place low inside =
    let at : ℕ = change.place - 1 in
    get_or-append (take at prices) (replicate (length prices - at) change.price) 0 place (omega (arith, length-take at prices, low, inside)) ∙ get_or-take at prices place 0 low

from_level : (prices : List ℕ) (change : Change) (place : ℕ) → change.place - 1 ≤ place → place < length prices → get_or (from_place prices change) place 0 ≡ change.price
from_level prices change place high inside =
    let at : ℕ = change.place - 1 in
    get_or-append_right (take at prices) (replicate (length prices - at) change.price) at place 0 (length-take-le at prices (omega (arith, high, inside))) high
    ∙ get_or-replicate (length prices - at) (place - at) change.price 0 (omega (arith, high, inside))

once_from : (before after : List ℕ) (change : Change) → at_place after (change.place - 1) ≡ false → (place : ℕ) → Falls before place ⊎ Falls after place
    → Falls (from_place before change) place ⊎ Falls after place
once_from before after change quiet place (inr done) = inr done
once_from before after change quiet place (inl own) = by (cases_lt (suc place) (length before)) (cases_lt (suc place) at) (cases_lt place at)
  where
    at : ℕ
    at = change.place - 1

    by : (suc place < length before) ⊎ (length before ≤ suc place) → (suc place < at) ⊎ (at ≤ suc place) → (place < at) ⊎ (at ≤ place)
        → Falls (from_place before change) place ⊎ Falls after place
    by (inr over) side other =
        let none : get_or (from_place before change) (suc place) 0 ≡ 0 = get_or_past (from_place before change) (suc place) 0 (omega (arith, from-length before change, over)) in
        inl (omega (arith, none))
    by (inl inside) (inl low) other =
        let here = from_front before change place (omega (arith, low)) (omega (arith, inside)) in
        let then = from_front before change (suc place) low inside in
        inl (omega (arith, here, then, own))
    by (inl inside) (inr high) (inl close) = inr (beside_front after at place quiet (omega (arith, high, close)))
    by (inl inside) (inr high) (inr over) =
        let here = from_level before change place over (omega (arith, inside)) in
        let then = from_level before change (suc place) (omega (arith, over)) inside in
        inl (omega (arith, here, then))

settled : (prices : List ℕ) (place : ℕ) → Falls prices place ⊎ Falls prices place → Falls prices place
settled prices place (inl own) = own
settled prices place (inr done) = done

abbrev set_price : List ℕ → Change → List ℕ
set_price before change = slice_set before (change.place - 1) change.price

all_fall : (changes : List Change) (before after : List ℕ) → fold (λ (ps : List ℕ) (change : Change). slice_set ps (change.place - 1) change.price) before changes ≡ after → near after changes ≡ false
    → ((place : ℕ) → Falls before place ⊎ Falls after place) → (place : ℕ) → Falls after place
all_fall [] before after is quiet falls place =
    settled after place (subst (λ (ps : List ℕ). Falls ps place ⊎ Falls after place) is (falls place))
all_fall (change ∷ changes) before after is quiet falls place =
    let both : (at_place after (change.place - 1) ≡ false) × (near after changes ≡ false) = neither (at_place after (change.place - 1)) (near after changes) quiet in
    all_fall changes (set_price before change) after is both.1
    (λ k. once before after (change.place - 1) change.price both.0 k (falls k)) place

steps_fall : (changes : List Change) (before after : List ℕ) → fold from_place before changes ≡ after → near after changes ≡ false
    → ((place : ℕ) → Falls before place ⊎ Falls after place) → (place : ℕ) → Falls after place
steps_fall [] before after is quiet falls place =
    settled after place (subst (λ (ps : List ℕ). Falls ps place ⊎ Falls after place) is (falls place))
steps_fall (change ∷ changes) before after is quiet falls place =
    let both : (at_place after (change.place - 1) ≡ false) × (near after changes ≡ false) = neither (at_place after (change.place - 1)) (near after changes) quiet in
    steps_fall changes (from_place before change) after is both.1 (λ k. once_from before after change both.0 k (falls k)) place

level_falls : (dates price place : ℕ) → Falls (replicate dates price) place
level_falls dates price place = by (cases_lt (suc place) dates)
  where
    by : (suc place < dates) ⊎ (dates ≤ suc place) → Falls (replicate dates price) place
    by (inl inside) = omega (arith, get_or-replicate dates place price 0 (omega (arith, inside)), get_or-replicate dates (suc place) price 0 inside)
    by (inr over) =
        let none : get_or (replicate dates price) (suc place) 0 ≡ 0 = get_or_past (replicate dates price) (suc place) 0 (omega (arith, length-replicate dates price, over)) in
        omega (arith, none)

none_rises : (dates : ℕ) (vector : Option (List ℕ)) (prices : List ℕ) (changes : List Change) → IsBase dates vector → prices ≡ changed dates vector changes
    → near prices changes ≡ false → (place : ℕ) → Falls prices place
none_rises dates (Some own) prices changes base is quiet = all_fall changes own prices (sym is) quiet (λ place. inl (vector_falls own base.1 place))
none_rises dates None prices changes base is quiet =
    steps_fall changes (replicate dates (2 * PRICE_SCALE)) prices (sym is) quiet (λ place. inl (level_falls dates (2 * PRICE_SCALE) place))

-- beside the changes alone
pub near-rises : (dates : ℕ) (vector : Option (List ℕ)) (prices : List ℕ) (changes : List Change) → IsBase dates vector → prices ≡ changed dates vector changes
    → ArePlaces (length prices) changes → near prices changes ≡ rises prices
near-rises dates vector prices changes base is places = by (near prices changes) refl
  where
    by : (b : Bool) → near prices changes ≡ b → near prices changes ≡ rises prices
    by true found = found ∙ sym (near_true prices changes places found)
    by false quiet = quiet ∙ sym (falls-order prices (none_rises dates vector prices changes base is quiet))
