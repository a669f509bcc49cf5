-- Bootstrapped prices are fair.
use Rattle.std.proofs.Common.{◌≡◌, ◌⊎◌, ◌∙◌, ℕ, zero, suc, ◌+◌, ◌-◌, ◌*◌, ◌/◌, ◌<◌, ◌≤◌, Bool, false, true, ◌&&◌, nat_le, if◌then◌else◌, List, [], ◌∷◌, ◌++◌, take, Option, Some, None, option_and_then, option_map, unwrap_or, length, get_or, refl, sym, ap, subst, inl, inr, arith, ℤ, ◌≤ℤ◌, ◌<ℤ◌, int_le, pos}
use Rattle.std.proofs.Math.Nat.{div-mul-le_self, lt-div-mul-add}
use Rattle.std.proofs.Math.Seq.{get_or-append_seam}
use Rattle.std.proofs.lemmas.Bool.{cases_lt}
use Rattle.std.proofs.lemmas.Bool.Decides.{nat_tests}
use Rattle.std.proofs.lemmas.Int.{ints}
use Rattle.std.proofs.lemmas.List.{get_or-take, get_or_append_left, get_or_default, length-append, length-take, take-append-le, take_all, take_more}
use Rattle.std.proofs.lemmas.List.Elements.{All-nil}
use Rattle.std.proofs.lemmas.List.Sums.{sum_by-cons}
use Rattle.std.specs.List.{All, AllPairs}
use Rattle.escrow_units.specs.Flows.{Rise}
use Rattle.escrow_units.specs.declared.security.Flow.{Flow}
use Rattle.escrow_units.proofs.FlowFacts.{cases_int_le, int_le-not, int_le-test, int_lt-not, int_lt-test}
use Rattle.offer_book.specs.Book.{BookContents, IsBook}
use Rattle.offer_book.specs.Coefficients.{cost_coefficients, pay_coefficients}
use Rattle.offer_book.specs.declared.coefficients.PayCoefficients.{PayCoefficients}
use Rattle.offer_book.specs.declared.line.Line.{Line}
use Rattle.dual_bound.specs.LeafBound.{price_on}
use Rattle.proof_tree.specs.declared.prices.TheConstants.{PRICE_SCALE}
use Rattle.backward_build.specs.CurveLaws.{BootstrappedAreFair, IsFairAfter}
use Rattle.backward_build.specs.OwnOffer.{line_at, need_at}
use Rattle.backward_build.specs.PriceCurve.{fair_price, first_prices, last_price, next_price, not_above, unit_paid_in, with_next_price, worth_at}
use Rattle.backward_build.specs.Span.{date_before, falls_in, is_after, span_of}
use Rattle.backward_build.proofs.CurveFacts.{falling_more, own_pays_some, price_on-none, price_on-place, small_more}
use Rattle.backward_build.proofs.OfferFacts.{own_is, own_security}

abbrev no_flow : Flow
no_flow = record { day = pos 0; cents = record { 0 = 0 } }

-- ---- the price of a day when one need date more is priced
price_on-front : (needs more : List Flow) (prices others : List ℕ) (day : ℤ) (k : ℕ) (d : Flow) → length needs ≡ length prices → k < length needs → day ≤ℤ (get_or needs k d).day
    → price_on (needs ++ more) (prices ++ others) day ≡ price_on needs prices day
unfolding price_on
price_on-front [] more prices others day k d same within due = absurd (omega arith)
price_on-front (need ∷ needs) more [] others day k d same within due = absurd (omega arith)
price_on-front (need ∷ needs) more (price ∷ prices) others day zero d same within due =
    let here = int_le-test day need.day due in
    ap (λ (t : Bool). if t then price else price_on (needs ++ more) (prices ++ others) day) here ∙ sym (ap (λ (t : Bool). if t then price else price_on needs prices day) here)
price_on-front (need ∷ needs) more (price ∷ prices) others day (suc k) d same within due =
    ap (λ (n : ℕ). if int_le day need.day then price else n) (price_on-front needs more prices others day k d (omega arith) (omega arith) due)

-- the days of a span, by the need dates before it
abbrev NoneDue : List Flow → ℕ → ℤ → Type 0
NoneDue needs place day = (k : ℕ) (d : Flow) → k < place → (get_or needs k d).day <ℤ day

record IsDue (needs : List Flow) (place : ℕ) (day : ℤ) : Type 0 where
  at : ℕ
  within : at < place
  due : day ≤ℤ (get_or needs at no_flow).day

after_all : (needs : List Flow) (place : ℕ) (day : ℤ) → Rise needs → place < length needs → ((is_after (date_before needs place) day ≡ true) × NoneDue needs place day) ⊎ ((is_after (date_before needs place) day ≡ false) × IsDue needs place day)
after_all needs zero day rising within = inl (refl, λ k d h. absurd (omega arith))
after_all needs (suc place) day rising within =
    elim (cases_int_le day (need_at needs place).day) [
      | inl due ↦ inr (int_lt-not (need_at needs place).day day due, record { at = place; within = omega arith; due = due })
      | inr late ↦ inl (int_lt-test (need_at needs place).day day late, λ k d h. earlier k d h late)
    ]
  where
    earlier : (k : ℕ) (d : Flow) → k < suc place → (need_at needs place).day <ℤ day → (get_or needs k d).day <ℤ day
    earlier k d h late = elim (cases_lt k place) [
      | inl less ↦ (let order = rising k place d less (omega arith) in
          let read = ap (λ (n : Flow). n.day) (get_or_default needs place d no_flow (omega arith)) in
          omega (arith, ints))
      | inr more ↦ (let here : k ≡ place = omega arith in
          let read = ap (λ (n : Flow). n.day) (ap (λ j. get_or needs j d) here ∙ get_or_default needs place d no_flow (omega arith)) in
          omega (arith, ints))
    ]

abbrev paid_day : List Flow → ℕ → ℤ → ℕ → ℕ
paid_day needs place day high = if falls_in (span_of needs place) day then high else 0

pub price_next : (needs : List Flow) (prices : List ℕ) (price : ℕ) (day : ℤ) → Rise needs → length prices < length needs
    → price_on (take (length prices) needs ++ need_at needs (length prices) ∷ []) (prices ++ price ∷ []) day ≡ price_on (take (length prices) needs) prices day + (if falls_in (span_of needs (length prices)) day then price else 0)
price_next needs prices price day rising within = elim (after_all needs place day rising within) [
  | inl after ↦ elim (cases_int_le day need.day) [
    | inl due ↦
        (let here = price_on-place (front ++ need ∷ []) (prices ++ price ∷ []) day place longs (omega (arith, more_long)) (λ k d h. before after.1 k d h)
        (λ d. let at = ap (λ (n : Flow). n.day) (ap (λ j. get_or (front ++ need ∷ []) j d) (sym long) ∙ get_or-append_seam front need [] d) in omega (arith, ints)) in
        let seam = get_or-append_seam prices price [] 0 in
        let none = price_on-none front prices day long (λ k d h. before_front after.1 k d (omega (arith, long))) in
        let test = tests after.0 (int_le-test day need.day due) in
        omega (arith, here, seam, none, ap (λ (t : Bool). if t then price else 0) test))
    | inr late ↦
        (let past = price_on-none (front ++ need ∷ []) (prices ++ price ∷ []) day longs (λ k d h. all_before after.1 late k d (omega (arith, more_long))) in
        let none = price_on-none front prices day long (λ k d h. before_front after.1 k d (omega (arith, long))) in
        let test = tests after.0 (int_le-not day need.day late) in
        omega (arith, past, none, ap (λ (t : Bool). if t then price else 0) test))
  ]
  | inr due ↦
      (let at = due.1 in
      let read = ap (λ (n : Flow). n.day) (get_or-take place needs at.at no_flow at.within) in
      let by : day ≤ℤ (get_or front at.at no_flow).day = (let given = at.due in omega (arith, ints)) in
      let same = price_on-front front (need ∷ []) prices (price ∷ []) day at.at no_flow long (omega (arith, long, at.within)) by in
      let test = ap (λ (t : Bool). t && int_le day need.day) due.0 in
      omega (arith, same, ap (λ (t : Bool). if t then price else 0) test))
]
  where
    place : ℕ
    place = length prices

    need : Flow
    need = need_at needs place

    front : List Flow
    front = take place needs

    long : length front ≡ place
    long = omega (arith, length-take place needs)

    more_long : length (front ++ need ∷ []) ≡ place + 1
    more_long = omega (arith, long, length-append front (need ∷ []))

    longs : length (front ++ need ∷ []) ≡ length (prices ++ price ∷ [])
    longs = omega (arith, more_long, length-append prices (price ∷ []))

    tests : {b : Bool} → is_after (date_before needs place) day ≡ true → int_le day need.day ≡ b → falls_in (span_of needs place) day ≡ b
    tests after test = ap (λ (t : Bool). t && int_le day need.day) after ∙ test

    before_front : NoneDue needs place day → (k : ℕ) (d : Flow) → k < place → (get_or front k d).day <ℤ day
    before_front none k d h =
        let given = none k d h in
        let read = ap (λ (n : Flow). n.day) (get_or-take place needs k d h) in
        omega (arith, ints)

    before : NoneDue needs place day → (k : ℕ) (d : Flow) → k < place → (get_or (front ++ need ∷ []) k d).day <ℤ day
    before none k d h =
        let given = before_front none k d h in
        let read = ap (λ (n : Flow). n.day) (get_or_append_left front (need ∷ []) d k (omega (arith, long))) in
        omega (arith, ints)

    all_before : NoneDue needs place day → need.day <ℤ day → (k : ℕ) (d : Flow) → k < place + 1 → (get_or (front ++ need ∷ []) k d).day <ℤ day
    all_before none late k d h = elim (cases_lt k place) [
      | inl less ↦ before none k d less
      | inr more ↦ (let here : k ≡ length front = omega (arith, long) in
          let read = ap (λ (n : Flow). n.day) (ap (λ j. get_or (front ++ need ∷ []) j d) here ∙ get_or-append_seam front need [] d) in
          omega (arith, ints))
    ]

-- so the worth of payments grows by what they pay in the span of the date, at its price
spread : (a price high : ℕ) (t : Bool) → (a + (if t then price else 0)) * high ≡ a * high + price * (if t then high else 0)
spread a price high true = omega arith
spread a price high false = omega arith

abbrev cents_at : List Flow → List ℕ → PayCoefficients → ℕ
cents_at needs prices pay = price_on needs prices pay.day * pay.high

abbrev cents_in : List Flow → ℕ → PayCoefficients → ℕ
cents_in needs place pay = if falls_in (span_of needs place) pay.day then pay.high else 0

worth_next : (needs : List Flow) (prices : List ℕ) (price : ℕ) (pays : List PayCoefficients) → Rise needs → length prices < length needs
    → worth_at (take (length prices) needs ++ need_at needs (length prices) ∷ []) (prices ++ price ∷ []) pays ≡ worth_at (take (length prices) needs) prices pays + price * unit_paid_in (span_of needs (length prices)) pays
worth_next needs prices price [] rising within = omega arith
worth_next needs prices price (pay ∷ pays) rising within =
    let front = take (length prices) needs in
    let all = front ++ need_at needs (length prices) ∷ [] in
    let more = prices ++ price ∷ [] in
    let here : cents_at all more pay ≡ cents_at front prices pay + price * cents_in needs (length prices) pay =
    ap (λ n. n * pay.high) (price_next needs prices price pay.day rising within) ∙ spread (price_on front prices pay.day) price pay.high (falls_in (span_of needs (length prices)) pay.day) in
    let rest = worth_next needs prices price pays rising within in
    omega (
      arith,
      here,
      rest,
      sum_by-cons (cents_at all more) pay pays,
      sum_by-cons (cents_at front prices) pay pays,
      ap (λ n. price * n) (sum_by-cons (cents_in needs (length prices)) pay pays),
    )

-- ---- what a next price tells
pub some_is : {X : Type 0} (x y : X) → Some x ≡ Some y → x ≡ y
some_is x y same = ap (λ o. unwrap_or o x) same

record Follows {X Y : Type 0} (f : X → Option Y) (from : Option X) (y : Y) : Type 0 where
  value : X
  was : from ≡ Some value
  gives : f value ≡ Some y

and_then_some : {X Y : Type 0} (f : X → Option Y) (from : Option X) (y : Y) → option_and_then f from ≡ Some y → Follows f from y
and_then_some f None y same = absurd (different same)
  where
    different : None ≡ Some y → ⊥
    different h = cc
and_then_some f (Some x) y same = record { value = x; was = refl; gives = same }

record Maps {X Y : Type 0} (f : X → Y) (from : Option X) (y : Y) : Type 0 where
  value : X
  was : from ≡ Some value
  gives : f value ≡ y

map_some : {X Y : Type 0} (f : X → Y) (from : Option X) (y : Y) → option_map f from ≡ Some y → Maps f from y
map_some f None y same = absurd (different same)
  where
    different : None ≡ Some y → ⊥
    different h = cc
map_some f (Some x) y same = record { value = x; was = refl; gives = some_is (f x) y same }

chosen : (test : Bool) (x y : ℕ) → (if test then Some x else None) ≡ Some y → (test ≡ true) × (x ≡ y)
chosen true x y same = (refl, some_is x y same)
chosen false x y same = absurd (different same)
  where
    different : ◌≡◌ {A = Option ℕ} None (Some y) → ⊥
    different h = cc

test_le : (a b : ℕ) → nat_le a b ≡ true → a ≤ b
test_le a b h = grind (arith, nat_tests)

pub worth_is : (book : BookContents) (prices : List ℕ) (price : ℕ) (line : Line) → Rise book.needs → length prices < length book.needs
    → worth_at (take (length (prices ++ price ∷ [])) book.needs) (prices ++ price ∷ []) (pay_coefficients book.days line)
    ≡ worth_at (take (length prices) book.needs) prices (pay_coefficients book.days line) + price * unit_paid_in (span_of book.needs (length prices)) (pay_coefficients book.days line)
worth_is book prices price line rising within =
    let count : length (prices ++ price ∷ []) ≡ length prices + 1 = length-append prices (price ∷ []) in
    let front = ap (λ n. take n book.needs) count ∙ take_more book.needs (length prices) no_flow within in
    ap (λ (needs : List Flow). worth_at needs (prices ++ price ∷ []) (pay_coefficients book.days line)) front
    ∙ worth_next book.needs prices price (pay_coefficients book.days line) rising within

fair_next : (book : BookContents) (prices : List ℕ) (price : ℕ) → IsBook book → length prices < length book.needs → next_price book prices ≡ Some price → IsFairAfter book prices price
fair_next book prices price limits within found =
    let capped = and_then_some (not_above (last_price prices)) _ price found in
    let is : capped.value ≡ price = (chosen (nat_le capped.value (last_price prices)) capped.value price capped.gives).1 in
    let offer = and_then_some (λ number. fair_price book.days book.needs prices (line_at book.lines number)) _ capped.value capped.was in
    let day = (need_at book.needs (length prices)).day in
    let line = line_at book.lines offer.value in
    let own = own_is book day offer.value offer.was in
    let security = own_security book day offer.value limits.lines offer.was in
    let cost = PRICE_SCALE * (cost_coefficients line).low in
    let earlier = worth_at (take (length prices) book.needs) prices (pay_coefficients book.days line) in
    let left = unit_paid_in (span_of book.needs (length prices)) (pay_coefficients book.days line) in
    let quotient = chosen (nat_le earlier cost) ((cost - earlier) / left) capped.value offer.gives in
    let some : 0 < left = own_pays_some book.days book.needs (length prices) line limits.settlement limits.needs.rising within security own.due in
    record {
      number = offer.value;
      own = offer.was;
      fair = at_most earlier cost left price (test_le earlier cost quotient.0) (quotient.1 ∙ is) (worth_is book prices price line limits.needs.rising within);
      greatest = λ worth. too_much earlier cost left price some (quotient.1 ∙ is) (worth_is book prices (price + 1) line limits.needs.rising within) worth;
    }
  where
    at_most : {worth : ℕ} (earlier cost left price : ℕ) → earlier ≤ cost → (cost - earlier) / left ≡ price → worth ≡ earlier + price * left → worth ≤ cost
    at_most earlier cost left price le is worth = omega (arith, le, worth, div-mul-le_self (cost - earlier) left, ap (λ n. n * left) is)

    too_much : {worth : ℕ} (earlier cost left price : ℕ) → 0 < left → (cost - earlier) / left ≡ price → worth ≡ earlier + (price + 1) * left → worth ≤ cost → ⊥
    too_much earlier cost left price some is worth within = omega (arith, worth, within, lt-div-mul-add {a = cost - earlier} {b = left} some, ap (λ n. n * left) is)

-- ---- the curve, one date after another
record IsFairSoFar (book : BookContents) (dates : ℕ) (prices : List ℕ) : Type 0 where
  count : length prices ≡ dates
  fair : (place : ℕ) → place < length prices → IsFairAfter book (take place prices) (get_or prices place 0)

fair_more : (book : BookContents) (dates : ℕ) (before : List ℕ) (price : ℕ) → IsFairSoFar book dates before → IsFairAfter book before price → IsFairSoFar book (suc dates) (before ++ price ∷ [])
fair_more book dates before price had here = record {
  count = omega (arith, length-append before (price ∷ []), had.count);
  fair = λ place within. elim (cases_lt place (length before)) [
    | inl less ↦
        (let front = take-append-le place before (price ∷ []) (omega arith) in
        let read = get_or_append_left before (price ∷ []) 0 place less in
        rw (front, read) (had.fair place less))
    | inr more ↦
        (let last : place ≡ length before = omega (arith, length-append before (price ∷ [])) in
        let front : take place (before ++ price ∷ []) ≡ before = take-append-le place before (price ∷ []) (omega arith) ∙ take_all place before (omega arith) in
        let read : get_or (before ++ price ∷ []) place 0 ≡ price = ap (λ k. get_or (before ++ price ∷ []) k 0) last ∙ get_or-append_seam before price [] 0 in
        rw (front, read) here)
  ];
}

fair_first : (book : BookContents) (dates : ℕ) (prices : List ℕ) → IsBook book → dates ≤ length book.needs → first_prices book dates ≡ Some prices → IsFairSoFar book dates prices
unfolding first_prices
fair_first book zero prices limits within found =
    let none : [] ≡ prices = some_is [] prices found in
    subst (IsFairSoFar book 0) none (record { count = refl; fair = λ place inside. absurd (omega (arith, inside)) })
fair_first book (suc dates) prices limits within found =
    let before = and_then_some (with_next_price book) (first_prices book dates) prices found in
    let had = fair_first book dates before.value limits (omega arith) before.was in
    let next = map_some (λ (price : ℕ). before.value ++ price ∷ []) (next_price book before.value) prices before.gives in
    let inside : length before.value < length book.needs = omega (arith, had.count) in
    subst (IsFairSoFar book (suc dates)) next.gives (fair_more book dates before.value next.value had (fair_next book before.value next.value limits inside next.was))

-- no price is above 1, nor above an earlier one
pub record AreFalling (prices : List ℕ) : Type 0 where
  pub small : All (λ price. price ≤ PRICE_SCALE) prices
  pub falling : AllPairs (λ earlier later. later ≤ earlier) prices

pub first_falling : (book : BookContents) (dates : ℕ) (prices : List ℕ) → first_prices book dates ≡ Some prices → AreFalling prices
unfolding first_prices
first_falling book zero prices found =
    subst AreFalling (some_is [] prices found) (record { small = All-nil (λ price. price ≤ PRICE_SCALE); falling = λ i j d order within. absurd (omega arith) })
first_falling book (suc dates) prices found =
    let before = and_then_some (with_next_price book) (first_prices book dates) prices found in
    let next = map_some (λ (price : ℕ). before.value ++ price ∷ []) (next_price book before.value) prices before.gives in
    let capped = and_then_some (not_above (last_price before.value)) _ next.value next.was in
    let test = chosen (nat_le capped.value (last_price before.value)) capped.value next.value capped.gives in
    let below : next.value ≤ last_price before.value = omega (arith, test_le capped.value (last_price before.value) test.0, test.1) in
    let had = first_falling book dates before.value before.was in
    subst AreFalling next.gives (record { small = small_more before.value next.value had.small below; falling = falling_more before.value next.value had.falling had.small below })

pub bootstrapped_fair : BootstrappedAreFair
bootstrapped_fair book prices limits found =
    let all = fair_first book (length book.needs) prices limits (omega arith) found in
    record { dates = all.count; fair = all.fair }
