-- The ends of the yield interval, by monotone present values.
use Rattle.std.proofs.Common.{◌≡◌, ◌∙◌, ℕ, suc, ◌+◌, ◌-◌, ◌*◌, ◌<◌, ◌≤◌, List, [], ◌∷◌, ◌++◌, length, get_or, take, inl, inr, refl, sym, ap, subst, ◌≤ℤ◌, cond, true, false, nat_le, Result, Ok, Err, IfOk, arith, ℤ}
use Rattle.std.specs.List.{All}
use Rattle.std.proofs.lemmas.List.{map-append, take_more}
use Rattle.std.proofs.lemmas.List.Elements.{All-push}
use Rattle.escrow_units.specs.Calendar.{thirty_day_place_of, years_after_of}
use Rattle.escrow_units.specs.declared.security.Flow.{Flow}
use Rattle.std.proofs.lemmas.Bool.{cases_lt, le-leb, leb-true, leb-false, lt-leb}
use Rattle.std.proofs.lemmas.List.Sums.{sum_by-cons, sum_by_more}
use Rattle.fixed_powers.specs.DiscountPowers.{one}
use Rattle.escrow_units.specs.Flows.{indexed, total, FallWithinFortyYears}
use Rattle.fixed_powers.specs.PresentValues.{HasLaterAmount, total_cents, present_value}
use Rattle.fixed_powers.specs.declared.side.Side.TheVariants.{Low, High}
use Rattle.fixed_powers.proofs.PresentValueFacts.{value_falls, low_value-le-high, value-at_zero, value-ordered, value-lt, low_value-encloses, high_value-encloses, value_sharp, low_value-excludes}
use Rattle.fixed_powers.proofs.SearchFacts.{greatest-passes, greatest-most, least-within, least-passes, least-most}
use Rattle.escrow_units.specs.declared.amount.YieldUnits.{YieldUnits}
use Rattle.yield_enclosure.specs.declared.answer.YieldAnswer.TheVariants.{Between, Above}
use Rattle.yield_enclosure.specs.YieldAnswers.{answer_of_covered, is_worth, is_within, AreDearerBelow, is_no_dearer, lower_end, upper_end, IsLowerEnd, IsUpperEnd, AreYieldEnds}
use Rattle.escrow_units.specs.PresentValue.{IndexedFlow, last_index}

-- the greatest index is at most what each index is at most
pub last_index-le : (m : ℕ) (flows : List IndexedFlow) → All (λ flow. flow.index ≤ m) flows → last_index flows ≤ m
last_index-le m [] all = omega arith
last_index-le m (flow ∷ flows) all =
    let first = all 0 flow (omega arith) in
    let rest = last_index-le m flows (λ k d within. all (suc k) d (omega (arith, within))) in
    omega (arith, first, rest)

-- one flow more
pub indexed-more : (settle : ℤ) (flows : List Flow) (i : ℕ) (flow : Flow) → i < length flows → get_or flows i flow ≡ flow → indexed settle (take (i + 1) flows) ≡ indexed settle (take i flows) ++ (record { index = thirty_day_place_of flow.day - thirty_day_place_of settle; cents = flow.cents.0 }) ∷ []
indexed-more settle flows i flow within here =
    let counted : Flow → IndexedFlow = λ f. record { index = thirty_day_place_of f.day - thirty_day_place_of settle; cents = f.cents.0 } in
    ap (indexed settle) (take_more flows i flow within) ∙ map-append counted (take i flows) (get_or flows i flow ∷ []) ∙ ap (λ f. indexed settle (take i flows) ++ counted f ∷ []) here

pub index-push : (old new : ℕ) (flows : List IndexedFlow) (flow : IndexedFlow) → All (λ f. f.index ≤ old) flows → old ≤ new → flow.index ≤ new → All (λ f. f.index ≤ new) (flows ++ flow ∷ [])
index-push old new flows flow all rises here =
    All-push (λ f. f.index ≤ new) flows flow (λ k d within. omega (arith, all k d within, rises)) here

-- the sum of the flows is that of their amounts
pub total-indexed : (settle : ℤ) (flows : List Flow) → total_cents (indexed settle flows) ≡ total flows
total-indexed settle [] = refl
total-indexed settle (flow ∷ flows) =
    let first : IndexedFlow = record { index = thirty_day_place_of flow.day - thirty_day_place_of settle; cents = flow.cents.0 } in
    omega (arith, sum_by-cons (λ f. f.cents) first (indexed settle flows), sum_by-cons (λ (f : Flow). f.cents.0) flow flows, total-indexed settle flows)

-- the lower end passes its test, and nothing above it does
pub lower_end-is : (flows : List IndexedFlow) (cost : ℕ) → cost ≤ total_cents flows → present_value Low 3_000_000_000 flows < one * cost → IsLowerEnd flows cost (lower_end flows cost)
lower_end-is flows cost covered less =
    let test = is_worth flows cost in
    let zero_worth : one * cost ≤ present_value Low 0 flows = omega (arith, value-at_zero Low flows, covered) in
    let some = le-leb (one * cost) (present_value Low 0 flows) zero_worth in
    record {
      worth = leb-true _ _ (greatest-passes test 3_000_000_000 0 (omega arith) some);
      greatest = λ n enough. elim (cases_lt 3_000_000_000 n) [
        | inl lt ↦ absurd (omega (arith, value_falls Low 3_000_000_000 n flows (omega (arith, lt)), enough, less))
        | inr le ↦ greatest-most test 3_000_000_000 n le (le-leb _ _ enough)
      ];
    }

pub lower_end-only : (flows : List IndexedFlow) (cost lo : ℕ) → cost ≤ total_cents flows → present_value Low 3_000_000_000 flows < one * cost → IsLowerEnd flows cost lo → lo ≡ lower_end flows cost
lower_end-only flows cost lo covered less is =
    let other = lower_end-is flows cost covered less in
    omega (arith, is.greatest (lower_end flows cost) other.worth, other.greatest lo is.worth)

pub lower_end-lt : (flows : List IndexedFlow) (cost lo : ℕ) → present_value Low 3_000_000_000 flows < one * cost → IsLowerEnd flows cost lo → lo < 3_000_000_000
lower_end-lt flows cost lo less is =
    elim (cases_lt lo 3_000_000_000) [
      | inl lt ↦ lt
      | inr le ↦ absurd (omega (arith, value_falls Low 3_000_000_000 lo flows le, is.worth, less))
    ]

-- what isn't worth the cost lies above the lower end
pub worth-below : (flows : List IndexedFlow) (cost n m : ℕ) → present_value Low n flows < one * cost → one * cost ≤ present_value Low m flows → m < n
worth-below flows cost n m less enough =
    elim (cases_lt m n) [
      | inl lt ↦ lt
      | inr le ↦ absurd (omega (arith, value_falls Low n m flows le, less, enough))
    ]

-- flows that aren't worth the cost one unit above a yield below 30 percent aren't at 30 percent
pub less-at-most : (flows : List IndexedFlow) (cost n : ℕ) → n < 3_000_000_000 → present_value Low (n + 1) flows < one * cost → present_value Low 3_000_000_000 flows < one * cost
less-at-most flows cost n within less =
    omega (arith, less, value_falls Low (n + 1) 3_000_000_000 flows (omega (arith, within)))

-- what is worth more than the cost, rounded down, is dearer, rounded up
pub dearer-high : (flows : List IndexedFlow) (cost n : ℕ) → one * cost < present_value Low n flows → false ≡ is_no_dearer flows cost n
dearer-high flows cost n dearer =
    sym (lt-leb (present_value High n flows) (one * cost) (omega (arith, dearer, low_value-le-high n flows)))

-- two units above the lower end the flows are no dearer than the cost
pub second-no_dearer : (flows : List IndexedFlow) (cost lo : ℕ) → last_index flows ≤ 14_400 → present_value Low 3_000_000_000 flows < one * cost → IsLowerEnd flows cost lo → present_value High (lo + 2) flows ≤ one * cost
second-no_dearer flows cost lo near less is =
    let within = lower_end-lt flows cost lo less is in
    let next : present_value Low (lo + 1) flows < one * cost = elim (cases_lt (present_value Low (lo + 1) flows) (one * cost)) [
      | inl lt ↦ lt
      | inr le ↦ absurd (omega (arith, is.greatest (lo + 1) le))
    ] in
    let same : lo + 1 + 1 ≡ lo + 2 = omega arith in
    let sharp = value-ordered (lo + 1) flows (omega (arith, within)) near in
    let named = ap (λ n. present_value High n flows) same in
    omega (arith, next, sharp, named)

-- below the lower end the flows are dearer than the cost
pub lower-le-upper : (flows : List IndexedFlow) (cost lo n : ℕ) → last_index flows ≤ 14_400 → cost ≤ total_cents flows → present_value Low 3_000_000_000 flows < one * cost → IsLowerEnd flows cost lo → present_value High n flows ≤ one * cost → lo ≤ n
lower-le-upper flows cost lo n near covered less is enough =
    elim (cases_lt n lo) [
      | inl lt ↦
          let within = lower_end-lt flows cost lo less is in
          let strict = value-lt n 3_000_000_000 flows (omega (arith, lt, within)) near (omega (arith, less, covered)) in
          let falls = value_falls Low (n + 1) lo flows (omega (arith, lt)) in
          absurd (omega (arith, strict, falls, enough, is.worth, low_value-le-high n flows, low_value-le-high (n + 1) flows))
      | inr le ↦ le
    ]

-- where the flows are dearer than the cost, a yield at which they aren't lies above
pub dearer-lt : (flows : List IndexedFlow) (cost n m : ℕ) → one * cost < present_value High n flows → present_value High m flows ≤ one * cost → n < m
dearer-lt flows cost n m dearer enough =
    elim (cases_lt n m) [
      | inl lt ↦ lt
      | inr le ↦ absurd (omega (arith, value_falls High m n flows le, dearer, enough))
    ]

pub upper_end-is : (flows : List IndexedFlow) (cost lo : ℕ) → last_index flows ≤ 14_400 → present_value Low 3_000_000_000 flows < one * cost → IsLowerEnd flows cost lo → IsUpperEnd flows cost (upper_end flows cost)
upper_end-is flows cost lo near less is =
    let test = is_no_dearer flows cost in
    let within = lower_end-lt flows cost lo less is in
    let some = le-leb (present_value High (lo + 2) flows) (one * cost) (second-no_dearer flows cost lo near less is) in
    record {
      no_dearer = leb-true _ _ (least-passes test 3_000_000_001 (lo + 2) (omega (arith, within)) some);
      least = λ n enough. elim (cases_lt 3_000_000_001 n) [
        | inl lt ↦ omega (arith, lt, least-within test 3_000_000_001)
        | inr le ↦ least-most test 3_000_000_001 n le (le-leb _ _ enough)
      ];
    }

pub upper_end-only : (flows : List IndexedFlow) (cost lo hi : ℕ) → last_index flows ≤ 14_400 → present_value Low 3_000_000_000 flows < one * cost → IsLowerEnd flows cost lo → IsUpperEnd flows cost hi → hi ≡ upper_end flows cost
upper_end-only flows cost lo hi near less lower is =
    let other = upper_end-is flows cost lo near less lower in
    omega (arith, is.least (upper_end flows cost) other.no_dearer, other.least hi is.no_dearer)

pub ends_are : (flows : List IndexedFlow) (cost lo hi : ℕ) → last_index flows ≤ 14_400 → cost ≤ total_cents flows → present_value Low 3_000_000_000 flows < one * cost → IsLowerEnd flows cost lo → IsUpperEnd flows cost hi → AreYieldEnds flows cost lo hi
ends_are flows cost lo hi near covered less lower upper = record {
  lower = lower;
  upper = upper;
  ordered = lower-le-upper flows cost lo hi near covered less lower upper.no_dearer;
  narrow = upper.least (lo + 2) (second-no_dearer flows cost lo near less lower);
  below = lower_end-lt flows cost lo less lower;
  exact = record {
    at_least = low_value-encloses lo flows cost lower.worth;
    at_most = high_value-encloses hi flows cost upper.no_dearer;
  };
}

-- ends below 30 percent make the answer
pub between-covered : (flows : List IndexedFlow) (cost : ℕ) (lo hi : YieldUnits) → last_index flows ≤ 14_400 → cost ≤ total_cents flows → present_value Low 3_000_000_000 flows < one * cost → IsLowerEnd flows cost lo.0 → IsUpperEnd flows cost hi.0 → Between lo hi ≡ answer_of_covered flows cost
between-covered flows cost lo hi near covered less lower upper =
    let not_above : is_worth flows cost 3_000_000_000 ≡ false = lt-leb _ _ less in
    let same_lo = lower_end-only flows cost lo.0 covered less lower in
    let same_hi = upper_end-only flows cost lo.0 hi.0 near less lower upper in
    ap (λ x. Between (record { 0 = x }) hi) same_lo
    ∙ ap (λ x. Between (record { 0 = lower_end flows cost }) (record { 0 = x })) same_hi
    ∙ sym (ap (λ b. cond b Above (Between (record { 0 = lower_end flows cost }) (record { 0 = upper_end flows cost }))) not_above)

-- the answer where the flows aren't worth the cost at 30 percent
ends_answer : (flows : List IndexedFlow) (cost : ℕ) → present_value Low 3_000_000_000 flows < one * cost → answer_of_covered flows cost ≡ Between (record { 0 = lower_end flows cost }) (record { 0 = upper_end flows cost })
ends_answer flows cost less =
    ap (λ b. cond b Above (Between (record { 0 = lower_end flows cost }) (record { 0 = upper_end flows cost }))) (lt-leb (one * cost) (present_value Low 3_000_000_000 flows) less)

-- the upper end is at most the limit exactly where the flows are no dearer than the cost at the limit
upper_end-limit : (flows : List IndexedFlow) (cost limit : ℕ) → last_index flows ≤ 14_400 → cost ≤ total_cents flows → present_value Low 3_000_000_000 flows < one * cost → nat_le (upper_end flows cost) limit ≡ is_no_dearer flows cost limit
upper_end-limit flows cost limit near covered less =
    let upper = upper_end-is flows cost (lower_end flows cost) near less (lower_end-is flows cost covered less) in
    elim (cases_lt (one * cost) (present_value High limit flows)) [
      | inl dearer ↦ lt-leb _ _ (dearer-lt flows cost limit (upper_end flows cost) dearer upper.no_dearer) ∙ sym (lt-leb _ _ dearer)
      | inr enough ↦ le-leb _ _ (upper.least limit enough) ∙ sym (le-leb _ _ enough)
    ]

pub within-at_limit : (flows : List IndexedFlow) (cost limit : ℕ) → last_index flows ≤ 14_400 → cost ≤ total_cents flows → present_value Low 3_000_000_000 flows < one * cost → is_no_dearer flows cost limit ≡ is_within limit (answer_of_covered flows cost)
within-at_limit flows cost limit near covered less =
    sym (ap (is_within limit) (ends_answer flows cost less) ∙ upper_end-limit flows cost limit near covered less)

pub within-above_most : (flows : List IndexedFlow) (cost limit : ℕ) → last_index flows ≤ 14_400 → cost ≤ total_cents flows → present_value Low 3_000_000_000 flows < one * cost → 3_000_000_000 < limit → true ≡ is_within limit (answer_of_covered flows cost)
within-above_most flows cost limit near covered less above =
    let highest : upper_end flows cost ≤ limit = omega (arith, least-within (is_no_dearer flows cost) 3_000_000_001, above) in
    sym (ap (is_within limit) (ends_answer flows cost less) ∙ le-leb _ _ highest)

pub within-worth : (flows : List IndexedFlow) (cost limit : ℕ) → one * cost ≤ present_value Low 3_000_000_000 flows → false ≡ is_within limit (answer_of_covered flows cost)
within-worth flows cost limit worth =
    sym (ap (λ b. is_within limit (cond b Above (Between (record { 0 = lower_end flows cost }) (record { 0 = upper_end flows cost })))) (le-leb _ _ worth))

dearer_below : (flows : List IndexedFlow) (cost limit : ℕ) → one * cost < present_value Low (limit - 1) flows → AreDearerBelow flows cost limit
dearer_below flows cost limit dearer = record {
  rounded = dearer;
  exact = low_value-excludes (limit - 1) flows cost dearer;
}

-- a limit at which the flows are dearer than the cost
pub refused-dearer : (flows : List IndexedFlow) (cost limit : ℕ) → last_index flows ≤ 14_400 → 1 ≤ limit → limit ≤ 3_000_000_000 → one * cost < present_value High limit flows → AreDearerBelow flows cost limit
refused-dearer flows cost limit near some most dearer =
    let next : limit - 1 + 1 ≡ limit = omega arith in
    let named = ap (λ n. present_value High n flows) next in
    let sharp = value-ordered (limit - 1) flows (omega (arith, most)) near in
    dearer_below flows cost limit (omega (arith, named, sharp, dearer))

-- a limit of at most 30 percent, where the flows are worth the cost there
pub refused-worth : (flows : List IndexedFlow) (cost limit : ℕ) → last_index flows ≤ 14_400 → 1 ≤ limit → limit ≤ 3_000_000_000 → HasLaterAmount flows → one * cost ≤ present_value Low 3_000_000_000 flows → AreDearerBelow flows cost limit
refused-worth flows cost limit near some most later worth =
    let next : limit - 1 + 1 ≡ limit = omega arith in
    let named = ap (λ n. present_value High n flows) next in
    let sharp = (value_sharp (limit - 1) flows (omega (arith, most)) near).strict later in
    dearer_below flows cost limit (omega (arith, named, sharp, worth, value_falls Low limit 3_000_000_000 flows most, low_value-le-high limit flows))

-- a test that fails tells that the flows are dearer than the cost
pub is_dearer : (flows : List IndexedFlow) (cost limit : ℕ) → is_no_dearer flows cost limit ≡ false → one * cost < present_value High limit flows
is_dearer flows cost limit fails = leb-false _ _ fails

-- what follows from what an Ok holds
pub if_ok : {T E : Type 0} {P Q : T → Type 0} (r : Result T E) → ((x : T) → P x → Q x) → IfOk r P → IfOk r Q
if_ok (Ok x) step holds = step x holds
if_ok (Err e) step holds = tt

-- one flow more within the 40 years
pub near-more : (settle : ℤ) (flows : List Flow) (i : ℕ) (flow : Flow) → i < length flows → get_or flows i flow ≡ flow → settle ≤ℤ flow.day → flow.day ≤ℤ years_after_of settle 40 → FallWithinFortyYears settle (take i flows) → FallWithinFortyYears settle (take (i + 1) flows)
near-more settle flows i flow within here from to near =
    let more : take (i + 1) flows ≡ take i flows ++ flow ∷ [] = take_more flows i flow within ∙ ap (λ f. take i flows ++ f ∷ []) here in
    subst (FallWithinFortyYears settle) (sym more) (All-push (λ f. (settle ≤ℤ f.day) × (f.day ≤ℤ years_after_of settle 40)) (take i flows) flow near (from, to))

-- and its cents
pub total-more : (flows : List Flow) (i : ℕ) (flow : Flow) → i < length flows → get_or flows i flow ≡ flow → total (take (i + 1) flows) ≡ total (take i flows) + flow.cents.0
total-more flows i flow within here =
    sum_by_more (λ (f : Flow). f.cents.0) flows i flow within ∙ ap (λ (f : Flow). total (take i flows) + f.cents.0) here
