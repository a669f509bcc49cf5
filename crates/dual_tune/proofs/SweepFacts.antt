-- What a price that changes changes.
use Rattle.std.proofs.Common.{◌≡◌, ◌∙◌, ℕ, zero, suc, ◌+◌, ◌-◌, ◌*◌, ◌<◌, ◌≤◌, ◌==◌, All, inl, inr, List, [], ◌∷◌, get_or, set, length, take, ap, subst, sym, refl, arith, false, ℤ, pos, ◌+ℤ◌, ◌-ℤ◌, ◌≤ℤ◌}
use Rattle.std.specs.List.{AllPairs, Contains, zip}
use Rattle.std.proofs.lemmas.Int.{ints}
use Rattle.std.proofs.lemmas.Bool.{cases_lt}
use Rattle.std.proofs.lemmas.Bool.Decides.{nat_tests}
use Rattle.std.proofs.lemmas.Grind.{get_or-set_at}
use Rattle.std.proofs.lemmas.List.{get_or-set_other, get_or_default, get_or_past}
use Rattle.std.proofs.lemmas.List.Elements.{All-cons}
use Rattle.std.proofs.lemmas.List.Sums.{sum_by-cons}
use Rattle.escrow_units.specs.Flows.{total}
use Rattle.escrow_units.specs.declared.security.Flow.{Flow}
use Rattle.offer_book.specs.declared.coefficients.TheConstants.{COEFFICIENT_SCALE}
use Rattle.offer_book.specs.declared.line.Line.{Line}
use Rattle.dual_bound.specs.LeafBound.{bound_of, least_within, priced_needs, signed_sum, weighed_ends}
use Rattle.proof_tree.specs.declared.prices.TheConstants.{PRICE_SCALE}
use Rattle.proof_tree.specs.declared.interval.Interval.{Interval}
use Rattle.proof_tree.specs.declared.tree.Leaf.{Leaf}
use Rattle.dual_bound.proofs.BoundSizes.{bound-more, room-length}
use Rattle.dual_bound.proofs.TableauFacts.{some-line}
use Rattle.node_ranges.proofs.CostFacts.{cost-rises}
use Rattle.price_lp.specs.declared.proposing.TheConstants.{LEAST_WEIGHT}
use Rattle.node_ranges.specs.Claims.{least_cost}
use Rattle.proof_tree.specs.Tree.{IsLeaf, with_price}
use Rattle.dual_tune.specs.Steps.{IsBetter, IsImproved, IsStep, price_after, price_before, price_beside, with_multiplier}
use Rattle.dual_tune.specs.Sweep.{AreReached, IsStepOf, bound_at, lines_worth, shown_at, stepped}
use Rattle.dual_tune.specs.declared.given.Given.{Given}
use Rattle.dual_tune.specs.declared.steps.Side.{Side}
use Rattle.dual_tune.specs.declared.steps.Side.TheVariants as side
use Rattle.dual_tune.specs.declared.sweep.PriceStep.{PriceStep}
use Rattle.dual_tune.specs.declared.sweep.Step.{Step}
use Rattle.dual_tune.specs.declared.sweep.Step.TheVariants as step
use Rattle.dual_tune.proofs.AsideFacts.{least-aside, set-length}

priced-cons : (need : Flow) (needs : List Flow) (own : ℕ) (prices : List ℕ) → priced_needs (need ∷ needs) (own ∷ prices) ≡ need.cents.0 * own + priced_needs needs prices
unfolding priced_needs
priced-cons need needs own prices = sum_by-cons (λ (p : Flow × ℕ). p.0.cents.0 * p.1) (need, own) (zip needs prices)

-- the needs are worth more by what one date's are
pub priced-set : (needs : List Flow) (prices : List ℕ) (place price : ℕ) (d : Flow) → length prices ≡ length needs → place < length needs
    → priced_needs needs (set prices place price) + (get_or needs place d).cents.0 * get_or prices place 0 ≡ priced_needs needs prices + (get_or needs place d).cents.0 * price
priced-set [] prices place price d same few = absurd (omega arith)
priced-set (need ∷ needs) [] place price d same few = absurd (omega arith)
priced-set (need ∷ needs) (own ∷ prices) zero price d same few =
    joined need.cents.0 own price (priced_needs needs prices) (priced_needs (need ∷ needs) (price ∷ prices)) (priced_needs (need ∷ needs) (own ∷ prices))
    (priced-cons need needs price prices) (priced-cons need needs own prices)
  where
    joined : (cents own price rest now before : ℕ) → now ≡ cents * price + rest → before ≡ cents * own + rest → now + cents * own ≡ before + cents * price
    joined cents own price rest now before h k = omega arith
priced-set (need ∷ needs) (own ∷ prices) (suc place) price d same few =
    joined (need.cents.0 * own) ((get_or needs place d).cents.0 * get_or prices place 0) ((get_or needs place d).cents.0 * price) (priced_needs needs (set prices place price)) (priced_needs needs prices)
    (priced_needs (need ∷ needs) (own ∷ set prices place price)) (priced_needs (need ∷ needs) (own ∷ prices))
    (priced-cons need needs own (set prices place price)) (priced-cons need needs own prices) (priced-set needs prices place price d (omega arith) (omega arith))
  where
    joined : (first old new rest_now rest_before now before : ℕ) → now ≡ first + rest_now → before ≡ first + rest_before → rest_now + old ≡ rest_before + new → now + old ≡ before + new
    joined first old new rest_now rest_before now before h k e = omega arith

-- a difference of two sums, a line further
pub change-more : (f g : Line × Interval → ℤ) (change own : ℤ) (lines : List Line) (ranges : List Interval) (place : ℕ) (line : Line) (interval : Interval)
    → place < length lines → length lines ≡ length ranges → line ≡ get_or lines place line → interval ≡ get_or ranges place interval
    → change ≡ signed_sum f (take place (zip lines ranges)) -ℤ signed_sum g (take place (zip lines ranges))
    → own ≡ f (line, interval) -ℤ g (line, interval)
    → change +ℤ own ≡ signed_sum f (take (place + 1) (zip lines ranges)) -ℤ signed_sum g (take (place + 1) (zip lines ranges))
change-more f g change own lines ranges place line interval few same line_is interval_is so_far own_is =
    let a = bound-more (pos 0) (signed_sum f (take place (zip lines ranges))) (f (line, interval)) f lines ranges place line interval few same line_is interval_is (omega (arith, ints)) refl in
    let b = bound-more (pos 0) (signed_sum g (take place (zip lines ranges))) (g (line, interval)) g lines ranges place line interval few same line_is interval_is (omega (arith, ints)) refl in
    joined change own (signed_sum f (take place (zip lines ranges))) (signed_sum g (take place (zip lines ranges))) (f (line, interval)) (g (line, interval))
    (signed_sum f (take (place + 1) (zip lines ranges))) (signed_sum g (take (place + 1) (zip lines ranges))) so_far own_is a b
  where
    joined : (change own a b x y more_a more_b : ℤ) → change ≡ a -ℤ b → own ≡ x -ℤ y → a +ℤ x ≡ pos 0 +ℤ more_a → b +ℤ y ≡ pos 0 +ℤ more_b → change +ℤ own ≡ more_a -ℤ more_b
    joined change own a b x y more_a more_b h k p q = omega (arith, ints)

-- a bound after a price step is the bound before, with what the needs and the lines add more
pub bound-changed : (given : Given) (place price : ℕ) (d : Flow) (needs lines : ℤ) → place < length given.book.now.needs
    → needs ≡ pos (COEFFICIENT_SCALE * ((get_or given.book.now.needs place d).cents.0 * price)) -ℤ pos (COEFFICIENT_SCALE * ((get_or given.book.now.needs place d).cents.0 * get_or given.leaf.now.prices place 0))
    → lines ≡ lines_worth given (with_price given.leaf.now place price) -ℤ lines_worth given given.leaf.now
    → (bound_at given given.leaf.now +ℤ needs) +ℤ lines ≡ bound_at given (with_price given.leaf.now place price)
unfolding bound_of
bound-changed given place price d needs lines few needs_is lines_is =
    let all = given.book.now.needs in
    let prices = given.leaf.now.prices in
    joined needs lines (weighed_ends given.book.now given.ranges.now.sums given.leaf.now.weights) (lines_worth given (with_price given.leaf.now place price)) (lines_worth given given.leaf.now)
    (priced_needs all prices)
    (priced_needs all (set prices place price)) ((get_or all place d).cents.0 * price) ((get_or all place d).cents.0 * get_or prices place 0)
    needs_is lines_is (priced-set all prices place price d given.well_formed.every_date few)
  where
    joined : (needs lines ends more less : ℤ) (whole now a b : ℕ) → needs ≡ pos (COEFFICIENT_SCALE * a) -ℤ pos (COEFFICIENT_SCALE * b) → lines ≡ more -ℤ less → now + b ≡ whole + a
        → (((pos (COEFFICIENT_SCALE * whole) +ℤ ends) +ℤ less) +ℤ needs) +ℤ lines ≡ (pos (COEFFICIENT_SCALE * now) +ℤ ends) +ℤ more
    joined needs lines ends more less whole now a b h k e = omega (arith, ints)

-- an interval, where none is named
no-units : Interval
no-units = record { low = 0; high = 0 }

-- what the first so many lines add more after a price step
abbrev pub grown : Given → PriceStep → ℕ → ℤ
grown given step k =
    let weighed = λ (leaf : Leaf). signed_sum (λ p. least_within given.yield_units.0 given.book.now leaf p.0 p.1) (take k (zip given.book.now.lines given.ranges.now.lines)) in
    weighed (with_price given.leaf.now step.place step.price) -ℤ weighed given.leaf.now

-- the next line
grown-next : (given : Given) (step : PriceStep) (line : ℕ) (change own : ℤ) (d : Line) (e : Interval) → line < length given.book.now.lines → change ≡ grown given step line
    → own ≡ least_within given.yield_units.0 given.book.now (with_price given.leaf.now step.place step.price) (get_or given.book.now.lines line d) (get_or given.ranges.now.lines line e)
    -ℤ least_within given.yield_units.0 given.book.now given.leaf.now (get_or given.book.now.lines line d) (get_or given.ranges.now.lines line e)
    → change +ℤ own ≡ grown given step (line + 1)
grown-next given step line change own d e few so_far own_is =
    let lines = given.book.now.lines in
    let ranges = given.ranges.now.lines in
    let same = room-length lines ranges given.room in
    change-more (λ p. least_within given.yield_units.0 given.book.now (with_price given.leaf.now step.place step.price) p.0 p.1) (λ p. least_within given.yield_units.0 given.book.now given.leaf.now p.0 p.1)
    change own lines ranges line (get_or lines line d) (get_or ranges line e) few same (get_or_default lines line d (get_or lines line d) few)
    (get_or_default ranges line e (get_or ranges line e) (omega (arith, few, same))) so_far own_is

-- lines that don't pay for the need add what they added
pub grown-aside : (given : Given) (step : PriceStep) (from gap to : ℕ) (change : ℤ) → IsStepOf given step → to ≡ from + gap → to ≤ length given.book.now.lines
    → ((line : ℕ) → from ≤ line → line < to → Contains step.lines.now line → ⊥) → change ≡ grown given step from → change ≡ grown given step to
grown-aside given step from zero to change is at few none so_far = subst (λ k. change ≡ grown given step k) (omega arith) so_far
grown-aside given step from (suc gap) to change is at few none so_far =
    let line = get_or given.book.now.lines from some-line in
    let interval = get_or given.ranges.now.lines from no-units in
    let aside = is.payers.others from some-line (omega arith) (none from (omega arith) (omega arith)) in
    let own = least-aside given.yield_units.0 given.book.now given.leaf.now step.place step.price line interval given.well_formed.every_date aside in
    let more = grown-next given step from change (pos 0) some-line no-units (omega arith) so_far (nothing _ _ own) in
    grown-aside given step (from + 1) gap to change is (omega arith) few (λ k ge lt. none k (omega arith) lt) (unchanged change ∙ more)
  where
    nothing : (a b : ℤ) → a ≡ b → pos 0 ≡ a -ℤ b
    nothing a b e = omega (arith, ints)

    unchanged : (a : ℤ) → a ≡ a +ℤ pos 0
    unchanged a = omega (arith, ints)

-- the next line that pays
pub grown-more : (given : Given) (step : PriceStep) (from line : ℕ) (change own : ℤ) (d : Line) (e : Interval) → IsStepOf given step → from ≤ line → line < length given.book.now.lines
    → ((k : ℕ) → from ≤ k → k < line → Contains step.lines.now k → ⊥) → change ≡ grown given step from
    → own ≡ least_within given.yield_units.0 given.book.now (with_price given.leaf.now step.place step.price) (get_or given.book.now.lines line d) (get_or given.ranges.now.lines line e)
    -ℤ least_within given.yield_units.0 given.book.now given.leaf.now (get_or given.book.now.lines line d) (get_or given.ranges.now.lines line e)
    → change +ℤ own ≡ grown given step (line + 1)
grown-more given step from line change own d e is to few none so_far own_is =
    grown-next given step line change own d e few (grown-aside given step from (line - from) line change is (omega arith) (omega arith) none so_far) own_is

-- no line pays between the last one that was looked at and the next one
pub none-between : (payers : List ℕ) (index from line : ℕ) → AllPairs (λ earlier later. earlier < later) payers → index < length payers
    → ((k : ℕ) → k < index → get_or payers k 0 < from) → from ≤ line → line < get_or payers index 0 → Contains payers line → ⊥
none-between payers index from line rising few before ge lt has =
    let at : get_or payers has.0 0 ≡ line = get_or_default payers has.0 0 line has.1 ∙ has.2 in
    elim (cases_lt has.0 index) [
      | inl early ↦ absurd (omega (arith, before has.0 early, at, ge))
      | inr late ↦
          elim (cases_lt index has.0) [
            | inl past ↦ absurd (omega (arith, rising index has.0 0 past has.1, at, lt))
            | inr to ↦ let same : has.0 ≡ index = omega (arith, late, to) in absurd (omega (arith, ap (λ k. get_or payers k 0) same, at, lt))
          ]
    ]

-- nor behind the last one of all
pub none-behind : (payers : List ℕ) (index from line : ℕ) → length payers ≤ index → ((k : ℕ) → k < index → get_or payers k 0 < from) → from ≤ line → Contains payers line → ⊥
none-behind payers index from line all before ge has =
    let at : get_or payers has.0 0 ≡ line = get_or_default payers has.0 0 line has.1 ∙ has.2 in
    absurd (omega (arith, before has.0 (omega (arith, has.1, all)), at, ge))

pub up-to : (payers : List ℕ) (index : ℕ) → AllPairs (λ earlier later. earlier < later) payers → index < length payers → (k : ℕ) → k < index + 1
    → get_or payers k 0 < get_or payers index 0 + 1
up-to payers index rising few k lt =
    elim (cases_lt k index) [
      | inl before ↦ omega (arith, rising k index 0 before few)
      | inr from ↦ let at : k ≡ index = omega (arith, lt, from) in omega (arith, ap (λ j. get_or payers j 0) at)
    ]

pub behind : (payers : List ℕ) (index : ℕ) → AllPairs (λ earlier later. earlier < later) payers → (k : ℕ) → index + 1 ≤ k → k < length payers
    → get_or payers index 0 + 1 ≤ get_or payers k 0
behind payers index rising k from few = omega (arith, rising index k 0 (omega (arith, from)) few)

-- an item is put back
pub set-back : {A : Type 0} (xs : List A) (place : ℕ) (v d : A) → set (set xs place v) place (get_or xs place d) ≡ xs
set-back [] place v d = refl
set-back (x ∷ xs) zero v d = refl
set-back (x ∷ xs) (suc place) v d = ap (λ ys. x ∷ ys) (set-back xs place v d)

-- a leaf's own price is put back
pub put-back : (leaf : Leaf) (place price own : ℕ) → own ≡ get_or leaf.prices place 0 → with_price (with_price leaf place price) place own ≡ leaf
put-back leaf place price own is =
    ap (λ (q : ℕ). with_price (with_price leaf place price) place q) is ∙ (λ i. record { rho = leaf.rho; mu = leaf.mu; weights = leaf.weights; prices = set-back leaf.prices place price 0 i })

pub set-at : (xs : List ℕ) (place v : ℕ) → place < length xs → get_or (set xs place v) place 0 ≡ v
set-at [] place v few = absurd (omega arith)
set-at (x ∷ xs) zero v few = refl
set-at (x ∷ xs) (suc place) v few = set-at xs place v (omega arith)

pub one-within : (flows : List Flow) (place : ℕ) (d : Flow) → place < length flows → (get_or flows place d).cents.0 ≤ total flows
one-within [] place d few = absurd (omega arith)
one-within (flow ∷ flows) zero d few = omega (arith, sum_by-cons (λ (f : Flow). f.cents.0) flow flows)
one-within (flow ∷ flows) (suc place) d few = omega (arith, sum_by-cons (λ (f : Flow). f.cents.0) flow flows, one-within flows place d (omega arith))

-- ---- price steps keep a leaf's limits
set-falling : (xs : List ℕ) (place v : ℕ) → place < length xs → AllPairs (λ earlier later. later ≤ earlier) xs → ((k d : ℕ) → k < place → v ≤ get_or xs k d)
    → ((k d : ℕ) → place < k → k < length xs → get_or xs k d ≤ v) → AllPairs (λ earlier later. later ≤ earlier) (set xs place v)
set-falling xs place v few falling above below =
    λ i j d lt there.
    let long : j < length xs = omega (arith, there, set-length xs place v) in
    elim (cases_lt i place) [
      | inl early ↦
          let own = get_or-set_other xs place i v d (λ e. omega (arith, e, early)) in
          elim (cases_lt j place) [
            | inl before ↦ omega (arith, own, get_or-set_other xs place j v d (λ e. omega (arith, e, before)), falling i j d lt long)
            | inr from ↦
                elim (cases_lt place j) [
                  | inl after ↦ omega (arith, own, get_or-set_other xs place j v d (λ e. omega (arith, e, after)), falling i j d lt long)
                  | inr to ↦ omega (arith, own, get_or-set_at xs place j v d (omega (arith, from, to)) few, above i d early)
                ]
          ]
      | inr from ↦
          let own = get_or-set_other xs place j v d (λ e. omega (arith, e, from, lt)) in
          elim (cases_lt place i) [
            | inl late ↦ omega (arith, own, get_or-set_other xs place i v d (λ e. omega (arith, e, late)), falling i j d lt long)
            | inr to ↦ omega (arith, own, get_or-set_at xs place i v d (omega (arith, from, to)) few, below j d (omega (arith, from, lt)) long)
          ]
    ]

pub set-all : {A : Type 0} (P : A → Type 0) (xs : List A) (place : ℕ) (v : A) → All P xs → P v → All P (set xs place v)
set-all P [] place v h own = h
set-all P (x ∷ xs) zero v h own = All-cons P v xs own (λ k d lt. h (suc k) d (omega arith))
set-all P (x ∷ xs) (suc place) v h own = All-cons P x (set xs place v) (h 0 x (omega arith)) (set-all P xs place v (λ k d lt. h (suc k) d (omega arith)) own)

set-range : (xs : List ℕ) (place v most : ℕ) → All (λ price. price ≤ most) xs → v ≤ most → All (λ price. price ≤ most) (set xs place v)
set-range xs place v most range small = set-all (λ price. price ≤ most) xs place v range small

step-leaf : (dates : ℕ) (leaf : Leaf) (place v : ℕ) → IsLeaf dates leaf → place < dates → v ≤ 2 * PRICE_SCALE → ((k d : ℕ) → k < place → v ≤ get_or leaf.prices k d)
    → ((k d : ℕ) → place < k → k < length leaf.prices → get_or leaf.prices k d ≤ v) → IsLeaf dates (with_price leaf place v)
step-leaf dates leaf place v well few small above below = record {
  cost = well.cost;
  limit = well.limit;
  every_date = set-length leaf.prices place v ∙ well.every_date;
  range = set-range leaf.prices place v (2 * PRICE_SCALE) well.range small;
  falling = set-falling leaf.prices place v (omega (arith, few, well.every_date)) well.falling above below;
  weights = well.weights;
}

leaf-before : (dates : ℕ) (leaf : Leaf) (place : ℕ) → IsLeaf dates leaf → place < dates → IsLeaf dates (with_price leaf place (price_before leaf.prices place))
leaf-before dates leaf zero well few =
    step-leaf dates leaf 0 (2 * PRICE_SCALE) well few (omega arith) (λ k d lt. absurd (omega arith)) (λ k d lt long. well.range k d long)
leaf-before dates leaf (suc place) well few =
    let there : place < length leaf.prices = omega (arith, few, well.every_date) in
    step-leaf dates leaf (suc place) (get_or leaf.prices place 0) well few (well.range place 0 there)
    (λ k d lt.
    elim (cases_lt k place) [
      | inl before ↦ omega (arith, well.falling k place d before there, get_or_default leaf.prices place 0 d there)
      | inr from ↦ let at : k ≡ place = omega (arith, lt, from) in omega (arith, get_or_default leaf.prices place 0 d there, ap (λ j. get_or leaf.prices j d) at)
    ])
    (λ k d lt long. omega (arith, well.falling place k d (omega arith) long, get_or_default leaf.prices place 0 d there))

leaf-after : (dates : ℕ) (leaf : Leaf) (place : ℕ) → IsLeaf dates leaf → place < dates → IsLeaf dates (with_price leaf place (price_after leaf.prices place))
leaf-after dates leaf place well few =
    elim (cases_lt (place + 1) (length leaf.prices)) [
      | inl there ↦
          step-leaf dates leaf place (get_or leaf.prices (place + 1) 0) well few (well.range (place + 1) 0 there)
          (λ k d lt. omega (arith, well.falling k (place + 1) d (omega arith) there, get_or_default leaf.prices (place + 1) 0 d there))
          (λ k d lt long.
          elim (cases_lt (place + 1) k) [
            | inl after ↦ omega (arith, well.falling (place + 1) k d after long, get_or_default leaf.prices (place + 1) 0 d there)
            | inr to ↦ let at : k ≡ place + 1 = omega (arith, lt, to) in omega (arith, get_or_default leaf.prices (place + 1) 0 d there, ap (λ j. get_or leaf.prices j d) at)
          ])
      | inr last ↦
          let none : get_or leaf.prices (place + 1) 0 ≡ 0 = get_or_past leaf.prices (place + 1) 0 last in
          step-leaf dates leaf place (get_or leaf.prices (place + 1) 0) well few (omega (arith, none)) (λ k d lt. omega (arith, none)) (λ k d lt long. absurd (omega (arith, last, lt, long)))
    ]

pub leaf-beside : (dates : ℕ) (leaf : Leaf) (place : ℕ) (side : Side) → IsLeaf dates leaf → place < dates → IsLeaf dates (with_price leaf place (price_beside leaf.prices place side))
leaf-beside dates leaf place side.Before well few = leaf-before dates leaf place well few
leaf-beside dates leaf place side.After well few = leaf-after dates leaf place well few

-- a leaf with a multiplier of the limit that is tried keeps its limits
pub leaf-weighed : (dates : ℕ) (leaf : Leaf) (mu : ℕ) → IsLeaf dates leaf → mu ≤ PRICE_SCALE → IsLeaf dates (with_multiplier leaf mu)
leaf-weighed dates leaf mu well small = record { cost = well.cost; limit = small; every_date = well.every_date; range = well.range; falling = well.falling; weights = well.weights }

-- what is reached stays reached by more
pub reached-more : (given : Given) (least most : ℤ) (place : ℕ) → least ≤ℤ most → AreReached given least place → AreReached given most place
reached-more given least most place le reached = record {
  before = omega (arith, ints, le, reached.before);
  after = omega (arith, ints, le, reached.after);
}

-- a better leaf is improved too
pub improved-more : (given : Given) {other improved better : Leaf} → IsImproved given.yield_units.0 given.book.now given.ranges.now given.leaf.now improved
    → IsBetter given.yield_units.0 given.book.now given.ranges.now other improved better → IsImproved given.yield_units.0 given.book.now given.ranges.now given.leaf.now better
improved-more given improved better = record {
  well_formed = better.well_formed;
  unweighted = better.unweighted;
  alike = improved.alike ∙ better.alike;
  given = omega (arith, ints, improved.given, better.no_less);
  steps = λ step is. omega (arith, ints, improved.steps step is, better.no_less);
}

pub same-items : (xs ys : List ℕ) → length xs ≡ length ys → ((k : ℕ) → k < length xs → get_or xs k 0 ≡ get_or ys k 0) → xs ≡ ys
same-items [] [] same h = refl
same-items [] (y ∷ ys) same h = absurd (omega arith)
same-items (x ∷ xs) [] same h = absurd (omega arith)
same-items (x ∷ xs) (y ∷ ys) same h = λ i. h 0 (omega arith) i ∷ same-items xs ys (omega arith) (λ k lt. h (suc k) (omega arith)) i

-- a step leaves it whether the cost counts
pub step-whole : (leaf : Leaf) (step : Step) → (stepped leaf step).rho ≡ leaf.rho
step-whole leaf step.Nothing = refl
step-whole leaf (step.Price place price) = refl
step-whole leaf (step.Multiplier mu) = refl

-- and keeps its weights of sums
pub step-weights : (leaf : Leaf) (step : Step) → (stepped leaf step).weights ≡ leaf.weights
step-weights leaf step.Nothing = refl
step-weights leaf (step.Price place price) = refl
step-weights leaf (step.Multiplier mu) = refl

-- a step of a leaf weighs the cost as the leaf does
pub step-weight : (leaf step : Leaf) → IsStep leaf step → step.rho ≡ leaf.rho
step-weight leaf step (inl price) = elim price.2 [
  | inl before ↦ ap (λ (l : Leaf). l.rho) before
  | inr after ↦ ap (λ (l : Leaf). l.rho) after
]
step-weight leaf step (inr multiplier) = ap (λ (l : Leaf). l.rho) multiplier.2

-- where a bound isn't above another, neither is the least cost that it shows, at the same weight of the cost
pub shown-rises : (given : Given) (leaf : Leaf) (rho : ℕ) (bound : ℤ) → leaf.rho ≡ rho → bound_at given leaf ≤ℤ bound → shown_at given leaf ≤ℤ least_cost rho bound
shown-rises given leaf rho bound same le =
    subst (λ (w : ℕ). least_cost w (bound_at given leaf) ≤ℤ least_cost rho bound) (sym same) (cost-rises rho (bound_at given leaf) bound le)

-- a leaf that is proposed weighs the cost where the given one does
some-weight : (rho : ℕ) → 1 ≤ rho → (rho == 0) ≡ false
some-weight rho some = grind (arith, nat_tests)

pub proposed-alike : (given old new : ℕ) → old ≡ given → (1 ≤ old → LEAST_WEIGHT ≤ new) → (old ≡ 0 → new ≡ 0) → (given == 0) ≡ (new == 0)
proposed-alike zero old new same weighs none = let nothing : new ≡ zero = none same in sym (ap (λ (n : ℕ). n == 0) nothing)
proposed-alike (suc given) old new same weighs none =
    let least = weighs (omega (arith, same)) in
    some-weight (suc given) (omega arith) ∙ sym (some-weight new (omega (arith, least)))
