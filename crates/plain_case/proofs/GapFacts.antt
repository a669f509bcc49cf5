-- Plain cases close at the root.
use Rattle.std.proofs.Common.{◌≡◌, ◌∙◌, ℕ, ◌+◌, ◌-◌, ◌*◌, ◌≤◌, List, [], ◌∷◌, length, map, refl, ap, arith, ℤ, pos, ◌+ℤ◌, ◌-ℤ◌, ◌*ℤ◌, neg_ℤ, ◌≤ℤ◌, ◌<ℤ◌, All}
use Rattle.std.proofs.lemmas.Int.{ints}
use Rattle.std.proofs.lemmas.List.Elements.{All-head, All-tail, All-weaker}
use Rattle.std.proofs.lemmas.List.Sums.{sum_by-cons}
use Rattle.std.specs.List.{sum_by, zip}
use Rattle.offer_book.specs.Book.{BookContents, IsBook}
use Rattle.offer_book.specs.Coefficients.{pay_coefficients}
use Rattle.offer_book.specs.Portfolio.{cost}
use Rattle.offer_book.specs.declared.coefficients.TheConstants.{COEFFICIENT_SCALE}
use Rattle.offer_book.specs.declared.line.Line.{Line}
use Rattle.dual_bound.proofs.BoundSizes.{bound-plain}
use Rattle.dual_bound.specs.LeafBound.{bound_of, least_within, priced_needs, signed_sum}
use Rattle.node_ranges.specs.Ranges.{root_of, whole_interval}
use Rattle.proof_tree.specs.declared.prices.TheConstants.{PRICE_SCALE}
use Rattle.proof_tree.specs.Tree.{IsLeaf}
use Rattle.node_ranges.proofs.RangeLaws.{root_holds_all}
use Rattle.dual_bound.proofs.Soundness.{bounds-all}
use Rattle.dual_bound.proofs.Signed.{mul-sub, pos-mul}
use Rattle.backward_build.specs.PlainCase.{IsPlain, plain_gap}
use Rattle.backward_build.specs.PriceCurve.{leaf_of_prices}
use Rattle.backward_build.proofs.FairFacts.{bootstrapped_fair, first_falling}
use Rattle.plain_case.specs.OwnOfferWorth.{own_rounding}
use Rattle.plain_case.specs.PlainGap.{PlainGapHolds, PlainPlansAreNearlyCheapest}
use Rattle.plain_case.specs.PlanWorth.{leasts_and_steps}
use Rattle.plain_case.specs.RootLeast.{IsLeastByRounding, root_rounding}
use Rattle.plain_case.proofs.LeastFacts.{leasts_rounding}
use Rattle.plain_case.proofs.PlanFacts.{plan_worth}

-- the leasts of all lines
leasts-sum : (n : ℕ) (book : BookContents) (prices : List ℕ) (lines : List Line) → All (IsLeastByRounding n book prices) lines
    → neg_ℤ (pos (sum_by (root_rounding book) lines)) ≤ℤ signed_sum (λ p. least_within n book (leaf_of_prices prices) p.0 p.1) (zip lines (map whole_interval lines))
leasts-sum n book prices [] each = omega (arith, ints)
leasts-sum n book prices (line ∷ lines) each =
    joined _ _ _ _ _ (All-head (IsLeastByRounding n book prices) line lines each) (leasts-sum n book prices lines (All-tail (IsLeastByRounding n book prices) line lines each)) (sum_by-cons (root_rounding book) line lines)
  where
    joined : (a b all : ℕ) (x y : ℤ) → neg_ℤ (pos a) ≤ℤ x → neg_ℤ (pos b) ≤ℤ y → all ≡ a + b → neg_ℤ (pos all) ≤ℤ (x +ℤ y)
    joined a b all x y h k e = omega (arith, ints)

-- the rounding of all lines
abbrev line_gap : BookContents → Line → ℕ
line_gap book line = 8 + 3 * length (pay_coefficients book.days line)

roundings-sum : (book : BookContents) (lines : List Line) → COEFFICIENT_SCALE * PRICE_SCALE * sum_by (own_rounding book) lines + sum_by (root_rounding book) lines ≤ COEFFICIENT_SCALE * PRICE_SCALE * sum_by (line_gap book) lines
roundings-sum book [] = omega arith
roundings-sum book (line ∷ lines) =
    omega (arith, roundings-sum book lines, sum_by-cons (own_rounding book) line lines, sum_by-cons (root_rounding book) line lines, sum_by-cons (line_gap book) line lines)

gap-parts : (book : BookContents) → plain_gap book ≡ leasts_and_steps book + sum_by (line_gap book) book.lines
unfolding plain_gap
gap-parts book = refl

bound-parts : (n : ℕ) (book : BookContents) (prices : List ℕ)
    → bound_of n book (root_of book) (leaf_of_prices prices) ≡ pos (COEFFICIENT_SCALE * priced_needs book.needs prices) +ℤ signed_sum (λ p. least_within n book (leaf_of_prices prices) p.0 p.1) (zip book.lines (root_of book).lines)
bound-parts n book prices = bound-plain n book (root_of book) (leaf_of_prices prices) refl

-- the whole account
scaled : (k c g : ℕ) → pos k *ℤ (pos c -ℤ pos g -ℤ pos 1) ≡ pos (k * c) -ℤ pos (k * g) -ℤ pos k
scaled k c g =
    mul-sub (pos k) (pos c -ℤ pos g) (pos 1) ∙ (λ i. (mul-sub (pos k) (pos c) (pos g) ∙ (λ j. pos-mul k c j -ℤ pos-mul k g j)) i -ℤ (pos-mul k 1 ∙ ap pos same) i)
  where
    same : k * 1 ≡ k
    same = omega arith

account : (c g n l own root gaps : ℕ) (least bound : ℤ) → COEFFICIENT_SCALE * PRICE_SCALE * c ≤ COEFFICIENT_SCALE * n + COEFFICIENT_SCALE * PRICE_SCALE * (l + own)
    → COEFFICIENT_SCALE * PRICE_SCALE * own + root ≤ COEFFICIENT_SCALE * PRICE_SCALE * gaps → g ≡ l + gaps → neg_ℤ (pos root) ≤ℤ least → bound ≡ pos (COEFFICIENT_SCALE * n) +ℤ least
    → (pos (COEFFICIENT_SCALE * PRICE_SCALE) *ℤ (pos c -ℤ pos g -ℤ pos 1)) <ℤ bound
account c g n l own root gaps least bound plan rounds gap lower is =
    let left = scaled (COEFFICIENT_SCALE * PRICE_SCALE) c g in
    omega (arith, ints, plan, rounds, gap, lower, is, left)

pub plain_gap_holds : PlainGapHolds
plain_gap_holds limit book limits plain =
    account (cost book plain.plan) (plain_gap book) (priced_needs book.needs plain.prices) (leasts_and_steps book) (sum_by (own_rounding book) book.lines) (sum_by (root_rounding book) book.lines) (sum_by (line_gap book) book.lines)
    (signed_sum (λ p. least_within (limit - 1) book (leaf_of_prices plain.prices) p.0 p.1) (zip book.lines (root_of book).lines)) (bound_of (limit - 1) book (root_of book) (leaf_of_prices plain.prices))
    (plan_worth limit book limits plain)
    (roundings-sum book book.lines)
    (gap-parts book)
    (leasts-sum (limit - 1) book plain.prices book.lines (leasts_rounding (limit - 1) book plain.prices limits (first_falling book (length book.needs) plain.prices plain.curve).small plain.no_bargains))
    (bound-parts (limit - 1) book plain.prices)

-- ---- what the gap means
curve-leaf : (limit : ℕ) (book : BookContents) → IsBook book → (plain : IsPlain limit book) → IsLeaf (length book.needs) (leaf_of_prices plain.prices)
curve-leaf limit book limits plain =
    let fall = first_falling book (length book.needs) plain.prices plain.curve in
    record {
      cost = omega arith;
      limit = omega arith;
      every_date = (bootstrapped_fair book plain.prices limits plain.curve).dates;
      range = All-weaker (λ price. price ≤ PRICE_SCALE) (λ price. price ≤ 2 * PRICE_SCALE) (λ price small. omega (arith, small)) plain.prices fall.small;
      falling = fall.falling;
      weights = record { few = omega arith; each = λ k d few. absurd (omega (arith, few)); rising = λ j k d lt few. absurd (omega (arith, few)) };
    }

nearly : (c g other : ℕ) (bound : ℤ) → (pos (COEFFICIENT_SCALE * PRICE_SCALE) *ℤ (pos c -ℤ pos g -ℤ pos 1)) <ℤ bound → bound ≤ℤ pos (COEFFICIENT_SCALE * (PRICE_SCALE * other)) → c ≤ other + g
nearly c g other bound below least =
    let left = scaled (COEFFICIENT_SCALE * PRICE_SCALE) c g in
    let between : (pos (COEFFICIENT_SCALE * PRICE_SCALE * c) -ℤ pos (COEFFICIENT_SCALE * PRICE_SCALE * g) -ℤ pos (COEFFICIENT_SCALE * PRICE_SCALE)) <ℤ pos (COEFFICIENT_SCALE * (PRICE_SCALE * other)) = omega (arith, ints, below, least, left) in
    omega (arith, ints, between)

pub nearly_cheapest : PlainPlansAreNearlyCheapest
nearly_cheapest limit book limits plain other permitted covered =
    nearly (cost book plain.plan) (plain_gap book) (cost book other) (bound_of (limit - 1) book (root_of book) (leaf_of_prices plain.prices))
    (plain_gap_holds limit book limits plain)
    (bounds-all (limit - 1) book (root_of book) (leaf_of_prices plain.prices) limits (curve-leaf limit book limits plain) refl other permitted covered (let hold = (root_holds_all book other).0 permitted in record { lines = hold.lines.within; sums = hold.sums }))
