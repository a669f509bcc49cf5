-- Loads of lines, and the ends of the sums that are weighed.
use Rattle.std.proofs.Common.{◌≡◌, ◌∙◌, ◌⊎◌, ℕ, zero, suc, ◌+◌, ◌*◌, ◌^◌, ◌<◌, ◌≤◌, ◌==◌, Bool, true, false, nat_lt, if◌then◌else◌, List, [], ◌∷◌, drop, get_or, length, map, set, take, refl, sym, ap, subst, inl, inr, arith, ℤ, pos, ◌+ℤ◌, ◌*ℤ◌, neg_ℤ, ◌≤ℤ◌, unsigned_abs}
use Rattle.std.specs.List.{All, AllZip, zip}
use Rattle.std.proofs.Math.Nat.{mul-le-mul, mul-le-mul_left, mul-le-mul_right}
use Rattle.std.proofs.lemmas.Bool.{cases_lt}
use Rattle.std.proofs.lemmas.Bool.Decides.{nat_tests}
use Rattle.std.proofs.lemmas.List.{get_or-set_other, get_or-set_same, get_or_default}
use Rattle.std.proofs.lemmas.Int.{ints, unsigned_abs-mul}
use Rattle.std.proofs.lemmas.List.Elements.{All-head, All-tail}
use Rattle.std.proofs.lemmas.List.Sums.{sum_by-cons}
use Rattle.escrow_units.specs.declared.security.Flow.{Flow}
use Rattle.offer_book.specs.Book.{AreLines, BookContents, IsBook, IsLine, IsSecurityLine}
use Rattle.offer_book.specs.Sums.{coarse_step, counted, depths, greatest_step, kind_depth, line_depth, sums_from, sums_of}
use Rattle.offer_book.specs.declared.coefficients.TheConstants.{COEFFICIENT_SCALE}
use Rattle.offer_book.specs.declared.line.Line.{Line}
use Rattle.offer_book.specs.declared.line.LineKind.TheVariants.{Cash}
use Rattle.offer_book.specs.declared.payment_days.PaymentDays.{PaymentDays}
use Rattle.node_ranges.specs.Ranges.{IsOrdered, IsUpTo, LieIn, most_sums}
use Rattle.node_ranges.proofs.RangeFacts.{sums-length, up-length_of}
use Rattle.node_ranges.proofs.SumFacts.{sums-at}
use Rattle.proof_tree.specs.Tree.{AreSumWeights, IsLeaf, IsSumWeight}
use Rattle.proof_tree.specs.declared.prices.TheConstants.{PRICE_SCALE}
use Rattle.proof_tree.specs.declared.interval.Interval.{Interval}
use Rattle.proof_tree.specs.declared.tree.Leaf.{Leaf}
use Rattle.proof_tree.specs.declared.weights.Side.{Side}
use Rattle.proof_tree.specs.declared.weights.Side.TheVariants.{AtLeast, AtMost}
use Rattle.proof_tree.specs.declared.weights.SumWeight.{SumWeight}
use Rattle.dual_bound.specs.LeafBound.{by_side, load, signed_sum, signed_weight, sum_at, unit_load, weighed_end, weighed_ends}
use Rattle.dual_bound.specs.Loads.{IsLoad}
use Rattle.dual_bound.proofs.Signed.{add-mul, mul-add, neg-mul, pos-mul, scale-le, scaled-mul, signed_sum-scaled, signed_sum_more}
use Rattle.dual_bound.proofs.Sizes.{abs-sum}

-- what a weight counts of the units of a line of a depth
abbrev weight_of : SumWeight → ℕ → ℕ → ℤ
weight_of own depth units = signed_weight own *ℤ pos (if nat_lt own.sum depth then units else 0)

-- what the weights count of a portfolio, sum by sum
abbrev pub weighed_sums : List SumWeight → List ℕ → List ℕ → ℤ
weighed_sums weights own plan = signed_sum (λ w. signed_weight w *ℤ pos (counted w.sum own plan)) weights

counted-cons : (place depth units : ℕ) (own plan : List ℕ) → counted place (depth ∷ own) (units ∷ plan) ≡ (if nat_lt place depth then units else 0) + counted place own plan
counted-cons place depth units own plan = sum_by-cons (λ (p : ℕ × ℕ). if nat_lt place p.0 then p.1 else 0) (depth, units) (zip own plan)

-- a load of a depth, times units, is what the weights count of them
load-times : (weights : List SumWeight) (depth units : ℕ) → load weights depth *ℤ pos units ≡ signed_sum (λ w. weight_of w depth units) weights
load-times [] depth units = omega (arith, ints)
load-times (own ∷ weights) depth units =
    add-mul (if nat_lt own.sum depth then signed_weight own else pos 0) (load weights depth) (pos units)
    ∙ (λ i. one (nat_lt own.sum depth) i +ℤ load-times weights depth units i)
  where
    one : (t : Bool) → (if t then signed_weight own else pos 0) *ℤ pos units ≡ signed_weight own *ℤ pos (if t then units else 0)
    one true = refl
    one false = omega (arith, ints)

-- one line more of what the weights count
weighed-cons : (weights : List SumWeight) (depth units : ℕ) (own plan : List ℕ)
    → weighed_sums weights (depth ∷ own) (units ∷ plan) ≡ signed_sum (λ w. weight_of w depth units) weights +ℤ weighed_sums weights own plan
weighed-cons [] depth units own plan = refl
weighed-cons (first ∷ weights) depth units own plan =
    joined (signed_weight first *ℤ pos (counted first.sum (depth ∷ own) (units ∷ plan))) (weight_of first depth units) (signed_weight first *ℤ pos (counted first.sum own plan))
    (weighed_sums weights (depth ∷ own) (units ∷ plan)) (signed_sum (λ w. weight_of w depth units) weights) (weighed_sums weights own plan)
    (ap (λ (n : ℕ). signed_weight first *ℤ pos n) (counted-cons first.sum depth units own plan) ∙ mul-add (signed_weight first) (pos (if nat_lt first.sum depth then units else 0)) (pos (counted first.sum own plan)))
    (weighed-cons weights depth units own plan)
  where
    joined : (a b c rest x y : ℤ) → a ≡ b +ℤ c → rest ≡ x +ℤ y → a +ℤ rest ≡ (b +ℤ x) +ℤ (c +ℤ y)
    joined a b c rest x y e h = omega (arith, ints)

-- so over all lines: loads by lines are weights by sums
pub loads-weigh : (book : BookContents) (weights : List SumWeight) (lines : List Line) (plan : List ℕ) → length plan ≡ length lines
    → signed_sum (λ p. load weights (line_depth book p.0) *ℤ pos p.1) (zip lines plan) ≡ weighed_sums weights (map (line_depth book) lines) plan
loads-weigh book weights [] [] same = none weights
  where
    none : (weights : List SumWeight) → pos 0 ≡ weighed_sums weights [] []
    none [] = refl
    none (own ∷ weights) = omega (arith, ints, none weights)
loads-weigh book weights [] (units ∷ plan) same = absurd (omega arith)
loads-weigh book weights (line ∷ lines) [] same = absurd (omega arith)
loads-weigh book weights (line ∷ lines) (units ∷ plan) same =
    (λ i. load-times weights (line_depth book line) units i +ℤ loads-weigh book weights lines plan (omega arith) i)
    ∙ sym (weighed-cons weights (line_depth book line) units (map (line_depth book) lines) plan)

-- the end of a sum that is weighed counts no more than what the sum counts
end-le : (own : SumWeight) (interval : Interval) (units : ℕ) → LieIn interval units → (signed_weight own *ℤ pos (by_side own.side interval.low interval.high)) ≤ℤ (signed_weight own *ℤ pos units)
end-le own interval units inside = by own.side
  where
    by : (side : Side) → (by_side side (pos own.weight) (neg_ℤ (pos own.weight)) *ℤ pos (by_side side interval.low interval.high)) ≤ℤ (by_side side (pos own.weight) (neg_ℤ (pos own.weight)) *ℤ pos units)
    by AtLeast = omega (arith, ints, pos-mul own.weight interval.low, pos-mul own.weight units, mul-le-mul_left own.weight inside.low)
    by AtMost =
        omega (
          arith,
          ints,
          neg-mul (pos own.weight) (pos interval.high),
          neg-mul (pos own.weight) (pos units),
          pos-mul own.weight interval.high,
          pos-mul own.weight units,
          mul-le-mul_left own.weight inside.high,
        )

-- what the sums of a portfolio are within their intervals, at a place
within-at : (sums : List Interval) (numbers : List ℕ) (place : ℕ) → AllZip LieIn sums numbers → place < length numbers → LieIn (sum_at sums place) (get_or numbers place 0)
within-at [] [] place inside few = absurd (omega arith)
within-at [] (number ∷ numbers) place inside few = absurd inside
within-at (interval ∷ sums) [] place inside few = absurd inside
within-at (interval ∷ sums) (number ∷ numbers) zero inside few = inside.0
within-at (interval ∷ sums) (number ∷ numbers) (suc place) inside few = within-at sums numbers place inside.1 (omega arith)

-- a sum of a portfolio, at its place
sum-is : (needs : List Flow) (own plan : List ℕ) (place : ℕ) → place < length needs → get_or (sums_from 0 needs own plan) place 0 ≡ counted place own plan
sum-is needs own plan place there = sums-at 0 needs own plan place 0 there ∙ ap (λ (n : ℕ). counted n own plan) (omega arith)

pub ends-le : (book : BookContents) (sums : List Interval) (weights : List SumWeight) (plan : List ℕ) → AllZip LieIn sums (sums_of book plan) → All (IsSumWeight (length book.needs)) weights
    → weighed_ends book sums weights ≤ℤ (pos (COEFFICIENT_SCALE * coarse_step book) *ℤ weighed_sums weights (depths book) plan)
ends-le book sums [] plan inside each = omega (arith, ints)
ends-le book sums (own ∷ weights) plan inside each =
    let scale = COEFFICIENT_SCALE * coarse_step book in
    let is = All-head (IsSumWeight (length book.needs)) own weights each in
    let here : LieIn (sum_at sums own.sum) (counted own.sum (depths book) plan) =
    subst (λ (n : ℕ). LieIn (sum_at sums own.sum) n) (sum-is book.needs (depths book) plan own.sum is.sum)
    (within-at sums (sums_of book plan) own.sum inside (omega (arith, is.sum, sums-length 0 book.needs (depths book) plan))) in
    let first =
    scale-le scale (signed_weight own *ℤ pos (by_side own.side (sum_at sums own.sum).low (sum_at sums own.sum).high)) (signed_weight own *ℤ pos (counted own.sum (depths book) plan))
    (end-le own (sum_at sums own.sum) (counted own.sum (depths book) plan) here) in
    let rest = ends-le book sums weights plan inside (All-tail (IsSumWeight (length book.needs)) own weights each) in
    let whole = mul-add (pos scale) (signed_weight own *ℤ pos (counted own.sum (depths book) plan)) (weighed_sums weights (depths book) plan) in
    joined _ _ _ _ _ first rest whole
  where
    joined : (a b c d e : ℤ) → a ≤ℤ c → b ≤ℤ d → e ≡ c +ℤ d → (a +ℤ b) ≤ℤ e
    joined a b c d e first rest whole = omega (arith, ints)

-- loads by lines, scaled
pub loaded-sum : (book : BookContents) (weights : List SumWeight) (pairs : List (Line × ℕ))
    → signed_sum (λ p. unit_load book weights p.0 *ℤ pos p.1) pairs
    ≡ pos (COEFFICIENT_SCALE * coarse_step book) *ℤ signed_sum (λ p. load weights (line_depth book p.0) *ℤ pos p.1) pairs
loaded-sum book weights pairs =
    each pairs ∙ sym (signed_sum-scaled (pos (COEFFICIENT_SCALE * coarse_step book)) (λ p. load weights (line_depth book p.0) *ℤ pos p.1) pairs)
  where
    each : (xs : List (Line × ℕ)) → signed_sum (λ p. unit_load book weights p.0 *ℤ pos p.1) xs
        ≡ signed_sum (λ p. pos (COEFFICIENT_SCALE * coarse_step book) *ℤ (load weights (line_depth book p.0) *ℤ pos p.1)) xs
    each [] = refl
    each (p ∷ xs) = λ i. scaled-mul (COEFFICIENT_SCALE * coarse_step book) (load weights (line_depth book p.0)) p.1 i +ℤ each xs i

-- ---- how much a load and an end come to
-- no sum counts a line of depth 0
pub load-none : (weights : List SumWeight) → load weights 0 ≡ pos 0
load-none [] = refl
load-none (own ∷ weights) = λ i. one (nat_lt own.sum 0) refl i +ℤ load-none weights i
  where
    one : (t : Bool) → nat_lt own.sum 0 ≡ t → (if t then signed_weight own else pos 0) ≡ pos 0
    one true e = absurd (grind (arith, nat_tests, e))
    one false e = refl

signed_weight-small : (own : SumWeight) → own.weight ≤ PRICE_SCALE → unsigned_abs (signed_weight own) ≤ PRICE_SCALE
signed_weight-small own few = by own.side
  where
    by : (side : Side) → unsigned_abs (by_side side (pos own.weight) (neg_ℤ (pos own.weight))) ≤ PRICE_SCALE
    by AtLeast = few
    by AtMost = omega (arith, ints, few)

load-each : (dates : ℕ) (weights : List SumWeight) (depth : ℕ) → All (IsSumWeight dates) weights → unsigned_abs (load weights depth) ≤ length weights * PRICE_SCALE
load-each dates [] depth each = omega arith
load-each dates (own ∷ weights) depth each =
    let small = one (nat_lt own.sum depth) in
    let rest = load-each dates weights depth (All-tail (IsSumWeight dates) own weights each) in
    omega (arith, small, rest, abs-sum (if nat_lt own.sum depth then signed_weight own else pos 0) (load weights depth))
  where
    one : (t : Bool) → unsigned_abs (if t then signed_weight own else pos 0) ≤ PRICE_SCALE
    one true = signed_weight-small own (All-head (IsSumWeight dates) own weights each).most
    one false = omega arith

pub load-small : (dates : ℕ) (weights : List SumWeight) (depth : ℕ) → AreSumWeights dates weights → unsigned_abs (load weights depth) ≤ 64 * 10 ^ 12
load-small dates weights depth are = omega (arith, load-each dates weights depth are.each, mul-le-mul_right PRICE_SCALE are.few)

-- ---- the load of a line
cash-depth : (book : BookContents) (line : Line) → line.kind ≡ Cash → line_depth book line ≡ 0
cash-depth book line cash = by (line.step == coarse_step book)
  where
    by : (t : Bool) → (if t then kind_depth book line.kind else 0) ≡ 0
    by true = ap (kind_depth book) cash
    by false = refl

-- a line has no depth, or it is coarse
coarse-or_none : (book : BookContents) (line : Line) → (line_depth book line ≡ 0) ⊎ (line.step ≡ coarse_step book)
coarse-or_none book line = by (line.step == coarse_step book) refl
  where
    by : (t : Bool) → (line.step == coarse_step book) ≡ t → ((if t then kind_depth book line.kind else 0) ≡ 0) ⊎ (line.step ≡ coarse_step book)
    by true e = inr (grind (arith, e))
    by false e = inl refl

load-without : (book : BookContents) (weights : List SumWeight) (line : Line) → line_depth book line ≡ 0 → unit_load book weights line ≡ pos 0
load-without book weights line none =
    let nothing : pos (COEFFICIENT_SCALE * coarse_step book) *ℤ pos 0 ≡ pos 0 = omega (arith, ints) in
    ap (λ (z : ℤ). pos (COEFFICIENT_SCALE * coarse_step book) *ℤ z) (ap (load weights) none ∙ load-none weights) ∙ nothing

pub no-load : (line : Line) (own_load : ℤ) → own_load ≡ pos 0 → IsLoad line own_load
no-load line own_load none = record {
  unit = omega (arith, ap unsigned_abs none);
  small = omega (arith, ap (λ (z : ℤ). unsigned_abs z * line.most) none);
  cash = λ cash. none;
}

coarse-load : (book : BookContents) (weights : List SumWeight) (line : Line) → AreSumWeights (length book.needs) weights → IsSecurityLine book.days line → line.step ≡ coarse_step book
    → (unsigned_abs (unit_load book weights line) ≤ 64 * 10 ^ 29) × (unsigned_abs (unit_load book weights line) * line.most ≤ 64 * 10 ^ 32)
coarse-load book weights line are security coarse =
    fits (coarse_step book) line.most (unsigned_abs (load weights (line_depth book line))) _
    (unsigned_abs-mul (pos (COEFFICIENT_SCALE * coarse_step book)) (load weights (line_depth book line))) (load-small (length book.needs) weights (line_depth book line) are)
    (subst (λ (step : ℕ). step ≤ 10 ^ 8) coarse security.step_at_most) (subst (λ (step : ℕ). line.most * step ≤ 10 ^ 11) coarse security.cap)
  where
    fits : (step most load whole : ℕ) → whole ≡ COEFFICIENT_SCALE * step * load → load ≤ 64 * 10 ^ 12 → step ≤ 10 ^ 8 → most * step ≤ 10 ^ 11
        → (whole ≤ 64 * 10 ^ 29) × (whole * most ≤ 64 * 10 ^ 32)
    fits step most load whole is small few cap = (omega (arith, is, mul-le-mul few small), omega (arith, ap (λ (n : ℕ). n * most) is, mul-le-mul cap small))

-- the step of the coarse lines is small
greatest-small : (days : PaymentDays) (lines : List Line) → All (IsSecurityLine days) lines → greatest_step lines ≤ 10 ^ 8
greatest-small days [] are = omega arith
greatest-small days (line ∷ lines) are =
    omega (arith, (All-head (IsSecurityLine days) line lines are).step_at_most, greatest-small days lines (All-tail (IsSecurityLine days) line lines are))

pub coarse-small : (book : BookContents) → IsBook book → coarse_step book ≤ 10 ^ 8
coarse-small book limits = by book.lines limits.lines
  where
    by : (lines : List Line) → AreLines book.days lines → greatest_step (drop 1 lines) ≤ 10 ^ 8
    by [] are = absurd are
    by (cash ∷ lines) are = greatest-small book.days lines are.1

-- what a unit of a line is credited is small
pub load-is : (book : BookContents) (weights : List SumWeight) (line : Line) → AreSumWeights (length book.needs) weights → IsLine book.days line → IsLoad line (unit_load book weights line)
load-is book weights line are (inl cash) = no-load line (unit_load book weights line) (load-without book weights line (cash-depth book line cash.kind))
load-is book weights line are (inr security) = by (coarse-or_none book line)
  where
    by : (line_depth book line ≡ 0) ⊎ (line.step ≡ coarse_step book) → IsLoad line (unit_load book weights line)
    by (inl none) = no-load line (unit_load book weights line) (load-without book weights line none)
    by (inr coarse) =
        let few = coarse-load book weights line are security coarse in
        record { unit = few.0; small = few.1; cash = λ cash. load-without book weights line (cash-depth book line cash) }

-- and so is that of a leaf's line
pub line-load : (book : BookContents) (leaf : Leaf) (line : Line) (own_load : ℤ) → IsLeaf (length book.needs) leaf → IsLine book.days line → own_load ≡ unit_load book leaf.weights line → IsLoad line own_load
line-load book leaf line own_load well is same = subst (IsLoad line) (sym same) (load-is book leaf.weights line well.weights is)

-- ---- how much the ends of sums come to
-- what a sum counts of the most of a line, in cents
counted-line : (book : BookContents) (place : ℕ) (line : Line) → IsSecurityLine book.days line
    → coarse_step book * (if nat_lt place (line_depth book line) then line.most else 0) ≤ 10 ^ 11
counted-line book place line security = by (coarse-or_none book line) (nat_lt place (line_depth book line)) refl
  where
    below-none : (depth : ℕ) → depth ≡ 0 → nat_lt place depth ≡ true → ⊥
    below-none depth none e = grind (arith, nat_tests, none, e)

    by : (line_depth book line ≡ 0) ⊎ (line.step ≡ coarse_step book) → (t : Bool) → nat_lt place (line_depth book line) ≡ t → coarse_step book * (if t then line.most else 0) ≤ 10 ^ 11
    by own false e = omega arith
    by (inl none) true e = absurd (below-none (line_depth book line) none e)
    by (inr coarse) true e = omega (arith, subst (λ (step : ℕ). line.most * step ≤ 10 ^ 11) coarse security.cap)

-- no sum counts a line without a depth
no-count : (place depth units : ℕ) → depth ≡ 0 → (if nat_lt place depth then units else 0) ≡ 0
no-count place depth units none = by (nat_lt place depth) refl
  where
    by : (t : Bool) → nat_lt place depth ≡ t → (if t then units else 0) ≡ 0
    by true e = absurd (grind (arith, nat_tests, none, e))
    by false e = refl

counted-securities : (book : BookContents) (place : ℕ) (lines : List Line) → All (IsSecurityLine book.days) lines
    → coarse_step book * counted place (map (line_depth book) lines) (map (λ (line : Line). line.most) lines) ≤ length lines * 10 ^ 11
counted-securities book place [] are = omega arith
counted-securities book place (line ∷ lines) are =
    let first = counted-line book place line (All-head (IsSecurityLine book.days) line lines are) in
    let rest = counted-securities book place lines (All-tail (IsSecurityLine book.days) line lines are) in
    omega (arith, first, rest, ap (λ (n : ℕ). coarse_step book * n) (counted-cons place (line_depth book line) line.most (map (line_depth book) lines) (map (λ (l : Line). l.most) lines)))

pub counted-small : (book : BookContents) (place : ℕ) → IsBook book → coarse_step book * counted place (depths book) (map (λ (line : Line). line.most) book.lines) ≤ 512 * 10 ^ 11
counted-small book place limits = by book.lines limits.lines
  where
    by : (lines : List Line) → AreLines book.days lines → coarse_step book * counted place (map (line_depth book) lines) (map (λ (line : Line). line.most) lines) ≤ 512 * 10 ^ 11
    by [] are = absurd are
    by (cash ∷ lines) are =
        let none = no-count place (line_depth book cash) cash.most (cash-depth book cash are.0.kind) in
        let rest = counted-securities book place lines are.1 in
        let whole : counted place (map (line_depth book) (cash ∷ lines)) (map (λ (l : Line). l.most) (cash ∷ lines))
        ≡ (if nat_lt place (line_depth book cash) then cash.most else 0) + counted place (map (line_depth book) lines) (map (λ (l : Line). l.most) lines) =
        counted-cons place (line_depth book cash) cash.most (map (line_depth book) lines) (map (λ (l : Line). l.most) lines) in
        omega (arith, rest, mul-le-mul_right (10 ^ 11) are.2, ap (λ (n : ℕ). coarse_step book * n) (whole ∙ ap (λ (n : ℕ). n + counted place (map (line_depth book) lines) (map (λ (l : Line). l.most) lines)) none))

-- there is an interval for each need date
pub sums-length_of : (book : BookContents) (sums : List Interval) → AllZip IsUpTo (most_sums book) sums → length sums ≡ length book.needs
sums-length_of book sums room = up-length_of (most_sums book) sums room ∙ sums-length 0 book.needs (depths book) (map (λ (line : Line). line.most) book.lines)

-- the ends of the interval of a sum are at most what it counts of the most of all lines
pub end-counted : (book : BookContents) (sums : List Interval) (place : ℕ) (side : Side) → AllZip IsUpTo (most_sums book) sums → All IsOrdered sums → place < length book.needs
    → by_side side (sum_at sums place).low (sum_at sums place).high ≤ counted place (depths book) (map (λ (line : Line). line.most) book.lines)
end-counted book sums place side room ordered there = by side
  where
    mosts : List ℕ
    mosts = map (λ (line : Line). line.most) book.lines

    high : (most : List ℕ) (sums : List Interval) (place : ℕ) → AllZip IsUpTo most sums → place < length most → (sum_at sums place).high ≤ get_or most place 0
    high [] sums place room few = absurd (omega arith)
    high (m ∷ most) [] place room few = absurd room
    high (m ∷ most) (interval ∷ sums) zero room few = room.0
    high (m ∷ most) (interval ∷ sums) (suc place) room few = high most sums place room.1 (omega arith)

    count : length (most_sums book) ≡ length book.needs
    count = sums-length 0 book.needs (depths book) mosts

    most : (sum_at sums place).high ≤ counted place (depths book) mosts
    most = omega (arith, high (most_sums book) sums place room (omega (arith, there, count)), sum-is book.needs (depths book) mosts place there)

    in_order : (sum_at sums place).low ≤ (sum_at sums place).high
    in_order = ordered place (record { low = 0; high = 0 }) (omega (arith, there, count, up-length_of (most_sums book) sums room))

    by : (side : Side) → by_side side (sum_at sums place).low (sum_at sums place).high ≤ counted place (depths book) mosts
    by AtLeast = omega (arith, in_order, most)
    by AtMost = most

pub end-small : (book : BookContents) (sums : List Interval) (own : SumWeight) → IsBook book → AllZip IsUpTo (most_sums book) sums → All IsOrdered sums → IsSumWeight (length book.needs) own
    → unsigned_abs (weighed_end book sums own) ≤ 512 * 10 ^ 32
end-small book sums own limits room ordered is =
    fits (coarse_step book) (by_side own.side (sum_at sums own.sum).low (sum_at sums own.sum).high) (counted own.sum (depths book) (map (λ (line : Line). line.most) book.lines)) _ _ _
    (unsigned_abs-mul (pos (COEFFICIENT_SCALE * coarse_step book)) (signed_weight own *ℤ pos (by_side own.side (sum_at sums own.sum).low (sum_at sums own.sum).high)))
    (unsigned_abs-mul (signed_weight own) (pos (by_side own.side (sum_at sums own.sum).low (sum_at sums own.sum).high)))
    (signed_weight-small own is.most) (end-counted book sums own.sum own.side room ordered is.sum) (counted-small book own.sum limits)
  where
    fits : (step end most weight product whole : ℕ) → whole ≡ COEFFICIENT_SCALE * step * product → product ≡ weight * end → weight ≤ PRICE_SCALE → end ≤ most → step * most ≤ 512 * 10 ^ 11
        → whole ≤ 512 * 10 ^ 32
    fits step end most weight product whole is product_is few up cap =
        let reached : step * end ≤ 512 * 10 ^ 11 = omega (arith, mul-le-mul_left step up, cap) in
        omega (arith, is, ap (λ (n : ℕ). COEFFICIENT_SCALE * step * n) product_is, mul-le-mul few reached)

pub ends-small : (book : BookContents) (sums : List Interval) (weights : List SumWeight) → IsBook book → AllZip IsUpTo (most_sums book) sums → All IsOrdered sums → AreSumWeights (length book.needs) weights
    → unsigned_abs (weighed_ends book sums weights) ≤ 64 * (512 * 10 ^ 32)
ends-small book sums weights limits room ordered are = omega (arith, each weights are.each, mul-le-mul_right (512 * 10 ^ 32) are.few)
  where
    each : (own : List SumWeight) → All (IsSumWeight (length book.needs)) own → unsigned_abs (weighed_ends book sums own) ≤ length own * (512 * 10 ^ 32)
    each [] is = omega arith
    each (first ∷ rest) is =
        let small = end-small book sums first limits room ordered (All-head (IsSumWeight (length book.needs)) first rest is) in
        let more = each rest (All-tail (IsSumWeight (length book.needs)) first rest is) in
        omega (arith, small, more, abs-sum (weighed_end book sums first) (weighed_ends book sums rest))

-- ---- weights that are taken depth by depth
-- so many weights are those of sums that count depths before this one
pub record IsTakenTo (weights : List SumWeight) (depth next : ℕ) : Type 0 where
  pub few : next ≤ length weights
  pub before : (k : ℕ) (d : SumWeight) → k < next → (get_or weights k d).sum + 1 < depth
  pub behind : (k : ℕ) (d : SumWeight) → next ≤ k → k < length weights → depth ≤ (get_or weights k d).sum + 1

pub taken-none : (weights : List SumWeight) → IsTakenTo weights 0 0
taken-none weights = record {
  few = omega arith;
  before = λ k d few. absurd (omega (arith, few));
  behind = λ k d from few. omega arith;
}

-- a load is what those weights come to whose sums count the depth
pub load-taken : (weights : List SumWeight) (depth next : ℕ) → IsTakenTo weights (depth + 1) next → load weights depth ≡ signed_sum signed_weight (take next weights)
load-taken weights depth next taken = by weights next taken.before taken.behind
  where
    one : (own : SumWeight) (t : Bool) → nat_lt own.sum depth ≡ t → ((own.sum + 1 < depth + 1) → (if t then signed_weight own else pos 0) ≡ signed_weight own)
        × ((depth + 1 ≤ own.sum + 1) → (if t then signed_weight own else pos 0) ≡ pos 0)
    one own true e = (λ below. refl, λ above. absurd (grind (arith, nat_tests, e, above)))
    one own false e = (λ below. absurd (grind (arith, nat_tests, e, below)), λ above. refl)

    by : (own : List SumWeight) (next : ℕ) → ((k : ℕ) (d : SumWeight) → k < next → (get_or own k d).sum + 1 < depth + 1)
        → ((k : ℕ) (d : SumWeight) → next ≤ k → k < length own → depth + 1 ≤ (get_or own k d).sum + 1) → load own depth ≡ signed_sum signed_weight (take next own)
    by [] zero before behind = refl
    by [] (suc next) before behind = refl
    by (first ∷ rest) zero before behind =
        (λ i. (one first (nat_lt first.sum depth) refl).1 (behind 0 first (omega arith) (omega arith)) i +ℤ by rest 0 (λ k d few. absurd (omega (arith, few))) (λ k d from few. behind (suc k) d (omega arith) (omega (arith, few))) i)
    by (first ∷ rest) (suc next) before behind =
        λ i. (one first (nat_lt first.sum depth) refl).0 (before 0 first (omega arith)) i
        +ℤ by rest next (λ k d few. before (suc k) d (omega (arith, few))) (λ k d from few. behind (suc k) d (omega (arith, from)) (omega (arith, few))) i

-- one weight more of a load
load-more : (weights : List SumWeight) (depth place : ℕ) (d : SumWeight) → place < length weights
    → load (take (place + 1) weights) depth ≡ load (take place weights) depth +ℤ (if nat_lt (get_or weights place d).sum depth then signed_weight (get_or weights place d) else pos 0)
load-more weights depth place d few = signed_sum_more (λ (w : SumWeight). if nat_lt w.sum depth then signed_weight w else pos 0) weights place d few

pub load-counted : (weights : List SumWeight) (depth place : ℕ) (d : SumWeight) → place < length weights → (get_or weights place d).sum < depth
    → load (take (place + 1) weights) depth ≡ load (take place weights) depth +ℤ signed_weight (get_or weights place d)
load-counted weights depth place d few below =
    let test : nat_lt (get_or weights place d).sum depth ≡ true = grind (arith, nat_tests, below) in
    load-more weights depth place d few ∙ ap (λ (t : Bool). load (take place weights) depth +ℤ (if t then signed_weight (get_or weights place d) else pos 0)) test

pub load-passed : (weights : List SumWeight) (depth place : ℕ) (d : SumWeight) → place < length weights → depth ≤ (get_or weights place d).sum
    → load (take (place + 1) weights) depth ≡ load (take place weights) depth
load-passed weights depth place d few above =
    let test : nat_lt (get_or weights place d).sum depth ≡ false = grind (arith, nat_tests, above) in
    let nothing : load (take place weights) depth +ℤ pos 0 ≡ load (take place weights) depth = omega (arith, ints) in
    load-more weights depth place d few ∙ ap (λ (t : Bool). load (take place weights) depth +ℤ (if t then signed_weight (get_or weights place d) else pos 0)) test ∙ nothing

-- a weight of no sum
abbrev pub some-weight : SumWeight
some-weight = record { sum = 0; side = AtMost; weight = 0 }

-- one weight more is taken, which counts this depth first
pub taken-more : (weights : List SumWeight) (dates depth next : ℕ) → AreSumWeights dates weights → IsTakenTo weights depth next → next < length weights → (get_or weights next some-weight).sum < depth
    → IsTakenTo weights (depth + 1) (next + 1)
taken-more weights dates depth next are taken few below = record {
  few = omega (arith, few);
  before = λ k d early. before k d early (cases_lt k next);
  behind = λ k d from there.
      omega (arith, taken.behind next d (omega arith) few, are.rising next k d (omega (arith, from)) there);
}
  where
    before : (k : ℕ) (d : SumWeight) → k < next + 1 → (k < next) ⊎ (next ≤ k) → (get_or weights k d).sum + 1 < depth + 1
    before k d early (inl earlier) = omega (arith, taken.before k d earlier)
    before k d early (inr late) =
        let at : next ≡ k = omega (arith, early, late) in
        let same : (get_or weights next some-weight).sum ≡ (get_or weights k d).sum =
        ap (λ (w : SumWeight). w.sum) (get_or_default weights next some-weight d few) ∙ ap (λ (j : ℕ). (get_or weights j d).sum) at in
        omega (arith, same, below)

-- none is taken where the next one counts greater depths alone
pub taken-stays : (weights : List SumWeight) (dates depth next : ℕ) → AreSumWeights dates weights → IsTakenTo weights depth next
    → (next < length weights → depth ≤ (get_or weights next some-weight).sum) → IsTakenTo weights (depth + 1) next
taken-stays weights dates depth next are taken above = record {
  few = taken.few;
  before = λ k d early. omega (arith, taken.before k d early);
  behind = λ k d from there. by k d there (cases_lt next k) from;
}
  where
    by : (k : ℕ) (d : SumWeight) → k < length weights → (next < k) ⊎ (k ≤ next) → next ≤ k → depth + 1 ≤ (get_or weights k d).sum + 1
    by k d there (inl later) from = omega (arith, above (omega (arith, later, there)), ap (λ (w : SumWeight). w.sum) (get_or_default weights next some-weight d (omega (arith, later, there))), are.rising next k d later there)
    by k d there (inr here) from =
        let at : next ≡ k = omega (arith, from, here) in
        let same : (get_or weights next some-weight).sum ≡ (get_or weights k d).sum =
        ap (λ (w : SumWeight). w.sum) (get_or_default weights next some-weight d (omega (arith, here, there))) ∙ ap (λ (j : ℕ). (get_or weights j d).sum) at in
        omega (arith, same, above (omega (arith, here, there)))

-- what depths are credited, one depth more
pub loads-more : (coarse : ℕ) (weights : List SumWeight) (by_depth : List ℤ) (depth : ℕ) (own : ℤ) → depth < length by_depth → own ≡ pos (COEFFICIENT_SCALE * coarse) *ℤ load weights depth
    → ((k : ℕ) (d : ℤ) → k < depth → get_or by_depth k d ≡ pos (COEFFICIENT_SCALE * coarse) *ℤ load weights k)
    → (k : ℕ) (d : ℤ) → k < depth + 1 → get_or (set by_depth depth own) k d ≡ pos (COEFFICIENT_SCALE * coarse) *ℤ load weights k
loads-more coarse weights by_depth depth own there is before k d few =
    elim (cases_lt k depth) [
      | inl earlier ↦ get_or-set_other by_depth depth k own d (omega (arith, earlier)) ∙ before k d earlier
      | inr late ↦
          let at : depth ≡ k = omega (arith, few, late) in
          ap (λ (j : ℕ). get_or (set by_depth depth own) j d) (sym at) ∙ get_or-set_same by_depth depth own d there ∙ is
          ∙ ap (λ (j : ℕ). pos (COEFFICIENT_SCALE * coarse) *ℤ load weights j) at
    ]
