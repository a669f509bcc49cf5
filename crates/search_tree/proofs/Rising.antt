-- The bound of a leaf doesn't fall where ranges are split.
use Rattle.std.proofs.Common.{◌≡◌, inl, inr, ℕ, zero, suc, ◌+◌, ◌<◌, ◌≤◌, ◌==◌, Bool, true, false, ◌&&◌, if◌then◌else◌, List, [], ◌∷◌, refl, arith, ℤ, pos, negsuc, ◌+ℤ◌, ◌-ℤ◌, ◌*ℤ◌, neg_ℤ, ◌≤ℤ◌, ◌*◌}
use Rattle.std.specs.Prelude.{IsTrue, nat_lt}
use Rattle.std.specs.Int.{int_min}
use Rattle.std.specs.List.{All, AllZip, zip}
use Rattle.std.proofs.Math.Nat.{mul-le-mul_left}
use Rattle.std.proofs.lemmas.Bool.Decides.{nat_tests}
use Rattle.std.proofs.lemmas.Int.{clamps, ints}
use Rattle.std.proofs.lemmas.List.Elements.{All-head, All-tail}
use Rattle.dual_bound.proofs.LineBound.{least-le}
use Rattle.node_ranges.proofs.RangeFacts.{sides-tight, splits-at}
use Rattle.dual_bound.proofs.Soundness.{all-lines}
use Rattle.dual_bound.specs.LeafBound.{bound_of, by_side, form_at, form_of, least_within, priced_needs, reduced_cost, signed_sum, sum_at, unit_load, weighed_end, weighed_ends}
use Rattle.dual_bound.proofs.Signed.{neg-mul, pos-mul, scale-le, signed_sum-le}
use Rattle.node_ranges.specs.Ranges.{AreTight, IsTight, RangesContents, is_proper, narrowed, narrowed_lines, narrowed_sums, side_of, splits, tightened}
use Rattle.dual_bound.specs.declared.form.Form.{Form}
use Rattle.proof_tree.specs.declared.interval.Interval.{Interval}
use Rattle.proof_tree.specs.declared.tree.Leaf.{Leaf}
use Rattle.proof_tree.specs.declared.tree.Part.{Part}
use Rattle.proof_tree.specs.declared.tree.Part.TheVariants as parts
use Rattle.offer_book.proofs.CoefficientFacts.{coefficients-enclose}
use Rattle.offer_book.specs.Book.{BookContents, IsBook, IsLine}
use Rattle.offer_book.specs.Coefficients.{EnclosesUnits}
use Rattle.offer_book.specs.Sums.{coarse_step}
use Rattle.offer_book.specs.declared.coefficients.TheConstants.{COEFFICIENT_SCALE}
use Rattle.proof_tree.specs.declared.weights.Side.{Side}
use Rattle.proof_tree.specs.declared.weights.Side.TheVariants.{AtLeast, AtMost}
use Rattle.proof_tree.specs.declared.weights.SumWeight.{SumWeight}
use Rattle.offer_book.specs.Portfolio.{IsPermittedUnits}
use Rattle.offer_book.specs.declared.line.Line.{Line}

-- an interval lies in another
record LiesIn (inner outer : Interval) : Type 0 where
  low : outer.low ≤ inner.low
  high : inner.high ≤ outer.high

-- ---- one line
affine-least : (form : Form) (a x b : ℕ) → a ≤ x → x ≤ b → int_min (form_at form a) (form_at form b) ≤ℤ form_at form x
affine-least form a x b from to = at form.slope
  where
    at : (slope : ℤ) → int_min (slope *ℤ pos a -ℤ pos form.slack) (slope *ℤ pos b -ℤ pos form.slack) ≤ℤ (slope *ℤ pos x -ℤ pos form.slack)
    at (pos m) = omega (arith, ints, clamps, mul-le-mul_left m from)
    at (negsuc m) = omega (arith, ints, clamps, mul-le-mul_left (suc m) to)

some-least : (line : Line) (units : ℕ) → IsPermittedUnits line units → 0 < units → line.least ≤ units
some-least line units (inl none) some = absurd (omega arith)
some-least line units (inr within) some = within.0

least-rises : (n : ℕ) (book : BookContents) (leaf : Leaf) (line : Line) (inner outer : Interval) → ((units : ℕ) → EnclosesUnits book.days line units) → IsTight line inner → IsTight line outer → LiesIn inner outer
    → least_within n book leaf line outer ≤ℤ least_within n book leaf line inner
least-rises n book leaf line inner outer enclose tight own lies = by (inner.low == inner.high) refl (inner.low == 0) refl (outer.low == outer.high) refl (outer.low == 0) refl
  where
    form : Form
    form = form_of n book leaf line

    single : least_within n book leaf line outer ≤ℤ reduced_cost n book leaf line inner.low
    single = least-le n book leaf line (unit_load book leaf.weights line) outer inner.low (enclose inner.low) tight.low (record { low = lies.low; high = omega (arith, lies.high, tight.ordered) })

    affine : (a x : ℕ) → a ≤ x → x ≤ outer.high → int_min (form_at form a) (form_at form outer.high) ≤ℤ form_at form x
    affine a x from to = affine-least form a x outer.high from to

    by : (one : Bool) → (inner.low == inner.high) ≡ one → (none : Bool) → (inner.low == 0) ≡ none → (one_out : Bool) → (outer.low == outer.high) ≡ one_out → (none_out : Bool) → (outer.low == 0) ≡ none_out
        → least_within n book leaf line outer ≤ℤ
        (if one then reduced_cost n book leaf line inner.low
        else if none then int_min (pos 0) (int_min (form_at form line.least) (form_at form inner.high))
        else int_min (form_at form inner.low) (form_at form inner.high))
    by true e none f one_out g none_out h = single
    by false e none f true g none_out h = absurd (
        let apart : inner.low ≡ inner.high → ⊥ = (λ same. grind (arith, nat_tests, e, same)) in
        let same : outer.low ≡ outer.high = grind (arith, nat_tests, g) in
        omega (arith, apart, same, lies.low, lies.high, tight.ordered))
    by false e true f false g true h =
        let some : 0 < inner.high = (let apart : inner.low ≡ inner.high → ⊥ = (λ same. grind (arith, nat_tests, e, same)) in let zero_low : inner.low ≡ 0 = grind (arith, nat_tests, f) in omega (arith, apart, zero_low)) in
        rw (g, h) (omega (arith, ints, clamps, affine line.least inner.high (some-least line inner.high tight.high some) lies.high))
    by false e true f false g false h = absurd (
        let zero_low : inner.low ≡ 0 = grind (arith, nat_tests, f) in
        let some : outer.low ≡ 0 → ⊥ = (λ same. grind (arith, nat_tests, h, same)) in
        omega (arith, zero_low, some, lies.low))
    by false e false f false g true h =
        let some : inner.low ≡ 0 → ⊥ = (λ same. grind (arith, nat_tests, f, same)) in
        let least = some-least line inner.low tight.low (omega (arith, some)) in
        rw (g, h) (omega (arith, ints, clamps, affine line.least inner.low least (omega (arith, tight.ordered, lies.high)), affine line.least inner.high (omega (arith, least, tight.ordered)) lies.high))
    by false e false f false g false h =
        rw (g, h) (omega (arith, ints, clamps, affine outer.low inner.low lies.low (omega (arith, tight.ordered, lies.high)), affine outer.low inner.high (omega (arith, lies.low, tight.ordered)) lies.high))

-- ---- the side of a split lies in the interval
low-rises : (low least : ℕ) → low ≤ (if nat_lt 0 low && nat_lt low least then least else low)
low-rises low least = by (nat_lt 0 low && nat_lt low least) refl
  where
    by : (b : Bool) → (nat_lt 0 low && nat_lt low least) ≡ b → low ≤ (if b then least else low)
    by true e = grind (arith, nat_tests, e)
    by false e = omega arith

high-falls : (high least : ℕ) → (if nat_lt high least then 0 else high) ≤ high
high-falls high least = by (nat_lt high least)
  where
    by : (b : Bool) → (if b then 0 else high) ≤ high
    by true = omega arith
    by false = omega arith

side-lies : (line : Line) (interval : Interval) (at : ℕ) (right : Bool) → interval.low ≤ at → at < interval.high → LiesIn (tightened line (side_of interval at right)) interval
side-lies line interval at false from to = record { low = low-rises interval.low line.least; high = omega (arith, high-falls at line.least, to) }
side-lies line interval at true from to = record { low = omega (arith, low-rises (at + 1) line.least, from); high = high-falls interval.high line.least }

-- ---- all lines
sum-rises : (n : ℕ) (book : BookContents) (leaf : Leaf) (lines : List Line) (ranges : List Interval) (line at : ℕ) (right : Bool) → ((own : Line) → IsLine book.days own → (units : ℕ) → EnclosesUnits book.days own units)
    → All (IsLine book.days) lines → AllZip IsTight lines ranges → IsTrue (splits ranges line at)
    → signed_sum (λ (p : Line × Interval). least_within n book leaf p.0 p.1) (zip lines ranges) ≤ℤ signed_sum (λ (p : Line × Interval). least_within n book leaf p.0 p.1) (zip lines (narrowed_lines lines ranges line at right))
sum-rises n book leaf [] ranges line at right enclose are tight proper = omega (arith, ints)
sum-rises n book leaf (own ∷ lines) [] line at right enclose are tight proper = absurd tight
sum-rises n book leaf (own ∷ lines) (interval ∷ ranges) zero at right enclose are tight proper =
    let split = splits-at (interval ∷ ranges) 0 at proper in
    let lies = side-lies own interval at right (split.left interval) (split.right interval) in
    let sides = sides-tight (own ∷ lines) (interval ∷ ranges) 0 at right tight proper in
    let first = least-rises n book leaf own (tightened own (side_of interval at right)) interval (enclose own (All-head (IsLine book.days) own lines are)) sides.0 tight.0 lies in
    omega (arith, ints, first)
sum-rises n book leaf (own ∷ lines) (interval ∷ ranges) (suc line) at right enclose are tight proper =
    let rest = sum-rises n book leaf lines ranges line at right enclose (All-tail (IsLine book.days) own lines are) tight.1 proper in
    omega (arith, ints, rest)

-- ---- the ends of sums that are weighed
-- an interval of a sum lies in the one before a split
sum-lies : (sums : List Interval) (sum at : ℕ) (right : Bool) (place : ℕ) → IsTrue (splits sums sum at)
    → ((sum_at sums place).low ≤ (sum_at (narrowed_sums sums sum at right) place).low) × ((sum_at (narrowed_sums sums sum at right) place).high ≤ (sum_at sums place).high)
sum-lies [] sum at right place proper = (omega arith, omega arith)
sum-lies (interval ∷ sums) zero at right zero proper =
    let split = splits-at (interval ∷ sums) 0 at proper in
    by right (split.left interval) (split.right interval)
  where
    by : (right : Bool) → interval.low ≤ at → at < interval.high → (interval.low ≤ (side_of interval at right).low) × ((side_of interval at right).high ≤ interval.high)
    by false from to = (omega arith, omega (arith, to))
    by true from to = (omega (arith, from), omega arith)
sum-lies (interval ∷ sums) zero at right (suc place) proper = (omega arith, omega arith)
sum-lies (interval ∷ sums) (suc sum) at right zero proper = (omega arith, omega arith)
sum-lies (interval ∷ sums) (suc sum) at right (suc place) proper = sum-lies sums sum at right place proper

end-rises : (book : BookContents) (sums : List Interval) (sum at : ℕ) (right : Bool) (own : SumWeight) → IsTrue (splits sums sum at)
    → weighed_end book sums own ≤ℤ weighed_end book (narrowed_sums sums sum at right) own
end-rises book sums sum at right own proper =
    scale-le (COEFFICIENT_SCALE * coarse_step book) _ _ (by own.side (sum-lies sums sum at right own.sum proper).0 (sum-lies sums sum at right own.sum proper).1)
  where
    by : (side : Side) → (sum_at sums own.sum).low ≤ (sum_at (narrowed_sums sums sum at right) own.sum).low → (sum_at (narrowed_sums sums sum at right) own.sum).high ≤ (sum_at sums own.sum).high
        → (by_side side (pos own.weight) (neg_ℤ (pos own.weight)) *ℤ pos (by_side side (sum_at sums own.sum).low (sum_at sums own.sum).high))
        ≤ℤ (by_side side (pos own.weight) (neg_ℤ (pos own.weight)) *ℤ pos (by_side side (sum_at (narrowed_sums sums sum at right) own.sum).low (sum_at (narrowed_sums sums sum at right) own.sum).high))
    by AtLeast low high =
        omega (
          arith,
          ints,
          pos-mul own.weight (sum_at sums own.sum).low,
          pos-mul own.weight (sum_at (narrowed_sums sums sum at right) own.sum).low,
          mul-le-mul_left own.weight low,
        )
    by AtMost low high =
        omega (
          arith,
          ints,
          neg-mul (pos own.weight) (pos (sum_at sums own.sum).high),
          neg-mul (pos own.weight) (pos (sum_at (narrowed_sums sums sum at right) own.sum).high),
          pos-mul own.weight (sum_at sums own.sum).high,
          pos-mul own.weight (sum_at (narrowed_sums sums sum at right) own.sum).high,
          mul-le-mul_left own.weight high,
        )

ends-rise : (book : BookContents) (sums : List Interval) (sum at : ℕ) (right : Bool) (weights : List SumWeight) → IsTrue (splits sums sum at)
    → weighed_ends book sums weights ≤ℤ weighed_ends book (narrowed_sums sums sum at right) weights
ends-rise book sums sum at right weights proper =
    signed_sum-le (weighed_end book sums) (weighed_end book (narrowed_sums sums sum at right)) weights (λ own. end-rises book sums sum at right own proper)

pub bound-rises : (n : ℕ) (book : BookContents) (leaf : Leaf) (ranges : RangesContents) (part : Part) (at : ℕ) (right : Bool) → IsBook book → AreTight book ranges → IsTrue (is_proper ranges part at)
    → bound_of n book ranges leaf ≤ℤ bound_of n book (narrowed book ranges part at right) leaf
unfolding bound_of
bound-rises n book leaf ranges (parts.Line line) at right limits tight proper =
    both (pos (COEFFICIENT_SCALE * priced_needs book.needs leaf.prices) +ℤ weighed_ends book ranges.sums leaf.weights) _ _
    (sum-rises n book leaf book.lines ranges.lines line at right (λ own is units. coefficients-enclose book.days own limits.settlement is units) (all-lines book.days book.lines limits.lines) tight.lines proper)
  where
    both : (first less more : ℤ) → less ≤ℤ more → (first +ℤ less) ≤ℤ (first +ℤ more)
    both first less more rises = omega (arith, ints)
bound-rises n book leaf ranges (parts.Sum sum) at right limits tight proper =
    both (pos (COEFFICIENT_SCALE * priced_needs book.needs leaf.prices)) _ _ (signed_sum (λ (p : Line × Interval). least_within n book leaf p.0 p.1) (zip book.lines ranges.lines))
    (ends-rise book ranges.sums sum at right leaf.weights proper)
  where
    both : (first less more lines : ℤ) → less ≤ℤ more → ((first +ℤ less) +ℤ lines) ≤ℤ ((first +ℤ more) +ℤ lines)
    both first less more lines rises = omega (arith, ints)
