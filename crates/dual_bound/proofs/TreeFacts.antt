-- A tree whose splits are proper and whose leaves and points are closed bears out its claim.
use Rattle.std.proofs.Common.{◌≡◌, ◌∙◌, ◌⊎◌, inl, inr, ℕ, ◌==◌, ◌-◌, ◌*◌, refl, sym, ap, subst, arith, List, [], ◌∷◌, length, Some, None, Bool, true, false, not, ◌&&◌, ◌||◌, ℤ, pos, ◌-ℤ◌, ◌*ℤ◌, ◌≤ℤ◌, ◌<ℤ◌, int_lt, if◌then◌else◌, All}
use Rattle.std.specs.Prelude.{IsTrue}
use Rattle.std.specs.List.{position}
use Rattle.std.proofs.Math.Nat.{mul_assoc}
use Rattle.std.proofs.lemmas.Int.{by_lt_z, ints}
use Rattle.std.proofs.lemmas.List.Elements.{All-cons, All-head, All-nil, All-tail, All-weaker}
use Rattle.case_file.specs.Case.{CaseContents}
use Rattle.cash_table.proofs.PermitFacts.{position_fails}
use Rattle.cash_table.proofs.PointFacts.{excluded_tells, no_rival}
use Rattle.cash_table.specs.Points.{is_excluded}
use Rattle.dual_bound.specs.Closing.{is_closed_leaf, is_closed_point, is_weak}
use Rattle.node_ranges.proofs.RangeLaws.{lows-held, only-one, root_holds_all, root_is_tight, splits_cover}
use Rattle.node_ranges.proofs.RangeFacts.{part-tight}
use Rattle.dual_bound.proofs.Signed.{pos-mul, scale-le}
use Rattle.dual_bound.proofs.Soundness.{bounds-all, bounds-rivals}
use Rattle.dual_bound.specs.Duality.{CostsAtLeast}
use Rattle.dual_bound.specs.LeafBound.{bound_of}
use Rattle.node_ranges.specs.Ranges.{AreTight, Hold, IsWithin, RangesContents, is_proper, is_single, narrowed, root_of}
use Rattle.node_ranges.specs.Claims.{Claim, bears_out_by, costs_enough, is_bad_split, low_ends, placed, placed_nodes}
use Rattle.proof_tree.specs.Tree.{AreTrees, IsLeaf, IsNode, IsPriced}
use Rattle.proof_tree.specs.declared.tree.Leaf.{Leaf}
use Rattle.proof_tree.specs.declared.tree.TreeNode.{TreeNode}
use Rattle.proof_tree.specs.declared.tree.TreeNode.TheVariants as node
use Rattle.offer_book.specs.Book.{BookContents, IsBook}
use Rattle.offer_book.specs.Portfolio.{IsPermitted, Meets, cost}
use Rattle.offer_book.specs.Rival.{IsRival}
use Rattle.offer_book.specs.declared.coefficients.TheConstants.{COEFFICIENT_SCALE}

-- a portfolio bears out a claim: it costs no less; without a claim there is none
abbrev pub BearsOut : BookContents → Claim → List ℕ → Type 0
BearsOut book None plan = ⊥
BearsOut book (Some least) plan = least ≤ℤ pos (cost book plan)

-- some of the ranges that are waiting hold a portfolio
abbrev HeldBy : BookContents → List RangesContents → List ℕ → Type 0
HeldBy book [] plan = ⊥
HeldBy book (ranges ∷ waiting) plan = Hold book ranges plan ⊎ HeldBy book waiting plan

abbrev pub IsGood : TreeNode × RangesContents → Type 0
IsGood p = is_bad_split p ≡ false

abbrev pub IsClosed : CaseContents → Claim → TreeNode × RangesContents → Type 0
IsClosed case claim p = is_weak case claim p ≡ false

from-not : (t : Bool) → not t ≡ false → t ≡ true
from-not true e = refl
from-not false e = sym e

not-true : false ≡ true → ⊥
not-true e = grind arith

both : (a b : Bool) → (a && b) ≡ true → (a ≡ true) × (b ≡ true)
both true b e = (refl, e)
both false b e = absurd (grind arith)

either : (a b : Bool) → (a || b) ≡ true → (a ≡ true) ⊎ (b ≡ true)
either true b e = inl refl
either false b e = inr e

-- what ranges hold lies within them
hold-within : (book : BookContents) (ranges : RangesContents) (plan : List ℕ) → Hold book ranges plan → IsWithin book ranges plan
hold-within book ranges plan hold = record { lines = hold.lines.within; sums = hold.sums }

-- ---- what closed leaves and points say of a portfolio, for the nodes of a tree
pub record Tells (case : CaseContents) (claim : Claim) (plan : List ℕ) (next : TreeNode) : Type 0 where
  pub leaf : (ranges : RangesContents) (leaf : Leaf) → next ≡ node.Closed leaf → IsLeaf (length case.book.needs) leaf → Hold case.book ranges plan
      → is_closed_leaf case claim ranges leaf ≡ true → BearsOut case.book claim plan
  pub point : (ranges : RangesContents) → next ≡ node.Point → AreTight case.book ranges → Hold case.book ranges plan
      → is_closed_point case claim ranges ≡ true → BearsOut case.book claim plan

-- a tree, walked in its order
tree-bears_out : (case : CaseContents) (claim : Claim) (plan : List ℕ) (nodes : List TreeNode) (waiting : List RangesContents) → AreTrees (length waiting) nodes
    → All (IsNode (length case.book.needs)) nodes → All (Tells case claim plan) nodes → All (AreTight case.book) waiting
    → All IsGood (placed case.book waiting nodes) → All (IsClosed case claim) (placed case.book waiting nodes)
    → HeldBy case.book waiting plan → BearsOut case.book claim plan
tree-bears_out case claim plan nodes [] trees are tell tight good closed held = absurd held
tree-bears_out case claim plan [] (ranges ∷ waiting) trees are tell tight good closed held = absurd trees
tree-bears_out case claim plan (node.Split split at ∷ nodes) (ranges ∷ waiting) trees are tell tight good closed held =
    let book = case.book in
    let left = narrowed book ranges split at false in
    let right = narrowed book ranges split at true in
    let here = All-head (AreTight book) ranges waiting tight in
    let rest = All-tail (AreTight book) ranges waiting tight in
    let proper : IsTrue (is_proper ranges split at) = from-not (is_proper ranges split at) (All-head IsGood (node.Split split at, ranges) (placed book (left ∷ right ∷ waiting) nodes) good) in
    let covers = splits_cover book ranges split at here proper plan in
    let sides = All-cons (AreTight book) left (right ∷ waiting) (part-tight book ranges split at false here proper)
    (All-cons (AreTight book) right waiting (part-tight book ranges split at true here proper) rest) in
    tree-bears_out case claim plan nodes (left ∷ right ∷ waiting) trees
    (All-tail (IsNode (length case.book.needs)) (node.Split split at) nodes are) (All-tail (Tells case claim plan) (node.Split split at) nodes tell) sides
    (All-tail IsGood (node.Split split at, ranges) (placed book (left ∷ right ∷ waiting) nodes) good)
    (All-tail (IsClosed case claim) (node.Split split at, ranges) (placed book (left ∷ right ∷ waiting) nodes) closed)
    (elim held [
      | inl hold ↦ elim (covers.one hold) [
        | inl first ↦ inl first
        | inr second ↦ inr (inl second)
      ]
      | inr later ↦ inr (inr later)
    ])
tree-bears_out case claim plan (node.Point ∷ nodes) (ranges ∷ waiting) trees are tell tight good closed held =
    let book = case.book in
    let closed_here = from-not (is_closed_point case claim ranges) (All-head (IsClosed case claim) (node.Point, ranges) (placed book waiting nodes) closed) in
    elim held [
      | inl hold ↦ (All-head (Tells case claim plan) node.Point nodes tell).point ranges refl (All-head (AreTight book) ranges waiting tight) hold closed_here
      | inr later ↦ tree-bears_out case claim plan nodes waiting trees
          (All-tail (IsNode (length case.book.needs)) node.Point nodes are) (All-tail (Tells case claim plan) node.Point nodes tell) (All-tail (AreTight book) ranges waiting tight)
          (All-tail IsGood (node.Point, ranges) (placed book waiting nodes) good) (All-tail (IsClosed case claim) (node.Point, ranges) (placed book waiting nodes) closed) later
    ]
tree-bears_out case claim plan (node.Closed leaf ∷ nodes) (ranges ∷ waiting) trees are tell tight good closed held =
    let book = case.book in
    let closed_here = from-not (is_closed_leaf case claim ranges leaf) (All-head (IsClosed case claim) (node.Closed leaf, ranges) (placed book waiting nodes) closed) in
    elim held [
      | inl hold ↦ (All-head (Tells case claim plan) (node.Closed leaf) nodes tell).leaf ranges leaf refl (All-head (IsNode (length case.book.needs)) (node.Closed leaf) nodes are) hold closed_here
      | inr later ↦ tree-bears_out case claim plan nodes waiting trees
          (All-tail (IsNode (length case.book.needs)) (node.Closed leaf) nodes are) (All-tail (Tells case claim plan) (node.Closed leaf) nodes tell) (All-tail (AreTight book) ranges waiting tight)
          (All-tail IsGood (node.Closed leaf, ranges) (placed book waiting nodes) good) (All-tail (IsClosed case claim) (node.Closed leaf, ranges) (placed book waiting nodes) closed) later
    ]

-- ---- a closed leaf, by what its bound bounds
leaf-tells : (case : CaseContents) (claim : Claim) (plan : List ℕ) (ranges : RangesContents) (leaf : Leaf)
    → CostsAtLeast (bound_of (case.limit - 1) case.book ranges leaf) case.book leaf plan → is_closed_leaf case claim ranges leaf ≡ true → BearsOut case.book claim plan
leaf-tells case claim plan ranges leaf costs closed = by leaf.rho (leaf.rho == 0) refl costs claim closed
  where
    bound : ℤ
    bound = bound_of (case.limit - 1) case.book ranges leaf

    lt-of : (a b : ℤ) → int_lt a b ≡ true → a <ℤ b
    lt-of a b closed = omega (arith, ints)

    by : (rho : ℕ) (none : Bool) → (rho == 0) ≡ none → bound ≤ℤ pos (COEFFICIENT_SCALE * (rho * cost case.book plan))
        → (asked : Claim) → (if none then int_lt (pos 0) bound else bears_out_by rho bound asked) ≡ true → BearsOut case.book asked plan
    by rho false counts costs None closed = absurd (not-true closed)
    by rho false counts costs (Some least) closed = by_lt_z (pos (cost case.book plan)) least
        (λ less. absurd (
        let scaled = scale-le (COEFFICIENT_SCALE * rho) (pos (cost case.book plan)) (least -ℤ pos 1) (omega (arith, ints, less)) in
        let same = pos-mul (COEFFICIENT_SCALE * rho) (cost case.book plan) in
        let above : (pos (COEFFICIENT_SCALE * rho) *ℤ (least -ℤ pos 1)) <ℤ bound = lt-of _ _ closed in
        apart _ _ _ (COEFFICIENT_SCALE * (rho * cost case.book plan)) (COEFFICIENT_SCALE * rho * cost case.book plan) scaled same above costs (sym (mul_assoc COEFFICIENT_SCALE rho (cost case.book plan)))))
        (λ enough. enough)
      where
        apart : (weighed above_it product : ℤ) (most same_most : ℕ) → product ≤ℤ weighed → product ≡ pos same_most → weighed <ℤ above_it → above_it ≤ℤ pos most → most ≡ same_most → ⊥
        apart weighed above_it product most same_most a b e d same = omega (arith, ints)
    by rho true none costs asked closed = absurd (
        let above : pos 0 <ℤ bound = lt-of _ _ closed in
        let zero : rho ≡ 0 = equal_none rho none in
        let nothing : rho * cost case.book plan ≡ 0 * cost case.book plan = ap (λ r. r * cost case.book plan) zero in
        omega (arith, ints, above, costs, nothing))
      where
        equal_none : (n : ℕ) → (n == 0) ≡ true → n ≡ 0
        equal_none n e = grind (arith, e)

-- ---- a closed point: its ranges hold one portfolio
point-tells : (case : CaseContents) (claim : Claim) (plan : List ℕ) (ranges : RangesContents) → IsBook case.book → AreTight case.book ranges → Hold case.book ranges plan
    → (is_excluded case.book (case.limit - 1) plan ≡ true → ⊥) → is_closed_point case claim ranges ≡ true → BearsOut case.book claim plan
point-tells case claim plan ranges limits tight hold included closed =
    let parts = both (is_single ranges) (is_excluded case.book (case.limit - 1) (low_ends ranges) || costs_enough case.book claim (low_ends ranges)) closed in
    let same : low_ends ranges ≡ plan = only-one case.book.lines ranges.lines parts.0 (low_ends ranges) plan (lows-held case.book.lines ranges.lines tight.lines) hold.lines in
    elim (either (is_excluded case.book (case.limit - 1) (low_ends ranges)) (costs_enough case.book claim (low_ends ranges)) parts.1) [
      | inl excluded ↦ absurd (included (ap (is_excluded case.book (case.limit - 1)) (sym same) ∙ excluded))
      | inr enough ↦ by claim (ap (costs_enough case.book claim) (sym same) ∙ enough)
    ]
  where
    by : (asked : Claim) → costs_enough case.book asked plan ≡ true → BearsOut case.book asked plan
    by None enough = absurd (not-true enough)
    by (Some least) enough = omega (arith, ints)

-- ---- what the nodes of a tree tell of a rival
rival-told : (case : CaseContents) (claim : Claim) (rival : List ℕ) → IsBook case.book → IsRival case.limit case.book rival → (next : TreeNode) → Tells case claim rival next
rival-told case claim rival limits is next = record {
  leaf = λ ranges leaf same well hold closed.
      leaf-tells case claim rival ranges leaf (bounds-rivals case.limit case.book ranges leaf limits well rival is (hold-within case.book ranges rival hold)) closed;
  point = λ ranges same tight hold closed. point-tells case claim rival ranges limits tight hold
      (λ excluded. no_rival case.limit case.book rival ((excluded_tells case.book (case.limit - 1) rival limits).0 excluded) is) closed;
}

-- and, where no limit is weighed and there is no point, of every permitted portfolio that meets the needs
priced-told : (case : CaseContents) (claim : Claim) (plan : List ℕ) → IsBook case.book → IsPermitted case.book plan → Meets case.book plan → (next : TreeNode) → IsPriced next → Tells case claim plan next
priced-told case claim plan limits permitted covered next priced = record {
  leaf = λ ranges leaf same well hold closed.
      leaf-tells case claim plan ranges leaf (bounds-all (case.limit - 1) case.book ranges leaf limits well (subst IsPriced same priced) plan permitted covered (hold-within case.book ranges plan hold)) closed;
  point = λ ranges same tight hold closed. absurd (subst IsPriced same priced);
}

-- ---- a tree without a reason against it
pub rival-bears_out : (case : CaseContents) (claim : Claim) (nodes : List TreeNode) → IsBook case.book → AreTrees 1 nodes → All (IsNode (length case.book.needs)) nodes
    → position is_bad_split (placed_nodes case.book nodes) ≡ None → position (is_weak case claim) (placed_nodes case.book nodes) ≡ None
    → (rival : List ℕ) → IsRival case.limit case.book rival → BearsOut case.book claim rival
rival-bears_out case claim nodes limits trees are good closed rival is =
    let placed_at = placed_nodes case.book nodes in
    let root = root_of case.book in
    tree-bears_out case claim rival nodes (root ∷ []) trees are
    (λ k d few. rival-told case claim rival limits is _)
    (All-cons (AreTight case.book) root [] (root_is_tight case.book limits) (All-nil (AreTight case.book)))
    (position_fails is_bad_split placed_at good) (position_fails (is_weak case claim) placed_at closed)
    (inl ((root_holds_all case.book rival).0 is.permitted))

pub priced-bears_out : (case : CaseContents) (claim : Claim) (nodes : List TreeNode) → IsBook case.book → AreTrees 1 nodes → All (IsNode (length case.book.needs)) nodes → All IsPriced nodes
    → position is_bad_split (placed_nodes case.book nodes) ≡ None → position (is_weak case claim) (placed_nodes case.book nodes) ≡ None
    → (plan : List ℕ) → IsPermitted case.book plan → Meets case.book plan → BearsOut case.book claim plan
priced-bears_out case claim nodes limits trees are priced good closed plan permitted covered =
    let placed_at = placed_nodes case.book nodes in
    let root = root_of case.book in
    tree-bears_out case claim plan nodes (root ∷ []) trees are
    (All-weaker IsPriced (Tells case claim plan) (λ next is. priced-told case claim plan limits permitted covered next is) nodes priced)
    (All-cons (AreTight case.book) root [] (root_is_tight case.book limits) (All-nil (AreTight case.book)))
    (position_fails is_bad_split placed_at good) (position_fails (is_weak case claim) placed_at closed)
    (inl ((root_holds_all case.book plan).0 permitted))
