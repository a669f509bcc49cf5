-- What a tree comes to whose budget is spent.
use Rattle.std.proofs.Common.{◌≡◌, ◌∙◌, ◌⊎◌, inl, inr, ℕ, zero, suc, ◌+◌, ◌-◌, ◌*◌, ◌<◌, ◌≤◌, ◌==◌, ℤ, pos, ◌-ℤ◌, ◌≤ℤ◌, Bool, true, false, ◌&&◌, ◌||◌, if◌then◌else◌, List, [], ◌∷◌, length, refl, sym, ap, subst, arith, length-append, Option, Some, None, Result, Ok, Err}
use Rattle.std.specs.Prelude.{option_map}
use Rattle.std.specs.List.{All}
use Rattle.std.proofs.lemmas.Bool.{cases_lt}
use Rattle.std.proofs.lemmas.Bool.Decides.{nat_tests}
use Rattle.std.proofs.lemmas.Int.{ints}
use Rattle.std.proofs.lemmas.List.{get_or_past}
use Rattle.backward_build.specs.BackwardPlan.{backward_plan}
use Rattle.backward_build.specs.declared.backward.BuildEnd.{BuildEnd}
use Rattle.case_file.specs.Case.{CaseContents}
use Rattle.cash_table.proofs.PermitFacts.{position_none}
use Rattle.cash_table.specs.Points.{is_excluded, is_within_limit}
use Rattle.dual_bound.specs.LeafBound.{least_cost_of}
use Rattle.dual_bound.proofs.TreeFacts.{rival-bears_out}
use Rattle.dual_bound.specs.Closing.{is_closed_point, is_weak}
use Rattle.node_ranges.specs.Ranges.{RangesContents, is_single, narrowed, root_of}
use Rattle.node_ranges.specs.Claims.{bears_out, costs_enough, is_bad_split, low_ends, placed_nodes}
use Rattle.proof_tree.specs.declared.prices.TheConstants.{PRICE_SCALE}
use Rattle.proof_tree.specs.declared.tree.TreeNode.{TreeNode}
use Rattle.proof_tree.specs.declared.tree.TreeNode.TheVariants as node
use Rattle.proof_tree.specs.declared.tree.Part.TheVariants as part
use Rattle.halving_tree.specs.Base.{base_leaf}
use Rattle.halving_tree.specs.Halving.{End, HasMoreNodes, IsUpperPart, Split as Halved, Splits, claim_within, is_borne_out, is_end, is_unreached, node_count}
use Rattle.node_pool.specs.Pool.{IsOneTree, SplitsAreWhole, state_at}
use Rattle.node_pool.specs.Tree.{AreEnded, IsTreeOf, Leaf as TreeLeaf, Split, Tree, preorder}
use Rattle.node_pool.specs.Way.{IsStep, IsWay, Step, ranges_at}
use Rattle.node_pool.specs.declared.node.NodeId.{NodeId}
use Rattle.node_pool.specs.declared.node.State.{State}
use Rattle.node_pool.specs.declared.node.State.TheVariants as state
use Rattle.offer_book.specs.Book.{BookContents, IsBook}
use Rattle.offer_book.specs.Portfolio.{cost}
use Rattle.offer_book.specs.Rival.{IsRival}
use Rattle.search_tree.proofs.Count.{nodes-all}
use Rattle.search_tree.proofs.EndFacts.{EndsAt, HasShown, IsEndAt, IsEndTree, IsWritten, all-at, ends-end, ends_of, split-there, weak-by, well-written}
use Rattle.search_tree.proofs.ClosedFacts.{IsBorneNode, closed-shown, node-bears}
use Rattle.search_tree.proofs.Shape.{AllAt, all-placed, leaf-holds, left-way, right-way, to-nodes}
use Rattle.search_tree.proofs.Ways.{some-way}
use Rattle.search_tree.specs.Growing.{GoesOn, IsAt, IsClosedBy, IsHalvingSplit, IsKept, IsNodeAt, IsPriced, IsSplitNode, IsStuck, claim_of_best, node_of}
use Rattle.search_tree.specs.Best.{CoversBackward, IsAtMost}
use Rattle.search_tree.specs.Laws.{IsFull, ShowsBound}
use Rattle.search_tree.specs.Shows.{AreStepsAtMost, HoldsBound, IsBoundOf, IsNeededSplit, IsWell, IsWorthAtMost}
use Rattle.search_tree.specs.Tree.{IsDrained, IsDrainedNode, TreeContents, end_by, end_node}
use Rattle.search_tree.specs.declared.node.Closing.{Closing}
use Rattle.search_tree.specs.declared.node.Closing.TheVariants as closing
use Rattle.search_tree.specs.declared.node.SearchNode.{SearchNode}

-- ---- an open node is none of the ends of the halving tree
not-lower : (base bound : ℤ) (cents built allowance : ℕ) → base ≤ℤ bound → cents ≤ built → bears_out bound (Some (pos cents -ℤ pos allowance)) ≡ false → bears_out base (Some (pos built -ℤ pos allowance)) ≡ false
not-lower base bound cents built allowance up most free = by (bears_out base (Some (pos built -ℤ pos allowance))) refl
  where
    by : (b : Bool) → bears_out base (Some (pos built -ℤ pos allowance)) ≡ b → bears_out base (Some (pos built -ℤ pos allowance)) ≡ false
    by true is = absurd (omega (arith, ints, is, free, up, most))
    by false is = is

claim-open : (case : CaseContents) (best : Option ℕ) (base bound : ℤ) (plan : Result (List ℕ) BuildEnd) → backward_plan case.book ≡ plan → CoversBackward case best → base ≤ℤ bound
    → bears_out bound (claim_of_best case best) ≡ false → bears_out base (claim_within case plan) ≡ false
claim-open case best base bound (Err fault) is covers up not_borne = refl
claim-open case best base bound (Ok built) is covers up not_borne = by (is_within_limit case.limit case.book built) refl
  where
    lower : (cents : Option ℕ) → IsAtMost cents (cost case.book built) → bears_out bound (claim_of_best case cents) ≡ false → bears_out base (Some (pos (cost case.book built) -ℤ pos case.allowance)) ≡ false
    lower None most free = absurd most
    lower (Some cents) most free = not-lower base bound cents (cost case.book built) case.allowance up most free

    by : (b : Bool) → is_within_limit case.limit case.book built ≡ b → bears_out base (if b then Some (pos (cost case.book built) -ℤ pos case.allowance) else None) ≡ false
    by true within = lower best (covers built is within) not_borne
    by false within = refl

pub goes-on : (case : CaseContents) (best : Option ℕ) (ranges : RangesContents) (bound : ℤ) → CoversBackward case best → least_cost_of (case.limit - 1) case.book ranges (base_leaf case.book) ≤ℤ bound → GoesOn case best ranges bound
    → is_end case ranges ≡ false
goes-on case best ranges bound covers up open_node =
    none (is_single ranges) (is_borne_out case ranges) (is_unreached case ranges) open_node.several
    (claim-open case best (least_cost_of (case.limit - 1) case.book ranges (base_leaf case.book)) bound (backward_plan case.book) refl covers up open_node.not_borne) open_node.reached
  where
    none : (a b c : Bool) → a ≡ false → b ≡ false → c ≡ false → (a || (b || c)) ≡ false
    none a b c one two three = cc

-- ---- what the bound is, in cents
no-gap : (cents : ℕ) → pos cents -ℤ pos 0 ≡ pos cents
no-gap cents = omega (arith, ints)

zero-borne : (bound : ℤ) → pos 0 ≤ℤ bound → bears_out bound (Some (pos 0)) ≡ true
zero-borne bound some = grind (arith, ints)

worth-most : (bound : ℤ) (cents : ℕ) → bears_out bound (Some (pos (cents + 1))) ≡ false → IsWorthAtMost cents bound
worth-most bound cents not_borne = grind (arith, ints)

pub bound-of : (bound : ℤ) (cents : ℕ) → pos 0 ≤ℤ bound → (cents ≡ 0) ⊎ (bears_out bound (Some (pos cents -ℤ pos 0)) ≡ true)
    → ((more : ℕ) → bears_out bound (Some (pos more -ℤ pos 0)) ≡ true → more ≤ cents) → IsBoundOf bound cents
bound-of bound cents some supported greatest = record {
  borne = elim supported [
    | inl none ↦ subst (λ (c : ℕ). bears_out bound (Some (pos c)) ≡ true) (sym none) (zero-borne bound some)
    | inr borne ↦ subst (λ (c : ℤ). bears_out bound (Some c) ≡ true) (no-gap cents) borne
  ];
  most = worth-most bound cents (by (bears_out bound (Some (pos (cents + 1)))) refl);
  greatest = λ more borne. greatest more (subst (λ (c : ℤ). bears_out bound (Some c) ≡ true) (sym (no-gap more)) borne);
}
  where
    by : (b : Bool) → bears_out bound (Some (pos (cents + 1))) ≡ b → bears_out bound (Some (pos (cents + 1))) ≡ false
    by true is = absurd (omega (arith, greatest (cents + 1) (subst (λ (c : ℤ). bears_out bound (Some c) ≡ true) (sym (no-gap (cents + 1))) is)))
    by false is = is

-- a best plan costs more, by more than the allowance
pub over-bound : (case : CaseContents) (bound : ℤ) (cents best : ℕ) → IsBoundOf bound cents → bears_out bound (claim_of_best case (Some best)) ≡ false → cents + case.allowance < best
over-bound case bound cents best is not_borne = by bound cents best case.allowance is.borne not_borne
  where
    by : (bound : ℤ) (cents best allowance : ℕ) → bears_out bound (Some (pos cents)) ≡ true → bears_out bound (Some (pos best -ℤ pos allowance)) ≡ false → cents + allowance < best
    by bound cents best allowance one other = omega (arith, ints, one, other)

-- ---- the tree, once its waiting nodes are closed
abbrev Settled : CaseContents → ℕ → RangesContents → SearchNode → Type 0
Settled case cents ranges own = (is_weak case (Some (pos cents)) (end_node case.book.needs own, ranges) ≡ false) × HasShown case ranges own

higher-borne : (bound higher : ℤ) (cents : ℕ) → bound ≤ℤ higher → bears_out bound (Some (pos cents)) ≡ true → bears_out higher (Some (pos cents)) ≡ true
higher-borne bound higher cents up borne = grind (arith, ints)

claim-settled : (case : CaseContents) (bound : ℤ) (cents : ℕ) (best : Option ℕ) → ((own : ℕ) → best ≡ Some own → cents + case.allowance < own) → bears_out bound (claim_of_best case best) ≡ true → bears_out bound (Some (pos cents)) ≡ true
claim-settled case bound cents None over borne = absurd (cc)
claim-settled case bound cents (Some own) over borne = by bound cents own case.allowance (over own refl) borne
  where
    by : (bound : ℤ) (cents own allowance : ℕ) → cents + allowance < own → bears_out bound (Some (pos own -ℤ pos allowance)) ≡ true → bears_out bound (Some (pos cents)) ≡ true
    by bound cents own allowance less borne = grind (arith, ints)

point-settled : (case : CaseContents) (cents : ℕ) (best : Option ℕ) (ranges : RangesContents) → ((own : ℕ) → best ≡ Some own → cents + case.allowance < own) → is_closed_point case (option_map pos best) ranges ≡ true
    → is_closed_point case (Some (pos cents)) ranges ≡ true
point-settled case cents best ranges over is =
    more (is_single ranges) (is_excluded case.book (case.limit - 1) (low_ends ranges)) (costs_enough case.book (option_map pos best) (low_ends ranges)) (costs_enough case.book (Some (pos cents)) (low_ends ranges)) (by best over) is
  where
    more : (single excluded enough less : Bool) → (enough ≡ true → less ≡ true) → (single && (excluded || enough)) ≡ true → (single && (excluded || less)) ≡ true
    more true true enough less up is = refl
    more true false enough less up is = up is
    more false excluded enough less up is = is

    by : (b : Option ℕ) → ((own : ℕ) → b ≡ Some own → cents + case.allowance < own) → costs_enough case.book (option_map pos b) (low_ends ranges) ≡ true → costs_enough case.book (Some (pos cents)) (low_ends ranges) ≡ true
    by None over enough = absurd (cc)
    by (Some own) over enough = (let less = over own refl in grind (arith, ints))

closed-settled : (case : CaseContents) (cents : ℕ) (best : Option ℕ) (ranges : RangesContents) (own : SearchNode) → ((cost : ℕ) → best ≡ Some cost → cents + case.allowance < cost) → IsPriced case ranges own.priced
    → IsClosedBy case best ranges own.priced.bound own.closing → Settled case cents ranges own
closed-settled case cents best ranges own over priced closed = (
  weak-by case (Some (pos cents)) ranges own priced
      (λ none. subst (IsClosedBy case best ranges own.priced.bound) none closed)
      (λ borne. claim-settled case own.priced.bound cents best over (subst (IsClosedBy case best ranges own.priced.bound) borne closed))
      (λ day unreached. subst (IsClosedBy case best ranges own.priced.bound) unreached closed)
      (closed-shown case best ranges own closed)
      (λ point. point-settled case cents best ranges over ((subst (IsClosedBy case best ranges own.priced.bound) point closed).closed)),
  closed-shown case best ranges own closed,
)

-- a node that waited
waited-settled : (case : CaseContents) (cents : ℕ) (ranges : RangesContents) (own : SearchNode) → IsPriced case ranges own.priced → bears_out own.priced.bound (Some (pos cents)) ≡ true
    → Settled case cents ranges (record own { closing = closing.Borne })
waited-settled case cents ranges own priced borne = (
  weak-by case (Some (pos cents)) ranges (record own { closing = closing.Borne }) priced (λ none. absurd (cc)) (λ is. borne) (λ day is. absurd (cc)) (λ leaf is. absurd (cc)) (λ is. absurd (cc)),
  λ leaf is. absurd (cc),
)

-- each node, by its state before
node-settled : (case : CaseContents) (Obeys : RangesContents → ℕ → ℕ → Type 0) (best : Option ℕ) (cents : ℕ) (popped : ℤ) (number : ℕ) (ranges : RangesContents) (own after : SearchNode) (s t : State) → ((cost : ℕ) → best ≡ Some cost → cents + case.allowance < cost)
    → bears_out popped (Some (pos cents)) ≡ true → (s ≡ state.InHand → ⊥) → IsNodeAt case Obeys best popped number ranges own s → IsDrainedNode number s own t after
    → IsEndAt case Obeys popped (Settled case cents) number ranges after t
node-settled case Obeys best cents popped number ranges own after (state.Waiting key) t over borne hand is drained =
    subst (λ (n : SearchNode). IsEndAt case Obeys popped (Settled case cents) number ranges n t) (sym drained.1)
    (subst (λ (u : State). IsEndAt case Obeys popped (Settled case cents) number ranges (record own { closing = closing.Borne }) u) (sym drained.0)
    (record { priced = is.priced; ends = (refl, waited-settled case cents ranges own is.priced (higher-borne popped own.priced.bound cents (omega (arith, ints, is.stands.0, is.stands.1)) borne)) }))
node-settled case Obeys best cents popped number ranges own after state.InHand t over borne hand is drained = absurd (hand refl)
node-settled case Obeys best cents popped number ranges own after (state.Closed leaf) t over borne hand is drained =
    subst (λ (n : SearchNode). IsEndAt case Obeys popped (Settled case cents) number ranges n t) (sym drained.1)
    (subst (λ (u : State). IsEndAt case Obeys popped (Settled case cents) number ranges own u) (sym drained.0)
    (record { priced = is.priced; ends = (is.stands.0, closed-settled case cents best ranges own over is.priced is.stands.1) }))
node-settled case Obeys best cents popped number ranges own after (state.Split line at left right) t over borne hand is drained =
    subst (λ (n : SearchNode). IsEndAt case Obeys popped (Settled case cents) number ranges n t) (sym drained.1)
    (subst (λ (u : State). IsEndAt case Obeys popped (Settled case cents) number ranges own u) (sym drained.0)
    (record { priced = is.priced; ends = is.stands.0 }))

-- splits are as they were
split-before : (number : ℕ) (s t : State) (own after : SearchNode) (line at : ℕ) (left right : NodeId) → IsDrainedNode number s own t after → t ≡ state.Split line at left right → s ≡ state.Split line at left right
split-before number (state.Waiting key) t own after line at left right drained split = absurd (let clash : state.Closed number ≡ state.Split line at left right = sym drained.0 ∙ split in cc)
split-before number state.InHand t own after line at left right drained split = sym drained.0 ∙ split
split-before number (state.Closed leaf) t own after line at left right drained split = sym drained.0 ∙ split
split-before number (state.Split line2 at2 left2 right2) t own after line at left right drained split = sym drained.0 ∙ split

pub way-before : (before after : TreeContents) → IsDrained before after → (number : ℕ) (way : List Step) → IsWay after.pool.states number way → IsWay before.pool.states number way
way-before before after drained number [] way = way
way-before before after drained number (step ∷ above) way =
    let up : IsStep after.pool.states number way.0 step = way.1 in
    let there = split-there after.pool.states way.0 step.line step.at up.left up.right up.split in (
      way.0,
      record {
        left = up.left;
        right = up.right;
        split = split-before way.0 (state_at before.pool.states way.0) (state_at after.pool.states way.0) (node_of before.nodes way.0) (node_of after.nodes way.0) step.line step.at up.left up.right
            (drained.each way.0 (omega (arith, there, drained.states))) up.split;
        side = up.side;
      },
      way-before before after drained way.0 above way.2,
    )

pub settled-tree : (case : CaseContents) (Obeys : RangesContents → ℕ → ℕ → Type 0) (best : Option ℕ) (cents : ℕ) (popped : ℤ) (before after : TreeContents) → ((cost : ℕ) → best ≡ Some cost → cents + case.allowance < cost) → bears_out popped (Some (pos cents)) ≡ true
    → IsKept case Obeys best popped before.pool.states before.nodes → IsDrained before after → IsOneTree after.pool.states → SplitsAreWhole after.pool.states → AreEnded after.pool.states → IsEndTree case Obeys popped (Settled case cents) after
settled-tree case Obeys best cents popped before after over borne kept drained one whole ended = record {
  one = one;
  whole = whole;
  ended = ended;
  each = λ number way few is. (
      let inside : number < length before.pool.states = omega (arith, few, drained.states) in
      node-settled case Obeys best cents popped number (ranges_at case.book way) (node_of before.nodes number) (node_of after.nodes number) (state_at before.pool.states number) (state_at after.pool.states number) over borne
      (kept.none number inside) (kept.grown.each number way inside (way-before before after drained number way is)) (drained.each number inside));
}

-- ---- what the tree shows
pub holds-bound : (case : CaseContents) (Obeys : RangesContents → ℕ → ℕ → Type 0) (cents : ℕ) (popped : ℤ) (tree : TreeContents) (shape : Tree) (nodes : List TreeNode) → IsBook case.book → IsEndTree case Obeys popped (Settled case cents) tree → IsWritten case tree shape nodes → HoldsBound case nodes cents
holds-bound case Obeys cents popped tree shape nodes limits is made = record {
  proper = (well-written case Obeys popped (Settled case cents) tree shape nodes limits is (λ ranges own closed. closed.1) made).proper;
  closed = subst (λ (ns : List TreeNode). All (λ p. is_weak case (Some (pos cents)) p ≡ false) (placed_nodes case.book ns)) (sym made.nodes_are)
      (all-placed case.book (λ p. is_weak case (Some (pos cents)) p ≡ false) (ends_of case tree) shape (root_of case.book) (ends-end case tree)
      (all-at case Obeys popped (Settled case cents) (λ p. is_weak case (Some (pos cents)) p ≡ false) tree shape is made.shape_is (λ number ranges line at priced split tight. refl) (λ number ranges priced closed tight. closed.0) limits));
}

steps-most : (case : CaseContents) (cents : ℕ) (popped : ℤ) (ranges : RangesContents) (own : SearchNode) → IsWorthAtMost cents popped → IsPriced case ranges own.priced → own.priced.bound ≤ℤ popped → AreStepsAtMost case cents ranges
steps-most case cents popped ranges own most priced low = record {
  base = omega (arith, ints, priced.improved.given, priced.bound, low, most);
  steps = λ step is. omega (arith, ints, priced.improved.steps step is, priced.bound, low, most);
}

end-needed : (case : CaseContents) (cents : ℕ) (ranges : RangesContents) (own : SearchNode) → IsNeededSplit case cents (end_node case.book.needs own, ranges)
end-needed case cents ranges own = by own.closing
  where
    by : (how : Closing) → IsNeededSplit case cents (end_by case.book.needs own.priced.leaf how, ranges)
    by closing.Open = tt
    by closing.Borne = tt
    by (closing.Unreached day) = tt
    by (closing.Infeasible leaf) = tt
    by closing.Point = tt

pub needed-splits : (case : CaseContents) (Obeys : RangesContents → ℕ → ℕ → Type 0) (cents : ℕ) (popped : ℤ) (tree : TreeContents) (shape : Tree) (nodes : List TreeNode) → IsBook case.book → IsWorthAtMost cents popped → IsEndTree case Obeys popped (Settled case cents) tree
    → IsWritten case tree shape nodes → All (IsNeededSplit case cents) (placed_nodes case.book nodes)
needed-splits case Obeys cents popped tree shape nodes limits most is made =
    subst (λ (ns : List TreeNode). All (IsNeededSplit case cents) (placed_nodes case.book ns)) (sym made.nodes_are)
    (all-placed case.book (IsNeededSplit case cents) (ends_of case tree) shape (root_of case.book) (ends-end case tree)
    (all-at case Obeys popped (Settled case cents) (IsNeededSplit case cents) tree shape is made.shape_is
    (λ number ranges line at priced split tight. steps-most case cents popped ranges (node_of tree.nodes number) most priced split.low)
    (λ number ranges priced closed tight. end-needed case cents ranges (node_of tree.nodes number)) limits))

pub no-rival : (case : CaseContents) (cents : ℕ) (nodes : List TreeNode) → IsBook case.book → IsWell case nodes → HoldsBound case nodes cents → (rival : List ℕ) → IsRival case.limit case.book rival → cents ≤ cost case.book rival
no-rival case cents nodes limits well holds rival is =
    let told = rival-bears_out case (Some (pos cents)) nodes limits well.trees well.limited (position_none is_bad_split (placed_nodes case.book nodes) holds.proper)
    (position_none (is_weak case (Some (pos cents))) (placed_nodes case.book nodes) holds.closed) rival is in
    omega (arith, ints, told)

-- ---- the root
root-split : (states : List State) (number : ℕ) (way : List Step) → IsWay states number way
    → (number ≡ 0) ⊎ ((line : ℕ) × (at : ℕ) × (left : NodeId) × (right : NodeId) × (state_at states 0 ≡ state.Split line at left right))
root-split states number [] way = inl way
root-split states number (step ∷ above) way = inr (elim (root-split states way.0 above way.2) [
  | inl root ↦ (step.line, step.at, way.1.left, way.1.right, ap (state_at states) (sym root) ∙ way.1.split)
  | inr split ↦ split
])

-- at the root neither the base leaf nor any of its steps is worth more
root-low : (case : CaseContents) (Obeys : RangesContents → ℕ → ℕ → Type 0) (best : Option ℕ) (bound : ℤ) (tree : TreeContents) (s : State) → IsNodeAt case Obeys best bound 0 (root_of case.book) (node_of tree.nodes 0) s
    → ((s ≡ state.Waiting bound) ⊎ ((line : ℕ) × (at : ℕ) × (left : NodeId) × (right : NodeId) × (s ≡ state.Split line at left right))) → (node_of tree.nodes 0).priced.bound ≤ℤ bound
root-low case Obeys best bound tree s here (inl waits) =
    let stands = subst (IsAt case Obeys best bound 0 (root_of case.book) (node_of tree.nodes 0)) waits here.stands in
    omega (arith, ints, stands.0)
root-low case Obeys best bound tree s here (inr split) =
    let stands = subst (IsAt case Obeys best bound 0 (root_of case.book) (node_of tree.nodes 0)) split.4 here.stands in
    stands.0.low

pub root-steps : (case : CaseContents) (Obeys : RangesContents → ℕ → ℕ → Type 0) (best : Option ℕ) (bound : ℤ) (cents : ℕ) (tree : TreeContents) → IsOneTree tree.pool.states → IsStuck case Obeys best bound tree.pool.states tree.nodes → IsWorthAtMost cents bound
    → AreStepsAtMost case cents (root_of case.book)
root-steps case Obeys best bound cents tree one stuck most =
    let here = stuck.kept.grown.each 0 [] (omega (arith, one.some)) refl in
    let way = some-way tree.pool.states stuck.number one stuck.there in
    steps-most case cents bound (root_of case.book) (node_of tree.nodes 0) most here.priced
    (root-low case Obeys best bound tree (state_at tree.pool.states 0) here (elim (root-split tree.pool.states stuck.number way.0 way.1) [
      | inl root ↦ inl (ap (state_at tree.pool.states) (sym root) ∙ stuck.waits)
      | inr split ↦ inr split
    ]))

-- ---- the halving tree is larger
-- the upper part of the halving tree: the splits of a tree, and one more
abbrev part_of : ℕ → ℕ → ℕ → Tree → Splits
part_of stuck line at (TreeLeaf number) = if number == stuck then Halved line at End End else End
part_of stuck line at (Split own_line own_at left right) = Halved own_line own_at (part_of stuck line at left) (part_of stuck line at right)

-- how often a leaf occurs
abbrev one_where : Bool → ℕ
one_where true = 1
one_where false = 0

abbrev occurs_in : ℕ → Tree → ℕ
occurs_in stuck (TreeLeaf number) = one_where (number == stuck)
occurs_in stuck (Split line at left right) = occurs_in stuck left + occurs_in stuck right

leaf-count : (b : Bool) (line at : ℕ) → node_count (if b then Halved line at End End else End) ≡ 1 + 2 * one_where b
leaf-count true line at = refl
leaf-count false line at = refl

part-count : (stuck line at : ℕ) (tree : Tree) → node_count (part_of stuck line at tree) ≡ length (preorder tree) + 2 * occurs_in stuck tree
part-count stuck line at (TreeLeaf number) = leaf-count (number == stuck) line at
part-count stuck line at (Split own_line own_at left right) =
    omega (arith, part-count stuck line at left, part-count stuck line at right, length-append (preorder left) (preorder right))

-- a leaf that is there occurs
abbrev mark_where : Bool → TreeNode
mark_where true = node.Point
mark_where false = node.Closed (record { rho = PRICE_SCALE; mu = 0; prices = []; weights = [] })

abbrev mark : ℕ → ℕ → TreeNode
mark stuck number = mark_where (number == stuck)

abbrev IsUnmarked : TreeNode × RangesContents → Type 0
IsUnmarked p = p.0 ≡ node.Point → ⊥

unmarked-leaf : (b : Bool) → one_where b ≡ 0 → mark_where b ≡ node.Point → ⊥
unmarked-leaf true none same = absurd (omega (arith, none))
unmarked-leaf false none same = absurd (cc)

unmarked : (book : BookContents) (stuck : ℕ) (tree : Tree) (ranges : RangesContents) → occurs_in stuck tree ≡ 0 → AllAt book IsUnmarked (mark stuck) tree ranges
unmarked book stuck (TreeLeaf number) ranges none = unmarked-leaf (number == stuck) none
unmarked book stuck (Split line at left right) ranges none = (
  λ same. absurd (cc),
  unmarked book stuck left (narrowed book ranges (part.Line line) at false) (omega (arith, none)),
  unmarked book stuck right (narrowed book ranges (part.Line line) at true) (omega (arith, none)),
)

occurs-some : (book : BookContents) (states : List State) (shape : Tree) (stuck : ℕ) (way : List Step) → IsTreeOf states 0 shape → IsWay states stuck way → state_at states stuck ≡ state.Closed stuck → 1 ≤ occurs_in stuck shape
occurs-some book states shape stuck way shape_is way_is closed = by (occurs_in stuck shape) refl
  where
    by : (count : ℕ) → occurs_in stuck shape ≡ count → 1 ≤ occurs_in stuck shape
    by zero none = absurd (
        let below = to-nodes book IsUnmarked (mark stuck) states shape stuck way shape_is (unmarked book stuck shape (root_of book) none) way_is in
        leaf-holds book IsUnmarked (mark stuck) states stuck stuck (ranges_at book way) below closed
        (ap mark_where (same stuck)))
      where
        same : (n : ℕ) → (n == n) ≡ true
        same n = grind (arith, nat_tests)
    by (suc count) some = omega (arith, some)

-- each split is one of the halving tree, and so is the one that is stuck
closed-there : (states : List State) (number leaf : ℕ) → state_at states number ≡ state.Closed leaf → number < length states
closed-there states number leaf closed = elim (cases_lt number (length states)) [
  | inl below ↦ below
  | inr past ↦ absurd (let clash : state.InHand ≡ state.Closed leaf = sym (get_or_past states number state.InHand past) ∙ closed in cc)
]

upper-part : (case : CaseContents) (Obeys : RangesContents → ℕ → ℕ → Type 0) (popped : ℤ) (Closes : RangesContents → SearchNode → Type 0) (tree : TreeContents) (stuck line at : ℕ) (shape : Tree) (number : ℕ) (way : List Step) → IsEndTree case Obeys popped Closes tree
    → ((ranges : RangesContents) (line at : ℕ) → Obeys ranges line at → IsHalvingSplit case ranges line at) → ((up : List Step) → IsWay tree.pool.states stuck up → Obeys (ranges_at case.book up) line at)
    → IsTreeOf tree.pool.states number shape → IsWay tree.pool.states number way → IsUpperPart case (ranges_at case.book way) (part_of stuck line at shape)
upper-part case Obeys popped Closes tree stuck line at (TreeLeaf leaf) number way is halves obeys shape_is way_is = by (leaf == stuck) refl
  where
    own : leaf ≡ number
    own = (subst (EndsAt case Obeys popped Closes number (ranges_at case.book way) (node_of tree.nodes number)) shape_is
        (is.each number way (closed-there tree.pool.states number leaf shape_is) way_is).ends).0

    by : (b : Bool) → (leaf == stuck) ≡ b → IsUpperPart case (ranges_at case.book way) (if b then Halved line at End End else End)
    by false other = tt
    by true same =
        let equal : number ≡ stuck = sym own ∙ grind (arith, nat_tests, same) in
        let split = halves (ranges_at case.book way) line at (obeys way (subst (λ (k : ℕ). IsWay tree.pool.states k way) equal way_is)) in
        (split.goes_on, split.halved, tt, tt)
upper-part case Obeys popped Closes tree stuck line at (Split own_line own_at left right) number way is halves obeys shape_is way_is =
    let here = is.each number way (split-there tree.pool.states number own_line own_at shape_is.0 shape_is.1 shape_is.2) way_is in
    let split : IsSplitNode case Obeys popped (ranges_at case.book way) (node_of tree.nodes number).priced own_line own_at =
    subst (EndsAt case Obeys popped Closes number (ranges_at case.book way) (node_of tree.nodes number)) shape_is.2 here.ends in
    let halved = halves (ranges_at case.book way) own_line own_at split.obeys in (
      halved.goes_on,
      halved.halved,
      upper-part case Obeys popped Closes tree stuck line at left shape_is.0.0 (record { line = own_line; at = own_at; right = false } ∷ way) is halves obeys shape_is.3 (left-way tree.pool.states number own_line own_at shape_is.0 shape_is.1 way shape_is.2 way_is),
      upper-part case Obeys popped Closes tree stuck line at right shape_is.1.0 (record { line = own_line; at = own_at; right = true } ∷ way) is halves obeys shape_is.4 (right-way tree.pool.states number own_line own_at shape_is.0 shape_is.1 way shape_is.2 way_is),
    )

pub has-more : (case : CaseContents) (Obeys : RangesContents → ℕ → ℕ → Type 0) (popped : ℤ) (Closes : RangesContents → SearchNode → Type 0) (tree : TreeContents) (stuck line at : ℕ) (shape : Tree) (nodes : List TreeNode) → IsEndTree case Obeys popped Closes tree
    → IsWritten case tree shape nodes → stuck < length tree.pool.states → state_at tree.pool.states stuck ≡ state.Closed stuck
    → ((ranges : RangesContents) (line at : ℕ) → Obeys ranges line at → IsHalvingSplit case ranges line at) → ((up : List Step) → IsWay tree.pool.states stuck up → Obeys (ranges_at case.book up) line at) → case.budget < length nodes + 2 → HasMoreNodes case case.budget
has-more case Obeys popped Closes tree stuck line at shape nodes is made few closed halves obeys full =
    let way = some-way tree.pool.states stuck is.one few in
    let some = occurs-some case.book tree.pool.states shape stuck way.0 made.shape_is way.1 closed in
    record {
      part = part_of stuck line at shape;
      upper = upper-part case Obeys popped Closes tree stuck line at shape 0 [] is halves obeys made.shape_is refl;
      more = omega (arith, part-count stuck line at shape, some, full, made.count, nodes-all tree.pool.states shape is.one is.whole made.shape_is);
    }

-- ---- all of it
drained-stuck : (number : ℕ) (key : ℤ) (s t : State) (own after : SearchNode) → s ≡ state.Waiting key → IsDrainedNode number s own t after → (t ≡ state.Closed number) × (after ≡ record own { closing = closing.Borne })
drained-stuck number key s t own after is drained = subst (λ (u : State). IsDrainedNode number u own t after) is drained

pub full-shows : (case : CaseContents) (Obeys : RangesContents → ℕ → ℕ → Type 0) (best : Option ℕ) (bound : ℤ) (cents : ℕ) (before after : TreeContents) (shape : Tree) (nodes : List TreeNode) → IsFull case Obeys best bound before after → IsWritten case after shape nodes
    → IsBoundOf bound cents → ShowsBound case Obeys best cents before nodes
full-shows case Obeys best bound cents before after shape nodes full made is_bound = record {
  well = well;
  count = omega (arith, made.count, full.drained.states);
  holds = holds;
  greatest = λ more holds_more. is_bound.greatest more (subst (λ (b : ℤ). bears_out b (Some (pos more)) ≡ true) bound-same
      (node-bears case (Some (pos more)) after shape nodes stuck.number made borne (ap (λ (n : SearchNode). n.closing) at.1) holds_more.closed));
  no_rival = no-rival case cents nodes full.limits well holds;
  needed = needed-splits case Obeys cents bound after shape nodes full.limits is_bound.most settled made;
  root = root-steps case Obeys best bound cents before full.tree stuck is_bound.most;
  over = over;
  larger = λ halves. has-more case Obeys bound (Settled case cents) after stuck.number stuck.line stuck.at shape nodes settled made (omega (arith, stuck.there, full.drained.states)) at.0 halves
      (λ up up_is. stuck.obeys up (way-before before after full.drained stuck.number up up_is)) (omega (arith, made.count, full.drained.states, full.full));
}
  where
    stuck : IsStuck case Obeys best bound before.pool.states before.nodes
    stuck = full.stuck

    way : (w : List Step) × IsWay before.pool.states stuck.number w
    way = some-way before.pool.states stuck.number full.tree stuck.there

    not_borne : bears_out bound (claim_of_best case best) ≡ false
    not_borne = (stuck.goes_on way.0 way.1).not_borne

    over : (own : ℕ) → best ≡ Some own → cents + case.allowance < own
    over own is = over-bound case bound cents own is_bound (subst (λ (b : Option ℕ). bears_out bound (claim_of_best case b) ≡ false) is not_borne)

    settled : IsEndTree case Obeys bound (Settled case cents) after
    settled = settled-tree case Obeys best cents bound before after over is_bound.borne stuck.kept full.drained full.one full.whole full.ended

    well : IsWell case nodes
    well = well-written case Obeys bound (Settled case cents) after shape nodes full.limits settled (λ ranges own closed. closed.1) made

    holds : HoldsBound case nodes cents
    holds = holds-bound case Obeys cents bound after shape nodes full.limits settled made

    at : (state_at after.pool.states stuck.number ≡ state.Closed stuck.number) × (node_of after.nodes stuck.number ≡ record (node_of before.nodes stuck.number) { closing = closing.Borne })
    at = drained-stuck stuck.number bound (state_at before.pool.states stuck.number) (state_at after.pool.states stuck.number) (node_of before.nodes stuck.number) (node_of after.nodes stuck.number) stuck.waits (full.drained.each stuck.number stuck.there)

    bound-same : (node_of after.nodes stuck.number).priced.bound ≡ bound
    bound-same =
        ap (λ (n : SearchNode). n.priced.bound) at.1
        ∙ sym (subst (IsAt case Obeys best bound stuck.number (ranges_at case.book way.0) (node_of before.nodes stuck.number)) stuck.waits (stuck.kept.grown.each stuck.number way.0 stuck.there way.1).stands).0

    after-way : (w : List Step) × IsWay after.pool.states stuck.number w
    after-way = some-way after.pool.states stuck.number full.one (omega (arith, stuck.there, full.drained.states))

    borne : IsBorneNode case after stuck.number
    borne = record {
      way = after-way.0;
      is = after-way.1;
      closed = at.0;
      priced = (settled.each stuck.number after-way.0 (omega (arith, stuck.there, full.drained.states)) after-way.1).priced;
    }
