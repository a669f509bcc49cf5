-- What a tree without a waiting node shows.
use Rattle.std.proofs.Common.{◌≡◌, ◌∙◌, ◌⊎◌, inl, inr, ℕ, ◌-◌, ◌<◌, ◌≤◌, ℤ, pos, Bool, true, false, not, List, length, refl, sym, ap, subst, arith, Option, Some}
use Rattle.std.specs.Prelude.{int_lt, option_map}
use Rattle.std.specs.List.{All}
use Rattle.case_file.specs.Case.{CaseContents}
use Rattle.dual_bound.specs.Closing.{is_closed_leaf, is_closed_point, is_weak}
use Rattle.node_ranges.specs.Ranges.{RangesContents, root_of}
use Rattle.node_ranges.specs.Claims.{Claim, bears_out, placed_nodes}
use Rattle.proof_tree.specs.declared.tree.TreeNode.{TreeNode}
use Rattle.dual_bound.specs.LeafBound.{bound_of}
use Rattle.node_pool.specs.Pool.{IsOneTree, SplitsAreWhole, state_at}
use Rattle.node_pool.specs.Tree.{AreEnded, IsEnded, Tree}
use Rattle.node_pool.specs.Way.{IsWay, Step, ranges_at}
use Rattle.node_pool.specs.declared.node.State.{State}
use Rattle.node_pool.specs.declared.node.State.TheVariants as state
use Rattle.offer_book.specs.Book.{IsBook}
use Rattle.search_tree.proofs.EndFacts.{HasShown, IsEndAt, IsEndTree, IsWritten, all-at, closed-by, ends-end, ends_of, weak-by}
use Rattle.search_tree.proofs.Shape.{all-placed, leaf-holds, placed-at, to-nodes}
use Rattle.search_tree.proofs.Ways.{some-way}
use Rattle.search_tree.specs.Growing.{IsClosedBy, IsKept, IsNodeAt, IsPriced, claim_of_best, node_of}
use Rattle.search_tree.specs.Tree.{SomeNeeds, TreeContents, end_by, end_node}
use Rattle.search_tree.specs.declared.node.Closing.{Closing}
use Rattle.search_tree.specs.declared.node.Closing.TheVariants as closing
use Rattle.search_tree.specs.declared.node.SearchNode.{SearchNode}

-- ---- a tree without a waiting node
-- how its nodes are closed
abbrev pub ClosedFor : CaseContents → Option ℕ → RangesContents → SearchNode → Type 0
ClosedFor case best ranges own = IsClosedBy case best ranges own.priced.bound own.closing

-- one that is closed by a leaf that doesn't weigh the cost, is so by one that shows what it has to
pub closed-shown : (case : CaseContents) (best : Option ℕ) (ranges : RangesContents) (own : SearchNode) → ClosedFor case best ranges own → HasShown case ranges own
closed-shown case best ranges own closed leaf is = subst (IsClosedBy case best ranges own.priced.bound) is closed

end-at : (case : CaseContents) (Obeys : RangesContents → ℕ → ℕ → Type 0) (best : Option ℕ) (popped : ℤ) (number : ℕ) (ranges : RangesContents) (own : SearchNode) (s : State) → IsNodeAt case Obeys best popped number ranges own s → IsEndAt case Obeys popped (ClosedFor case best) number ranges own s
end-at case Obeys best popped number ranges own (state.Waiting key) is = record { priced = is.priced; ends = tt }
end-at case Obeys best popped number ranges own state.InHand is = record { priced = is.priced; ends = tt }
end-at case Obeys best popped number ranges own (state.Closed leaf) is = record { priced = is.priced; ends = is.stands }
end-at case Obeys best popped number ranges own (state.Split line at left right) is = record { priced = is.priced; ends = is.stands.0 }

pub closed-tree : (case : CaseContents) (Obeys : RangesContents → ℕ → ℕ → Type 0) (best : Option ℕ) (tree : TreeContents) (popped : ℤ) → IsOneTree tree.pool.states → SplitsAreWhole tree.pool.states → AreEnded tree.pool.states → IsKept case Obeys best popped tree.pool.states tree.nodes
    → IsEndTree case Obeys popped (ClosedFor case best) tree
closed-tree case Obeys best tree popped one whole ended kept = record {
  one = one;
  whole = whole;
  ended = ended;
  each = λ number way few is. end-at case Obeys best popped number (ranges_at case.book way) (node_of tree.nodes number) (state_at tree.pool.states number) (kept.grown.each number way few is);
}

-- a claim that each borne leaf and each point bears out is borne out by the whole tree
pub closed-all : (case : CaseContents) (Obeys : RangesContents → ℕ → ℕ → Type 0) (best : Option ℕ) (claim : Claim) (popped : ℤ) (tree : TreeContents) (shape : Tree) (nodes : List TreeNode) → IsBook case.book → IsEndTree case Obeys popped (ClosedFor case best) tree
    → IsWritten case tree shape nodes
    → ((number : ℕ) (ranges : RangesContents) → (node_of tree.nodes number).closing ≡ closing.Borne → ClosedFor case best ranges (node_of tree.nodes number) → bears_out (node_of tree.nodes number).priced.bound claim ≡ true)
    → ((ranges : RangesContents) → is_closed_point case (option_map pos best) ranges ≡ true → is_closed_point case claim ranges ≡ true)
    → All (λ p. is_weak case claim p ≡ false) (placed_nodes case.book nodes)
closed-all case Obeys best claim popped tree shape nodes limits is made borne point =
    subst (λ (ns : List TreeNode). All (λ p. is_weak case claim p ≡ false) (placed_nodes case.book ns)) (sym made.nodes_are)
    (all-placed case.book (λ p. is_weak case claim p ≡ false) (ends_of case tree) shape (root_of case.book) (ends-end case tree)
    (all-at case Obeys popped (ClosedFor case best) (λ p. is_weak case claim p ≡ false) tree shape is made.shape_is (λ number ranges line at priced split tight. refl)
    (λ number ranges priced closed tight.
    let own : SearchNode = node_of tree.nodes number in
    weak-by case claim ranges own priced
    (λ none. subst (IsClosedBy case best ranges own.priced.bound) none closed)
    (λ borne_is. borne number ranges borne_is closed)
    (λ day unreached. subst (IsClosedBy case best ranges own.priced.bound) unreached closed)
    (closed-shown case best ranges own closed)
    (λ point_is. point ranges ((subst (IsClosedBy case best ranges own.priced.bound) point_is closed).closed)))
    limits))

-- ---- the least gap
-- a closed leaf that weighs the cost bears its claim out
strong-leaf : (case : CaseContents) (claim : Claim) (ranges : RangesContents) (own : SearchNode) → IsPriced case ranges own.priced → own.closing ≡ closing.Borne → is_weak case claim (end_node case.book.needs own, ranges) ≡ false
    → bears_out own.priced.bound claim ≡ true
strong-leaf case claim ranges own priced borne strong =
    let bound : ℤ = bound_of (case.limit - 1) case.book ranges own.priced.leaf in
    let at : not (is_closed_leaf case claim ranges own.priced.leaf) ≡ false = subst (λ (how : Closing). is_weak case claim (end_by case.book.needs own.priced.leaf how, ranges) ≡ false) borne strong in
    let closed : not (bears_out own.priced.bound claim) ≡ false =
    ap (λ (b : ℤ). not (bears_out b claim)) priced.bound
    ∙ sym (ap not (closed-by own.priced.leaf.rho bound claim (int_lt (pos 0) bound) (omega (arith, priced.weighs))))
    ∙ at in
    from-not (bears_out own.priced.bound claim) closed
  where
    from-not : (b : Bool) → not b ≡ false → b ≡ true
    from-not true e = refl
    from-not false e = sym e

-- a node that is closed by its own leaf is closed
pub record IsBorneNode (case : CaseContents) (tree : TreeContents) (number : ℕ) : Type 0 where
  pub way : List Step
  pub is : IsWay tree.pool.states number way
  pub closed : state_at tree.pool.states number ≡ state.Closed number
  pub priced : IsPriced case (ranges_at case.book way) (node_of tree.nodes number).priced

-- and its leaf bears out what the best plan claims
pub record BearsItself (case : CaseContents) (best : Option ℕ) (tree : TreeContents) (number : ℕ) : Type 0 where
  pub own : IsBorneNode case tree number
  pub borne : bears_out (node_of tree.nodes number).priced.bound (claim_of_best case best) ≡ true

borne-by-state : (case : CaseContents) (Obeys : RangesContents → ℕ → ℕ → Type 0) (best : Option ℕ) (popped : ℤ) (tree : TreeContents) (number : ℕ) (way : List Step) (s : State) → state_at tree.pool.states number ≡ s → IsWay tree.pool.states number way → AreEnded tree.pool.states
    → number < length tree.pool.states → (node_of tree.nodes number).closing ≡ closing.Borne → IsNodeAt case Obeys best popped number (ranges_at case.book way) (node_of tree.nodes number) s → BearsItself case best tree number
borne-by-state case Obeys best popped tree number way (state.Waiting key) is way_is ended few borne at = absurd (subst IsEnded is (ended number few))
borne-by-state case Obeys best popped tree number way state.InHand is way_is ended few borne at = absurd (subst IsEnded is (ended number few))
borne-by-state case Obeys best popped tree number way (state.Split line at_units left right) is way_is ended few borne at = absurd (let clash : closing.Borne ≡ closing.Open = sym borne ∙ at.stands.1 in cc)
borne-by-state case Obeys best popped tree number way (state.Closed leaf) is way_is ended few borne at = record {
  own = record { way = way; is = way_is; closed = is ∙ ap (λ (k : ℕ). state.Closed k) at.stands.0; priced = at.priced };
  borne = subst (IsClosedBy case best (ranges_at case.book way) (node_of tree.nodes number).priced.bound) borne at.stands.1;
}

pub borne-node : (case : CaseContents) (Obeys : RangesContents → ℕ → ℕ → Type 0) (best : Option ℕ) (popped : ℤ) (tree : TreeContents) (number : ℕ) → IsOneTree tree.pool.states → AreEnded tree.pool.states → IsKept case Obeys best popped tree.pool.states tree.nodes
    → number < length tree.pool.states → (node_of tree.nodes number).closing ≡ closing.Borne → BearsItself case best tree number
borne-node case Obeys best popped tree number one ended kept few borne =
    let way = some-way tree.pool.states number one few in
    borne-by-state case Obeys best popped tree number way.0 (state_at tree.pool.states number) refl way.1 ended few borne (kept.grown.each number way.0 few way.1)

-- what the whole tree bears out, its node bears out
pub node-bears : (case : CaseContents) (claim : Claim) (tree : TreeContents) (shape : Tree) (nodes : List TreeNode) (number : ℕ) → IsWritten case tree shape nodes → IsBorneNode case tree number
    → (node_of tree.nodes number).closing ≡ closing.Borne → All (λ p. is_weak case claim p ≡ false) (placed_nodes case.book nodes) → bears_out (node_of tree.nodes number).priced.bound claim ≡ true
node-bears case claim tree shape nodes number made own borne all =
    let here = placed-at case.book (λ p. is_weak case claim p ≡ false) (ends_of case tree) shape (root_of case.book) (ends-end case tree)
    (subst (λ (ns : List TreeNode). All (λ p. is_weak case claim p ≡ false) (placed_nodes case.book ns)) made.nodes_are all) in
    let below = to-nodes case.book (λ p. is_weak case claim p ≡ false) (ends_of case tree) tree.pool.states shape number own.way made.shape_is here own.is in
    strong-leaf case claim (ranges_at case.book own.way) (node_of tree.nodes number) own.priced borne
    (leaf-holds case.book (λ p. is_weak case claim p ≡ false) (ends_of case tree) tree.pool.states number number (ranges_at case.book own.way) below own.closed)

pub gap-allowed : (case : CaseContents) (Obeys : RangesContents → ℕ → ℕ → Type 0) (cents gap : ℕ) (popped : ℤ) (tree : TreeContents) → IsOneTree tree.pool.states → AreEnded tree.pool.states → IsKept case Obeys (Some cents) popped tree.pool.states tree.nodes
    → (gap ≡ 0) ⊎ SomeNeeds tree.nodes (length tree.nodes) cents gap → gap ≤ case.allowance
gap-allowed case Obeys cents gap popped tree one ended kept (inl none) = omega (arith, none)
gap-allowed case Obeys cents gap popped tree one ended kept (inr some) =
    let own = borne-node case Obeys (Some cents) popped tree some.number one ended kept (omega (arith, some.there, kept.grown.same)) some.needs.borne in
    some.needs.needed case.allowance own.borne
