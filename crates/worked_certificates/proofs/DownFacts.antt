-- A way goes on where a pool grows.
use Rattle.std.proofs.Common.{◌≡◌, ◌≢◌, ◌∙◌, ◌⊎◌, inl, inr, ℕ, ◌+◌, ◌<◌, ◌≤◌, ◌==◌, ℤ, List, [], ◌∷◌, length, refl, sym, ap, subst, arith, Bool, true, false, if◌then◌else◌, IsTrue}
use Rattle.std.proofs.lemmas.Bool.{cases_lt}
use Rattle.std.proofs.lemmas.List.{get_or-set_other, get_or_past}
use Rattle.offer_book.specs.Book.{BookContents}
use Rattle.proof_tree.specs.declared.tree.Part.TheVariants as part
use Rattle.node_ranges.specs.Ranges.{RangesContents, is_proper, narrowed}
use Rattle.node_pool.specs.declared.node.NodeId.{NodeId}
use Rattle.node_pool.specs.declared.node.State.{State}
use Rattle.node_pool.specs.declared.node.State.TheVariants as state
use Rattle.node_pool.specs.Pool.{IsInHand, IsLeast, state_at, with_state}
use Rattle.node_pool.specs.Way.{AreProper, IsStep, IsWay, Step, ranges_at}
use Rattle.node_pool.proofs.PoolFacts.{after_split, other_state, own_state, split_of}

-- each split of one list of states is the same in another
abbrev pub KeepsSplits : List State → List State → Type 0
KeepsSplits old new = (own line at : ℕ) (left right : NodeId) → state_at old own ≡ state.Split line at left right → state_at new own ≡ state.Split line at left right

way-kept : (old new : List State) (node : ℕ) (way : List Step) → KeepsSplits old new → IsWay old node way → IsWay new node way
way-kept old new node [] kept is = is
way-kept old new node (step ∷ above) kept is =
    let one : IsStep old node is.0 step = is.1 in (
      is.0,
      record { left = one.left; right = one.right; split = kept is.0 step.line step.at one.left one.right one.split; side = one.side },
      way-kept old new is.0 above kept is.2,
    )

split-kept-by : (old : List State) (number line at : ℕ) (l r : ℤ) → state_at old number ≡ state.InHand → (own own_line own_at : ℕ) (left right : NodeId) →
    state_at old own ≡ state.Split own_line own_at left right → (own < length old) ⊎ (length old ≤ own) → (b : Bool) → (own == number) ≡ b →
    state_at (after_split old number line at l r) own ≡ state.Split own_line own_at left right
split-kept-by old number line at l r hand own own_line own_at left right is (inr past) b e =
    let bad : state.InHand ≡ state.Split own_line own_at left right = sym (get_or_past old own state.InHand past) ∙ is in absurd (cc)
split-kept-by old number line at l r hand own own_line own_at left right is (inl inside) true e =
    let same : own ≡ number = grind (arith, e) in
    let bad : state.InHand ≡ state.Split own_line own_at left right = sym hand ∙ ap (λ (n : ℕ). state_at old n) (sym same) ∙ is in absurd (cc)
split-kept-by old number line at l r hand own own_line own_at left right is (inl inside) false e =
    let other : own ≢ number = (λ same. absurd (grind (arith, e, same))) in other_state old number line at l r own inside other ∙ is

split-kept : (old : List State) (number line at : ℕ) (l r : ℤ) → state_at old number ≡ state.InHand → KeepsSplits old (after_split old number line at l r)
split-kept old number line at l r hand own own_line own_at left right is =
    split-kept-by old number line at l r hand own own_line own_at left right is (cases_lt own (length old)) (own == number) refl

taken-kept-by : (old : List State) (number : ℕ) (key : ℤ) → state_at old number ≡ state.Waiting key → (own line at : ℕ) (left right : NodeId) → state_at old own ≡ state.Split line at left right →
    (b : Bool) → (own == number) ≡ b → state_at (with_state old number state.InHand) own ≡ state.Split line at left right
taken-kept-by old number key waits own line at left right is true e =
    let same : own ≡ number = grind (arith, e) in
    let bad : state.Waiting key ≡ state.Split line at left right = sym waits ∙ ap (λ (n : ℕ). state_at old n) (sym same) ∙ is in absurd (cc)
taken-kept-by old number key waits own line at left right is false e =
    let other : own ≢ number = (λ same. absurd (grind (arith, e, same))) in get_or-set_other old number own state.InHand state.InHand other ∙ is

taken-kept : (old : List State) (number : ℕ) (key : ℤ) → state_at old number ≡ state.Waiting key → KeepsSplits old (with_state old number state.InHand)
taken-kept old number key waits own line at left right is = taken-kept-by old number key waits own line at left right is (own == number) refl

-- a way of proper splits to a node, and its ranges
abbrev pub HasWay : BookContents → List State → ℕ → RangesContents → Type 0
HasWay book states node ranges = (way : List Step) × IsWay states node way × AreProper book way × (ranges ≡ ranges_at book way)

-- one step more
pub way-down : (book : BookContents) (old mid new : List State) (number line at : ℕ) (l r : ℤ) (right : Bool) (ranges next : RangesContents) (child taken : ℕ) → IsInHand old number →
    HasWay book old number ranges → mid ≡ after_split old number line at l r → IsLeast mid taken → new ≡ with_state mid taken state.InHand → IsTrue (is_proper ranges (part.Line line) at) →
    next ≡ narrowed book ranges (part.Line line) at right → child ≡ (if right then length old + 1 else length old) → HasWay book new child next
way-down book old mid new number line at l r right ranges next child taken hand has mid_is least new_is proper next_is child_is =
    let way : List Step = has.0 in
    let ranges_are : ranges ≡ ranges_at book way = has.3 in
    let first : KeepsSplits old mid = (let P : List State → Type 0 = λ ss. KeepsSplits old ss in subst P (sym mid_is) (split-kept old number line at l r hand.in_hand)) in
    let second : KeepsSplits mid new = (let P : List State → Type 0 = λ ss. KeepsSplits mid ss in subst P (sym new_is) (taken-kept mid taken least.key least.waits)) in
    let above : IsWay new number way = way-kept mid new number way second (way-kept old mid number way first has.1) in
    let split : state_at mid number ≡ split_of old line at = ap (λ (ss : List State). state_at ss number) mid_is ∙ own_state old number line at l r hand.there in
    let P : RangesContents → Type 0 = λ is. IsTrue (is_proper is (part.Line line) at) in (
      record { line = line; at = at; right = right } ∷ way,
      (
        number,
        record { left = record { 0 = length old }; right = record { 0 = length old + 1 }; split = second number line at _ _ split; side = child_is },
        above,
      ),
      (has.2, subst P ranges_are proper),
      next_is ∙ ap (λ (is : RangesContents). narrowed book is (part.Line line) at right) ranges_are,
    )
