-- Ways to the root, while a tree grows.
use Rattle.std.proofs.Common.{◌≡◌, ◌≢◌, ◌∙◌, ◌⊎◌, inl, inr, ℕ, zero, suc, ◌+◌, ◌-◌, ◌<◌, ◌≤◌, ◌==◌, ℤ, Bool, true, false, if◌then◌else◌, List, [], ◌∷◌, length, get_or, set, refl, sym, ap, subst, arith}
use Rattle.std.proofs.Math.ListN.{length-set}
use Rattle.std.proofs.Math.Seq.{get_or-append_right}
use Rattle.std.proofs.lemmas.Bool.{cases_lt}
use Rattle.std.proofs.lemmas.List.{get_or-set_other, get_or-set_same}
use Rattle.node_pool.proofs.PoolFacts.{after_split, other_state, own_state, split_of}
use Rattle.node_pool.specs.Pool.{AreChildren, IsChildOf, IsOneTree, SplitsAreWhole, state_at, with_state}
use Rattle.node_pool.specs.Way.{IsStep, IsWay, Step}
use Rattle.node_pool.specs.declared.node.NodeId.{NodeId}
use Rattle.node_pool.specs.declared.node.State.{State}
use Rattle.node_pool.specs.declared.node.State.TheVariants as state

-- a state that is no split
abbrev pub IsNoSplit : State → Type 0
IsNoSplit s = (line at : ℕ) (left right : NodeId) → s ≡ state.Split line at left right → ⊥

-- ---- a node changes that isn't split, before or after
step-set : (states : List State) (number : ℕ) (new : State) → number < length states → IsNoSplit new → (child parent : ℕ) (step : Step) → IsStep (set states number new) child parent step → IsStep states child parent step
step-set states number new there none child parent step is = by (parent == number) refl
  where
    by : (b : Bool) → (parent == number) ≡ b → IsStep states child parent step
    by true e =
        let same : number ≡ parent = grind (arith, e) in
        absurd (none step.line step.at is.left is.right (sym (get_or-set_same states number new state.InHand there) ∙ ap (λ (n : ℕ). state_at (set states number new) n) same ∙ is.split))
    by false e =
        let other : parent ≢ number = (λ same. absurd (grind (arith, e, same))) in
        record { left = is.left; right = is.right; split = sym (get_or-set_other states number parent new state.InHand other) ∙ is.split; side = is.side }

pub way-set : (states : List State) (number : ℕ) (new : State) → number < length states → IsNoSplit new → (child : ℕ) (way : List Step) → IsWay (set states number new) child way → IsWay states child way
way-set states number new there none child [] way = way
way-set states number new there none child (step ∷ above) way =
    (way.0, step-set states number new there none child way.0 step way.1, way-set states number new there none way.0 above way.2)

-- ---- a node is split
not-behind : (l r : ℤ) (k line at : ℕ) (left right : NodeId) → get_or (state.Waiting l ∷ state.Waiting r ∷ []) k state.InHand ≡ state.Split line at left right → ⊥
not-behind l r zero line at left right h = absurd (cc)
not-behind l r (suc zero) line at left right h = absurd (cc)
not-behind l r (suc (suc k)) line at left right h = absurd (cc)

behind : (old : List State) (number line at : ℕ) (l r : ℤ) (parent line2 at2 : ℕ) (left right : NodeId) → length old ≤ parent → state_at (after_split old number line at l r) parent ≡ state.Split line2 at2 left right → ⊥
behind old number line at l r parent line2 at2 left right past is =
    let back = get_or-append_right (with_state old number (split_of old line at)) (state.Waiting l ∷ state.Waiting r ∷ []) parent state.InHand
    (omega (arith, length-set old number (split_of old line at), past)) in
    not-behind l r (parent - length (with_state old number (split_of old line at))) line2 at2 left right (sym back ∙ is)

-- a step is of an old split, or of the new one
abbrev OldOrNew : List State → ℕ → ℕ → ℕ → Step → Type 0
OldOrNew old number child parent step = (IsStep old child parent step × (parent < length old)) ⊎ (parent ≡ number)

old-or-new : (old : List State) (number line at : ℕ) (l r : ℤ) (child parent : ℕ) (step : Step) → IsStep (after_split old number line at l r) child parent step → OldOrNew old number child parent step
old-or-new old number line at l r child parent step is = by (parent == number) refl (cases_lt parent (length old))
  where
    by : (b : Bool) → (parent == number) ≡ b → (parent < length old) ⊎ (length old ≤ parent) → OldOrNew old number child parent step
    by true e where_is = inr (grind (arith, e))
    by false e (inl inside) =
        let other : parent ≢ number = (λ same. absurd (grind (arith, e, same))) in
        inl (record { left = is.left; right = is.right; split = sym (other_state old number line at l r parent inside other) ∙ is.split; side = is.side }, inside)
    by false e (inr past) = absurd (behind old number line at l r parent step.line step.at is.left is.right past is.split)

-- the children of a step, of its side
child-is : (child left right : ℕ) (b : Bool) → child ≡ (if b then right else left) → (child ≡ left) ⊎ (child ≡ right)
child-is child left right true e = inr e
child-is child left right false e = inl e

-- what the new split is
record NewSplit (old : List State) (line at : ℕ) (step : Step) (left right : NodeId) : Type 0 where
  line_is : step.line ≡ line
  at_is : step.at ≡ at
  left_is : left.0 ≡ length old
  right_is : right.0 ≡ length old + 1

new-split : (old : List State) (line at : ℕ) (step : Step) (left right : NodeId) → split_of old line at ≡ state.Split step.line step.at left right → NewSplit old line at step left right
new-split old line at step left right same =
    let one : line ≡ step.line = cc in
    let two : at ≡ step.at = cc in
    let three : record { 0 = length old } ≡ left = cc in
    let four : record { 0 = length old + 1 } ≡ right = cc in
    record { line_is = sym one; at_is = sym two; left_is = sym (ap (λ (n : NodeId). n.0) three); right_is = sym (ap (λ (n : NodeId). n.0) four) }

new-of : (old : List State) (number line at : ℕ) (l r : ℤ) (child parent : ℕ) (step : Step) → number < length old → parent ≡ number → (is : IsStep (after_split old number line at l r) child parent step)
    → NewSplit old line at step is.left is.right
new-of old number line at l r child parent step there same is =
    new-split old line at step is.left is.right (sym (own_state old number line at l r there) ∙ ap (λ (n : ℕ). state_at (after_split old number line at l r) n) (sym same) ∙ is.split)

-- the way to a node that was there is as it was
pub way-old : (old : List State) (number line at : ℕ) (l r : ℤ) → number < length old → (child : ℕ) (way : List Step) → child < length old → IsWay (after_split old number line at l r) child way → IsWay old child way
way-old old number line at l r there child [] inside way = way
way-old old number line at l r there child (step ∷ above) inside way =
    elim (old-or-new old number line at l r child way.0 step way.1) [
      | inl one ↦ (way.0, one.0, way-old old number line at l r there way.0 above one.1 way.2)
      | inr new ↦
          let made = new-of old number line at l r child way.0 step there new way.1 in
          elim (child-is child way.1.left.0 way.1.right.0 step.right way.1.side) [
            | inl left ↦ absurd (omega (arith, inside, left, made.left_is))
            | inr right ↦ absurd (omega (arith, inside, right, made.right_is))
          ]
    ]

-- the way to a new node goes over the new split
pub record WayNew (old : List State) (number line at : ℕ) (right : Bool) (way : List Step) : Type 0 where
  pub above : List Step
  pub own : way ≡ record { line = line; at = at; right = right } ∷ above
  pub rest : IsWay old number above

-- which side a number behind the old ones is
side-told : (child left right n : ℕ) (b side : Bool) → child ≡ (if b then right else left) → left ≡ n → right ≡ n + 1 → child ≡ (if side then n + 1 else n) → b ≡ side
side-told child left right n true true is one two own = refl
side-told child left right n true false is one two own = absurd (omega (arith, is, two, own))
side-told child left right n false true is one two own = absurd (omega (arith, is, one, own))
side-told child left right n false false is one two own = refl

behind-some : (n child : ℕ) (side : Bool) → child ≡ (if side then n + 1 else n) → n ≤ child
behind-some n child true own = omega (arith, own)
behind-some n child false own = omega (arith, own)

pub way-new : (old : List State) (number line at : ℕ) (l r : ℤ) → number < length old → SplitsAreWhole old → (child : ℕ) (side : Bool) → child ≡ (if side then length old + 1 else length old)
    → (way : List Step) → IsWay (after_split old number line at l r) child way → WayNew old number line at side way
way-new old number line at l r there whole child side own [] way = absurd (omega (arith, way, there, behind-some (length old) child side own))
way-new old number line at l r there whole child side own (step ∷ above) way =
    elim (old-or-new old number line at l r child way.0 step way.1) [
      | inl one ↦
          let are : AreChildren old way.0 one.0.left one.0.right = whole way.0 step.line step.at one.0.left one.0.right one.0.split in
          let next = are.next in let low = are.there in
          let past = behind-some (length old) child side own in
          elim (child-is child one.0.left.0 one.0.right.0 step.right one.0.side) [
            | inl left ↦ absurd (omega (arith, left, next, low, past))
            | inr right ↦ absurd (omega (arith, right, low, past))
          ]
      | inr new ↦
          let made = new-of old number line at l r child way.0 step there new way.1 in
          let told : step.right ≡ side = side-told child way.1.left.0 way.1.right.0 (length old) step.right side way.1.side made.left_is made.right_is own in
          let line_is = made.line_is in
          let at_is = made.at_is in
          record {
            above = above;
            own = λ i. record { line = line_is i; at = at_is i; right = told i } ∷ above;
            rest = way-old old number line at l r there number above there (subst (λ (n : ℕ). IsWay (after_split old number line at l r) n above) new way.2);
          }
    ]

-- ---- every node has a way
child-way : (states : List State) (child number : ℕ) (above : List Step) → IsChildOf states child number → IsWay states number above → (way : List Step) × IsWay states child way
child-way states child number above is way = elim is.side [
  | inl left ↦ (record { line = is.line; at = is.at; right = false } ∷ above, (number, record { left = is.left; right = is.right; split = is.split; side = sym left }, way))
  | inr right ↦ (record { line = is.line; at = is.at; right = true } ∷ above, (number, record { left = is.left; right = is.right; split = is.split; side = sym right }, way))
]

has-way : (fuel : ℕ) (states : List State) (child : ℕ) → IsOneTree states → child < fuel → child < length states → (way : List Step) × IsWay states child way
has-way zero states child one few inside = absurd (omega arith)
has-way (suc fuel) states zero one few inside = ([], refl)
has-way (suc fuel) states (suc child) one few inside =
    let up = one.parent (suc child) (omega arith) inside in
    let below : up.0 < suc child = up.1 in
    let rest = has-way fuel states up.0 one (omega (arith, below, few)) (omega (arith, below, inside)) in
    child-way states (suc child) up.0 rest.0 up.2 rest.1

pub some-way : (states : List State) (child : ℕ) → IsOneTree states → child < length states → (way : List Step) × IsWay states child way
some-way states child one inside = has-way (suc child) states child one (omega arith) inside
