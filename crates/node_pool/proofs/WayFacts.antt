-- The way from a node up to the root.
use Rattle.std.proofs.Common.{◌≡◌, ◌≢◌, ◌∙◌, ◌⊎◌, inl, inr, ℕ, ◌+◌, ◌<◌, ◌==◌, List, [], ◌∷◌, length, refl, sym, ap, subst, arith, Bool, true, false, if◌then◌else◌, Some, None}
use Rattle.std.proofs.lemmas.List.{length-map}
use Rattle.offer_book.specs.Book.{BookContents}
use Rattle.node_ranges.specs.Ranges.{AreTight, RangesContents, SidesAreTight, is_proper, narrowed, root_of}
use Rattle.proof_tree.specs.declared.tree.Part.TheVariants.{Line}
use Rattle.node_pool.specs.declared.node.Node.{Node}
use Rattle.node_pool.specs.declared.node.NodeId.{NodeId}
use Rattle.node_pool.specs.declared.node.State.{State}
use Rattle.node_pool.specs.declared.node.State.TheVariants as state
use Rattle.node_pool.specs.Heap.{node_at}
use Rattle.node_pool.specs.Pool.{AreChildren, IsChildOf, SplitsAreWhole}
use Rattle.node_pool.specs.Queue.{AreParents, states_of}
use Rattle.node_pool.specs.Way.{AreProper, IsStep, IsWay, Step, narrowed_by, ranges_at}
use Rattle.node_pool.proofs.AgreeFacts.{Agree, agree-end, agree-start, agree-step}
use Rattle.node_pool.proofs.QueueFacts.{state-at}

-- the ranges on a way are tight
pub ways-tight : SidesAreTight → (book : BookContents) → AreTight book (root_of book) → (way : List Step) → AreProper book way → AreTight book (ranges_at book way)
ways-tight sides book root [] proper = root
ways-tight sides book root (step ∷ above) proper =
    sides book (ranges_at book above) (Line step.line) step.at step.right (ways-tight sides book root above proper.0) proper.1

-- the ranges of sums are the root's, as splits are of lines
pub ways-sums : (book : BookContents) (way : List Step) → (ranges_at book way).sums ≡ (root_of book).sums
ways-sums book [] = refl
ways-sums book (step ∷ above) = ways-sums book above

-- what is left of the way
pub record Left (book : BookContents) (states : List State) (child : ℕ) (now all : RangesContents) : Type 0 where
  pub above : List Step
  pub way : IsWay states child above
  pub proper : AreProper book above
  pub agree : Agree book (ranges_at book above) now all

pub left-start : SidesAreTight → (book : BookContents) (states : List State) (node : ℕ) (way : List Step) → AreTight book (root_of book) → IsWay states node way → AreProper book way →
    Left book states node (root_of book) (ranges_at book way)
left-start sides book states node way root is proper = record {
  above = way;
  way = is;
  proper = proper;
  agree = agree-start book (ranges_at book way) (ways-tight sides book root way proper) (ways-sums book way);
}

-- a step up
side_child : (child : ℕ) (left right : ℕ) (b : Bool) → child ≡ (if b then right else left) → (left ≡ child) ⊎ (right ≡ child)
side_child child left right true h = inr (sym h)
side_child child left right false h = inl (sym h)

child_of : (states : List State) (child parent : ℕ) (step : Step) → IsStep states child parent step → IsChildOf states child parent
child_of states child parent step is = record {
  line = step.line;
  at = step.at;
  left = is.left;
  right = is.right;
  split = is.split;
  side = side_child child is.left.0 is.right.0 step.right (is.side ∙ pick step.right);
}
  where
    pick : (b : Bool) → (if b then is.right.0 else is.left.0) ≡ (if b then is.right.0 else is.left.0)
    pick b = refl

side_told : (child left right : ℕ) (b : Bool) → child ≡ (if b then right else left) → right ≡ left + 1 → (right == child) ≡ b
side_told child left right true h next = grind (arith, h)
side_told child left right false h next = grind (arith, h, next)

pub record StepsUp (book : BookContents) (nodes : List Node) (child : ℕ) (now all : RangesContents) : Type 0 where
  pub parent : ℕ
  pub told : (node_at nodes child).parent ≡ Some (record { 0 = parent })
  pub lower : parent < child
  pub there : parent < length nodes
  pub inside : child < length nodes
  pub left : Left book (states_of nodes) parent (narrowed_by book now (node_at nodes parent).state child) all

steps_by : (book : BookContents) (nodes : List Node) (child : ℕ) (now all : RangesContents) (above : List Step) → child ≢ 0 → SplitsAreWhole (states_of nodes) → AreParents nodes →
    IsWay (states_of nodes) child above → AreProper book above → Agree book (ranges_at book above) now all → AreTight book now → AreTight book all →
    ((way : List Step) → AreProper book way → AreTight book (ranges_at book way)) → StepsUp book nodes child now all
steps_by book nodes child now all [] some whole parents way proper agree tight tight_all ways = absurd (some way)
steps_by book nodes child now all (step ∷ above) some whole parents way proper agree tight tight_all ways =
    let parent : ℕ = way.0 in
    let is : IsStep (states_of nodes) child parent step = way.1 in
    let are : AreChildren (states_of nodes) parent is.left is.right = whole parent step.line step.at is.left is.right is.split in
    let long : length (states_of nodes) ≡ length nodes = length-map nodes (λ (n : Node). n.state) in
    let later = are.later in let next = are.next in let there = are.there in
    let own : (is.left.0 ≡ child) ⊎ (is.right.0 ≡ child) = side_child child is.left.0 is.right.0 step.right is.side in
    let bounds : (parent < child) × (child < length nodes) =
    elim own [ inl l ↦ (omega (arith, l, later), omega (arith, l, next, there, long)) | inr r ↦ (omega (arith, r, later, next), omega (arith, r, there, long)) ] in
    let split : (node_at nodes parent).state ≡ state.Split step.line step.at is.left is.right = sym (state-at nodes parent) ∙ is.split in
    let side : (is.right.0 == child) ≡ step.right = side_told child is.left.0 is.right.0 step.right is.side next in
    let P : State → Type 0 = λ s. Agree book (ranges_at book above) (narrowed_by book now s child) all in
    let Q : Bool → Type 0 = λ b. Agree book (ranges_at book above) (if is_proper now (Line step.line) step.at then narrowed book now (Line step.line) step.at b else now) all in
    record {
      parent = parent;
      told = parents.told child parent (child_of (states_of nodes) child parent step is);
      lower = bounds.0;
      there = omega (arith, bounds.0, bounds.1);
      inside = bounds.1;
      left = record {
        above = above;
        way = way.2;
        proper = proper.0;
        agree = subst P (sym split) (subst Q (sym side)
            (agree-step book (ranges_at book above) now all step.line step.at step.right (ways above proper.0) tight tight_all proper.1 agree));
      };
    }

pub steps-up : SidesAreTight → (book : BookContents) (nodes : List Node) (child : ℕ) (now : RangesContents) (way : List Step) → child ≢ 0 → SplitsAreWhole (states_of nodes) → AreParents nodes →
    AreTight book (root_of book) → AreProper book way → AreTight book now → Left book (states_of nodes) child now (ranges_at book way) → StepsUp book nodes child now (ranges_at book way)
steps-up sides book nodes child now way some whole parents root proper tight left =
    steps_by book nodes child now (ranges_at book way) left.above some whole parents left.way left.proper left.agree tight (ways-tight sides book root way proper)
    (λ other is. ways-tight sides book root other is)

-- at the root
end_by : (book : BookContents) (states : List State) (child : ℕ) (now all : RangesContents) (above : List Step) → child ≡ 0 → SplitsAreWhole states → IsWay states child above →
    Agree book (ranges_at book above) now all → now ≡ all
end_by book states child now all [] none whole way agree = agree-end book now all agree
end_by book states child now all (step ∷ above) none whole way agree =
    let is : IsStep states child way.0 step = way.1 in
    let are : AreChildren states way.0 is.left is.right = whole way.0 step.line step.at is.left is.right is.split in
    let later = are.later in let next = are.next in
    absurd (elim (side_child child is.left.0 is.right.0 step.right is.side) [ inl l ↦ absurd (omega (arith, l, later, none)) | inr r ↦ absurd (omega (arith, r, later, next, none)) ])

pub left-end : (book : BookContents) (states : List State) (child : ℕ) (now all : RangesContents) → child ≡ 0 → SplitsAreWhole states → Left book states child now all → now ≡ all
left-end book states child now all none whole left = end_by book states child now all left.above none whole left.way left.agree

-- the parent that is told
same_parent : (parent : NodeId) (number : ℕ) → Some parent ≡ Some (record { 0 = number }) → parent.0 ≡ number
same_parent parent number h = let same : parent ≡ record { 0 = number } = cc in ap (λ (n : NodeId). n.0) same

pub no-parent : (parent : NodeId) → None ≡ Some parent → ⊥
no-parent parent h = absurd (cc)

pub parent-there : (book : BookContents) (nodes : List Node) (child : ℕ) (now all : RangesContents) (parent : NodeId) → StepsUp book nodes child now all →
    (node_at nodes child).parent ≡ Some parent → parent.0 < length nodes
parent-there book nodes child now all parent up told = let same : parent.0 ≡ up.parent = same_parent parent up.parent (sym told ∙ up.told) in let there = up.there in omega (arith, same, there)

pub parent-lower : (book : BookContents) (nodes : List Node) (child : ℕ) (now all : RangesContents) (parent : NodeId) → StepsUp book nodes child now all →
    (node_at nodes child).parent ≡ Some parent → parent.0 < child
parent-lower book nodes child now all parent up told = let same : parent.0 ≡ up.parent = same_parent parent up.parent (sym told ∙ up.told) in let lower = up.lower in omega (arith, same, lower)

pub next-left : (book : BookContents) (nodes : List Node) (child : ℕ) (now next all : RangesContents) (parent : NodeId) (s : State) → StepsUp book nodes child now all →
    (node_at nodes child).parent ≡ Some parent → s ≡ (node_at nodes parent.0).state → next ≡ narrowed_by book now s child → Left book (states_of nodes) parent.0 next all
next-left book nodes child now next all parent s up told s_is next_is =
    let same : parent.0 ≡ up.parent = same_parent parent up.parent (sym told ∙ up.told) in
    let P : ℕ → Type 0 = λ n. Left book (states_of nodes) n (narrowed_by book now (node_at nodes n).state child) all in
    let Q : State → Type 0 = λ t. Left book (states_of nodes) parent.0 (narrowed_by book now t child) all in
    let R : RangesContents → Type 0 = λ is. Left book (states_of nodes) parent.0 is all in
    subst R (sym next_is) (subst Q (sym s_is) (subst P (sym same) up.left))
