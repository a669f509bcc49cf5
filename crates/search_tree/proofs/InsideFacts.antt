-- The leaves of a tree in preorder are numbers of its nodes.
use Rattle.std.proofs.Common.{◌≡◌, ◌∙◌, inl, inr, ℕ, ◌<◌, List, [], ◌++◌, length, sym, subst}
use Rattle.std.specs.List.{All}
use Rattle.std.proofs.lemmas.Bool.{cases_lt}
use Rattle.std.proofs.lemmas.List.{get_or_past}
use Rattle.std.proofs.lemmas.List.Elements.{All-append, All-cons, All-nil}
use Rattle.node_pool.specs.Pool.{state_at}
use Rattle.node_pool.specs.Tree.{IsPreorderOf, IsTreeOf, Leaf, Split, Tree, preorder}
use Rattle.node_pool.specs.declared.node.Link.{Link}
use Rattle.node_pool.specs.declared.node.Link.TheVariants as link
use Rattle.node_pool.specs.declared.node.State.TheVariants as state
use Rattle.search_tree.specs.Tree.{HaveOwnNumbers, IsInside}
use Rattle.node_pool.specs.declared.node.State.{State}

closed-inside : (states : List State) (number leaf : ℕ) → state_at states number ≡ state.Closed leaf → number < length states
closed-inside states number leaf is = elim (cases_lt number (length states)) [
  | inl inside ↦ inside
  | inr past ↦ absurd (let clash : state.InHand ≡ state.Closed leaf = sym (get_or_past states number state.InHand past) ∙ is in cc)
]

below-inside : (states : List State) (number : ℕ) (tree : Tree) → HaveOwnNumbers states → IsTreeOf states number tree → All (IsInside (length states)) (preorder tree)
below-inside states number (Leaf leaf) own is =
    All-cons (IsInside (length states)) (link.Leaf leaf) [] (subst (λ (n : ℕ). n < length states) (sym (own number leaf is)) (closed-inside states number leaf is)) (All-nil (IsInside (length states)))
below-inside states number (Split line at left right) own is =
    All-cons (IsInside (length states)) (link.Split line at) (preorder left ++ preorder right) tt
    (All-append (IsInside (length states)) (preorder left) (preorder right) (below-inside states is.0.0 left own is.3) (below-inside states is.1.0 right own is.4))

pub all-inside : (states : List State) (links : List Link) (count : ℕ) → count ≡ length states → HaveOwnNumbers states → IsPreorderOf states links → All (IsInside count) links
all-inside states links count same own is =
    subst (λ (n : ℕ). All (IsInside n) links) (sym same) (subst (All (IsInside (length states))) (sym is.2) (below-inside states 0 is.0 own is.1))
