use Rattle.std.proofs.Common.{◌≡◌, ◌∙◌, ◌⊎◌, ◌+◌, ◌<◌, ◌≤◌, ℕ, List, [], ◌∷◌, ◌++◌, All, Global, Vec, ap, arith, false, get_or, inl, inr, length, subst, sym, true}
use Rattle.std.proofs.lemmas.Bool.{cases_lt}
use Rattle.std.proofs.lemmas.List.{get_or_default, length-append}
use Rattle.std.proofs.lemmas.List.Elements.{All-push}
use Rattle.proof_tree.specs.declared.tree.TreeNode.{TreeNode}
use Rattle.proof_tree.specs.declared.tree.TreeNode.TheVariants as tree
use Rattle.certificate_packing.specs.Packing.{IsLeafNode, IsLeafPlace}
use Rattle.certificate_packing.proofs.vector_choice.list_leaves.Goals as goal
use Rattle.certificate_packing.proofs.vector_choice.list_leaves.Goals.{then-is_leaf+in_ok-push, else-is_leaf}

-- one more place
some-more : (nodes : List TreeNode) (last count : ℕ) → ((place : ℕ) → place < last → IsLeafPlace nodes place → 0 < count) → (IsLeafPlace nodes last → 0 < count) → (place : ℕ) →
    place < last + 1 → IsLeafPlace nodes place → 0 < count
some-more nodes last count before at place within leaf = by (cases_lt place last)
  where
    by : (place < last) ⊎ (last ≤ place) → 0 < count
    by (inl less) = before place less leaf
    by (inr past) = at (subst (IsLeafPlace nodes) (omega (arith, past, within)) leaf)

pub loop-place-preserved : goal.loop-place-preserved
loop-place-preserved c =
    let nodes : List TreeNode = c.args.nodes.now in
    let i = c.loop-place.invariant in
    let here : (d : TreeNode) → c.index-nodes-place.result ≡ get_or nodes c.loop-place.place d =
    (λ d. c.index-nodes-place.is ∙ get_or_default nodes c.loop-place.place c.index-nodes-place.result d c.loop-place-test.true) in
    elim c.if-is_leaf.branch [
      | then-is_leaf+in_ok-push w ↦
          let pushed : c.if-is_leaf.leaves.items ≡ c.loop-place.leaves.items ++ c.loop-place.place ∷ [] = ap (λ (ls : Vec ℕ Global). ls.items) w.leaves-is ∙ w.in_ok-push.ensures.items in
          let own : IsLeafPlace nodes c.loop-place.place = (c.loop-place-test.true, λ d. subst IsLeafNode (here d) (c.is_leaf.ensures.0 w.if-is_leaf.true)) in
          record {
            leaves = subst (All (IsLeafPlace nodes)) (sym pushed) (All-push (IsLeafPlace nodes) c.loop-place.leaves.items c.loop-place.place i.leaves own);
            some = λ place before leaf. omega (arith, ap length pushed, length-append c.loop-place.leaves.items (c.loop-place.place ∷ []));
          }
      | else-is_leaf w ↦
          let same : c.if-is_leaf.leaves.items ≡ c.loop-place.leaves.items = ap (λ (ls : Vec ℕ Global). ls.items) w.leaves-is in
          let no : ¬ IsLeafPlace nodes c.loop-place.place = (λ leaf. (let clash : false ≡ true = sym w.if-is_leaf.false ∙ c.is_leaf.ensures.1 (subst IsLeafNode (sym (here tree.Point)) (leaf.1 tree.Point)) in cc)) in
          record {
            leaves = subst (All (IsLeafPlace nodes)) (sym same) i.leaves;
            some = subst (λ (ls : List ℕ). (place : ℕ) → place < c.loop-place.place + 1 → IsLeafPlace nodes place → 0 < length ls) (sym same)
                (some-more nodes c.loop-place.place (length c.loop-place.leaves.items) i.some (λ leaf. absurd (no leaf)));
          }
    ]

pub returns-clause-some : goal.returns-clause-some
returns-clause-some c = λ place leaf. c.loop-place.invariant.some place (omega (arith, leaf.0, c.loop-place-test.false)) leaf
