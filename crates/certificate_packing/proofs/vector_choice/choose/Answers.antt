use Rattle.std.proofs.Common.{◌≡◌, ◌++◌, ◌∷◌, ◌∙◌, length, ℕ, List, [], ap, arith, get_or, subst, sym}
use Rattle.std.proofs.lemmas.List.{get_or_default, length-append}
use Rattle.std.proofs.lemmas.List.Elements.{All-push}
use Rattle.proof_tree.specs.declared.tree.TreeNode.{TreeNode}
use Rattle.certificate_packing.specs.Packing.{AreLeafPrices, IsLeafPlace, node_prices}
use Rattle.certificate_packing.specs.declared.vector_choice.Candidate.{Candidate}
use Rattle.certificate_packing.proofs.vector_choice.choose.Goals as goal

pub loop-alloc-preserved : goal.loop-alloc-preserved
loop-alloc-preserved c =
    let i = c.loop-alloc.invariant in
    let nodes : List TreeNode = c.args.nodes.now in
    let vectors : List (List ℕ) = c.loop-alloc.vectors in
    let prices : List ℕ = c.new-in-loop-alloc.result in
    let own : Candidate = c.index-candidates-best.result in
    let P : List ℕ → Type 0 = λ ps. (place : ℕ) × IsLeafPlace nodes place × ((d : TreeNode) → ps ≡ node_prices (get_or nodes place d)) in
    let pushed : c.push.new.self ≡ vectors ++ prices ∷ [] = c.in_ok-push.ensures in
    let there : IsLeafPlace nodes own.leaf =
    subst (λ (candidate : Candidate). IsLeafPlace nodes candidate.leaf) (sym c.index-candidates-best.is) (c.requires.candidates c.best_of-best.result.candidate own c.best_of-best.ensures) in
    let here : (d : TreeNode) → prices ≡ node_prices (get_or nodes own.leaf d) =
    (λ d.
    c.new-in-loop-alloc.ensures ∙ c.in_ok-to_vec.ensures.items_if_clones_equal (λ x y is. is) ∙ c.prices_of-prices.ensures
    ∙ ap node_prices (c.index-nodes-own.is ∙ get_or_default nodes own.leaf c.index-nodes-own.result d there.0)) in
    record {
      prices = subst (AreLeafPrices nodes) (sym pushed) (All-push P vectors prices i.prices (own.leaf, there, here));
      few = omega (arith, ap length pushed, length-append vectors (prices ∷ []), c.loop-alloc-test.true, ap length c.as_slice.ensures);
    }
