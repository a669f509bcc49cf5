use Rattle.bound_certificate.specs.Certificate.{IsPlainNode}
use Rattle.std.proofs.Common.{◌∙◌, ◌≤◌, ℕ, All, not, List, ap, arith, get_or, length, refl, subst, sym}
use Rattle.proof_tree.specs.declared.tree.TreeNode.{TreeNode}
use Rattle.bound_certificate.specs.declared.packed.PackedNode.{PackedNode}
use Rattle.certificate_packing.specs.Packing.{IsNodePacked, IsPackingAt}
use Rattle.certificate_packing.proofs.PackedOfFacts.{ArePacked, AreVectorsFor, all-packed, none-packed, one-packed, packing-at, vectors-for}
use Rattle.certificate_packing.proofs.packing.pack.Goals as goal

pub loop-node-init : goal.loop-node-init
loop-node-init c =
    let e = c.in_ok-vectors.ensures in
    let own : List (List ℕ) = c.vectors.inside.vectors.items in
    record {
      vectors = subst (AreVectorsFor (not c.are_plain-stairs.result) c.args.cert.now) (sym c.vectors.view_is) (vectors-for (not c.are_plain-stairs.result) c.args.cert.now c.as_slice-2.result.now c.in_ok-vectors.vectors c.as_slice-2.ensures e.prices e.few e.some);
      nodes = none-packed (not c.are_plain-stairs.result) c.args.cert.now own c.in_ok-nodes.nodes.items c.in_ok-nodes.ensures.items;
    }

pub pack_node-requires : goal.pack_node-requires
pack_node-requires c =
    subst (λ (vs : List (List ℕ)). IsPackingAt (not c.are_plain-stairs.result) vs c.node-item.result) (c.vectors.view_is ∙ sym c.as_slice-in-loop-node.ensures)
    (packing-at (not c.are_plain-stairs.result) c.args.cert.now c.vectors.inside.vectors.items c.loop-node.node-index c.node-item.result c.requires c.loop-node.invariant.vectors
    (omega (arith, c.loop-node-test.true, ap length c.as_slice-node-items.ensures))
    (c.node-item.is ∙ ap (λ (ns : List TreeNode). get_or ns c.loop-node.node-index c.node-item.result) c.as_slice-node-items.ensures))

pub loop-node-preserved : goal.loop-node-preserved
loop-node-preserved c = record {
  vectors = c.loop-node.invariant.vectors;
  nodes =
      one-packed (not c.are_plain-stairs.result) c.args.cert.now c.vectors.inside.vectors.items c.loop-node.node-index c.loop-node.nodes.items c.push.new.self.items c.node-item.result c.in_ok-pack_node.field-0
      c.loop-node.invariant.nodes (omega (arith, c.loop-node-test.true, ap length c.as_slice-node-items.ensures))
      (c.node-item.is ∙ ap (λ (ns : List TreeNode). get_or ns c.loop-node.node-index c.node-item.result) c.as_slice-node-items.ensures)
      (subst (λ (vs : List (List ℕ)). IsNodePacked (not c.are_plain-stairs.result) vs c.node-item.result c.in_ok-pack_node.field-0) (c.as_slice-in-loop-node.ensures ∙ sym c.vectors.view_is) c.in_ok-pack_node.ensures) c.in_ok-push.ensures.items;
}

pub returns : goal.returns
returns c =
    let own : List (List ℕ) = c.in_ok-vectors.vectors in
    let all : length c.args.cert.now.nodes ≤ c.loop-node.node-index = omega (arith, c.loop-node-test.false, ap length c.as_slice-node-items.ensures) in
    let P : List PackedNode → Type 0 = λ ns. ArePacked (not c.are_plain-stairs.result) c.args.cert.now own c.loop-node.node-index ns in
    all-packed (not c.are_plain-stairs.result) c.args.cert.now (record { buys = c.in_ok-copied_buys.field-0; gap = c.args.cert.now.gap; vectors = own; nodes = c.new.result }) c.loop-node.node-index
    (subst (AreVectorsFor (not c.are_plain-stairs.result) c.args.cert.now) c.vectors.view_is c.loop-node.invariant.vectors)
    (subst P (sym c.new.ensures) (subst (λ (vs : List (List ℕ)). ArePacked (not c.are_plain-stairs.result) c.args.cert.now vs c.loop-node.node-index c.loop-node.nodes.items) c.vectors.view_is c.loop-node.invariant.nodes)) all (c.in_ok-copied_buys.ensures ∙ c.as_ref.ensures.value) refl
    (λ plain. ap not (c.are_plain-stairs.ensures.1 (subst (All IsPlainNode) (sym c.as_slice.ensures) plain)))
