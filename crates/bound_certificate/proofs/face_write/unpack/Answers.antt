use Rattle.std.proofs.Common.{◌≡◌, ◌∙◌, ◌<◌, ◌≤◌, ℕ, List, Option, ap, arith, get_or, length, map, sym, subst}
use Rattle.std.proofs.lemmas.List.{take_all}
use Rattle.proof_tree.specs.declared.tree.TreeNode.{TreeNode}
use Rattle.bound_certificate.specs.declared.certificate.Buy.{Buy}
use Rattle.bound_certificate.specs.declared.certificate.Certificate.{Certificate}
use Rattle.bound_certificate.specs.declared.packed.Packed.{Packed}
use Rattle.bound_certificate.specs.declared.packed.PackedNode.{PackedNode}
use Rattle.bound_certificate.specs.Packed.{IsUnpackable, unpacked_node}
use Rattle.bound_certificate.proofs.PackableFacts.{unpackable-at, unpacked-packable}
use Rattle.bound_certificate.proofs.face_write.unpack.Goals as goal

pub unpacked_node-requires : goal.unpacked_node-requires
unpacked_node-requires c =
    let packed : Packed = c.args.packed.now in
    let said : PackedNode = c.node-item.result in
    let index : ℕ = c.loop-node.node-index in
    let at : said ≡ get_or packed.nodes index said = c.node-item.is ∙ ap (λ (ns : List PackedNode). get_or ns index said) c.as_slice-node-items.ensures in
    let inside : index < length packed.nodes = omega (arith, c.loop-node-test.true, ap length c.as_slice-node-items.ensures) in
    subst (λ (vs : List (List ℕ)). IsUnpackable c.args.dates vs said) (sym c.as_slice-in-loop-node.ensures)
    (subst (IsUnpackable c.args.dates packed.vectors) (sym at) (unpackable-at c.args.dates index packed said c.requires.packed inside))

pub returns-clause-packable : goal.returns-clause-packable
returns-clause-packable c =
    let packed : Packed = c.args.packed.now in
    let cert : Certificate = record { buys = c.in_ok-copied_buys.field-0; gap = packed.gap; nodes = c.new.result } in
    let all : length packed.nodes ≤ c.loop-node.node-index = omega (arith, c.loop-node-test.false, ap length c.as_slice-node-items.ensures) in
    unpacked-packable c.args.dates packed cert
    (ap (λ (o : Option (List Buy)). record { buys = o; gap = packed.gap; nodes = c.new.result }) (c.in_ok-copied_buys.ensures ∙ c.as_ref.ensures.value)
    ∙ ap (λ (ns : List TreeNode). record { buys = packed.buys; gap = packed.gap; nodes = ns })
    (c.new.ensures ∙ c.loop-node.invariant ∙ ap (λ (ns : List PackedNode). map (unpacked_node c.args.dates packed.vectors) ns) (take_all c.loop-node.node-index packed.nodes all)))
    c.requires.packed
