use Rattle.std.proofs.Common.{◌≡◌, ◌∙◌, ◌++◌, ◌∷◌, List, [], ap, codes, length, map, ℕ, Option}
use Rattle.std.specs.List.{flat_map}
use Rattle.bound_certificate.specs.declared.certificate.Buy.{Buy}
use Rattle.bound_certificate.specs.declared.packed.PackedNode.{PackedNode}
use Rattle.bound_certificate.specs.declared.line.Line.TheVariants as line
use Rattle.bound_certificate.specs.declared.version.Version.TheVariants as version
use Rattle.bound_certificate.specs.declared.weighing.Weighing.{Weighing}
use Rattle.bound_certificate.specs.Text.{line_text, numbered, packed_line, packed_text_in, packed_weighing}
use Rattle.bound_certificate.proofs.WriteFacts.{begin_lines, packed-text}
use Rattle.bound_certificate.proofs.write.write_packed.Goals as goal

pub returns : goal.returns
returns c =
    let packed = c.args.packed.now in
    let how : Weighing = c.weighing_of-weighing.result in
    let chosen : how ≡ packed_weighing packed.nodes = c.weighing_of-weighing.ensures ∙ ap (λ (ns : List PackedNode). packed_weighing ns) c.as_slice.ensures in
    c.in_ok-push_line-3.ensures
    ∙ ap (λ (bs : List ℕ). bs ++ numbered (codes "end") []) (c.in_ok-push_packed_nodes.ensures
    ∙ ap (λ (ns : List PackedNode). c.push_line-2.new.text.items ++ flat_map line_text (map (packed_line how) ns)) c.as_slice-5.ensures
    ∙ ap (λ (bs : List ℕ). bs ++ flat_map line_text (map (packed_line how) packed.nodes)) (c.in_ok-push_line-2.ensures
    ∙ ap (λ (ns : List PackedNode). c.push_vectors.new.text.items ++ numbered (codes "nodes") (length ns ∷ [])) c.as_slice-4.ensures
    ∙ ap (λ (bs : List ℕ). bs ++ numbered (codes "nodes") (length packed.nodes ∷ [])) (c.in_ok-push_vectors.ensures
    ∙ ap (λ (vs : List (List ℕ)). c.push_line.new.text.items ++ flat_map line_text (map line.Vector vs)) c.as_slice-3.ensures
    ∙ ap (λ (bs : List ℕ). bs ++ flat_map line_text (map line.Vector packed.vectors)) (c.in_ok-push_line.ensures
    ∙ ap (λ (vs : List (List ℕ)). c.push_begin.new.text.items ++ numbered (codes "vectors") (length vs ∷ [])) c.as_slice-2.ensures
    ∙ ap (λ (bs : List ℕ). bs ++ numbered (codes "vectors") (length packed.vectors ∷ [])) (c.in_ok-push_begin.ensures
    ∙ ap (λ (o : Option (List Buy)). c.new-text.result.items ++ flat_map line_text (begin_lines (version.Packed how) o packed.gap)) c.as_ref.ensures.value
    ∙ ap (λ (bs : List ℕ). bs ++ flat_map line_text (begin_lines (version.Packed how) packed.buys packed.gap)) c.new-text.ensures.items)))))
    ∙ packed-text how packed ∙ ap (λ (u : Weighing). packed_text_in u packed) chosen
