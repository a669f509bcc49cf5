-- The text of a certificate, part by part.
use Rattle.std.proofs.Common.{◌≡◌, ◌∙◌, ℕ, List, [], ◌∷◌, ◌++◌, length, map, sym, ap, Option, append_assoc, codes}
use Rattle.std.specs.List.{flat_map}
use Rattle.std.proofs.lemmas.Grind.{flat_map-append}
use Rattle.std.proofs.lemmas.List.{append-nil, length-map}
use Rattle.bound_certificate.specs.declared.certificate.Buy.{Buy}
use Rattle.bound_certificate.specs.declared.packed.Packed.{Packed}
use Rattle.bound_certificate.specs.declared.line.Line.{Line}
use Rattle.bound_certificate.specs.declared.line.Line.TheVariants as line
use Rattle.bound_certificate.specs.declared.version.Version.{Version}
use Rattle.bound_certificate.specs.declared.version.Version.TheVariants as version
use Rattle.bound_certificate.specs.declared.weighing.Weighing.{Weighing}
use Rattle.bound_certificate.specs.Text.{line_text, numbered, packed_line, packed_text_in, portfolio_lines}

-- the first lines
abbrev pub begin_lines : Version → Option (List Buy) → ℕ → List Line
begin_lines v buys gap = line.Title v ∷ (portfolio_lines buys ++ line.Gap gap ∷ [])

begin_rest : (v : Version) (buys : Option (List Buy)) (gap : ℕ) (rest : List Line) →
    flat_map line_text (begin_lines v buys gap) ++ flat_map line_text rest ≡ flat_map line_text (line.Title v ∷ (portfolio_lines buys ++ line.Gap gap ∷ rest))
begin_rest v buys gap rest =
    sym (flat_map-append line_text (begin_lines v buys gap) rest)
    ∙ ap (λ (ls : List Line). flat_map line_text (line.Title v ∷ ls)) (append_assoc (portfolio_lines buys) (line.Gap gap ∷ []) rest)

-- the lines of nodes, and the last
tree_text : (nodes : List Line) → flat_map line_text (nodes ++ line.End ∷ []) ≡ flat_map line_text nodes ++ line_text line.End
tree_text nodes = flat_map-append line_text nodes (line.End ∷ []) ∙ ap (λ (bs : List ℕ). flat_map line_text nodes ++ bs) (append-nil (line_text line.End))

five : (a b c d e f : List ℕ) → ((((a ++ b) ++ c) ++ d) ++ e) ++ f ≡ a ++ (b ++ (c ++ (d ++ (e ++ f))))
five a b c d e f = simp append_assoc

pub packed-text : (how : Weighing) (packed : Packed) →
    ((((flat_map line_text (begin_lines (version.Packed how) packed.buys packed.gap) ++ numbered (codes "vectors") (length packed.vectors ∷ [])) ++ flat_map line_text (map line.Vector packed.vectors))
    ++ numbered (codes "nodes") (length packed.nodes ∷ [])) ++ flat_map line_text (map (packed_line how) packed.nodes)) ++ numbered (codes "end") []
    ≡ packed_text_in how packed
packed-text how packed =
    let nodes : List Line = map (packed_line how) packed.nodes in
    let vectors : List Line = map line.Vector packed.vectors in
    let tree : List Line = line.Nodes (length nodes) ∷ (nodes ++ line.End ∷ []) in
    let rest : List Line = line.Vectors (length packed.vectors) ∷ (vectors ++ tree) in
    let begun : List ℕ = flat_map line_text (begin_lines (version.Packed how) packed.buys packed.gap) in
    let count : List ℕ = line_text (line.Vectors (length packed.vectors)) in
    let behind : flat_map line_text (vectors ++ tree) ≡ flat_map line_text vectors ++ (line_text (line.Nodes (length nodes)) ++ (flat_map line_text nodes ++ line_text line.End)) =
    flat_map-append line_text vectors tree ∙ ap (λ (bs : List ℕ). flat_map line_text vectors ++ (line_text (line.Nodes (length nodes)) ++ bs)) (tree_text nodes) in
    ap (λ (k : ℕ). ((((begun ++ count) ++ flat_map line_text vectors) ++ numbered (codes "nodes") (k ∷ [])) ++ flat_map line_text nodes) ++ line_text line.End) (sym (length-map packed.nodes (packed_line how)))
    ∙ five begun count (flat_map line_text vectors) (line_text (line.Nodes (length nodes))) (flat_map line_text nodes) (line_text line.End)
    ∙ ap (λ (bs : List ℕ). begun ++ (count ++ bs)) (sym behind) ∙ begin_rest (version.Packed how) packed.buys packed.gap rest
