-- Certificates, whole and packed, as what the lines of their texts say.
use Rattle.std.proofs.Common.{◌≡◌, ◌∙◌, ℕ, ◌≤◌, List, [], ◌∷◌, map, All, refl, sym, subst, ap, None}
use Rattle.std.specs.List.{flat_map}
use Rattle.std.proofs.lemmas.List.{length-map}
use Rattle.std.proofs.lemmas.List.Elements.{All-cons, All-head, All-nil, All-tail}
use Rattle.proof_tree.specs.declared.tree.TreeNode.{TreeNode}
use Rattle.proof_tree.specs.declared.tree.TreeNode.TheVariants as tree
use Rattle.proof_tree.specs.Tree.{AreTrees, IsNode}
use Rattle.bound_certificate.specs.declared.certificate.Certificate.{Certificate}
use Rattle.bound_certificate.specs.declared.line.Line.{Line}
use Rattle.bound_certificate.specs.declared.line.Line.TheVariants as line
use Rattle.bound_certificate.specs.declared.packed.Packed.{Packed}
use Rattle.bound_certificate.specs.declared.packed.PackedNode.{PackedNode}
use Rattle.bound_certificate.specs.declared.packed.PackedNode.TheVariants as node
use Rattle.bound_certificate.specs.declared.version.Version.TheVariants as version
use Rattle.bound_certificate.specs.declared.weighing.Weighing.{Weighing}
use Rattle.bound_certificate.specs.Certificate.{IsPlainNode, IsWellFormed}
use Rattle.bound_certificate.specs.Faults.{text_fault}
use Rattle.bound_certificate.specs.Packed.{IsPackedNode, IsPackedWellFormed, unpacked, unpacked_node}
use Rattle.bound_certificate.specs.Text.{IsPackedTextOf, IsSayableNode, IsTextOf, line_text, packed_line, tree_line}
use Rattle.bound_certificate.proofs.DueFacts.{IsNodeLine}
use Rattle.bound_certificate.proofs.FollowFacts.{IsWritten, Written, tree_of, written_lines}
use Rattle.bound_certificate.proofs.TextFacts.{IsWrittenText, written-found, written-good, written-one}

-- what the lines of a text say, with the prices of leaves written out
abbrev pub cert_of : ℕ → Written → Certificate
cert_of dates w = record { buys = w.buys; gap = w.gap; nodes = map (tree_of dates w.vectors) w.nodes }

-- ---- version 1
abbrev pub whole_written : Certificate → Written
whole_written cert = record { buys = cert.buys; gap = cert.gap; vectors = []; nodes = map tree_line cert.nodes }

line_tree : (dates : ℕ) (vectors : List (List ℕ)) (said : TreeNode) → tree_of dates vectors (tree_line said) ≡ said
line_tree dates vectors (tree.Split part at) = refl
line_tree dates vectors tree.Point = refl
line_tree dates vectors (tree.Closed leaf) = refl

lines_trees : (dates : ℕ) (vectors : List (List ℕ)) (nodes : List TreeNode) → map (tree_of dates vectors) (map tree_line nodes) ≡ nodes
lines_trees dates vectors [] = refl
lines_trees dates vectors (said ∷ nodes) =
    ap (λ (n : TreeNode). n ∷ map (tree_of dates vectors) (map tree_line nodes)) (line_tree dates vectors said) ∙ ap (λ (ns : List TreeNode). said ∷ ns) (lines_trees dates vectors nodes)

pub cert-written : (dates : ℕ) (cert : Certificate) → cert_of dates (whole_written cert) ≡ cert
cert-written dates cert = ap (λ (ns : List TreeNode). record { buys = cert.buys; gap = cert.gap; nodes = ns }) (lines_trees dates [] cert.nodes)

line_is : (dates : ℕ) (said : TreeNode) → IsNode dates said → IsPlainNode said → IsNodeLine version.One dates [] (tree_line said)
line_is dates (tree.Split part at) is plain = (is.0, is.1, plain)
line_is dates tree.Point is plain = tt
line_is dates (tree.Closed leaf) is plain = (is, plain.0, plain.1)

lines_are : (dates : ℕ) (nodes : List TreeNode) → All (IsNode dates) nodes → All IsPlainNode nodes → All (IsNodeLine version.One dates []) (map tree_line nodes)
lines_are dates [] all plain = All-nil (IsNodeLine version.One dates [])
lines_are dates (said ∷ nodes) all plain =
    All-cons (IsNodeLine version.One dates []) (tree_line said) (map tree_line nodes) (line_is dates said (All-head (IsNode dates) said nodes all) (All-head IsPlainNode said nodes plain))
    (lines_are dates nodes (All-tail (IsNode dates) said nodes all) (All-tail IsPlainNode said nodes plain))

pub is-written : (dates : ℕ) (cert : Certificate) → IsWellFormed dates cert → IsWritten version.One dates (whole_written cert)
is-written dates cert is =
    let P : List TreeNode → Type 0 = λ ns. AreTrees 1 ns in
    record {
      portfolio = is.portfolio;
      vectors_are = refl;
      few = subst (λ (k : ℕ). k ≤ 10_000) (sym (length-map cert.nodes tree_line)) is.few;
      nodes_are = lines_are dates cert.nodes is.nodes is.plain;
      tree = subst P (sym (lines_trees dates [] cert.nodes)) is.tree;
    }

-- and back
record IsTreeLine (dates : ℕ) (vectors : List (List ℕ)) (said : Line) : Type 0 where
  same : tree_line (tree_of dates vectors said) ≡ said
  is : IsNode dates (tree_of dates vectors said)
  plain : IsPlainNode (tree_of dates vectors said)

tree_is : (dates : ℕ) (vectors : List (List ℕ)) (said : Line) → IsNodeLine version.One dates vectors said → IsTreeLine dates vectors said
tree_is dates vectors (line.Split part at) is = record { same = refl; is = (is.0, is.1); plain = is.2 }
tree_is dates vectors line.Point is = record { same = refl; is = tt; plain = tt }
tree_is dates vectors (line.Leaf leaf) is = record { same = refl; is = is.0; plain = (is.1, is.2) }
tree_is dates vectors said is = absurd is

record AreTreeNodes (dates : ℕ) (vectors : List (List ℕ)) (nodes : List Line) : Type 0 where
  same : map tree_line (map (tree_of dates vectors) nodes) ≡ nodes
  are : All (IsNode dates) (map (tree_of dates vectors) nodes)
  plain : All IsPlainNode (map (tree_of dates vectors) nodes)

trees_are : (dates : ℕ) (vectors : List (List ℕ)) (nodes : List Line) → All (IsNodeLine version.One dates vectors) nodes → AreTreeNodes dates vectors nodes
trees_are dates vectors [] all = record { same = refl; are = All-nil (IsNode dates); plain = All-nil IsPlainNode }
trees_are dates vectors (said ∷ nodes) all =
    let first : IsTreeLine dates vectors said = tree_is dates vectors said (All-head (IsNodeLine version.One dates vectors) said nodes all) in
    let others : AreTreeNodes dates vectors nodes = trees_are dates vectors nodes (All-tail (IsNodeLine version.One dates vectors) said nodes all) in
    record {
      same = ap (λ (l : Line). l ∷ map tree_line (map (tree_of dates vectors) nodes)) first.same ∙ ap (λ (ls : List Line). said ∷ ls) others.same;
      are = All-cons (IsNode dates) (tree_of dates vectors said) (map (tree_of dates vectors) nodes) first.is others.are;
      plain = All-cons IsPlainNode (tree_of dates vectors said) (map (tree_of dates vectors) nodes) first.plain others.plain;
    }

pub well-written : (dates : ℕ) (w : Written) → IsWritten version.One dates w → IsWellFormed dates (cert_of dates w)
well-written dates w is = record {
  portfolio = is.portfolio;
  few = subst (λ (k : ℕ). k ≤ 10_000) (sym (length-map w.nodes (tree_of dates w.vectors))) is.few;
  nodes = (trees_are dates w.vectors w.nodes is.nodes_are).are;
  plain = (trees_are dates w.vectors w.nodes is.nodes_are).plain;
  tree = is.tree;
}

pub written-cert : (dates : ℕ) (w : Written) → IsWritten version.One dates w → whole_written (cert_of dates w) ≡ w
written-cert dates w is =
    ap (λ (vs : List (List ℕ)). record { buys = w.buys; gap = w.gap; vectors = vs; nodes = map tree_line (map (tree_of dates w.vectors) w.nodes) }) (sym is.vectors_are)
    ∙ ap (λ (ns : List Line). record { buys = w.buys; gap = w.gap; vectors = w.vectors; nodes = ns }) (trees_are dates w.vectors w.nodes is.nodes_are).same

-- ---- versions 2 and 3
abbrev pub packed_written : Weighing → Packed → Written
packed_written how packed = record { buys = packed.buys; gap = packed.gap; vectors = packed.vectors; nodes = map (packed_line how) packed.nodes }

abbrev pub node_of : Line → PackedNode
node_of (line.Split part at) = node.Split part at
node_of (line.Closed how rho mu vector changes weights) = node.Closed rho mu vector changes weights
node_of other = node.Point

abbrev pub packed_of : Written → Packed
packed_of w = record { buys = w.buys; gap = w.gap; vectors = w.vectors; nodes = map node_of w.nodes }

line_node : (how : Weighing) (said : PackedNode) → node_of (packed_line how said) ≡ said
line_node how (node.Split part at) = refl
line_node how node.Point = refl
line_node how (node.Closed rho mu vector changes weights) = refl

lines_nodes : (how : Weighing) (nodes : List PackedNode) → map node_of (map (packed_line how) nodes) ≡ nodes
lines_nodes how [] = refl
lines_nodes how (said ∷ nodes) =
    ap (λ (n : PackedNode). n ∷ map node_of (map (packed_line how) nodes)) (line_node how said) ∙ ap (λ (ns : List PackedNode). said ∷ ns) (lines_nodes how nodes)

pub packed-back : (how : Weighing) (packed : Packed) → packed_of (packed_written how packed) ≡ packed
packed-back how packed = ap (λ (ns : List PackedNode). record { buys = packed.buys; gap = packed.gap; vectors = packed.vectors; nodes = ns }) (lines_nodes how packed.nodes)

node_tree : (how : Weighing) (dates : ℕ) (vectors : List (List ℕ)) (said : PackedNode) → tree_of dates vectors (packed_line how said) ≡ unpacked_node dates vectors said
node_tree how dates vectors (node.Split part at) = refl
node_tree how dates vectors node.Point = refl
node_tree how dates vectors (node.Closed rho mu vector changes weights) = refl

nodes_trees : (how : Weighing) (dates : ℕ) (vectors : List (List ℕ)) (nodes : List PackedNode) → map (tree_of dates vectors) (map (packed_line how) nodes) ≡ map (unpacked_node dates vectors) nodes
nodes_trees how dates vectors [] = refl
nodes_trees how dates vectors (said ∷ nodes) =
    ap (λ (n : TreeNode). n ∷ map (tree_of dates vectors) (map (packed_line how) nodes)) (node_tree how dates vectors said)
    ∙ ap (λ (ns : List TreeNode). unpacked_node dates vectors said ∷ ns) (nodes_trees how dates vectors nodes)

pub cert-packed : (how : Weighing) (dates : ℕ) (packed : Packed) → cert_of dates (packed_written how packed) ≡ unpacked dates packed
cert-packed how dates packed = ap (λ (ns : List TreeNode). record { buys = packed.buys; gap = packed.gap; nodes = ns }) (nodes_trees how dates packed.vectors packed.nodes)

node_line_is : (how : Weighing) (dates : ℕ) (vectors : List (List ℕ)) (said : PackedNode) → IsPackedNode dates vectors said → IsSayableNode how said →
    IsNodeLine (version.Packed how) dates vectors (packed_line how said)
node_line_is how dates vectors (node.Split part at) is sayable = (is.0, is.1, sayable)
node_line_is how dates vectors node.Point is sayable = tt
node_line_is how dates vectors (node.Closed rho mu vector changes weights) is sayable = record { said = refl; leaf = is; weight = sayable.0; first = sayable.1; tail = sayable.2 }

node_lines_are : (how : Weighing) (dates : ℕ) (vectors : List (List ℕ)) (nodes : List PackedNode) → All (IsPackedNode dates vectors) nodes → All (IsSayableNode how) nodes →
    All (IsNodeLine (version.Packed how) dates vectors) (map (packed_line how) nodes)
node_lines_are how dates vectors [] all sayable = All-nil (IsNodeLine (version.Packed how) dates vectors)
node_lines_are how dates vectors (said ∷ nodes) all sayable =
    All-cons (IsNodeLine (version.Packed how) dates vectors) (packed_line how said) (map (packed_line how) nodes)
    (node_line_is how dates vectors said (All-head (IsPackedNode dates vectors) said nodes all) (All-head (IsSayableNode how) said nodes sayable))
    (node_lines_are how dates vectors nodes (All-tail (IsPackedNode dates vectors) said nodes all) (All-tail (IsSayableNode how) said nodes sayable))

pub is-packed : (how : Weighing) (dates : ℕ) (packed : Packed) → IsPackedWellFormed dates packed → All (IsSayableNode how) packed.nodes →
    IsWritten (version.Packed how) dates (packed_written how packed)
is-packed how dates packed is sayable =
    let P : List TreeNode → Type 0 = λ ns. AreTrees 1 ns in
    record {
      portfolio = is.portfolio;
      vectors_are = (is.few_vectors, is.vectors_are);
      few = subst (λ (k : ℕ). k ≤ 10_000) (sym (length-map packed.nodes (packed_line how))) is.few;
      nodes_are = node_lines_are how dates packed.vectors packed.nodes is.nodes_are sayable;
      tree = subst P (sym (nodes_trees how dates packed.vectors packed.nodes)) is.tree;
    }

-- and back
record IsPackedLine (how : Weighing) (dates : ℕ) (vectors : List (List ℕ)) (said : Line) : Type 0 where
  same : packed_line how (node_of said) ≡ said
  is : IsPackedNode dates vectors (node_of said)
  sayable : IsSayableNode how (node_of said)

packed_is : (how : Weighing) (dates : ℕ) (vectors : List (List ℕ)) (said : Line) → IsNodeLine (version.Packed how) dates vectors said → IsPackedLine how dates vectors said
packed_is how dates vectors (line.Split part at) is = record { same = refl; is = (is.0, is.1); sayable = is.2 }
packed_is how dates vectors line.Point is = record { same = refl; is = tt; sayable = tt }
packed_is how dates vectors (line.Closed own rho mu vector changes weights) is =
    record { same = ap (λ (u : Weighing). line.Closed u rho mu vector changes weights) (sym is.said); is = is.leaf; sayable = (is.weight, is.first, is.tail) }
packed_is how dates vectors said is = absurd is

record ArePackedLines (how : Weighing) (dates : ℕ) (vectors : List (List ℕ)) (nodes : List Line) : Type 0 where
  same : map (packed_line how) (map node_of nodes) ≡ nodes
  are : All (IsPackedNode dates vectors) (map node_of nodes)
  sayable : All (IsSayableNode how) (map node_of nodes)

packed_are : (how : Weighing) (dates : ℕ) (vectors : List (List ℕ)) (nodes : List Line) → All (IsNodeLine (version.Packed how) dates vectors) nodes → ArePackedLines how dates vectors nodes
packed_are how dates vectors [] all = record { same = refl; are = All-nil (IsPackedNode dates vectors); sayable = All-nil (IsSayableNode how) }
packed_are how dates vectors (said ∷ nodes) all =
    let first : IsPackedLine how dates vectors said = packed_is how dates vectors said (All-head (IsNodeLine (version.Packed how) dates vectors) said nodes all) in
    let others : ArePackedLines how dates vectors nodes = packed_are how dates vectors nodes (All-tail (IsNodeLine (version.Packed how) dates vectors) said nodes all) in
    record {
      same = ap (λ (l : Line). l ∷ map (packed_line how) (map node_of nodes)) first.same ∙ ap (λ (ls : List Line). said ∷ ls) others.same;
      are = All-cons (IsPackedNode dates vectors) (node_of said) (map node_of nodes) first.is others.are;
      sayable = All-cons (IsSayableNode how) (node_of said) (map node_of nodes) first.sayable others.sayable;
    }

pub written-packed : (how : Weighing) (dates : ℕ) (w : Written) → IsWritten (version.Packed how) dates w → packed_written how (packed_of w) ≡ w
written-packed how dates w is =
    ap (λ (ns : List Line). record { buys = w.buys; gap = w.gap; vectors = w.vectors; nodes = ns }) (packed_are how dates w.vectors w.nodes is.nodes_are).same

pub well-packed : (how : Weighing) (dates : ℕ) (w : Written) → IsWritten (version.Packed how) dates w → IsPackedWellFormed dates (packed_of w)
well-packed how dates w is =
    let P : List Line → Type 0 = λ ns. AreTrees 1 (map (tree_of dates w.vectors) ns) in
    let Q : List TreeNode → Type 0 = λ ns. AreTrees 1 ns in
    let are : ArePackedLines how dates w.vectors w.nodes = packed_are how dates w.vectors w.nodes is.nodes_are in
    record {
      portfolio = is.portfolio;
      few_vectors = is.vectors_are.0;
      vectors_are = is.vectors_are.1;
      few = subst (λ (k : ℕ). k ≤ 10_000) (sym (length-map w.nodes node_of)) is.few;
      nodes_are = are.are;
      tree = subst Q (nodes_trees how dates w.vectors (map node_of w.nodes)) (subst P (sym are.same) is.tree);
    }

-- ---- texts
pub text-written : (dates : ℕ) (cert : Certificate) (bytes : List ℕ) → IsTextOf dates cert bytes → IsWrittenText version.One dates (whole_written cert) bytes
text-written dates cert bytes is = record { is = is-written dates cert is.well_formed; text = is.text }

pub text-cert : (dates : ℕ) (w : Written) (bytes : List ℕ) → IsWrittenText version.One dates w bytes → IsTextOf dates (cert_of dates w) bytes
text-cert dates w bytes is = record {
  well_formed = well-written dates w is.is;
  text = is.text ∙ ap (λ (x : Written). flat_map line_text (written_lines version.One x)) (sym (written-cert dates w is.is));
}

pub packed-text-written : (dates : ℕ) (packed : Packed) (bytes : List ℕ) → (is : IsPackedTextOf dates packed bytes) →
    IsWrittenText (version.Packed is.version) dates (packed_written is.version packed) bytes
packed-text-written dates packed bytes is = record { is = is-packed is.version dates packed is.well_formed is.sayable; text = is.text }

pub text-packed : (how : Weighing) (dates : ℕ) (w : Written) (bytes : List ℕ) → IsWrittenText (version.Packed how) dates w bytes → IsPackedTextOf dates (packed_of w) bytes
text-packed how dates w bytes is = record {
  version = how;
  well_formed = well-packed how dates w is.is;
  sayable = (packed_are how dates w.vectors w.nodes is.is.nodes_are).sayable;
  text = is.text ∙ ap (λ (x : Written). flat_map line_text (written_lines (version.Packed how) x)) (sym (written-packed how dates w is.is));
}

pub text-found : (dates : ℕ) (bytes : List ℕ) → text_fault version.One dates bytes ≡ None → (cert : Certificate) × IsTextOf dates cert bytes
text-found dates bytes h = let found = written-found version.One dates bytes h in (cert_of dates found.0, text-cert dates found.0 bytes found.1)

pub text-good : (dates : ℕ) (cert : Certificate) (bytes : List ℕ) → IsTextOf dates cert bytes → text_fault version.One dates bytes ≡ None
text-good dates cert bytes is = written-good version.One dates (whole_written cert) bytes tt (text-written dates cert bytes is)

pub text-one : (dates : ℕ) (bytes : List ℕ) (one other : Certificate) → IsTextOf dates one bytes → IsTextOf dates other bytes → one ≡ other
text-one dates bytes one other is also =
    let same : whole_written one ≡ whole_written other = written-one version.One dates bytes (whole_written one) (whole_written other) tt (text-written dates one bytes is) (text-written dates other bytes also) in
    sym (cert-written dates one) ∙ ap (λ (w : Written). cert_of dates w) same ∙ cert-written dates other
