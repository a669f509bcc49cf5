-- Each certificate that may be packed has a text.
use Rattle.std.proofs.Common.{◌≡◌, ◌∙◌, ℕ, zero, suc, ◌+◌, ◌≤◌, List, [], ◌∷◌, ◌++◌, All, length, map, get_or, refl, sym, ap, subst, arith, add-one, replicate, ◌==◌, Bool, true, false, Some}
use Rattle.std.proofs.lemmas.List.{get_or-replicate, length-replicate}
use Rattle.std.proofs.lemmas.List.Elements.{All-cons, All-head, All-nil, All-tail}
use Rattle.proof_tree.specs.declared.tree.TreeNode.{TreeNode}
use Rattle.proof_tree.specs.declared.tree.TreeNode.TheVariants as tree
use Rattle.bound_certificate.specs.declared.certificate.Certificate.{Certificate}
use Rattle.bound_certificate.specs.declared.packed.Change.{Change}
use Rattle.bound_certificate.specs.declared.packed.Packed.{Packed}
use Rattle.bound_certificate.specs.declared.packed.PackedNode.{PackedNode}
use Rattle.bound_certificate.specs.declared.packed.PackedNode.TheVariants as node
use Rattle.proof_tree.specs.Tree.{IsNode}
use Rattle.bound_certificate.specs.Packed.{IsPackable, IsPackedNode, IsVector, unpacked_node}
use Rattle.bound_certificate.specs.Text.{packed_text_of}
use Rattle.bound_certificate.specs.Versions.{IsPackedFormOf}
use Rattle.bound_certificate.proofs.PackableFacts.{written-packed-text}
use Rattle.certificate_packing.specs.Packing.{IsDifference, IsNodePacked}
use Rattle.certificate_packing.proofs.PackFacts.{IsSoFar, no-change, none-yet, one-change, whole-difference}
use Rattle.certificate_packing.proofs.PackedOfFacts.{said-packed, said-same, unpacked-is, well-formed}

-- the changes of a list from another, up to a place
record HasSoFar (vector prices : List ℕ) (place : ℕ) : Type 0 where
  changes : List Change
  is : IsSoFar vector prices place changes

more-so-far : (vector prices : List ℕ) (place : ℕ) → suc place ≤ length vector → length vector ≡ length prices → HasSoFar vector prices place → HasSoFar vector prices (suc place)
more-so-far vector prices place few long before = by (get_or vector place 0 == get_or prices place 0) refl
  where
    by : (t : Bool) → (get_or vector place 0 == get_or prices place 0) ≡ t → HasSoFar vector prices (suc place)
    by true same =
        let equal : get_or vector place 0 ≡ get_or prices place 0 = grind (arith, same) in
        subst (HasSoFar vector prices) (add-one place)
        (record { changes = before.changes; is = no-change vector prices place before.changes before.is (omega (arith, few)) long equal })
    by false other =
        let differ : ¬ (get_or vector place 0 ≡ get_or prices place 0) = (λ equal. (let clash : false ≡ true = sym other ∙ grind (arith, equal) in cc)) in
        subst (HasSoFar vector prices) (add-one place)
        (record {
          changes = before.changes ++ record { place = place + 1; price = get_or prices place 0 } ∷ [];
          is = one-change vector prices place before.changes before.is (omega (arith, few)) long differ;
        })

so-far : (vector prices : List ℕ) (place : ℕ) → place ≤ length vector → length vector ≡ length prices → HasSoFar vector prices place
so-far vector prices zero few long = record { changes = []; is = none-yet vector prices }
so-far vector prices (suc place) few long = more-so-far vector prices place few long (so-far vector prices place (omega (arith, few)) long)

-- lists of one length have a difference
record HasDifference (vector prices : List ℕ) : Type 0 where
  changes : List Change
  is : IsDifference (Some vector) prices changes

difference : (vector prices : List ℕ) → length vector ≡ length prices → HasDifference vector prices
difference vector prices long =
    let all = so-far vector prices (length vector) (omega arith) long in
    record { changes = all.changes; is = whole-difference vector prices (length vector) all.changes all.is long long }

-- a node, and then several, packed with one vector
record IsPackedBy (vectors : List (List ℕ)) (told : TreeNode) : Type 0 where
  said : PackedNode
  is : IsNodePacked false vectors told said

record ArePackedBy (dates : ℕ) (vectors : List (List ℕ)) (nodes : List TreeNode) : Type 0 where
  said : List PackedNode
  same : map (unpacked_node dates vectors) said ≡ nodes
  are : All (IsPackedNode dates vectors) said

node-by : (dates : ℕ) (vector : List ℕ) (told : TreeNode) → length vector ≡ dates → IsNode dates told → IsPackedBy (vector ∷ []) told
node-by dates vector (tree.Split part at) long is = record { said = node.Split part at; is = refl }
node-by dates vector tree.Point long is = record { said = node.Point; is = refl }
node-by dates vector (tree.Closed leaf) long is =
    let own = difference vector leaf.prices (long ∙ sym is.every_date) in
    record { said = node.Closed leaf.rho leaf.mu 1 own.changes leaf.weights; is = (refl, refl, λ _. omega arith, omega arith, own.is, refl) }

nodes-by : (dates : ℕ) (vector : List ℕ) (nodes : List TreeNode) → length vector ≡ dates → All (IsNode dates) nodes → ArePackedBy dates (vector ∷ []) nodes
nodes-by dates vector [] long all = record { said = []; same = refl; are = All-nil (IsPackedNode dates (vector ∷ [])) }
nodes-by dates vector (told ∷ nodes) long all =
    let vectors : List (List ℕ) = vector ∷ [] in
    let good = All-head (IsNode dates) told nodes all in
    let first = node-by dates vector told long good in
    let others = nodes-by dates vector nodes long (All-tail (IsNode dates) told nodes all) in
    record {
      said = first.said ∷ others.said;
      same =
          ap (λ (n : TreeNode). n ∷ map (unpacked_node dates vectors) others.said) (said-same false dates vectors told first.said good first.is)
          ∙ ap (λ (ns : List TreeNode). told ∷ ns) others.same;
      are = All-cons (IsPackedNode dates vectors) first.said others.said (said-packed false dates vectors told first.said good first.is) others.are;
    }

-- a vector for whatever leaves there are: each price is 0
zeros-are : (dates : ℕ) → IsVector dates (replicate dates 0)
zeros-are dates = record {
  every_date = length-replicate dates 0;
  range = λ k d inside. omega (arith, get_or-replicate dates k 0 d (omega (arith, inside, length-replicate {A = ℕ} dates 0)));
  falling = λ i j d before inside. omega (arith, get_or-replicate dates j 0 d (omega (arith, inside, length-replicate {A = ℕ} dates 0)));
}

-- a text, and that it is one
pub record HasPackedForm (dates : ℕ) (cert : Certificate) : Type 0 where
  pub text : List ℕ
  pub is : IsPackedFormOf dates cert text

pub packed-form : (dates : ℕ) (cert : Certificate) → IsPackable dates cert → HasPackedForm dates cert
packed-form dates cert able =
    let zeros : List ℕ = replicate dates 0 in
    let are = zeros-are dates in
    let nodes = nodes-by dates zeros cert.nodes are.every_date able.nodes_are in
    let packed : Packed = record { buys = cert.buys; gap = cert.gap; vectors = zeros ∷ []; nodes = nodes.said } in
    let vectors : All (IsVector dates) packed.vectors = All-cons (IsVector dates) zeros [] are (All-nil (IsVector dates)) in
    record {
      text = packed_text_of packed;
      is = record {
        packed = packed;
        text = written-packed-text dates packed (well-formed dates cert packed able (omega arith) vectors nodes.same nodes.are refl refl);
        same = unpacked-is dates cert packed nodes.same refl refl;
      };
    }
