-- A certificate packed node by node.
use Rattle.std.proofs.Common.{◌≡◌, ◌≢◌, ◌∙◌, ℕ, ◌+◌, ◌-◌, ◌*◌, ◌<◌, ◌≤◌, Bool, true, false, ◌==◌, ◌&&◌, ◌||◌, nat_le, if◌then◌else◌, List, [], ◌∷◌, ◌++◌, length, map, take, get_or, All, refl, sym, subst, ap, arith, Option}
use Rattle.std.proofs.lemmas.List.{get_or_default, length-map, map-append, take_all, take_more}
use Rattle.std.proofs.lemmas.List.Elements.{All-nil, All-push}
use Rattle.proof_tree.specs.declared.prices.TheConstants.{PRICE_SCALE}
use Rattle.proof_tree.specs.declared.tree.Leaf.{Leaf}
use Rattle.proof_tree.specs.declared.tree.TreeNode.{TreeNode}
use Rattle.proof_tree.specs.declared.tree.TreeNode.TheVariants as tree
use Rattle.proof_tree.specs.Tree.{AreTrees, IsLeaf, IsNode}
use Rattle.proof_tree.specs.declared.weights.SumWeight.{SumWeight}
use Rattle.bound_certificate.specs.declared.certificate.Buy.{Buy}
use Rattle.bound_certificate.specs.declared.certificate.Certificate.{Certificate}
use Rattle.bound_certificate.specs.declared.packed.Change.{Change}
use Rattle.bound_certificate.specs.declared.packed.Packed.{Packed}
use Rattle.bound_certificate.specs.declared.packed.PackedNode.{PackedNode}
use Rattle.bound_certificate.specs.declared.packed.PackedNode.TheVariants as node
use Rattle.bound_certificate.specs.declared.limits.TheConstants.{MOST_DATES, MOST_PACKED_BUYS, MOST_VECTORS}
use Rattle.proof_tree.specs.declared.tree.Part.TheVariants as part
use Rattle.bound_certificate.specs.declared.weighing.Weighing.TheVariants as weighing
use Rattle.bound_certificate.specs.Certificate.{IsPlainNode, IsPortfolio}
use Rattle.bound_certificate.specs.Text.{is_plain}
use Rattle.bound_certificate.specs.Weights.{IsWholeOrNone}
use Rattle.std.specs.List.{list_all}
use Rattle.std.proofs.lemmas.Bool.{and_parts}
use Rattle.bound_certificate.specs.Packed.{IsChange, IsPackable, IsPackedNode, IsPackedWellFormed, IsVector, changed, leaf_with, unpacked, unpacked_node, vector_of}
use Rattle.certificate_packing.specs.Packing.{AreLeafPrices, HaveLength, IsDifference, IsLeafNode, IsLeafPacked, IsNodePacked, IsPackedOf, IsPackingAt, IsSomeForLeaf, node_prices}

-- ---- one node
leaf-same : (stairs : Bool) (dates : ℕ) (vectors : List (List ℕ)) (leaf : Leaf) (rho mu vector : ℕ) (changes : List Change) (weights : List SumWeight) → length leaf.prices ≡ dates →
    IsLeafPacked stairs vectors leaf (node.Closed rho mu vector changes weights) → leaf_with dates vectors rho mu vector changes weights ≡ leaf
leaf-same stairs dates vectors leaf rho mu vector changes weights long is =
    ap (λ (w : ℕ). record { rho = w; mu = mu; prices = changed dates (vector_of vectors vector) changes; weights = weights }) is.0
    ∙ ap (λ (m : ℕ). record { rho = leaf.rho; mu = m; prices = changed dates (vector_of vectors vector) changes; weights = weights }) is.1
    ∙ ap (λ (ps : List ℕ). record { rho = leaf.rho; mu = leaf.mu; prices = ps; weights = weights })
    (ap (λ (k : ℕ). changed k (vector_of vectors vector) changes) (sym long) ∙ is.4.same)
    ∙ ap (λ (ws : List SumWeight). record { rho = leaf.rho; mu = leaf.mu; prices = leaf.prices; weights = ws }) is.5

pub said-same : (stairs : Bool) (dates : ℕ) (vectors : List (List ℕ)) (told : TreeNode) (said : PackedNode) → IsNode dates told → IsNodePacked stairs vectors told said →
    unpacked_node dates vectors said ≡ told
said-same stairs dates vectors (tree.Split part at) said good is = ap (λ (n : PackedNode). unpacked_node dates vectors n) is
said-same stairs dates vectors tree.Point said good is = ap (λ (n : PackedNode). unpacked_node dates vectors n) is
said-same stairs dates vectors (tree.Closed leaf) (node.Closed rho mu vector changes weights) good is =
    ap (λ (l : Leaf). tree.Closed l) (leaf-same stairs dates vectors leaf rho mu vector changes weights good.every_date is)
said-same stairs dates vectors (tree.Closed leaf) (node.Split part at) good is = absurd is
said-same stairs dates vectors (tree.Closed leaf) node.Point good is = absurd is

changes-are : (dates : ℕ) (vector : Option (List ℕ)) (prices : List ℕ) (changes : List Change) → length prices ≡ dates → All (λ price. price ≤ 2 * PRICE_SCALE) prices →
    IsDifference vector prices changes → All (IsChange dates) changes
changes-are dates vector prices changes long range is i d inside =
    let place = is.places i d inside in
    let value = is.values i d inside in
    let low = range ((get_or changes i d).place - 1) 0 (omega (arith, place.0, place.1)) in
    record { first = place.0; last = omega (arith, place.1, long); range = omega (arith, value, low) }

pub said-packed : (stairs : Bool) (dates : ℕ) (vectors : List (List ℕ)) (told : TreeNode) (said : PackedNode) → IsNode dates told → IsNodePacked stairs vectors told said →
    IsPackedNode dates vectors said
said-packed stairs dates vectors (tree.Split part at) said good is = let P : PackedNode → Type 0 = λ n. IsPackedNode dates vectors n in subst P (sym is) good
said-packed stairs dates vectors tree.Point said good is = let P : PackedNode → Type 0 = λ n. IsPackedNode dates vectors n in subst P (sym is) tt
said-packed stairs dates vectors (tree.Closed leaf) (node.Closed rho mu vector changes weights) good is =
    let P : Leaf → Type 0 = λ l. IsLeaf dates l in
    record {
      last = is.3;
      changes_are = record {
        all = changes-are dates (vector_of vectors vector) leaf.prices changes good.every_date good.range is.4;
        rising = is.4.rising;
        other = is.4.other;
      };
      leaf = subst P (sym (leaf-same stairs dates vectors leaf rho mu vector changes weights good.every_date is)) good;
    }
said-packed stairs dates vectors (tree.Closed leaf) (node.Split part at) good is = absurd is
said-packed stairs dates vectors (tree.Closed leaf) node.Point good is = absurd is

-- what version 2 can say it can say packed, where there are no stairs
whole_or_none : (own : ℕ) (a b : Bool) → (own == 0) ≡ a → (own == PRICE_SCALE) ≡ b → IsWholeOrNone own → (a || b) ≡ true
whole_or_none own true b zero whole is = refl
whole_or_none own false true zero whole is = refl
whole_or_none own false false zero whole is =
    let some : own ≢ 0 = (λ none. absurd (grind (arith, zero, none))) in
    let all : own ≡ PRICE_SCALE = is (omega (arith, some)) in
    absurd (grind (arith, whole, all))

pub plain-said : (vectors : List (List ℕ)) (told : TreeNode) (said : PackedNode) → IsPlainNode told → IsNodePacked false vectors told said → is_plain said ≡ true
plain-said vectors (tree.Split (part.Line line) at) said plain is = ap is_plain is
plain-said vectors (tree.Split (part.Sum sum) at) said plain is = absurd plain
plain-said vectors tree.Point said plain is = ap is_plain is
plain-said vectors (tree.Closed leaf) (node.Closed rho mu vector changes weights) plain is =
    let first : 1 ≤ vector = is.2 refl in
    let low : nat_le 1 vector ≡ true = grind (arith, first) in
    ap (λ (ws : List SumWeight). is_plain (node.Closed rho mu vector changes ws)) (is.5 ∙ plain.1)
    ∙ ap (λ (k : ℕ). (k == 0 || k == PRICE_SCALE) && nat_le 1 vector) is.0
    ∙ ap (λ (b : Bool). b && nat_le 1 vector) (whole_or_none leaf.rho (leaf.rho == 0) (leaf.rho == PRICE_SCALE) refl refl plain.0) ∙ low
plain-said vectors (tree.Closed leaf) (node.Split part at) plain is = absurd is
plain-said vectors (tree.Closed leaf) node.Point plain is = absurd is

-- vectors for the leaves of a certificate
pub record AreVectorsFor (stairs : Bool) (cert : Certificate) (vectors : List (List ℕ)) : Type 0 where
  pub few : length vectors ≤ MOST_VECTORS
  pub some : stairs ≡ false → IsSomeForLeaf cert.nodes (length vectors)
  pub vectors_are : (dates : ℕ) → IsPackable dates cert → All (IsVector dates) vectors

vector_at : (dates : ℕ) (told : TreeNode) → IsNode dates told → IsLeafNode told → IsVector dates (node_prices told)
vector_at dates (tree.Split part at) is leaf = absurd leaf
vector_at dates tree.Point is leaf = absurd leaf
vector_at dates (tree.Closed own) is leaf = record { every_date = is.every_date; range = is.range; falling = is.falling }

-- the prices of some of its leaves
pub vectors-for : (stairs : Bool) (cert : Certificate) (nodes : List TreeNode) (vectors : List (List ℕ)) → nodes ≡ cert.nodes → AreLeafPrices nodes vectors → length vectors ≤ MOST_VECTORS →
    (stairs ≡ false → IsSomeForLeaf nodes (length vectors)) → AreVectorsFor stairs cert vectors
vectors-for stairs cert nodes vectors same prices few some = record {
  few = few;
  some = λ none. subst (λ (ns : List TreeNode). IsSomeForLeaf ns (length vectors)) same (some none);
  vectors_are = λ dates able k d inside. (
      let own = prices k d inside in
      let P : List ℕ → Type 0 = λ ps. IsVector dates ps in
      let good : All (IsNode dates) nodes = subst (All (IsNode dates)) (sym same) able.nodes_are in
      subst P (sym (own.2 tree.Point)) (vector_at dates (get_or nodes own.0 tree.Point) (good own.0 tree.Point own.1.0) (own.1.1 tree.Point)));
}

have-length : (dates : ℕ) (vectors : List (List ℕ)) (leaf : Leaf) → All (IsVector dates) vectors → length leaf.prices ≡ dates → HaveLength (length leaf.prices) vectors
have-length dates vectors leaf all long i d inside = let here = all i d inside in here.every_date ∙ sym long

packing_by : (stairs : Bool) (dates : ℕ) (vectors : List (List ℕ)) (told : TreeNode) → dates ≤ MOST_DATES → length vectors ≤ MOST_VECTORS → All (IsVector dates) vectors →
    (IsLeafNode told → stairs ≡ false → 0 < length vectors) → IsNode dates told → IsPackingAt stairs vectors told
packing_by stairs dates vectors (tree.Split part at) short few all some is = tt
packing_by stairs dates vectors tree.Point short few all some is = tt
packing_by stairs dates vectors (tree.Closed leaf) short few all some is =
    record { some = some tt; few = few; same = have-length dates vectors leaf all is.every_date; short = omega (arith, is.every_date, short) }

pub packing-at : (stairs : Bool) (cert : Certificate) (vectors : List (List ℕ)) (count : ℕ) (told : TreeNode) → (able : (dates : ℕ) × (dates ≤ MOST_DATES) × IsPackable dates cert) → AreVectorsFor stairs cert vectors →
    count < length cert.nodes → told ≡ get_or cert.nodes count told → IsPackingAt stairs vectors told
packing-at stairs cert vectors count told able are inside told_is =
    let P : TreeNode → Type 0 = λ n. IsNode able.0 n in
    let here : (d : TreeNode) → told ≡ get_or cert.nodes count d = (λ d. told_is ∙ get_or_default cert.nodes count told d inside) in
    packing_by stairs able.0 vectors told able.1 are.few (are.vectors_are able.0 able.2) (λ leaf none. are.some none count (inside, λ d. subst IsLeafNode (here d) leaf))
    (subst P (sym told_is) (able.2.nodes_are count told inside))

-- ---- so many nodes
pub record ArePacked (stairs : Bool) (cert : Certificate) (vectors : List (List ℕ)) (count : ℕ) (nodes : List PackedNode) : Type 0 where
  pub same : (dates : ℕ) → IsPackable dates cert → map (unpacked_node dates vectors) nodes ≡ take count cert.nodes
  pub nodes_are : (dates : ℕ) → IsPackable dates cert → All (IsPackedNode dates vectors) nodes
  pub plain : stairs ≡ false → All IsPlainNode cert.nodes → list_all is_plain nodes ≡ true

pub none-packed : (stairs : Bool) (cert : Certificate) (vectors : List (List ℕ)) (nodes : List PackedNode) → nodes ≡ [] → ArePacked stairs cert vectors 0 nodes
none-packed stairs cert vectors nodes none =
    subst (ArePacked stairs cert vectors 0) (sym none) (record { same = λ dates able. refl; nodes_are = λ dates able. All-nil (IsPackedNode dates vectors); plain = λ off plain. refl })

all_push : (nodes : List PackedNode) (said : PackedNode) → list_all is_plain nodes ≡ true → is_plain said ≡ true → list_all is_plain (nodes ++ said ∷ []) ≡ true
all_push [] said all one = ap (λ (b : Bool). b && true) one
all_push (first ∷ nodes) said all one =
    let both : (is_plain first ≡ true) × (list_all is_plain nodes ≡ true) = and_parts _ _ all in
    ap (λ (b : Bool). b && list_all is_plain (nodes ++ said ∷ [])) both.0 ∙ all_push nodes said both.1 one

pub one-packed : (stairs : Bool) (cert : Certificate) (vectors : List (List ℕ)) (count : ℕ) (nodes others : List PackedNode) (told : TreeNode) (said : PackedNode) →
    ArePacked stairs cert vectors count nodes → count < length cert.nodes → told ≡ get_or cert.nodes count told → IsNodePacked stairs vectors told said → others ≡ nodes ++ said ∷ [] →
    ArePacked stairs cert vectors (count + 1) others
one-packed stairs cert vectors count nodes others told said are inside told_is is others_are =
    let good : (dates : ℕ) → IsPackable dates cert → IsNode dates told =
    (λ (dates : ℕ) (able : IsPackable dates cert). (let P : TreeNode → Type 0 = λ n. IsNode dates n in subst P (sym told_is) (able.nodes_are count told inside))) in
    let own : stairs ≡ false → All IsPlainNode cert.nodes → is_plain said ≡ true =
    (λ (off : stairs ≡ false) (plain : All IsPlainNode cert.nodes).
    plain-said vectors told said (subst IsPlainNode (sym told_is) (plain count told inside)) (subst (λ (b : Bool). IsNodePacked b vectors told said) off is)) in
    subst (ArePacked stairs cert vectors (count + 1)) (sym others_are) (record {
      same = λ dates able.
          (map-append (unpacked_node dates vectors) nodes (said ∷ [])
          ∙ ap (λ (ns : List TreeNode). ns ++ unpacked_node dates vectors said ∷ []) (are.same dates able)
          ∙ ap (λ (n : TreeNode). take count cert.nodes ++ n ∷ []) (said-same stairs dates vectors told said (good dates able) is ∙ told_is)
          ∙ sym (take_more cert.nodes count told inside));
      nodes_are = λ dates able. All-push (IsPackedNode dates vectors) nodes said (are.nodes_are dates able) (said-packed stairs dates vectors told said (good dates able) is);
      plain = λ off plain. all_push nodes said (are.plain off plain) (own off plain);
    })

-- ---- all of them
pub unpacked-is : (dates : ℕ) (cert : Certificate) (packed : Packed) → map (unpacked_node dates packed.vectors) packed.nodes ≡ cert.nodes → packed.buys ≡ cert.buys → packed.gap ≡ cert.gap →
    unpacked dates packed ≡ cert
unpacked-is dates cert packed nodes buys gap =
    ap (λ (o : Option (List Buy)). record { buys = o; gap = packed.gap; nodes = map (unpacked_node dates packed.vectors) packed.nodes }) buys
    ∙ ap (λ (g : ℕ). record { buys = cert.buys; gap = g; nodes = map (unpacked_node dates packed.vectors) packed.nodes }) gap
    ∙ ap (λ (ns : List TreeNode). record { buys = cert.buys; gap = cert.gap; nodes = ns }) nodes

pub well-formed : (dates : ℕ) (cert : Certificate) (packed : Packed) → IsPackable dates cert → length packed.vectors ≤ MOST_VECTORS → All (IsVector dates) packed.vectors →
    map (unpacked_node dates packed.vectors) packed.nodes ≡ cert.nodes → All (IsPackedNode dates packed.vectors) packed.nodes → packed.buys ≡ cert.buys → packed.gap ≡ cert.gap →
    IsPackedWellFormed dates packed
well-formed dates cert packed able few vectors nodes nodes_are buys gap =
    let long : length packed.nodes ≡ length cert.nodes = sym (length-map packed.nodes (unpacked_node dates packed.vectors)) ∙ ap length nodes in
    let P : Option (List Buy) → Type 0 = λ o. IsPortfolio MOST_PACKED_BUYS o packed.gap in
    let Q : ℕ → Type 0 = λ g. IsPortfolio MOST_PACKED_BUYS cert.buys g in
    record {
      portfolio = subst P (sym buys) (subst Q (sym gap) able.portfolio);
      few_vectors = few;
      vectors_are = vectors;
      few = omega (arith, long, able.few);
      nodes_are = nodes_are;
      tree = subst (AreTrees 1) (sym nodes) able.tree;
    }

pub all-packed : (stairs : Bool) (cert : Certificate) (packed : Packed) (count : ℕ) → AreVectorsFor stairs cert packed.vectors → ArePacked stairs cert packed.vectors count packed.nodes →
    length cert.nodes ≤ count → packed.buys ≡ cert.buys → packed.gap ≡ cert.gap → (All IsPlainNode cert.nodes → stairs ≡ false) → IsPackedOf cert packed
all-packed stairs cert packed count vectors are all buys gap off =
    let nodes : (dates : ℕ) → IsPackable dates cert → map (unpacked_node dates packed.vectors) packed.nodes ≡ cert.nodes =
    (λ (dates : ℕ) (able : IsPackable dates cert). are.same dates able ∙ take_all count cert.nodes all) in
    record {
      same = λ dates able. unpacked-is dates cert packed (nodes dates able) buys gap;
      well_formed = λ dates able. well-formed dates cert packed able vectors.few (vectors.vectors_are dates able) (nodes dates able) (are.nodes_are dates able) buys gap;
      plain = λ plain. ap (λ (b : Bool). if b then weighing.WholeOrNone else weighing.Number) (are.plain (off plain) plain);
    }
