-- A certificate whose text some version has may be packed, and what is written of it is a text.
use Rattle.std.proofs.Common.{◌≡◌, ℕ, Bool, true, false, ◌==◌, ◌||◌, ◌<◌, nat_le, length, get_or, if◌then◌else◌, List, [], ◌∷◌, Option, Some, None, All, map, refl, subst, sym, arith, inl, inr}
use Rattle.std.specs.List.{list_all}
use Rattle.std.proofs.lemmas.Bool.{and_parts}
use Rattle.std.proofs.lemmas.List.{length-map}
use Rattle.std.proofs.lemmas.List.Elements.{All-cons, All-head, All-nil, All-tail}
use Rattle.proof_tree.specs.declared.prices.TheConstants.{PRICE_SCALE}
use Rattle.proof_tree.specs.declared.tree.Part.TheVariants as part
use Rattle.proof_tree.specs.Tree.{IsNode}
use Rattle.bound_certificate.specs.declared.certificate.Buy.{Buy}
use Rattle.bound_certificate.specs.declared.certificate.Certificate.{Certificate}
use Rattle.bound_certificate.specs.declared.limits.TheConstants.{MOST_BUYS, MOST_PACKED_BUYS}
use Rattle.bound_certificate.specs.declared.packed.Packed.{Packed}
use Rattle.bound_certificate.specs.declared.packed.PackedNode.{PackedNode}
use Rattle.bound_certificate.specs.declared.packed.PackedNode.TheVariants as node
use Rattle.bound_certificate.specs.Certificate.{IsPortfolio, IsWellFormed}
use Rattle.bound_certificate.specs.Packed.{IsPackable, IsPackedNode, IsPackedWellFormed, IsUnpackable, IsVector, unpacked, unpacked_node, vector_of}
use Rattle.bound_certificate.proofs.ChangeFacts.{vector-length, vector-there}
use Rattle.bound_certificate.specs.declared.weighing.Weighing.TheVariants as weighing
use Rattle.bound_certificate.specs.Text.{IsPackedTextOf, IsSayableNode, is_plain, packed_text_of, packed_weighing}
use Rattle.bound_certificate.specs.Versions.{IsCertificateText}
use Rattle.bound_certificate.specs.Weights.{IsWholeOrNone}
use Rattle.bound_certificate.proofs.PriceFacts.{equal_by}

-- ---- what is unpacked may be packed
unpacked-is-node : (dates : ℕ) (vectors : List (List ℕ)) (said : PackedNode) → IsPackedNode dates vectors said → IsNode dates (unpacked_node dates vectors said)
unpacked-is-node dates vectors (node.Split part at) is = is
unpacked-is-node dates vectors node.Point is = tt
unpacked-is-node dates vectors (node.Closed rho mu vector changes weights) is = is.leaf

unpacked-are-nodes : (dates : ℕ) (vectors : List (List ℕ)) (nodes : List PackedNode) → All (IsPackedNode dates vectors) nodes → All (IsNode dates) (map (unpacked_node dates vectors) nodes)
unpacked-are-nodes dates vectors [] all = All-nil (IsNode dates)
unpacked-are-nodes dates vectors (said ∷ nodes) all =
    All-cons (IsNode dates) (unpacked_node dates vectors said) (map (unpacked_node dates vectors) nodes)
    (unpacked-is-node dates vectors said (All-head (IsPackedNode dates vectors) said nodes all))
    (unpacked-are-nodes dates vectors nodes (All-tail (IsPackedNode dates vectors) said nodes all))

pub unpacked-packable : (dates : ℕ) (packed : Packed) (cert : Certificate) → cert ≡ unpacked dates packed → IsPackedWellFormed dates packed → IsPackable dates cert
unpacked-packable dates packed cert same is =
    let P : Certificate → Type 0 = λ c. IsPackable dates c in
    subst P (sym same) (record {
      portfolio = is.portfolio;
      few = omega (arith, length-map packed.nodes (unpacked_node dates packed.vectors), is.few);
      nodes_are = unpacked-are-nodes dates packed.vectors packed.nodes is.nodes_are;
      tree = is.tree;
    })

-- and each of its nodes may be unpacked
node_unpackable : (dates : ℕ) (vectors : List (List ℕ)) (said : PackedNode) → All (IsVector dates) vectors → IsPackedNode dates vectors said → IsUnpackable dates vectors said
node_unpackable dates vectors (node.Split part at) all is = tt
node_unpackable dates vectors node.Point all is = tt
node_unpackable dates vectors (node.Closed rho mu vector changes weights) all is = (
  is.last,
  vector-length dates (vector_of vectors vector) (vector-there dates vector vectors all is.last),
  is.changes_are.all,
  is.changes_are.rising,
)

pub unpackable-at : (dates place : ℕ) (packed : Packed) (d : PackedNode) → IsPackedWellFormed dates packed → place < length packed.nodes → IsUnpackable dates packed.vectors (get_or packed.nodes place d)
unpackable-at dates place packed d is inside = node_unpackable dates packed.vectors (get_or packed.nodes place d) is.vectors_are (is.nodes_are place d inside)

-- ---- a certificate that is written may be packed
portfolio-packable : (buys : Option (List Buy)) (gap : ℕ) → IsPortfolio MOST_BUYS buys gap → IsPortfolio MOST_PACKED_BUYS buys gap
portfolio-packable None gap is = is
portfolio-packable (Some buys) gap is = (record { few = omega (arith, is.0.few); range = is.0.range; rising = is.0.rising }, is.1)

pub packable : (dates : ℕ) (cert : Certificate) → IsWellFormed dates cert → IsPackable dates cert
packable dates cert is = record { portfolio = portfolio-packable cert.buys cert.gap is.portfolio; few = is.few; nodes_are = is.nodes; tree = is.tree }

-- ---- each version
-- the certificate of a text may be packed
pub text-packable : (dates : ℕ) (cert : Certificate) (bytes : List ℕ) → IsCertificateText dates cert bytes → IsPackable dates cert
text-packable dates cert bytes (inl text) = packable dates cert text.well_formed
text-packable dates cert bytes (inr form) = unpacked-packable dates form.packed cert (sym form.same) form.text.well_formed

-- ---- the text that is written
plain_counts : (rho : ℕ) (a b : Bool) → (rho == 0) ≡ a → (rho == PRICE_SCALE) ≡ b → (a || b) ≡ true → IsWholeOrNone rho
plain_counts rho true b none whole h = λ some. absurd (omega (arith, some, equal_by rho 0 none))
plain_counts rho false true none whole h = λ some. equal_by rho PRICE_SCALE whole
plain_counts rho false false none whole h = absurd (cc)

plain_sayable : (said : PackedNode) → is_plain said ≡ true → IsSayableNode weighing.WholeOrNone said
plain_sayable (node.Split (part.Line line) at) h = tt
plain_sayable (node.Split (part.Sum sum) at) h = absurd (cc)
plain_sayable node.Point h = tt
plain_sayable (node.Closed rho mu vector changes []) h =
    let both : ((rho == 0 || rho == PRICE_SCALE) ≡ true) × (nat_le 1 vector ≡ true) = and_parts _ _ h in
    (plain_counts rho (rho == 0) (rho == PRICE_SCALE) refl refl both.0, grind (arith, both.1), refl)
plain_sayable (node.Closed rho mu vector changes (own ∷ weights)) h = absurd (cc)

number_sayable : (said : PackedNode) → IsSayableNode weighing.Number said
number_sayable (node.Split (part.Line line) at) = tt
number_sayable (node.Split (part.Sum sum) at) = tt
number_sayable node.Point = tt
number_sayable (node.Closed rho mu vector changes weights) = (tt, omega arith, tt)

plain_all : (nodes : List PackedNode) → list_all is_plain nodes ≡ true → All (IsSayableNode weighing.WholeOrNone) nodes
plain_all [] h = All-nil (IsSayableNode weighing.WholeOrNone)
plain_all (said ∷ nodes) h =
    let both : (is_plain said ≡ true) × (list_all is_plain nodes ≡ true) = and_parts _ _ h in
    All-cons (IsSayableNode weighing.WholeOrNone) said nodes (plain_sayable said both.0) (plain_all nodes both.1)

number_all : (nodes : List PackedNode) → All (IsSayableNode weighing.Number) nodes
number_all [] = All-nil (IsSayableNode weighing.Number)
number_all (said ∷ nodes) = All-cons (IsSayableNode weighing.Number) said nodes (number_sayable said) (number_all nodes)

chosen_all : (nodes : List PackedNode) (b : Bool) → list_all is_plain nodes ≡ b → All (IsSayableNode (if b then weighing.WholeOrNone else weighing.Number)) nodes
chosen_all nodes true h = plain_all nodes h
chosen_all nodes false h = number_all nodes

-- what is written of a packed certificate is a text of it
pub written-packed-text : (dates : ℕ) (packed : Packed) → IsPackedWellFormed dates packed → IsPackedTextOf dates packed (packed_text_of packed)
written-packed-text dates packed is = record {
  version = packed_weighing packed.nodes;
  well_formed = is;
  sayable = chosen_all packed.nodes (list_all is_plain packed.nodes) refl;
  text = refl;
}
