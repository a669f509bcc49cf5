-- How long the text of a certificate can be: it is within the limit of its file.
use Rattle.std.proofs.Common.{◌≡◌, ℕ, zero, suc, ◌+◌, ◌*◌, ◌^◌, ◌<◌, ◌≤◌, List, [], ◌∷◌, ◌++◌, length, map, Option, Some, None, ap, ◌∙◌, inl, inr, arith, decimal}
use Rattle.std.specs.List.{All, flat_map}
use Rattle.std.specs.Prelude.{codes}
use Rattle.std.proofs.lemmas.Fmt.{length-decimal-le}
use Rattle.std.proofs.lemmas.List.{length-append}
use Rattle.std.proofs.lemmas.List.Concat.{flat_map-append}
use Rattle.std.proofs.lemmas.List.Elements.{All-cons, All-head, All-tail, All-weaker}
use Rattle.escrow_desk.specs.declared.limits.TheConstants.{CERTIFICATE_LIMIT}
use Rattle.proof_tree.specs.declared.prices.TheConstants.{PRICE_SCALE}
use Rattle.proof_tree.specs.Tree.{AreSumWeights, AreTrees, IsLeaf, IsPart, IsSumWeight}
use Rattle.proof_tree.specs.declared.weights.SumWeight.{SumWeight}
use Rattle.proof_tree.specs.declared.tree.Leaf.{Leaf}
use Rattle.proof_tree.specs.declared.tree.Part.{Part}
use Rattle.proof_tree.specs.declared.tree.Part.TheVariants as part
use Rattle.proof_tree.specs.declared.tree.TheConstants.{GREATEST_UNITS}
use Rattle.bound_certificate.specs.declared.certificate.Buy.{Buy}
use Rattle.bound_certificate.specs.declared.certificate.Certificate.{Certificate}
use Rattle.bound_certificate.specs.declared.limits.TheConstants.{MOST_VECTORS}
use Rattle.bound_certificate.specs.declared.line.Line.{Line}
use Rattle.bound_certificate.specs.declared.line.Line.TheVariants as line
use Rattle.bound_certificate.specs.declared.packed.Change.{Change}
use Rattle.bound_certificate.specs.declared.version.Version.{Version}
use Rattle.bound_certificate.specs.declared.version.Version.TheVariants as version
use Rattle.bound_certificate.specs.declared.weighing.Weighing.{Weighing}
use Rattle.bound_certificate.specs.declared.weighing.Weighing.TheVariants as weighing
use Rattle.bound_certificate.specs.Weights.{rho_number, side_number}
use Rattle.bound_certificate.specs.Certificate.{IsBuy}
use Rattle.bound_certificate.specs.Grammar.{most_buys}
use Rattle.bound_certificate.specs.Packed.{IsChange, IsPackedLeaf, IsVector}
use Rattle.bound_certificate.proofs.PriceFacts.{weight-small}
use Rattle.bound_certificate.specs.Text.{change_numbers, line_text, numbered, portfolio_lines, spaced_numbers, tail_text, vector_lines, weight_numbers}
use Rattle.bound_certificate.specs.Versions.{IsCertificateText}
use Rattle.bound_certificate.proofs.ChangeFacts.{few-changes}
use Rattle.bound_certificate.proofs.DueFacts.{IsNodeLine}
use Rattle.bound_certificate.proofs.FollowFacts.{ArePortfolio, AreVectorsOf, IsPortfolioOf, IsWritten, Written, are-portfolio, no-portfolio, tree_lines, tree_of, written_lines}
use Rattle.bound_certificate.proofs.WeightFacts.{side-ends}
use Rattle.bound_certificate.proofs.WrittenFacts.{is-packed, is-written, packed_written, whole_written}

-- numbers of at most 13 digits, with a space before each
numbers_size : (numbers : List ℕ) → All (λ n. n < 10 ^ 13) numbers → length (spaced_numbers numbers) ≤ 14 * length numbers
numbers_size [] all = omega arith
numbers_size (number ∷ numbers) all =
    let here = All-head (λ n. n < 10 ^ 13) number numbers all in
    omega (
      arith,
      length-decimal-le 13 number (omega arith) here (omega (arith, here)),
      numbers_size numbers (All-tail (λ n. n < 10 ^ 13) number numbers all),
      length-append (decimal number) (spaced_numbers numbers),
    )

line_size : (word numbers : List ℕ) → length (numbered word numbers) ≡ length word + length (spaced_numbers numbers) + 1
line_size word numbers =
    length-append (word ++ spaced_numbers numbers) (10 ∷ []) ∙ ap (λ n. n + 1) (length-append word (spaced_numbers numbers))

one_size : (word : List ℕ) (number : ℕ) → number < 10 ^ 19 → length (numbered word (number ∷ [])) ≤ length word + 21
one_size word number small =
    omega (
      arith,
      line_size word (number ∷ []),
      length-decimal-le 19 number (omega arith) small (omega (arith, small)),
      length-append (decimal number) (spaced_numbers []),
    )

two_size : (word : List ℕ) (first second : ℕ) → first < 10 ^ 19 → second < 10 ^ 19 → length (numbered word (first ∷ second ∷ [])) ≤ length word + 41
two_size word first second small other =
    omega (
      arith,
      line_size word (first ∷ second ∷ []),
      length-decimal-le 19 first (omega arith) small (omega (arith, small)),
      length-decimal-le 19 second (omega arith) other (omega (arith, other)),
      length-append (decimal first) (spaced_numbers (second ∷ [])),
      length-append (decimal second) (spaced_numbers []),
    )

-- the line of a leaf: two numbers, and one price for each of at most 480 need dates
rho_small : (how : Weighing) (rho : ℕ) → rho ≤ PRICE_SCALE → rho_number how rho < 10 ^ 13
rho_small how rho small = omega (arith, weight-small how rho small)

priced_size : (dates : ℕ) (leaf : Leaf) → dates ≤ 480 → IsLeaf dates leaf → length (line_text (line.Leaf leaf)) ≤ 6_750
priced_size dates leaf few is_leaf =
    let prices = All-weaker (λ price. price ≤ 2 * PRICE_SCALE) (λ n. n < 10 ^ 13) (λ price most. omega (arith, most)) leaf.prices is_leaf.range in
    let all = All-cons (λ n. n < 10 ^ 13) (rho_number weighing.WholeOrNone leaf.rho) (leaf.mu ∷ leaf.prices) (rho_small weighing.WholeOrNone leaf.rho is_leaf.cost)
    (All-cons (λ n. n < 10 ^ 13) leaf.mu leaf.prices (omega (arith, is_leaf.limit)) prices) in
    omega (
      arith,
      line_size (codes "l") (rho_number weighing.WholeOrNone leaf.rho ∷ leaf.mu ∷ leaf.prices),
      numbers_size (rho_number weighing.WholeOrNone leaf.rho ∷ leaf.mu ∷ leaf.prices) all,
      is_leaf.every_date,
      few,
    )

-- the numbers of changes: a place of at most 3 digits, and a price of at most 13
changes_size : (dates : ℕ) (changes : List Change) → dates ≤ 480 → All (IsChange dates) changes
    → length (spaced_numbers (change_numbers changes)) ≤ 18 * length changes
changes_size dates [] few all = omega arith
changes_size dates (change ∷ changes) few all =
    let here : IsChange dates change = All-head (IsChange dates) change changes all in
    let place : change.place < 10 ^ 3 = omega (arith, here.last, few) in
    let price : change.price < 10 ^ 13 = omega (arith, here.range) in
    omega (
      arith,
      length-decimal-le 3 change.place (omega arith) place (omega (arith, place)),
      length-decimal-le 13 change.price (omega arith) price (omega (arith, price)),
      changes_size dates changes few (All-tail (IsChange dates) change changes all),
      length-append (decimal change.place) (spaced_numbers (change.price ∷ change_numbers changes)),
      length-append (decimal change.price) (spaced_numbers (change_numbers changes)),
    )

-- the line of a leaf: three numbers, and at most 480 changes
three_size : (first second third : ℕ) (numbers : List ℕ) → first < 10 ^ 13 → second < 10 ^ 13 → third < 10 ^ 13
    → length (spaced_numbers (first ∷ second ∷ third ∷ numbers)) ≤ 42 + length (spaced_numbers numbers)
three_size first second third numbers one two three =
    omega (
      arith,
      length-decimal-le 13 first (omega arith) one (omega (arith, one)),
      length-decimal-le 13 second (omega arith) two (omega (arith, two)),
      length-decimal-le 13 third (omega arith) three (omega (arith, three)),
      length-append (decimal first) (spaced_numbers (second ∷ third ∷ numbers)),
      length-append (decimal second) (spaced_numbers (third ∷ numbers)),
      length-append (decimal third) (spaced_numbers numbers),
    )

-- a tail: the word `t`, and at most 64 weights, each a need date of at most 3 digits, a side and a weight of at most 13
weights_size : (dates : ℕ) (weights : List SumWeight) → dates ≤ 480 → All (IsSumWeight dates) weights → length (spaced_numbers (weight_numbers weights)) ≤ 20 * length weights
weights_size dates [] few all = omega arith
weights_size dates (own ∷ weights) few all =
    let here : IsSumWeight dates own = All-head (IsSumWeight dates) own weights all in
    let date : own.sum + 1 < 10 ^ 3 = omega (arith, here.sum, few) in
    let side : side_number own.side < 10 ^ 1 = omega (arith, side-ends own.side) in
    let weight : own.weight < 10 ^ 13 = omega (arith, here.most) in
    omega (
      arith,
      length-decimal-le 3 (own.sum + 1) (omega arith) date (omega (arith, date)),
      length-decimal-le 1 (side_number own.side) (omega arith) side (omega (arith, side)),
      length-decimal-le 13 own.weight (omega arith) weight (omega (arith, weight)),
      weights_size dates weights few (All-tail (IsSumWeight dates) own weights all),
      length-append (decimal (own.sum + 1)) (spaced_numbers (side_number own.side ∷ own.weight ∷ weight_numbers weights)),
      length-append (decimal (side_number own.side)) (spaced_numbers (own.weight ∷ weight_numbers weights)),
      length-append (decimal own.weight) (spaced_numbers (weight_numbers weights)),
    )

tail_size : (dates : ℕ) (weights : List SumWeight) → dates ≤ 480 → AreSumWeights dates weights → length (tail_text weights) ≤ 1_282
tail_size dates [] few are = omega arith
tail_size dates (own ∷ weights) few are = omega (arith, weights_size dates (own ∷ weights) few are.each, are.few)

tailed_size : (word numbers tail : List ℕ) → length (word ++ spaced_numbers numbers ++ tail ++ 10 ∷ []) ≡ length word + length (spaced_numbers numbers) + length tail + 1
tailed_size word numbers tail =
    length-append (word ++ spaced_numbers numbers ++ tail) (10 ∷ []) ∙ ap (λ n. n + 1) (length-append (word ++ spaced_numbers numbers) tail)
    ∙ ap (λ n. n + length tail + 1) (length-append word (spaced_numbers numbers))

leaf_size : (how : Weighing) (dates : ℕ) (vectors : List (List ℕ)) (rho mu vector : ℕ) (changes : List Change) (weights : List SumWeight) → dates ≤ 480 → length vectors ≤ MOST_VECTORS
    → IsPackedLeaf dates vectors rho mu vector changes weights → length (line_text (line.Closed how rho mu vector changes weights)) ≤ 9_980
leaf_size how dates vectors rho mu vector changes weights few count leaf =
    let weight : ℕ = rho_number how rho in
    omega (
      arith,
      tailed_size (codes "l") (weight ∷ mu ∷ vector ∷ change_numbers changes) (tail_text weights),
      tail_size dates weights few leaf.leaf.weights,
      three_size weight mu vector (change_numbers changes) (rho_small how rho leaf.leaf.cost) (omega (arith, leaf.leaf.limit)) (omega (arith, leaf.last, count)),
      changes_size dates changes few leaf.changes_are.all,
      few-changes dates changes leaf.changes_are.all leaf.changes_are.rising,
      few,
    )

-- the line of a split: two numbers
split_size : (dates : ℕ) (part : Part) (at : ℕ) → dates ≤ 480 → IsPart dates part → at ≤ GREATEST_UNITS → length (line_text (line.Split part at)) ≤ 42
split_size dates (part.Line number) at few is most = two_size (codes "s") number at (omega (arith, is)) (omega (arith, most))
split_size dates (part.Sum sum) at few is most = two_size (codes "t") (sum + 1) at (omega (arith, is, few)) (omega (arith, most))

-- the lines of the nodes of so many trees: each tree ends in one leaf or point more than it has splits
nodes_size : (v : Version) (dates count : ℕ) (vectors : List (List ℕ)) (nodes : List Line) → dates ≤ 480 → length vectors ≤ MOST_VECTORS
    → All (IsNodeLine v dates vectors) nodes → AreTrees count (map (tree_of dates vectors) nodes)
    → length (flat_map line_text nodes) ≤ 44 * length nodes + 4_970 * (length nodes + count)
nodes_size v dates count vectors [] few many all trees = omega arith
nodes_size v dates zero vectors (next ∷ nodes) few many all trees = absurd (cc)
nodes_size v dates (suc count) vectors (line.Split part at ∷ nodes) few many all trees =
    let own : Line = line.Split part at in
    let here : IsNodeLine v dates vectors own = All-head (IsNodeLine v dates vectors) own nodes all in
    omega (
      arith,
      length-append (line_text own) (flat_map line_text nodes),
      split_size dates part at few here.0 here.1,
      nodes_size v dates (suc (suc count)) vectors nodes few many (All-tail (IsNodeLine v dates vectors) own nodes all) trees,
    )
nodes_size v dates (suc count) vectors (line.Point ∷ nodes) few many all trees =
    let own : Line = line.Point in
    omega (
      arith,
      length-append (line_text own) (flat_map line_text nodes),
      nodes_size v dates count vectors nodes few many (All-tail (IsNodeLine v dates vectors) own nodes all) trees,
    )
nodes_size (version.Packed w) dates (suc count) vectors (line.Closed how rho mu vector changes weights ∷ nodes) few many all trees =
    let own : Line = line.Closed how rho mu vector changes weights in
    omega (
      arith,
      length-append (line_text own) (flat_map line_text nodes),
      leaf_size how dates vectors rho mu vector changes weights few many (All-head (IsNodeLine (version.Packed w) dates vectors) own nodes all).leaf,
      nodes_size (version.Packed w) dates count vectors nodes few many (All-tail (IsNodeLine (version.Packed w) dates vectors) own nodes all) trees,
    )
nodes_size version.One dates (suc count) vectors (line.Leaf leaf ∷ nodes) few many all trees =
    let own : Line = line.Leaf leaf in
    omega (
      arith,
      length-append (line_text own) (flat_map line_text nodes),
      priced_size dates leaf few (All-head (IsNodeLine version.One dates vectors) own nodes all).0,
      nodes_size version.One dates count vectors nodes few many (All-tail (IsNodeLine version.One dates vectors) own nodes all) trees,
    )
nodes_size version.One dates (suc count) vectors (own ∷ nodes) few many all trees = absurd (All-head (IsNodeLine version.One dates vectors) own nodes all)
nodes_size (version.Packed w) dates (suc count) vectors (own ∷ nodes) few many all trees = absurd (All-head (IsNodeLine (version.Packed w) dates vectors) own nodes all)

-- the lines of vectors, each with one price for each of at most 480 need dates
vectors_size : (dates : ℕ) (vectors : List (List ℕ)) → dates ≤ 480 → All (IsVector dates) vectors → length (flat_map line_text (map line.Vector vectors)) ≤ 6_750 * length vectors
vectors_size dates [] few all = omega arith
vectors_size dates (prices ∷ vectors) few all =
    let here : IsVector dates prices = All-head (IsVector dates) prices vectors all in
    let small = All-weaker (λ price. price ≤ 2 * PRICE_SCALE) (λ n. n < 10 ^ 13) (λ price most. omega (arith, most)) prices here.range in
    omega (
      arith,
      length-append (line_text (line.Vector prices)) (flat_map line_text (map line.Vector vectors)),
      line_size (codes "v") prices,
      numbers_size prices small,
      here.every_date,
      few,
      vectors_size dates vectors few (All-tail (IsVector dates) prices vectors all),
    )

-- the lines of purchases
buys_size : (buys : List Buy) → All IsBuy buys → length (flat_map line_text (map line.Purchase buys)) ≤ 44 * length buys
buys_size [] all = omega arith
buys_size (buy ∷ buys) all =
    let here = All-head IsBuy buy buys all in
    omega (
      arith,
      length-append (line_text (line.Purchase buy)) (flat_map line_text (map line.Purchase buys)),
      two_size (codes "buy") buy.line buy.units (omega (arith, here.0)) (omega (arith, here.2)),
      buys_size buys (All-tail IsBuy buy buys all),
    )

few_bought : (v : Version) (count : ℕ) → count ≤ most_buys v → count ≤ 513
few_bought version.One count few = omega (arith, few)
few_bought (version.Packed w) count few = few

portfolio_size : (v : Version) (buys : Option (List Buy)) (gap : ℕ) → IsPortfolioOf v buys gap → length (flat_map line_text (portfolio_lines buys)) ≤ 23_000
portfolio_size v None gap none = omega arith
portfolio_size v (Some buys) gap some =
    let are : ArePortfolio v buys gap = are-portfolio v buys gap some in
    let few : length buys ≤ 513 = few_bought v (length buys) are.few in
    omega (
      arith,
      length-append (line_text (line.Portfolio (Some (length buys)))) (flat_map line_text (map line.Purchase buys)),
      one_size (codes "portfolio") (length buys) (omega (arith, few)),
      buys_size buys are.range,
      few,
    )

gap_small : (v : Version) (buys : Option (List Buy)) (gap : ℕ) → IsPortfolioOf v buys gap → gap < 10 ^ 19
gap_small v None gap is = omega (arith, no-portfolio v gap is)
gap_small v (Some buys) gap is = let are : ArePortfolio v buys gap = are-portfolio v buys gap is in omega (arith, are.small)

-- lines, one after another
lines_size : (first second : List Line)
    → length (flat_map line_text (first ++ second)) ≡ length (flat_map line_text first) + length (flat_map line_text second)
lines_size first second = ap length (flat_map-append line_text first second) ∙ length-append (flat_map line_text first) (flat_map line_text second)

next_size : (own : Line) (lines : List Line) → length (flat_map line_text (own ∷ lines)) ≡ length (line_text own) + length (flat_map line_text lines)
next_size own lines = length-append (line_text own) (flat_map line_text lines)

vector_lines_size : (v : Version) (dates : ℕ) (vectors : List (List ℕ)) → dates ≤ 480 → AreVectorsOf v dates vectors → length (flat_map line_text (vector_lines v vectors)) ≤ 440_000
vector_lines_size version.One dates vectors few are = omega arith
vector_lines_size (version.Packed w) dates vectors few are =
    omega (
      arith,
      next_size (line.Vectors (length vectors)) (map line.Vector vectors),
      one_size (codes "vectors") (length vectors) (omega (arith, are.0)),
      vectors_size dates vectors few are.1,
      are.0,
    )

few_vectors : (v : Version) (dates : ℕ) (vectors : List (List ℕ)) → AreVectorsOf v dates vectors → length vectors ≤ MOST_VECTORS
few_vectors version.One dates vectors none = omega (arith, ap length none)
few_vectors (version.Packed w) dates vectors are = are.0

-- the lines from the nodes on
tree_size : (v : Version) (dates : ℕ) (w : Written) → dates ≤ 480 → IsWritten v dates w → length (flat_map line_text (tree_lines w.nodes)) ≤ 51_000_000
tree_size v dates w few well =
    omega (
      arith,
      next_size (line.Nodes (length w.nodes)) (w.nodes ++ line.End ∷ []),
      one_size (codes "nodes") (length w.nodes) (omega (arith, well.few)),
      lines_size w.nodes (line.End ∷ []),
      nodes_size v dates 1 w.vectors w.nodes few (few_vectors v dates w.vectors well.vectors_are) well.nodes_are well.tree,
      well.few,
    )

title_size : (v : Version) → length (line_text (line.Title v)) ≤ 21
title_size version.One = omega arith
title_size (version.Packed weighing.WholeOrNone) = omega arith
title_size (version.Packed weighing.Number) = omega arith

written_fits : (v : Version) (dates : ℕ) (w : Written) → dates ≤ 480 → IsWritten v dates w → length (flat_map line_text (written_lines v w)) ≤ CERTIFICATE_LIMIT
written_fits v dates w few well =
    let rest : List Line = line.Gap w.gap ∷ (vector_lines v w.vectors ++ tree_lines w.nodes) in
    omega (
      arith,
      next_size (line.Title v) (portfolio_lines w.buys ++ rest),
      title_size v,
      lines_size (portfolio_lines w.buys) rest,
      portfolio_size v w.buys w.gap well.portfolio,
      next_size (line.Gap w.gap) (vector_lines v w.vectors ++ tree_lines w.nodes),
      one_size (codes "gap") w.gap (gap_small v w.buys w.gap well.portfolio),
      lines_size (vector_lines v w.vectors) (tree_lines w.nodes),
      vector_lines_size v dates w.vectors few well.vectors_are,
      tree_size v dates w few well,
    )

-- a text of a certificate, of whichever version
pub certificate_fits : (dates : ℕ) (cert : Certificate) (bytes : List ℕ) → dates ≤ 480 → IsCertificateText dates cert bytes → length bytes ≤ CERTIFICATE_LIMIT
certificate_fits dates cert bytes few (inl own) = omega (arith, ap length own.text, written_fits version.One dates (whole_written cert) few (is-written dates cert own.well_formed))
certificate_fits dates cert bytes few (inr own) =
    omega (arith, ap length own.text.text, written_fits (version.Packed own.text.version) dates (packed_written own.text.version own.packed) few (is-packed own.text.version dates own.packed own.text.well_formed own.text.sayable))
