-- Lines that may stand one after another, and what they say together.
use Rattle.std.proofs.Common.{◌≡◌, ◌∙◌, ℕ, zero, suc, ◌+◌, ◌-◌, ◌<◌, ◌≤◌, Bool, true, false, ◌==◌, if◌then◌else◌, List, [], ◌∷◌, ◌++◌, length, get_or, map, All, AllPairs, refl, sym, subst, ap, arith, Option, Some, None, option_map, append_assoc}
use Rattle.std.specs.List.{fold}
use Rattle.std.proofs.lemmas.List.{append-nil}
use Rattle.std.proofs.lemmas.List.Sums.{fold-append}
use Rattle.std.proofs.lemmas.List.Elements.{All-cons, All-head, All-nil, All-tail}
use Rattle.std.proofs.lemmas.List.Kept.{AllPairs-cons}
use Rattle.proof_tree.specs.declared.tree.Leaf.{Leaf}
use Rattle.proof_tree.specs.declared.tree.Part.{Part}
use Rattle.proof_tree.specs.declared.tree.TreeNode.{TreeNode}
use Rattle.proof_tree.specs.declared.tree.TreeNode.TheVariants as tree
use Rattle.proof_tree.specs.Tree.{AreTrees}
use Rattle.bound_certificate.specs.declared.certificate.Buy.{Buy}
use Rattle.bound_certificate.specs.declared.due.Due.{Due}
use Rattle.bound_certificate.specs.declared.due.Due.TheVariants as due
use Rattle.bound_certificate.specs.declared.line.Line.{Line}
use Rattle.bound_certificate.specs.declared.line.Line.TheVariants as line
use Rattle.bound_certificate.specs.declared.version.Version.{Version}
use Rattle.bound_certificate.specs.declared.version.Version.TheVariants as version
use Rattle.bound_certificate.specs.declared.limits.TheConstants.{GREATEST_GAP, MOST_NODES, MOST_VECTORS}
use Rattle.bound_certificate.specs.Certificate.{IsBuy, IsPortfolio}
use Rattle.bound_certificate.specs.Due.{buys_due, is_over, next_due, nodes_due, tree_due, vectors_due}
use Rattle.bound_certificate.specs.Grammar.{line_item, most_buys, rises, vectors_with}
use Rattle.bound_certificate.specs.Packed.{IsVector, leaf_with}
use Rattle.bound_certificate.specs.Text.{lines_of, portfolio_lines, vector_lines}
use Rattle.bound_certificate.proofs.DueFacts.{Fits, IsNodeLine}

-- what the lines of a text say together; the nodes are kept as lines
pub record Written : Type 0 where
  pub buys : Option (List Buy)
  pub gap : ℕ
  pub vectors : List (List ℕ)
  pub nodes : List Line

-- the node of a node's line, with its prices written out
abbrev pub tree_of : ℕ → List (List ℕ) → Line → TreeNode
tree_of dates vectors (line.Split part at) = tree.Split part at
tree_of dates vectors (line.Closed how rho mu vector changes weights) = tree.Closed (leaf_with dates vectors rho mu vector changes weights)
tree_of dates vectors (line.Leaf leaf) = tree.Closed leaf
tree_of dates vectors other = tree.Point

-- without a portfolio there is no gap
abbrev pub IsPortfolioOf : Version → Option (List Buy) → ℕ → Type 0
IsPortfolioOf v buys gap = IsPortfolio (most_buys v) buys gap

-- vectors, which version 1 doesn't have
abbrev pub AreVectorsOf : Version → ℕ → List (List ℕ) → Type 0
AreVectorsOf version.One dates vectors = vectors ≡ []
AreVectorsOf (version.Packed how) dates vectors = (length vectors ≤ MOST_VECTORS) × All (IsVector dates) vectors

-- what is said is within the limits of a version
pub record IsWritten (v : Version) (dates : ℕ) (w : Written) : Type 0 where
  pub portfolio : IsPortfolioOf v w.buys w.gap
  pub vectors_are : AreVectorsOf v dates w.vectors
  pub few : length w.nodes ≤ MOST_NODES
  pub nodes_are : All (IsNodeLine v dates w.vectors) w.nodes
  pub tree : AreTrees 1 (map (tree_of dates w.vectors) w.nodes)

abbrev pub written_lines : Version → Written → List Line
written_lines v w = lines_of v w.buys w.gap w.vectors w.nodes

-- ---- trees, and purchases by rising lines
pub not_none : (left : ℕ) → (suc left == 0) ≡ false
not_none left = grind arith

pub some_left : (left : ℕ) → (left == 0) ≡ false → 1 ≤ left
some_left zero h = absurd (cc)
some_left (suc left) h = omega arith

split_closes : (trees : ℕ) (part : Part) (at : ℕ) (more : List TreeNode) → 1 ≤ trees → AreTrees (trees + 1) more → AreTrees trees (tree.Split part at ∷ more)
split_closes zero part at more some are = absurd (omega arith)
split_closes (suc others) part at more some are =
    let P : ℕ → Type 0 = λ k. AreTrees k more in
    let same : suc others + 1 ≡ suc (suc others) = omega arith in subst P same are

point_closes : (trees : ℕ) (more : List TreeNode) → 1 ≤ trees → AreTrees (trees - 1) more → AreTrees trees (tree.Point ∷ more)
point_closes zero more some are = absurd (omega arith)
point_closes (suc others) more some are =
    let P : ℕ → Type 0 = λ k. AreTrees k more in
    let same : suc others - 1 ≡ others = omega arith in subst P same are

leaf_closes : (trees : ℕ) (leaf : Leaf) (more : List TreeNode) → 1 ≤ trees → AreTrees (trees - 1) more → AreTrees trees (tree.Closed leaf ∷ more)
leaf_closes zero leaf more some are = absurd (omega arith)
leaf_closes (suc others) leaf more some are =
    let P : ℕ → Type 0 = λ k. AreTrees k more in
    let same : suc others - 1 ≡ others = omega arith in subst P same are

abbrev Rises : Buy → Buy → Type 0
Rises earlier later = earlier.line < later.line

abbrev From : ℕ → Buy → Type 0
From least buy = least ≤ buy.line

rises_tail : (buy : Buy) (buys : List Buy) → AllPairs Rises (buy ∷ buys) → AllPairs Rises buys
rises_tail buy buys h i j d before inside = h (suc i) (suc j) d (omega arith) (omega arith)

rises_head : (buy : Buy) (buys : List Buy) → AllPairs Rises (buy ∷ buys) → All (From (buy.line + 1)) buys
rises_head buy buys h i d inside = let here : buy.line < (get_or buys i d).line = h 0 (suc i) d (omega arith) (omega arith) in omega (arith, here)

from_zero : (buys : List Buy) → All (From 0) buys
from_zero buys i d inside = omega arith

-- lines that may stand one after another, up to the last
abbrev pub Follows : Version → ℕ → Due → List (List ℕ) → List Line → Type 0
Follows v dates d vectors [] = is_over d ≡ true
Follows v dates d vectors (said ∷ lines) = Fits v dates vectors d said × Follows v dates (next_due v d (line_item said)) (vectors_with vectors said) lines

some_buys_due : (left least : ℕ) → due.Buy (suc left) least ≡ buys_due (suc left) least
some_buys_due left least = sym (ap (λ (b : Bool). if b then due.Gap GREATEST_GAP else due.Buy (suc left) least) (not_none left))

some_vectors_due : (left : ℕ) → due.Vector (suc left) ≡ vectors_due (suc left)
some_vectors_due left = sym (ap (λ (b : Bool). if b then due.Count else due.Vector (suc left)) (not_none left))

some_nodes_due : (left trees : ℕ) → due.Node (suc left) trees ≡ nodes_due (suc left) trees
some_nodes_due left trees = sym (ap (λ (b : Bool). if b then due.End trees else due.Node (suc left) trees) (not_none left))

-- ---- the lines of what is within the limits follow one another
buys-follow : (v : Version) (dates : ℕ) (vectors : List (List ℕ)) (buys : List Buy) (least : ℕ) (rest : List Line) → All IsBuy buys → AllPairs Rises buys → All (From least) buys →
    Follows v dates (due.Gap GREATEST_GAP) vectors rest → Follows v dates (buys_due (length buys) least) vectors (map line.Purchase buys ++ rest)
buys-follow v dates vectors [] least rest all rises low follows = follows
buys-follow v dates vectors (buy ∷ buys) least rest all rises low follows =
    let P : ℕ → Type 0 = λ k. Follows v dates (buys_due k (buy.line + 1)) vectors (map line.Purchase buys ++ rest) in
    let later : Follows v dates (buys_due (length buys) (buy.line + 1)) vectors (map line.Purchase buys ++ rest) =
    buys-follow v dates vectors buys (buy.line + 1) rest (All-tail IsBuy buy buys all) (rises_tail buy buys rises) (rises_head buy buys rises) follows in
    let fewer : length buys ≡ suc (length buys) - 1 = omega arith in
    let R : Due → Type 0 = λ d. Follows v dates d vectors (line.Purchase buy ∷ (map line.Purchase buys ++ rest)) in
    subst R (some_buys_due (length buys) least) ((All-head IsBuy buy buys all, All-head (From least) buy buys low), subst P fewer later)

vectors-follow : (v : Version) (dates : ℕ) (more vectors : List (List ℕ)) (rest : List Line) → All (IsVector dates) more →
    Follows v dates due.Count (vectors ++ more) rest → Follows v dates (vectors_due (length more)) vectors (map line.Vector more ++ rest)
vectors-follow v dates [] vectors rest all follows =
    let P : List (List ℕ) → Type 0 = λ vs. Follows v dates due.Count vs rest in subst P (append-nil vectors) follows
vectors-follow v dates (vector ∷ more) vectors rest all follows =
    let Q : List (List ℕ) → Type 0 = λ vs. Follows v dates due.Count vs rest in
    let later : Follows v dates (vectors_due (length more)) (vectors ++ vector ∷ []) (map line.Vector more ++ rest) =
    vectors-follow v dates more (vectors ++ vector ∷ []) rest (All-tail (IsVector dates) vector more all) (subst Q (sym (append_assoc vectors (vector ∷ []) more)) follows) in
    let P : ℕ → Type 0 = λ k. Follows v dates (vectors_due k) (vectors ++ vector ∷ []) (map line.Vector more ++ rest) in
    let fewer : length more ≡ suc (length more) - 1 = omega arith in
    let R : Due → Type 0 = λ d. Follows v dates d vectors (line.Vector vector ∷ (map line.Vector more ++ rest)) in
    subst R (some_vectors_due (length more)) (All-head (IsVector dates) vector more all, subst P fewer later)

-- a node's line, before the others
node-first : (v : Version) (dates : ℕ) (vectors : List (List ℕ)) (said : Line) (nodes : List Line) (trees next : ℕ) (rest : List Line) → length vectors ≤ MOST_VECTORS →
    IsNodeLine v dates vectors said → 1 ≤ trees → next_due v (due.Node (suc (length nodes)) trees) (line_item said) ≡ nodes_due (suc (length nodes) - 1) next →
    vectors_with vectors said ≡ vectors → Follows v dates (nodes_due (length nodes) next) vectors (nodes ++ rest) →
    Follows v dates (nodes_due (suc (length nodes)) trees) vectors (said ∷ (nodes ++ rest))
node-first v dates vectors said nodes trees next rest few is some due_is kept later =
    let fewer : length nodes ≡ suc (length nodes) - 1 = omega arith in
    let P : ℕ → Type 0 = λ k. Follows v dates (nodes_due k next) vectors (nodes ++ rest) in
    let Q : Due → Type 0 = λ d. Follows v dates d vectors (nodes ++ rest) in
    let R : List (List ℕ) → Type 0 = λ vs. Follows v dates (next_due v (due.Node (suc (length nodes)) trees) (line_item said)) vs (nodes ++ rest) in
    let S : Due → Type 0 = λ d. Follows v dates d vectors (said ∷ (nodes ++ rest)) in
    subst S (some_nodes_due (length nodes) trees) ((some, few, is), subst R (sym kept) (subst Q (sym due_is) (subst P fewer later)))

-- one tree fewer is due behind a point or a leaf
less_due : (left others : ℕ) → nodes_due left (suc others - 1) ≡ nodes_due left others
less_due left others = let less : suc others - 1 ≡ others = omega arith in ap (λ (k : ℕ). nodes_due left k) less

nodes-follow : (v : Version) (dates : ℕ) (vectors : List (List ℕ)) (nodes : List Line) (trees : ℕ) (rest : List Line) → length vectors ≤ MOST_VECTORS →
    All (IsNodeLine v dates vectors) nodes → AreTrees trees (map (tree_of dates vectors) nodes) → Follows v dates (due.End 0) vectors rest →
    Follows v dates (nodes_due (length nodes) trees) vectors (nodes ++ rest)
nodes-follow v dates vectors [] zero rest few all are follows = follows
nodes-follow v dates vectors [] (suc others) rest few all are follows = absurd are
nodes-follow v dates vectors (said ∷ nodes) zero rest few all are follows = absurd (cc)
nodes-follow v dates vectors (line.Split part at ∷ nodes) (suc others) rest few all are follows =
    let said : Line = line.Split part at in
    let more : suc others + 1 ≡ suc (suc others) = omega arith in
    node-first v dates vectors said nodes (suc others) (suc (suc others)) rest few (All-head (IsNodeLine v dates vectors) said nodes all) (omega arith)
    (ap (λ (k : ℕ). nodes_due (suc (length nodes) - 1) k) more) refl
    (nodes-follow v dates vectors nodes (suc (suc others)) rest few (All-tail (IsNodeLine v dates vectors) said nodes all) are follows)
nodes-follow v dates vectors (line.Point ∷ nodes) (suc others) rest few all are follows =
    let said : Line = line.Point in
    node-first v dates vectors said nodes (suc others) others rest few (All-head (IsNodeLine v dates vectors) said nodes all) (omega arith)
    (less_due (suc (length nodes) - 1) others) refl (nodes-follow v dates vectors nodes others rest few (All-tail (IsNodeLine v dates vectors) said nodes all) are follows)
nodes-follow v dates vectors (line.Closed how rho mu vector changes weights ∷ nodes) (suc others) rest few all are follows =
    let said : Line = line.Closed how rho mu vector changes weights in
    node-first v dates vectors said nodes (suc others) others rest few (All-head (IsNodeLine v dates vectors) said nodes all) (omega arith)
    (less_due (suc (length nodes) - 1) others) refl (nodes-follow v dates vectors nodes others rest few (All-tail (IsNodeLine v dates vectors) said nodes all) are follows)
nodes-follow v dates vectors (line.Leaf leaf ∷ nodes) (suc others) rest few all are follows =
    let said : Line = line.Leaf leaf in
    node-first v dates vectors said nodes (suc others) others rest few (All-head (IsNodeLine v dates vectors) said nodes all) (omega arith)
    (less_due (suc (length nodes) - 1) others) refl (nodes-follow v dates vectors nodes others rest few (All-tail (IsNodeLine v dates vectors) said nodes all) are follows)
nodes-follow v dates vectors (said ∷ nodes) (suc others) rest few all are follows = absurd (All-head (IsNodeLine v dates vectors) said nodes all)

some_nodes : (dates : ℕ) (vectors : List (List ℕ)) (nodes : List Line) → AreTrees 1 (map (tree_of dates vectors) nodes) → 1 ≤ length nodes
some_nodes dates vectors [] are = absurd are
some_nodes dates vectors (said ∷ nodes) are = omega arith

abbrev pub tree_lines : List Line → List Line
tree_lines nodes = line.Nodes (length nodes) ∷ (nodes ++ line.End ∷ [])

tree-follows : (v : Version) (dates : ℕ) (vectors : List (List ℕ)) (nodes : List Line) → length vectors ≤ MOST_VECTORS → length nodes ≤ MOST_NODES →
    All (IsNodeLine v dates vectors) nodes → AreTrees 1 (map (tree_of dates vectors) nodes) → Follows v dates due.Count vectors (tree_lines nodes)
tree-follows v dates vectors nodes few short all are =
    ((some_nodes dates vectors nodes are, short), nodes-follow v dates vectors nodes 1 (line.End ∷ []) few all are (refl, refl))

rest-follows : (v : Version) (dates : ℕ) (w : Written) → IsWritten v dates w → Follows v dates (tree_due v) [] (vector_lines v w.vectors ++ tree_lines w.nodes)
rest-follows version.One dates w is =
    let P : List (List ℕ) → Type 0 = λ vs. Follows version.One dates due.Count vs (tree_lines w.nodes) in
    let few : length w.vectors ≤ MOST_VECTORS = omega (arith, ap length is.vectors_are) in
    subst P is.vectors_are (tree-follows version.One dates w.vectors w.nodes few is.few is.nodes_are is.tree)
rest-follows (version.Packed how) dates w is = (
  is.vectors_are.0,
  vectors-follow (version.Packed how) dates w.vectors [] (tree_lines w.nodes) is.vectors_are.1
      (tree-follows (version.Packed how) dates w.vectors w.nodes is.vectors_are.0 is.few is.nodes_are is.tree),
)

pub record ArePortfolio (v : Version) (buys : List Buy) (gap : ℕ) : Type 0 where
  pub few : length buys ≤ most_buys v
  pub range : All IsBuy buys
  pub rising : AllPairs Rises buys
  pub small : gap ≤ GREATEST_GAP

pub are-portfolio : (v : Version) (buys : List Buy) (gap : ℕ) → IsPortfolioOf v (Some buys) gap → ArePortfolio v buys gap
are-portfolio v buys gap is = record { few = is.0.few; range = is.0.range; rising = is.0.rising; small = is.1 }

pub no-portfolio : (v : Version) (gap : ℕ) → IsPortfolioOf v None gap → gap ≡ 0
no-portfolio v gap is = is

portfolio-follows : (v : Version) (dates gap : ℕ) (buys : Option (List Buy)) (rest : List Line) → IsPortfolioOf v buys gap → Follows v dates (tree_due v) [] rest →
    Follows v dates due.Portfolio [] (portfolio_lines buys ++ line.Gap gap ∷ rest)
portfolio-follows v dates gap None rest is follows =
    let none : gap ≡ 0 = no-portfolio v gap is in (tt, ((omega (arith, none), omega (arith, none)), follows))
portfolio-follows v dates gap (Some buys) rest is follows =
    let are : ArePortfolio v buys gap = are-portfolio v buys gap is in
    (are.few, buys-follow v dates [] buys 0 (line.Gap gap ∷ rest) are.range are.rising (from_zero buys) ((are.small, are.small), follows))

pub lines-follow : (v : Version) (dates : ℕ) (w : Written) → IsWritten v dates w → Follows v dates due.Title [] (written_lines v w)
lines-follow v dates w is =
    (refl, portfolio-follows v dates w.gap w.buys (vector_lines v w.vectors ++ tree_lines w.nodes) is.portfolio (rest-follows v dates w is))

-- ---- and lines that do are those of one
pub record AreBuyLines (v : Version) (dates left least : ℕ) (vectors : List (List ℕ)) (lines : List Line) : Type 0 where
  pub buys : List Buy
  pub rest : List Line
  pub are : lines ≡ map line.Purchase buys ++ rest
  pub count : length buys ≡ left
  pub range : All IsBuy buys
  pub rising : AllPairs Rises buys
  pub low : All (From least) buys
  pub follow : Follows v dates (due.Gap GREATEST_GAP) vectors rest

above_from : (least more : ℕ) (buys : List Buy) → least ≤ more → All (From more) buys → All (From least) buys
above_from least more buys h all i d inside = let here = all i d inside in omega (arith, here, h)

all_above : (buy : Buy) (buys : List Buy) → All (From (buy.line + 1)) buys → All (λ (later : Buy). buy.line < later.line) buys
all_above buy buys all i d inside = let here = all i d inside in omega (arith, here)

buy_before : (v : Version) (dates left least : ℕ) (vectors : List (List ℕ)) (buy : Buy) (lines : List Line) → IsBuy buy → least ≤ buy.line →
    AreBuyLines v dates left (buy.line + 1) vectors lines → AreBuyLines v dates (suc left) least vectors (line.Purchase buy ∷ lines)
buy_before v dates left least vectors buy lines is low are =
    let count : length (buy ∷ are.buys) ≡ suc left = ap suc are.count in
    record {
      buys = buy ∷ are.buys;
      rest = are.rest;
      are = ap (λ (ls : List Line). line.Purchase buy ∷ ls) are.are;
      count = count;
      range = All-cons IsBuy buy are.buys is are.range;
      rising = AllPairs-cons Rises buy are.buys (all_above buy are.buys are.low) are.rising;
      low = All-cons (From least) buy are.buys low (above_from least (buy.line + 1) are.buys (omega (arith, low)) are.low);
      follow = are.follow;
    }

buys-split : (v : Version) (dates : ℕ) (vectors : List (List ℕ)) (left least : ℕ) (lines : List Line) → Follows v dates (buys_due left least) vectors lines →
    AreBuyLines v dates left least vectors lines
buys-split v dates vectors zero least lines follows = record {
  buys = [];
  rest = lines;
  are = refl;
  count = refl;
  range = All-nil IsBuy;
  rising = λ i j d before inside. absurd (omega (arith, before, inside));
  low = All-nil (From least);
  follow = follows;
}
buys-split v dates vectors (suc left) least [] follows = absurd (let P : Due → Type 0 = λ d. is_over d ≡ true in let bad : false ≡ true = subst P (sym (some_buys_due left least)) follows in cc)
buys-split v dates vectors (suc left) least (line.Purchase buy ∷ lines) follows =
    let P : Due → Type 0 = λ d. Follows v dates d vectors (line.Purchase buy ∷ lines) in
    let here : Follows v dates (due.Buy (suc left) least) vectors (line.Purchase buy ∷ lines) = subst P (sym (some_buys_due left least)) follows in
    let Q : ℕ → Type 0 = λ k. Follows v dates (buys_due k (buy.line + 1)) vectors lines in
    let fewer : suc left - 1 ≡ left = omega arith in
    buy_before v dates left least vectors buy lines here.0.0 here.0.1 (buys-split v dates vectors left (buy.line + 1) lines (subst Q fewer here.1))
buys-split v dates vectors (suc left) least (other ∷ lines) follows =
    let P : Due → Type 0 = λ d. Fits v dates vectors d other in absurd (subst P (sym (some_buys_due left least)) follows.0)

pub record AreVectorLines (v : Version) (dates left : ℕ) (vectors : List (List ℕ)) (lines : List Line) : Type 0 where
  pub more : List (List ℕ)
  pub rest : List Line
  pub are : lines ≡ map line.Vector more ++ rest
  pub count : length more ≡ left
  pub range : All (IsVector dates) more
  pub follow : Follows v dates due.Count (vectors ++ more) rest

vectors-split : (v : Version) (dates left : ℕ) (vectors : List (List ℕ)) (lines : List Line) → Follows v dates (vectors_due left) vectors lines → AreVectorLines v dates left vectors lines
vectors-split v dates zero vectors lines follows =
    let P : List (List ℕ) → Type 0 = λ vs. Follows v dates due.Count vs lines in
    record { more = []; rest = lines; are = refl; count = refl; range = All-nil (IsVector dates); follow = subst P (sym (append-nil vectors)) follows }
vectors-split v dates (suc left) vectors [] follows = absurd (let P : Due → Type 0 = λ d. is_over d ≡ true in let bad : false ≡ true = subst P (sym (some_vectors_due left)) follows in cc)
vectors-split v dates (suc left) vectors (line.Vector prices ∷ lines) follows =
    let P : Due → Type 0 = λ d. Follows v dates d vectors (line.Vector prices ∷ lines) in
    let here : Follows v dates (due.Vector (suc left)) vectors (line.Vector prices ∷ lines) = subst P (sym (some_vectors_due left)) follows in
    let Q : ℕ → Type 0 = λ k. Follows v dates (vectors_due k) (vectors ++ prices ∷ []) lines in
    let fewer : suc left - 1 ≡ left = omega arith in
    let later : AreVectorLines v dates left (vectors ++ prices ∷ []) lines = vectors-split v dates left (vectors ++ prices ∷ []) lines (subst Q fewer here.1) in
    let R : List (List ℕ) → Type 0 = λ vs. Follows v dates due.Count vs later.rest in
    record {
      more = prices ∷ later.more;
      rest = later.rest;
      are = ap (λ (ls : List Line). line.Vector prices ∷ ls) later.are;
      count = ap suc later.count;
      range = All-cons (IsVector dates) prices later.more here.0 later.range;
      follow = subst R (append_assoc vectors (prices ∷ []) later.more) later.follow;
    }
vectors-split v dates (suc left) vectors (other ∷ lines) follows =
    let P : Due → Type 0 = λ d. Fits v dates vectors d other in absurd (subst P (sym (some_vectors_due left)) follows.0)

pub record AreNodeLines (v : Version) (dates left trees : ℕ) (vectors : List (List ℕ)) (lines : List Line) : Type 0 where
  pub nodes : List Line
  pub are : lines ≡ nodes ++ line.End ∷ []
  pub count : length nodes ≡ left
  pub range : All (IsNodeLine v dates vectors) nodes
  pub tree : AreTrees trees (map (tree_of dates vectors) nodes)

last_line : (v : Version) (dates : ℕ) (vectors : List (List ℕ)) (lines : List Line) → Follows v dates due.Nothing vectors lines → lines ≡ []
last_line v dates vectors [] follows = refl
last_line v dates vectors (said ∷ lines) follows = absurd follows.0

end_line : (v : Version) (dates trees : ℕ) (vectors : List (List ℕ)) (lines : List Line) → Follows v dates (due.End trees) vectors lines → (trees ≡ 0) × (lines ≡ line.End ∷ [])
end_line v dates trees vectors [] follows = absurd (let bad : false ≡ true = follows in cc)
end_line v dates trees vectors (line.End ∷ lines) follows = (follows.0, ap (λ (ls : List Line). line.End ∷ ls) (last_line v dates vectors lines follows.1))
end_line v dates trees vectors (other ∷ lines) follows = absurd follows.0

node_before : (v : Version) (dates left trees next : ℕ) (vectors : List (List ℕ)) (said : Line) (lines : List Line) → IsNodeLine v dates vectors said →
    ((more : List TreeNode) → AreTrees next more → AreTrees trees (tree_of dates vectors said ∷ more)) →
    AreNodeLines v dates left next vectors lines → AreNodeLines v dates (suc left) trees vectors (said ∷ lines)
node_before v dates left trees next vectors said lines is closes are = record {
  nodes = said ∷ are.nodes;
  are = ap (λ (ls : List Line). said ∷ ls) are.are;
  count = ap suc are.count;
  range = All-cons (IsNodeLine v dates vectors) said are.nodes is are.range;
  tree = closes (map (tree_of dates vectors) are.nodes) are.tree;
}

-- behind a node the others are due
node-behind : (v : Version) (dates left trees next : ℕ) (vectors : List (List ℕ)) (said : Line) (lines : List Line) → Follows v dates (due.Node (suc left) trees) vectors (said ∷ lines) →
    next_due v (due.Node (suc left) trees) (line_item said) ≡ nodes_due (suc left - 1) next → vectors_with vectors said ≡ vectors → Follows v dates (nodes_due left next) vectors lines
node-behind v dates left trees next vectors said lines here due_is kept =
    let P : Due → Type 0 = λ d. Follows v dates d vectors lines in
    let Q : ℕ → Type 0 = λ k. Follows v dates (nodes_due k next) vectors lines in
    let R : List (List ℕ) → Type 0 = λ vs. Follows v dates (next_due v (due.Node (suc left) trees) (line_item said)) vs lines in
    let fewer : suc left - 1 ≡ left = omega arith in
    subst Q fewer (subst P due_is (subst R kept here.1))

-- a node's line where nodes are due
node-here : (v : Version) (dates left trees : ℕ) (vectors : List (List ℕ)) (said : Line) (lines : List Line) → Follows v dates (nodes_due (suc left) trees) vectors (said ∷ lines) →
    Follows v dates (due.Node (suc left) trees) vectors (said ∷ lines)
node-here v dates left trees vectors said lines follows =
    let P : Due → Type 0 = λ d. Follows v dates d vectors (said ∷ lines) in subst P (sym (some_nodes_due left trees)) follows

nodes-split : (v : Version) (dates left trees : ℕ) (vectors : List (List ℕ)) (lines : List Line) → Follows v dates (nodes_due left trees) vectors lines →
    AreNodeLines v dates left trees vectors lines
nodes-split v dates zero trees vectors lines follows =
    let last : (trees ≡ 0) × (lines ≡ line.End ∷ []) = end_line v dates trees vectors lines follows in
    let P : ℕ → Type 0 = λ k. AreTrees k [] in
    record { nodes = []; are = last.1; count = refl; range = All-nil (IsNodeLine v dates vectors); tree = subst P (sym last.0) refl }
nodes-split v dates (suc left) trees vectors [] follows = absurd (let P : Due → Type 0 = λ d. is_over d ≡ true in let bad : false ≡ true = subst P (sym (some_nodes_due left trees)) follows in cc)
nodes-split v dates (suc left) trees vectors (line.Split part at ∷ lines) follows =
    let said : Line = line.Split part at in
    let here : Follows v dates (due.Node (suc left) trees) vectors (said ∷ lines) = node-here v dates left trees vectors said lines follows in
    node_before v dates left trees (trees + 1) vectors said lines here.0.2 (λ more are. split_closes trees part at more here.0.0 are)
    (nodes-split v dates left (trees + 1) vectors lines (node-behind v dates left trees (trees + 1) vectors said lines here refl refl))
nodes-split v dates (suc left) trees vectors (line.Point ∷ lines) follows =
    let said : Line = line.Point in
    let here : Follows v dates (due.Node (suc left) trees) vectors (said ∷ lines) = node-here v dates left trees vectors said lines follows in
    node_before v dates left trees (trees - 1) vectors said lines here.0.2 (λ more are. point_closes trees more here.0.0 are)
    (nodes-split v dates left (trees - 1) vectors lines (node-behind v dates left trees (trees - 1) vectors said lines here refl refl))
nodes-split v dates (suc left) trees vectors (line.Closed how rho mu vector changes weights ∷ lines) follows =
    let said : Line = line.Closed how rho mu vector changes weights in
    let here : Follows v dates (due.Node (suc left) trees) vectors (said ∷ lines) = node-here v dates left trees vectors said lines follows in
    node_before v dates left trees (trees - 1) vectors said lines here.0.2 (λ more are. leaf_closes trees (leaf_with dates vectors rho mu vector changes weights) more here.0.0 are)
    (nodes-split v dates left (trees - 1) vectors lines (node-behind v dates left trees (trees - 1) vectors said lines here refl refl))
nodes-split v dates (suc left) trees vectors (line.Leaf leaf ∷ lines) follows =
    let said : Line = line.Leaf leaf in
    let here : Follows v dates (due.Node (suc left) trees) vectors (said ∷ lines) = node-here v dates left trees vectors said lines follows in
    node_before v dates left trees (trees - 1) vectors said lines here.0.2 (λ more are. leaf_closes trees leaf more here.0.0 are)
    (nodes-split v dates left (trees - 1) vectors lines (node-behind v dates left trees (trees - 1) vectors said lines here refl refl))
nodes-split v dates (suc left) trees vectors (other ∷ lines) follows = absurd (node-here v dates left trees vectors other lines follows).0.2

-- the lines behind the purchases
pub record AreTreeLines (v : Version) (dates : ℕ) (vectors : List (List ℕ)) (lines : List Line) : Type 0 where
  pub nodes : List Line
  pub are : lines ≡ tree_lines nodes
  pub few : length nodes ≤ MOST_NODES
  pub range : All (IsNodeLine v dates vectors) nodes
  pub tree : AreTrees 1 (map (tree_of dates vectors) nodes)

tree-split : (v : Version) (dates : ℕ) (vectors : List (List ℕ)) (lines : List Line) → Follows v dates due.Count vectors lines → AreTreeLines v dates vectors lines
tree-split v dates vectors [] follows = absurd (let bad : false ≡ true = follows in cc)
tree-split v dates vectors (line.Nodes count ∷ lines) follows =
    let nodes : AreNodeLines v dates count 1 vectors lines = nodes-split v dates count 1 vectors lines follows.1 in
    record {
      nodes = nodes.nodes;
      are = ap (λ (k : ℕ). line.Nodes k ∷ lines) (sym nodes.count) ∙ ap (λ (ls : List Line). line.Nodes (length nodes.nodes) ∷ ls) nodes.are;
      few = omega (arith, nodes.count, follows.0.1);
      range = nodes.range;
      tree = nodes.tree;
    }
tree-split v dates vectors (other ∷ lines) follows = absurd follows.0

pub record AreRestLines (v : Version) (dates most : ℕ) (lines : List Line) : Type 0 where
  pub gap : ℕ
  pub vectors : List (List ℕ)
  pub nodes : List Line
  pub are : lines ≡ line.Gap gap ∷ (vector_lines v vectors ++ tree_lines nodes)
  pub within : gap ≤ most
  pub small : gap ≤ GREATEST_GAP
  pub vectors_are : AreVectorsOf v dates vectors
  pub few : length nodes ≤ MOST_NODES
  pub nodes_are : All (IsNodeLine v dates vectors) nodes
  pub tree : AreTrees 1 (map (tree_of dates vectors) nodes)

rest-split : (v : Version) (dates most : ℕ) (lines : List Line) → Follows v dates (due.Gap most) [] lines → AreRestLines v dates most lines
rest-split version.One dates most (line.Gap cents ∷ lines) follows =
    let tree : AreTreeLines version.One dates [] lines = tree-split version.One dates [] lines follows.1 in
    record {
      gap = cents;
      vectors = [];
      nodes = tree.nodes;
      are = ap (λ (ls : List Line). line.Gap cents ∷ ls) tree.are;
      within = follows.0.0;
      small = follows.0.1;
      vectors_are = refl;
      few = tree.few;
      nodes_are = tree.range;
      tree = tree.tree;
    }
rest-split (version.Packed how) dates most (line.Gap cents ∷ line.Vectors count ∷ lines) follows =
    let vectors : AreVectorLines (version.Packed how) dates count [] lines = vectors-split (version.Packed how) dates count [] lines follows.1.1 in
    let tree : AreTreeLines (version.Packed how) dates vectors.more vectors.rest = tree-split (version.Packed how) dates vectors.more vectors.rest vectors.follow in
    record {
      gap = cents;
      vectors = vectors.more;
      nodes = tree.nodes;
      are =
          ap (λ (k : ℕ). line.Gap cents ∷ line.Vectors k ∷ lines) (sym vectors.count)
          ∙ ap (λ (ls : List Line). line.Gap cents ∷ line.Vectors (length vectors.more) ∷ ls) vectors.are
          ∙ ap (λ (ls : List Line). line.Gap cents ∷ line.Vectors (length vectors.more) ∷ (map line.Vector vectors.more ++ ls)) tree.are;
      within = follows.0.0;
      small = follows.0.1;
      vectors_are = (omega (arith, vectors.count, follows.1.0), vectors.range);
      few = tree.few;
      nodes_are = tree.range;
      tree = tree.tree;
    }
rest-split v dates most [] follows = absurd (let bad : false ≡ true = follows in cc)
rest-split (version.Packed how) dates most (line.Gap cents ∷ []) follows = absurd (let bad : false ≡ true = follows.1 in cc)
rest-split (version.Packed how) dates most (line.Gap cents ∷ other ∷ lines) follows = absurd follows.1.0
rest-split v dates most (other ∷ lines) follows = absurd follows.0

-- what lines say whose text this is
pub record IsLinesOf (v : Version) (dates : ℕ) (lines : List Line) : Type 0 where
  pub written : Written
  pub is : IsWritten v dates written
  pub are : written_lines v written ≡ lines

of_portfolio : (v : Version) (buys : List Buy) (gap : ℕ) → ArePortfolio v buys gap → IsPortfolioOf v (Some buys) gap
of_portfolio v buys gap are = (record { few = are.few; range = are.range; rising = are.rising }, are.small)

of_none : (v : Version) (gap : ℕ) → gap ≡ 0 → IsPortfolioOf v None gap
of_none v gap none = none

of_parts : (v : Version) (dates most : ℕ) (buys : Option (List Buy)) (lines rest : List Line) → lines ≡ portfolio_lines buys ++ rest → (parts : AreRestLines v dates most rest) →
    IsPortfolioOf v buys parts.gap → IsLinesOf v dates (line.Title v ∷ lines)
of_parts v dates most buys lines rest same parts portfolio = record {
  written = record { buys = buys; gap = parts.gap; vectors = parts.vectors; nodes = parts.nodes };
  is = record { portfolio = portfolio; vectors_are = parts.vectors_are; few = parts.few; nodes_are = parts.nodes_are; tree = parts.tree };
  are = ap (λ (ls : List Line). line.Title v ∷ (portfolio_lines buys ++ ls)) (sym parts.are) ∙ ap (λ (ls : List Line). line.Title v ∷ ls) (sym same);
}

titled : (v w : Version) (dates : ℕ) (lines : List Line) → w ≡ v → IsLinesOf v dates (line.Title v ∷ lines) → IsLinesOf v dates (line.Title w ∷ lines)
titled v w dates lines same is = let P : Version → Type 0 = λ u. IsLinesOf v dates (line.Title u ∷ lines) in subst P (sym same) is

pub lines-of : (v : Version) (dates : ℕ) (lines : List Line) → Follows v dates due.Title [] lines → IsLinesOf v dates lines
lines-of v dates (line.Title w ∷ line.Portfolio None ∷ lines) follows =
    let parts : AreRestLines v dates 0 lines = rest-split v dates 0 lines follows.1.1 in
    titled v w dates (line.Portfolio None ∷ lines) follows.0 (of_parts v dates 0 None (line.Portfolio None ∷ lines) lines refl parts (of_none v parts.gap (omega (arith, parts.within))))
lines-of v dates (line.Title w ∷ line.Portfolio (Some count) ∷ lines) follows =
    let buys : AreBuyLines v dates count 0 [] lines = buys-split v dates [] count 0 lines follows.1.1 in
    let parts : AreRestLines v dates GREATEST_GAP buys.rest = rest-split v dates GREATEST_GAP buys.rest buys.follow in
    let few : length buys.buys ≤ most_buys v = subst (λ (k : ℕ). k ≤ most_buys v) (sym buys.count) follows.1.0 in
    titled v w dates (line.Portfolio (Some count) ∷ lines) follows.0
    (of_parts v dates GREATEST_GAP (Some buys.buys) (line.Portfolio (Some count) ∷ lines) buys.rest
    (ap (λ (k : ℕ). line.Portfolio (Some k) ∷ lines) (sym buys.count) ∙ ap (λ (ls : List Line). line.Portfolio (Some (length buys.buys)) ∷ ls) buys.are) parts
    (of_portfolio v buys.buys parts.gap (record { few = few; range = buys.range; rising = buys.rising; small = parts.small })))
lines-of v dates [] follows = absurd (let bad : false ≡ true = follows in cc)
lines-of v dates (line.Title w ∷ []) follows = absurd (let bad : false ≡ true = follows.1 in cc)
lines-of v dates (line.Title w ∷ other ∷ lines) follows = absurd follows.1.0
lines-of v dates (other ∷ lines) follows = absurd follows.0

-- ---- lines, one after another, come to what they say
abbrev pub none_written : Written
none_written = record { buys = None; gap = 0; vectors = []; nodes = [] }

abbrev pub and_line : Written → Line → Written
and_line w (line.Portfolio None) = record { buys = None; gap = w.gap; vectors = w.vectors; nodes = w.nodes }
and_line w (line.Portfolio (Some count)) = record { buys = Some []; gap = w.gap; vectors = w.vectors; nodes = w.nodes }
and_line w (line.Purchase buy) = record { buys = option_map (λ buys. buys ++ buy ∷ []) w.buys; gap = w.gap; vectors = w.vectors; nodes = w.nodes }
and_line w (line.Gap cents) = record { buys = w.buys; gap = cents; vectors = w.vectors; nodes = w.nodes }
and_line w (line.Vector prices) = record { buys = w.buys; gap = w.gap; vectors = w.vectors ++ prices ∷ []; nodes = w.nodes }
and_line w (line.Split part at) = record { buys = w.buys; gap = w.gap; vectors = w.vectors; nodes = w.nodes ++ line.Split part at ∷ [] }
and_line w line.Point = record { buys = w.buys; gap = w.gap; vectors = w.vectors; nodes = w.nodes ++ line.Point ∷ [] }
and_line w (line.Closed how rho mu vector changes weights) = record { buys = w.buys; gap = w.gap; vectors = w.vectors; nodes = w.nodes ++ line.Closed how rho mu vector changes weights ∷ [] }
and_line w (line.Leaf leaf) = record { buys = w.buys; gap = w.gap; vectors = w.vectors; nodes = w.nodes ++ line.Leaf leaf ∷ [] }
and_line w other = w

abbrev pub and_lines : Written → List Line → Written
and_lines w lines = fold and_line w lines

abbrev with_buys : Option (List Buy) → Written
with_buys buys = record { buys = buys; gap = 0; vectors = []; nodes = [] }

buys-fold : (buys before : List Buy) → and_lines (with_buys (Some before)) (map line.Purchase buys) ≡ with_buys (Some (before ++ buys))
buys-fold [] before = ap (λ (bs : List Buy). with_buys (Some bs)) (sym (append-nil before))
buys-fold (buy ∷ buys) before = buys-fold buys (before ++ buy ∷ []) ∙ ap (λ (bs : List Buy). with_buys (Some bs)) (append_assoc before (buy ∷ []) buys)

portfolio-fold : (buys : Option (List Buy)) → and_lines none_written (portfolio_lines buys) ≡ with_buys buys
portfolio-fold None = refl
portfolio-fold (Some buys) = buys-fold buys []

abbrev with_vectors : Written → List (List ℕ) → Written
with_vectors w vectors = record { buys = w.buys; gap = w.gap; vectors = vectors; nodes = w.nodes }

abbrev with_nodes : Written → List Line → Written
with_nodes w nodes = record { buys = w.buys; gap = w.gap; vectors = w.vectors; nodes = nodes }

vectors-fold : (vectors : List (List ℕ)) (w : Written) → and_lines w (map line.Vector vectors) ≡ with_vectors w (w.vectors ++ vectors)
vectors-fold [] w = ap (λ (vs : List (List ℕ)). with_vectors w vs) (sym (append-nil w.vectors))
vectors-fold (vector ∷ vectors) w =
    vectors-fold vectors (with_vectors w (w.vectors ++ vector ∷ [])) ∙ ap (λ (vs : List (List ℕ)). with_vectors w vs) (append_assoc w.vectors (vector ∷ []) vectors)

-- a node's line adds itself
one-node : (v : Version) (dates : ℕ) (vectors : List (List ℕ)) (w : Written) (said : Line) → IsNodeLine v dates vectors said → and_line w said ≡ with_nodes w (w.nodes ++ said ∷ [])
one-node v dates vectors w (line.Split part at) is = refl
one-node v dates vectors w line.Point is = refl
one-node v dates vectors w (line.Closed how rho mu vector changes weights) is = refl
one-node v dates vectors w (line.Leaf leaf) is = refl
one-node v dates vectors w said is = absurd is

nodes-fold : (v : Version) (dates : ℕ) (vectors : List (List ℕ)) (nodes : List Line) (w : Written) → All (IsNodeLine v dates vectors) nodes →
    and_lines w nodes ≡ with_nodes w (w.nodes ++ nodes)
nodes-fold v dates vectors [] w all = ap (λ (ns : List Line). with_nodes w ns) (sym (append-nil w.nodes))
nodes-fold v dates vectors (said ∷ nodes) w all =
    ap (λ (x : Written). and_lines x nodes) (one-node v dates vectors w said (All-head (IsNodeLine v dates vectors) said nodes all))
    ∙ nodes-fold v dates vectors nodes (with_nodes w (w.nodes ++ said ∷ [])) (All-tail (IsNodeLine v dates vectors) said nodes all)
    ∙ ap (λ (ns : List Line). with_nodes w ns) (append_assoc w.nodes (said ∷ []) nodes)

tree-fold : (v : Version) (dates : ℕ) (vectors : List (List ℕ)) (nodes : List Line) (w : Written) → All (IsNodeLine v dates vectors) nodes →
    and_lines w (tree_lines nodes) ≡ with_nodes w (w.nodes ++ nodes)
tree-fold v dates vectors nodes w all =
    fold-append and_line w nodes (line.End ∷ []) ∙ ap (λ (x : Written). and_lines x (line.End ∷ [])) (nodes-fold v dates vectors nodes w all)

vector-lines-fold : (v : Version) (dates : ℕ) (vectors : List (List ℕ)) (w : Written) → AreVectorsOf v dates vectors → and_lines w (vector_lines v vectors) ≡ with_vectors w (w.vectors ++ vectors)
vector-lines-fold version.One dates vectors w none =
    ap (λ (vs : List (List ℕ)). with_vectors w vs) (sym (append-nil w.vectors) ∙ ap (λ (vs : List (List ℕ)). w.vectors ++ vs) (sym none))
vector-lines-fold (version.Packed how) dates vectors w are = vectors-fold vectors w

pub lines-fold : (v : Version) (dates : ℕ) (w : Written) → IsWritten v dates w → and_lines none_written (written_lines v w) ≡ w
lines-fold v dates w is =
    let rest : List Line = vector_lines v w.vectors ++ tree_lines w.nodes in
    let begun : Written = record { buys = w.buys; gap = w.gap; vectors = []; nodes = [] } in
    fold-append and_line none_written (portfolio_lines w.buys) (line.Gap w.gap ∷ rest)
    ∙ ap (λ (x : Written). and_lines x (line.Gap w.gap ∷ rest)) (portfolio-fold w.buys)
    ∙ fold-append and_line begun (vector_lines v w.vectors) (tree_lines w.nodes)
    ∙ ap (λ (x : Written). and_lines x (tree_lines w.nodes)) (vector-lines-fold v dates w.vectors begun is.vectors_are)
    ∙ tree-fold v dates w.vectors w.nodes (with_vectors begun w.vectors) is.nodes_are

-- the vectors that came
pub with-vectors : (w : Written) (said : Line) → vectors_with w.vectors said ≡ (and_line w said).vectors
with-vectors w (line.Title v) = refl
with-vectors w (line.Portfolio None) = refl
with-vectors w (line.Portfolio (Some count)) = refl
with-vectors w (line.Purchase buy) = refl
with-vectors w (line.Gap cents) = refl
with-vectors w (line.Vectors count) = refl
with-vectors w (line.Vector prices) = refl
with-vectors w (line.Nodes count) = refl
with-vectors w (line.Split part at) = refl
with-vectors w line.Point = refl
with-vectors w (line.Closed how rho mu vector changes weights) = refl
with-vectors w (line.Leaf leaf) = refl
with-vectors w line.End = refl
