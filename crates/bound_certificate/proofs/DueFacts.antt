-- Lines that are due.
use Rattle.std.proofs.Common.{◌≡◌, ◌∙◌, ℕ, ◌≤◌, Bool, true, false, ◌&&◌, nat_lt, nat_eq, if◌then◌else◌, List, [], ◌∷◌, ◌++◌, length, slice_index_or, drop, All, refl, sym, subst, ap, arith, Some, None, Result, Ok, Err, codes, decimal}
use lib.Pointwise.{pointwise, bytes_decides}
use Rattle.bound_certificate.specs.declared.fault.FaultKind.{FaultKind}
use Rattle.bound_certificate.specs.declared.fault.FaultKind.TheVariants as kind
use Rattle.bound_certificate.specs.declared.due.Due.{Due}
use Rattle.bound_certificate.specs.declared.due.Due.TheVariants as due
use Rattle.bound_certificate.specs.declared.line.Line.{Line}
use Rattle.bound_certificate.specs.declared.line.Line.TheVariants as line
use Rattle.bound_certificate.specs.declared.row.Row.{Row}
use Rattle.bound_certificate.specs.declared.row.Row.TheVariants as row
use Rattle.bound_certificate.specs.declared.version.Version.{Version}
use Rattle.bound_certificate.specs.declared.version.Version.TheVariants as version
use Rattle.bound_certificate.specs.declared.weighing.Weighing.{Weighing}
use Rattle.bound_certificate.specs.declared.weighing.Weighing.TheVariants as weighing
use Rattle.proof_tree.specs.declared.tree.Part.TheVariants as part
use Rattle.proof_tree.specs.declared.tree.TheConstants.{GREATEST_UNITS}
use Rattle.proof_tree.specs.Tree.{IsPart}
use Rattle.bound_certificate.specs.declared.limits.TheConstants.{GREATEST_GAP, MOST_DATES, MOST_NODES, MOST_VECTORS}
use Rattle.std.proofs.lemmas.List.{append-nil}
use Rattle.std.proofs.lemmas.List.Elements.{All-head}
use Rattle.bound_certificate.specs.Certificate.{IsBuy}
use Rattle.bound_certificate.specs.Grammar.{begins_with, has_sums, leaf_row, leaf_words, line_said, most_buys, node_row, node_said, row_line, title_word}
use Rattle.bound_certificate.specs.Packed.{IsVector}
use Rattle.bound_certificate.specs.Row.{row_word}
use Rattle.bound_certificate.specs.Text.{IsOneLine, spaced_numbers}
use Rattle.bound_certificate.specs.Weights.{IsSayablePart}
use Rattle.line_words.specs.Words.{first_word, words_of}
use Rattle.bound_certificate.proofs.LineFacts.{FoundLine, IsClosed, IsLineOf, IsPlainLeaf, IsShort, RowSays, ShowsLine, body, numbers_of_line, row-line-found, row-line-shows, row-shows-line}
use Rattle.bound_certificate.proofs.PriceFacts.{line_by}
use Rattle.bound_certificate.proofs.RowFacts.{AreWritten, IsDigit, decimal-digits, row-words}
use Rattle.bound_certificate.proofs.TableFacts.{row-word}
use Rattle.bound_certificate.proofs.TailFacts.{FoundLeaf, IsLeafLine, IsTailedLeaf, leaf-found, leaf-shows}

-- how a version says nodes
abbrev pub weighing_by : Version → Weighing
weighing_by version.One = weighing.WholeOrNone
weighing_by (version.Packed w) = w

-- a node's line that may stand in a version
abbrev pub IsNodeLine : Version → ℕ → List (List ℕ) → Line → Type 0
IsNodeLine v dates vectors (line.Split part at) = IsPart dates part × (at ≤ GREATEST_UNITS) × IsSayablePart (weighing_by v) part
IsNodeLine v dates vectors line.Point = Unit {0}
IsNodeLine version.One dates vectors (line.Leaf leaf) = IsPlainLeaf dates leaf
IsNodeLine (version.Packed w) dates vectors (line.Closed how rho mu vector changes weights) = IsClosed w dates vectors how rho mu vector changes weights
IsNodeLine v dates vectors said = ⊥

-- a line that may stand where it is due
abbrev pub Fits : Version → ℕ → List (List ℕ) → Due → Line → Type 0
Fits v dates vectors due.Title (line.Title w) = w ≡ v
Fits v dates vectors due.Portfolio (line.Portfolio None) = Unit {0}
Fits v dates vectors due.Portfolio (line.Portfolio (Some count)) = count ≤ most_buys v
Fits v dates vectors (due.Buy left least) (line.Purchase buy) = IsBuy buy × (least ≤ buy.line)
Fits v dates vectors (due.Gap most) (line.Gap cents) = (cents ≤ most) × (cents ≤ GREATEST_GAP)
Fits v dates vectors due.VectorCount (line.Vectors count) = count ≤ MOST_VECTORS
Fits v dates vectors (due.Vector left) (line.Vector prices) = IsVector dates prices
Fits v dates vectors due.Count (line.Nodes count) = (1 ≤ count) × (count ≤ MOST_NODES)
Fits v dates vectors (due.Node left trees) said = (1 ≤ trees) × (length vectors ≤ MOST_VECTORS) × IsNodeLine v dates vectors said
Fits v dates vectors (due.End trees) line.End = trees ≡ 0
Fits v dates vectors d said = ⊥

-- a line that is read
pub record IsFound (v : Version) (dates : ℕ) (vectors : List (List ℕ)) (d : Due) (bytes : List ℕ) (said : Line) : Type 0 where
  pub fits : Fits v dates vectors d said
  pub bytes_of : bytes ≡ body said

title_found : (v : Version) (dates : ℕ) (vectors : List (List ℕ)) (bytes : List ℕ) (said : Line) (b : Bool) → pointwise nat_eq (title_word v) bytes ≡ b →
    ◌≡◌ {A = Result Line FaultKind} (if b then Ok (line.Title v) else Err kind.Header) (Ok said) → IsFound v dates vectors due.Title bytes said
title_found v dates vectors bytes said false e h = absurd (cc)
title_found v dates vectors bytes said true e h =
    let same : line.Title v ≡ said = cc in
    let P : Line → Type 0 = λ l. IsFound v dates vectors due.Title bytes l in
    subst P same (record { fits = refl; bytes_of = sym ((bytes_decides (title_word v) bytes).0 e) })

portfolio_fits : (v : Version) (dates : ℕ) (vectors : List (List ℕ)) (said : Line) → RowSays dates vectors (row.Portfolio (most_buys v)) said → Fits v dates vectors due.Portfolio said
portfolio_fits v dates vectors (line.Portfolio (Some count)) says = says.0
portfolio_fits v dates vectors said says = absurd says

portfolio_found : (v : Version) (dates : ℕ) (vectors : List (List ℕ)) (bytes : List ℕ) (said : Line) → All (IsVector dates) vectors → length vectors ≤ MOST_VECTORS →
    (b : Bool) → pointwise nat_eq (codes "portfolio none") bytes ≡ b →
    (if b then Ok (line.Portfolio None) else row_line dates vectors (row.Portfolio (most_buys v)) true bytes) ≡ Ok said → IsFound v dates vectors due.Portfolio bytes said
portfolio_found v dates vectors bytes said all few true e h =
    let same : line.Portfolio None ≡ said = cc in
    let P : Line → Type 0 = λ l. IsFound v dates vectors due.Portfolio bytes l in
    subst P same (record { fits = tt; bytes_of = sym ((bytes_decides (codes "portfolio none") bytes).0 e) })
portfolio_found v dates vectors bytes said all few false e h =
    let found : FoundLine dates vectors (row.Portfolio (most_buys v)) true bytes said = row-line-found dates vectors (row.Portfolio (most_buys v)) true bytes said all few h in
    record { fits = portfolio_fits v dates vectors said found.says; bytes_of = found.bytes_of }

buy_fits : (v : Version) (dates : ℕ) (vectors : List (List ℕ)) (left least : ℕ) (said : Line) → RowSays dates vectors (row.Buy least) said → Fits v dates vectors (due.Buy left least) said
buy_fits v dates vectors left least (line.Purchase buy) says = says
buy_fits v dates vectors left least said says = absurd says

gap_fits : (v : Version) (dates : ℕ) (vectors : List (List ℕ)) (most : ℕ) (said : Line) → RowSays dates vectors (row.Gap most) said → Fits v dates vectors (due.Gap most) said
gap_fits v dates vectors most (line.Gap cents) says = says
gap_fits v dates vectors most said says = absurd says

vectors_fits : (v : Version) (dates : ℕ) (vectors : List (List ℕ)) (said : Line) → RowSays dates vectors row.Vectors said → Fits v dates vectors due.VectorCount said
vectors_fits v dates vectors (line.Vectors count) says = says
vectors_fits v dates vectors said says = absurd says

vector_fits : (v : Version) (dates : ℕ) (vectors : List (List ℕ)) (left : ℕ) (said : Line) → RowSays dates vectors row.Vector said → Fits v dates vectors (due.Vector left) said
vector_fits v dates vectors left (line.Vector prices) says = says
vector_fits v dates vectors left said says = absurd says

nodes_fits : (v : Version) (dates : ℕ) (vectors : List (List ℕ)) (said : Line) → RowSays dates vectors row.Nodes said → Fits v dates vectors due.Count said
nodes_fits v dates vectors (line.Nodes count) says = says
nodes_fits v dates vectors said says = absurd says

end_fits : (v : Version) (dates : ℕ) (vectors : List (List ℕ)) (trees : ℕ) (said : Line) → trees ≡ 0 → RowSays dates vectors row.End said → Fits v dates vectors (due.End trees) said
end_fits v dates vectors trees line.End none says = none
end_fits v dates vectors trees said none says = absurd says

-- a node
abbrev IsNodeRow : Version → Row → Type 0
IsNodeRow v row.Split = Unit {0}
IsNodeRow v row.SumSplit = has_sums v ≡ true
IsNodeRow v row.Point = Unit {0}
IsNodeRow version.One row.Priced = Unit {0}
IsNodeRow (version.Packed w) (row.Leaf how) = how ≡ w
IsNodeRow v other = ⊥

leaf_is : (v : Version) → IsNodeRow v (leaf_row v)
leaf_is version.One = tt
leaf_is (version.Packed w) = refl

node_by : (v : Version) (b c d : Bool) → IsNodeRow v (if b then row.Split else if c then row.Point else if has_sums v && d then row.SumSplit else leaf_row v)
node_by v true c d = tt
node_by v false true d = tt
node_by version.One false false d = tt
node_by (version.Packed weighing.WholeOrNone) false false d = refl
node_by (version.Packed weighing.Number) false false true = refl
node_by (version.Packed weighing.Number) false false false = refl

sums_sayable : (v : Version) (sum : ℕ) → has_sums v ≡ true → IsSayablePart (weighing_by v) (part.Sum sum)
sums_sayable version.One sum h = absurd (cc)
sums_sayable (version.Packed weighing.WholeOrNone) sum h = absurd (cc)
sums_sayable (version.Packed weighing.Number) sum h = tt

node_says : (v : Version) (dates : ℕ) (vectors : List (List ℕ)) (r : Row) (said : Line) → IsNodeRow v r → RowSays dates vectors r said → IsNodeLine v dates vectors said
node_says v dates vectors row.Split (line.Split (part.Line number) at) is says = (says.0, says.1, tt)
node_says v dates vectors row.SumSplit (line.Split (part.Sum sum) at) is says = (says.0, says.1, sums_sayable v sum is)
node_says v dates vectors row.Point line.Point is says = tt
node_says version.One dates vectors row.Priced (line.Leaf leaf) is says = says
node_says (version.Packed w) dates vectors (row.Leaf u) (line.Closed how rho mu vector changes []) is says =
    let P : Weighing → Type 0 = λ x. IsClosed x dates vectors how rho mu vector changes [] in subst P is says.1
node_says version.One dates vectors (row.Leaf u) said is says = absurd is
node_says (version.Packed w) dates vectors row.Priced said is says = absurd is
node_says v dates vectors row.Split said is says = absurd says
node_says v dates vectors row.SumSplit said is says = absurd says
node_says v dates vectors row.Point said is says = absurd says
node_says version.One dates vectors row.Priced said is says = absurd says
node_says (version.Packed w) dates vectors (row.Leaf u) said is says = absurd says
node_says v dates vectors r said is says = absurd is

-- a node's line that is read
record FoundNode (v : Version) (dates : ℕ) (vectors : List (List ℕ)) (may : Bool) (bytes : List ℕ) (said : Line) : Type 0 where
  allowed : may ≡ true
  is : IsNodeLine v dates vectors said
  bytes_of : bytes ≡ body said

row_node : (v : Version) (dates : ℕ) (vectors : List (List ℕ)) (r : Row) (may : Bool) (bytes : List ℕ) (said : Line) → All (IsVector dates) vectors → length vectors ≤ MOST_VECTORS →
    IsNodeRow v r → row_line dates vectors r may bytes ≡ Ok said → FoundNode v dates vectors may bytes said
row_node v dates vectors r may bytes said all few is h =
    let found : FoundLine dates vectors r may bytes said = row-line-found dates vectors r may bytes said all few h in
    record { allowed = found.allowed; is = node_says v dates vectors r said is found.says; bytes_of = found.bytes_of }

tailed_node : (dates : ℕ) (vectors : List (List ℕ)) (said : Line) → IsTailedLeaf dates vectors said → IsNodeLine (version.Packed weighing.Number) dates vectors said
tailed_node dates vectors (line.Closed how rho mu vector changes weights) is = is
tailed_node dates vectors said is = absurd is

node_found : (v : Version) (dates : ℕ) (vectors : List (List ℕ)) (r : Row) (may : Bool) (bytes : List ℕ) (said : Line) → All (IsVector dates) vectors → length vectors ≤ MOST_VECTORS →
    IsNodeRow v r → node_said dates vectors r may bytes ≡ Ok said → FoundNode v dates vectors may bytes said
node_found v dates vectors row.Split may bytes said all few is h = row_node v dates vectors row.Split may bytes said all few is h
node_found v dates vectors row.SumSplit may bytes said all few is h = row_node v dates vectors row.SumSplit may bytes said all few is h
node_found v dates vectors row.Point may bytes said all few is h = row_node v dates vectors row.Point may bytes said all few is h
node_found version.One dates vectors row.Priced may bytes said all few is h = row_node version.One dates vectors row.Priced may bytes said all few is h
node_found (version.Packed w) dates vectors row.Priced may bytes said all few is h = absurd is
node_found version.One dates vectors (row.Leaf u) may bytes said all few is h = absurd is
node_found (version.Packed w) dates vectors (row.Leaf weighing.WholeOrNone) may bytes said all few is h =
    row_node (version.Packed w) dates vectors (row.Leaf weighing.WholeOrNone) may bytes said all few is h
node_found (version.Packed w) dates vectors (row.Leaf weighing.Number) may bytes said all few is h =
    let found : FoundLeaf dates vectors may bytes said = leaf-found dates vectors may bytes said all few h in
    let P : Weighing → Type 0 = λ u. IsNodeLine (version.Packed u) dates vectors said in
    record { allowed = found.allowed; is = subst P is (tailed_node dates vectors said found.is); bytes_of = found.bytes_of }
node_found v dates vectors r may bytes said all few is h = absurd is

some_trees : (trees : ℕ) → nat_lt 0 trees ≡ true → 1 ≤ trees
some_trees trees h = grind (arith, h)

no_trees : (trees : ℕ) → nat_lt 0 trees ≡ false → trees ≡ 0
no_trees trees h = let low : trees ≤ 0 = grind (arith, h) in omega (arith, low)

end_found : (v : Version) (dates : ℕ) (vectors : List (List ℕ)) (trees : ℕ) (bytes : List ℕ) (said : Line) → All (IsVector dates) vectors → length vectors ≤ MOST_VECTORS →
    (b : Bool) → nat_lt 0 trees ≡ b → (if b then Err kind.Count else row_line dates vectors row.End true bytes) ≡ Ok said → IsFound v dates vectors (due.End trees) bytes said
end_found v dates vectors trees bytes said all few true e h = absurd (cc)
end_found v dates vectors trees bytes said all few false e h =
    let found : FoundLine dates vectors row.End true bytes said = row-line-found dates vectors row.End true bytes said all few h in
    record { fits = end_fits v dates vectors trees said (no_trees trees e) found.says; bytes_of = found.bytes_of }

pub line-found : (v : Version) (dates : ℕ) (vectors : List (List ℕ)) (d : Due) (bytes : List ℕ) (said : Line) → All (IsVector dates) vectors → length vectors ≤ MOST_VECTORS →
    line_said v dates vectors d bytes ≡ Ok said → IsFound v dates vectors d bytes said
line-found v dates vectors due.Title bytes said all few h = title_found v dates vectors bytes said _ refl h
line-found v dates vectors due.Portfolio bytes said all few h = portfolio_found v dates vectors bytes said all few _ refl h
line-found v dates vectors (due.Buy left least) bytes said all few h =
    let found : FoundLine dates vectors (row.Buy least) true bytes said = row-line-found dates vectors (row.Buy least) true bytes said all few h in
    record { fits = buy_fits v dates vectors left least said found.says; bytes_of = found.bytes_of }
line-found v dates vectors (due.Gap most) bytes said all few h =
    let found : FoundLine dates vectors (row.Gap most) true bytes said = row-line-found dates vectors (row.Gap most) true bytes said all few h in
    record { fits = gap_fits v dates vectors most said found.says; bytes_of = found.bytes_of }
line-found v dates vectors due.VectorCount bytes said all few h =
    let found : FoundLine dates vectors row.Vectors true bytes said = row-line-found dates vectors row.Vectors true bytes said all few h in
    record { fits = vectors_fits v dates vectors said found.says; bytes_of = found.bytes_of }
line-found v dates vectors (due.Vector left) bytes said all few h =
    let found : FoundLine dates vectors row.Vector true bytes said = row-line-found dates vectors row.Vector true bytes said all few h in
    record { fits = vector_fits v dates vectors left said found.says; bytes_of = found.bytes_of }
line-found v dates vectors due.Count bytes said all few h =
    let found : FoundLine dates vectors row.Nodes true bytes said = row-line-found dates vectors row.Nodes true bytes said all few h in
    record { fits = nodes_fits v dates vectors said found.says; bytes_of = found.bytes_of }
line-found v dates vectors (due.Node left trees) bytes said all few h =
    let found : FoundNode v dates vectors (nat_lt 0 trees) bytes said =
    node_found v dates vectors (node_row v bytes) (nat_lt 0 trees) bytes said all few
    (node_by v (begins_with (codes "s") bytes) (begins_with (codes "p") bytes) (begins_with (codes "t") bytes)) h in
    record { fits = (some_trees trees found.allowed, few, found.is); bytes_of = found.bytes_of }
line-found v dates vectors (due.End trees) bytes said all few h = end_found v dates vectors trees bytes said all few _ refl h
line-found v dates vectors due.Nothing bytes said all few h = absurd (cc)

-- ---- and the other way
pub record IsShown (v : Version) (dates : ℕ) (vectors : List (List ℕ)) (d : Due) (said : Line) : Type 0 where
  pub said_is : line_said v dates vectors d (body said) ≡ Ok said
  pub one : IsOneLine (body said)

-- there are few need dates, where a version says their places
abbrev pub IsFew : Version → ℕ → Type 0
IsFew version.One dates = Unit {0}
IsFew (version.Packed w) dates = dates ≤ MOST_DATES

few_row : (v : Version) (dates : ℕ) → IsFew v dates → IsShort dates (leaf_row v)
few_row version.One dates few = tt
few_row (version.Packed w) dates few = few

-- the row that a node's line begins
abbrev row_of_node : Version → Line → Row
row_of_node v (line.Split (part.Line number) at) = row.Split
row_of_node v (line.Split (part.Sum sum) at) = row.SumSplit
row_of_node v line.Point = row.Point
row_of_node v other = leaf_row v

-- a leaf of version 3 alone may have a tail
abbrev IsBare : Version → Line → Type 0
IsBare (version.Packed weighing.Number) (line.Closed how rho mu vector changes weights) = ⊥
IsBare v said = Unit {0}

bare_row : (v : Version) (dates : ℕ) (vectors : List (List ℕ)) (said : Line) (may : Bool) (bytes : List ℕ) → IsBare v said → IsNodeLine v dates vectors said →
    node_said dates vectors (row_of_node v said) may bytes ≡ row_line dates vectors (row_of_node v said) may bytes
bare_row v dates vectors (line.Split (part.Line number) at) may bytes bare is = refl
bare_row v dates vectors (line.Split (part.Sum sum) at) may bytes bare is = refl
bare_row v dates vectors line.Point may bytes bare is = refl
bare_row version.One dates vectors (line.Leaf leaf) may bytes bare is = refl
bare_row (version.Packed weighing.WholeOrNone) dates vectors (line.Closed how rho mu vector changes weights) may bytes bare is = refl
bare_row (version.Packed weighing.Number) dates vectors (line.Closed how rho mu vector changes weights) may bytes bare is = absurd bare
bare_row version.One dates vectors said may bytes bare is = absurd is
bare_row (version.Packed w) dates vectors said may bytes bare is = absurd is

row_says : (v : Version) (dates : ℕ) (vectors : List (List ℕ)) (said : Line) → length vectors ≤ MOST_VECTORS → IsBare v said → IsNodeLine v dates vectors said →
    RowSays dates vectors (row_of_node v said) said
row_says v dates vectors (line.Split (part.Line number) at) few bare is = (is.0, is.1)
row_says v dates vectors (line.Split (part.Sum sum) at) few bare is = (is.0, is.1)
row_says v dates vectors line.Point few bare is = tt
row_says version.One dates vectors (line.Leaf leaf) few bare is = is
row_says (version.Packed weighing.WholeOrNone) dates vectors (line.Closed how rho mu vector changes []) few bare is = (few, is)
row_says (version.Packed weighing.WholeOrNone) dates vectors (line.Closed how rho mu vector changes (own ∷ weights)) few bare is = absurd (let none = is.tail in cc)
row_says (version.Packed weighing.Number) dates vectors (line.Closed how rho mu vector changes weights) few bare is = absurd bare
row_says version.One dates vectors said few bare is = absurd is
row_says (version.Packed w) dates vectors said few bare is = absurd is

node_short : (v : Version) (dates : ℕ) (vectors : List (List ℕ)) (said : Line) → IsFew v dates → IsNodeLine v dates vectors said → IsShort dates (row_of_node v said)
node_short v dates vectors (line.Split (part.Line number) at) few is = tt
node_short version.One dates vectors (line.Split (part.Sum sum) at) few is = absurd is.2
node_short (version.Packed w) dates vectors (line.Split (part.Sum sum) at) few is = few
node_short v dates vectors line.Point few is = tt
node_short v dates vectors (line.Closed how rho mu vector changes weights) few is = few_row v dates few
node_short v dates vectors (line.Leaf leaf) few is = few_row v dates few
node_short v dates vectors (line.Title w) few is = few_row v dates few
node_short v dates vectors (line.Portfolio count) few is = few_row v dates few
node_short v dates vectors (line.Purchase buy) few is = few_row v dates few
node_short v dates vectors (line.Gap cents) few is = few_row v dates few
node_short v dates vectors (line.Vectors count) few is = few_row v dates few
node_short v dates vectors (line.Vector prices) few is = few_row v dates few
node_short v dates vectors (line.Nodes count) few is = few_row v dates few
node_short v dates vectors line.End few is = few_row v dates few

beginning : (r : Row) (numbers : List ℕ) → AreWritten numbers → first_word (row_word r ++ spaced_numbers numbers) ≡ row_word r
beginning r numbers small = ap (λ (ws : List (List ℕ)). slice_index_or ws 0 []) (row-words numbers (row_word r) (row-word r) small)

abbrev named : Version → List ℕ → Row
named v w =
    if pointwise nat_eq (codes "s") w then row.Split else if pointwise nat_eq (codes "p") w then row.Point
    else if has_sums v && pointwise nat_eq (codes "t") w then row.SumSplit else leaf_row v

node_named : (v : Version) (dates : ℕ) (vectors : List (List ℕ)) (said : Line) → IsNodeLine v dates vectors said → named v (row_word (row_of_node v said)) ≡ row_of_node v said
node_named v dates vectors (line.Split (part.Line number) at) is = refl
node_named version.One dates vectors (line.Split (part.Sum sum) at) is = absurd is.2
node_named (version.Packed weighing.WholeOrNone) dates vectors (line.Split (part.Sum sum) at) is = absurd is.2
node_named (version.Packed weighing.Number) dates vectors (line.Split (part.Sum sum) at) is = refl
node_named v dates vectors line.Point is = refl
node_named version.One dates vectors (line.Leaf leaf) is = refl
node_named (version.Packed weighing.WholeOrNone) dates vectors (line.Closed how rho mu vector changes weights) is = refl
node_named (version.Packed weighing.Number) dates vectors (line.Closed how rho mu vector changes weights) is = refl
node_named version.One dates vectors said is = absurd is
node_named (version.Packed w) dates vectors said is = absurd is

node_row_of : (v : Version) (dates : ℕ) (vectors : List (List ℕ)) (said : Line) → IsNodeLine v dates vectors said → ShowsLine dates vectors (row_of_node v said) said →
    node_row v (body said) ≡ row_of_node v said
node_row_of v dates vectors said is shows =
    ap (λ (bs : List ℕ). node_row v bs) shows.bytes
    ∙ ap (λ (w : List ℕ). named v w) (beginning (row_of_node v said) (numbers_of_line said) shows.small) ∙ node_named v dates vectors said is

no_none : (count : ℕ) → count ≤ GREATEST_GAP → (b : Bool) → pointwise nat_eq (codes "portfolio none") (codes "portfolio" ++ spaced_numbers (count ∷ [])) ≡ b → b ≡ false
no_none count h false e = refl
no_none count h true e =
    let same : codes "portfolio none" ≡ codes "portfolio" ++ spaced_numbers (count ∷ []) = (bytes_decides (codes "portfolio none") (codes "portfolio" ++ spaced_numbers (count ∷ []))).0 e in
    let written : codes "none" ≡ decimal count ++ [] = ap (λ (bs : List ℕ). drop 10 bs) same in
    let P : List ℕ → Type 0 = λ bs. All IsDigit bs in
    let digits : All IsDigit (decimal count ++ []) = subst P (sym (append-nil (decimal count))) (decimal-digits count h) in
    let first : IsDigit 110 = All-head IsDigit 110 (111 ∷ 110 ∷ 101 ∷ []) (subst P (sym written) digits) in
    absurd (omega (arith, first.1))

buys_written : (v : Version) (count : ℕ) → count ≤ most_buys v → count ≤ GREATEST_GAP
buys_written version.One count h = omega (arith, h)
buys_written (version.Packed w) count h = omega (arith, h)

row_shown : (v : Version) (dates : ℕ) (vectors : List (List ℕ)) (d : Due) (r : Row) (said : Line) → IsShort dates r → RowSays dates vectors r said →
    line_said v dates vectors d (body said) ≡ row_line dates vectors r true (body said) → IsShown v dates vectors d said
row_shown v dates vectors d r said short says same =
    let is : IsLineOf dates vectors r said = row-line-shows dates vectors r said short says in record { said_is = same ∙ is.said_is; one = is.one }

title_shown : (v : Version) (dates : ℕ) (vectors : List (List ℕ)) → IsShown v dates vectors due.Title (line.Title v)
title_shown version.One dates vectors = record { said_is = refl; one = line_by (title_word version.One) refl }
title_shown (version.Packed weighing.WholeOrNone) dates vectors = record { said_is = refl; one = line_by (title_word (version.Packed weighing.WholeOrNone)) refl }
title_shown (version.Packed weighing.Number) dates vectors = record { said_is = refl; one = line_by (title_word (version.Packed weighing.Number)) refl }

bare_shown : (v : Version) (dates left trees : ℕ) (vectors : List (List ℕ)) (said : Line) → IsBare v said → IsFew v dates → Fits v dates vectors (due.Node left trees) said →
    IsShown v dates vectors (due.Node left trees) said
bare_shown v dates left trees vectors said bare short fits =
    let r : Row = row_of_node v said in
    let says : RowSays dates vectors r said = row_says v dates vectors said fits.1 bare fits.2 in
    let is_short : IsShort dates r = node_short v dates vectors said short fits.2 in
    let found : node_row v (body said) ≡ r = node_row_of v dates vectors said fits.2 (row-shows-line dates vectors r said is_short says) in
    let may : nat_lt 0 trees ≡ true = grind (arith, fits.0) in
    row_shown v dates vectors (due.Node left trees) r said is_short says
    (ap (λ (s : Row). node_said dates vectors s (nat_lt 0 trees) (body said)) found ∙ ap (λ (b : Bool). node_said dates vectors r b (body said)) may
    ∙ bare_row v dates vectors said true (body said) bare fits.2)

tailed_shown : (dates left trees : ℕ) (vectors : List (List ℕ)) (said : Line) → dates ≤ MOST_DATES → 1 ≤ trees → length vectors ≤ MOST_VECTORS → IsTailedLeaf dates vectors said →
    IsShown (version.Packed weighing.Number) dates vectors (due.Node left trees) said
tailed_shown dates left trees vectors said short some few is =
    let leaf : IsLeafLine dates vectors said = leaf-shows dates vectors said short few is in
    let may : nat_lt 0 trees ≡ true = grind (arith, some) in
    record {
      said_is =
          ap (λ (w : List ℕ). node_said dates vectors (named (version.Packed weighing.Number) w) (nat_lt 0 trees) (body said)) leaf.first
          ∙ ap (λ (b : Bool). leaf_words dates vectors b (words_of (body said))) may ∙ leaf.said_is;
      one = leaf.one;
    }

node_shown : (v : Version) (dates left trees : ℕ) (vectors : List (List ℕ)) (said : Line) → IsFew v dates → Fits v dates vectors (due.Node left trees) said →
    IsShown v dates vectors (due.Node left trees) said
node_shown (version.Packed weighing.Number) dates left trees vectors (line.Closed how rho mu vector changes weights) short fits =
    tailed_shown dates left trees vectors (line.Closed how rho mu vector changes weights) short fits.0 fits.1 fits.2
node_shown v dates left trees vectors said short fits = bare_shown v dates left trees vectors said tt short fits

pub line-shows : (v : Version) (dates : ℕ) (vectors : List (List ℕ)) (d : Due) (said : Line) → IsFew v dates → Fits v dates vectors d said → IsShown v dates vectors d said
line-shows v dates vectors due.Title (line.Title w) short fits =
    let P : Version → Type 0 = λ u. IsShown v dates vectors due.Title (line.Title u) in subst P (sym fits) (title_shown v dates vectors)
line-shows v dates vectors due.Portfolio (line.Portfolio None) short fits = record { said_is = refl; one = line_by (codes "portfolio none") refl }
line-shows v dates vectors due.Portfolio (line.Portfolio (Some count)) short fits =
    let small : count ≤ GREATEST_GAP = buys_written v count fits in
    row_shown v dates vectors due.Portfolio (row.Portfolio (most_buys v)) (line.Portfolio (Some count)) tt (fits, small)
    (ap (λ (b : Bool). if b then Ok (line.Portfolio None) else row_line dates vectors (row.Portfolio (most_buys v)) true (body (line.Portfolio (Some count)))) (no_none count small _ refl))
line-shows v dates vectors (due.Buy left least) (line.Purchase buy) short fits = row_shown v dates vectors (due.Buy left least) (row.Buy least) (line.Purchase buy) tt fits refl
line-shows v dates vectors (due.Gap most) (line.Gap cents) short fits = row_shown v dates vectors (due.Gap most) (row.Gap most) (line.Gap cents) tt fits refl
line-shows v dates vectors due.VectorCount (line.Vectors count) short fits = row_shown v dates vectors due.VectorCount row.Vectors (line.Vectors count) tt fits refl
line-shows v dates vectors (due.Vector left) (line.Vector prices) short fits = row_shown v dates vectors (due.Vector left) row.Vector (line.Vector prices) tt fits refl
line-shows v dates vectors due.Count (line.Nodes count) short fits = row_shown v dates vectors due.Count row.Nodes (line.Nodes count) tt fits refl
line-shows v dates vectors (due.Node left trees) said short fits = node_shown v dates left trees vectors said short fits
line-shows v dates vectors (due.End trees) line.End short fits =
    let none : nat_lt 0 trees ≡ false = grind (arith, fits) in
    row_shown v dates vectors (due.End trees) row.End line.End tt tt (ap (λ (b : Bool). if b then Err kind.Count else row_line dates vectors row.End true (body line.End)) none)
line-shows v dates vectors d said short fits = absurd fits
