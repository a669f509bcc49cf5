-- What the rows of the table say, and the lines that say it.
use Rattle.std.proofs.Common.{◌≡◌, ◌∙◌, ℕ, ◌+◌, ◌-◌, ◌*◌, ◌%◌, ◌<◌, ◌≤◌, Bool, true, false, ◌==◌, ◌||◌, not, nat_lt, if◌then◌else◌, List, [], ◌∷◌, ◌++◌, length, All, refl, sym, subst, ap, arith, Option, Some, None, Result, Ok, Err, codes, take, drop}
use Rattle.std.proofs.lemmas.List.{append-nil, take_all}
use Rattle.std.proofs.lemmas.List.Elements.{All-cons, All-head, All-nil, All-tail}
use Rattle.proof_tree.specs.declared.prices.TheConstants.{PRICE_SCALE}
use Rattle.proof_tree.specs.Tree.{AreSumWeights, IsLeaf, IsSumWeight}
use Rattle.proof_tree.specs.declared.weights.SumWeight.{SumWeight}
use Rattle.proof_tree.specs.declared.tree.Leaf.{Leaf}
use Rattle.proof_tree.specs.declared.tree.Part.TheVariants as part
use Rattle.line_words.specs.declared.range.Range.{Range}
use Rattle.bound_certificate.specs.declared.certificate.Buy.{Buy}
use Rattle.bound_certificate.specs.declared.fault.FaultKind.{FaultKind}
use Rattle.bound_certificate.specs.declared.fault.FaultKind.TheVariants as kind
use Rattle.bound_certificate.specs.declared.packed.Change.{Change}
use Rattle.bound_certificate.specs.declared.line.Line.{Line}
use Rattle.bound_certificate.specs.declared.line.Line.TheVariants as line
use Rattle.bound_certificate.specs.declared.row.Row.{Row}
use Rattle.bound_certificate.specs.declared.row.Row.TheVariants as row
use Rattle.bound_certificate.specs.declared.weighing.Weighing.{Weighing}
use Rattle.bound_certificate.specs.declared.weighing.Weighing.TheVariants as weighing
use Rattle.bound_certificate.specs.declared.limits.TheConstants.{GREATEST_GAP, MOST_DATES, MOST_NODES, MOST_VECTORS}
use Rattle.proof_tree.specs.declared.tree.TheConstants.{GREATEST_UNITS}
use Rattle.bound_certificate.specs.Certificate.{IsBuy}
use Rattle.bound_certificate.specs.Grammar.{are_rising, changes_of, leaf_said, places_of, rises, row_line, said_by, said_or, title_word}
use Rattle.bound_certificate.specs.Packed.{IsChange, IsPackedLeaf, IsVector, changed, leaf_with, restates, vector_of}
use Rattle.bound_certificate.specs.Row.{AreRowNumbers, InRanges, price_range, row_fits, row_range, row_said, row_word, weight_range}
use Rattle.bound_certificate.specs.Text.{IsOneLine, change_numbers, line_text, spaced_numbers, split_number, split_word, tail_text}
use Rattle.bound_certificate.specs.Weights.{AreSayable, IsSayable, IsWholeOrNone, least_vector, most_weight, rho_number, rho_said}
use Rattle.line_words.specs.Words.{from_to, is_in}
use Rattle.bound_certificate.proofs.ChangeFacts.{IsVectorIn, change-count, changed-length, changed-range, changes-back, changes-in, changes-ranges, changes-written, few-changes, numbers-back, places-rising, rising-places, vector-length, vector-there}
use Rattle.bound_certificate.proofs.PriceFacts.{IsPrice, equal_by, falling-order, in_range, order-falling, prices-written, rho-sayable, rho-small, weight-found, weight_read, weight_within, weight_written, within}
use Rattle.bound_certificate.proofs.RowFacts.{AreWritten}
use Rattle.bound_certificate.proofs.TableFacts.{IsRowOf, row-found, row-one, row-shows}

-- the numbers of a line
abbrev pub numbers_of_line : Line → List ℕ
numbers_of_line (line.Portfolio (Some count)) = count ∷ []
numbers_of_line (line.Purchase buy) = buy.line ∷ buy.units ∷ []
numbers_of_line (line.Gap cents) = cents ∷ []
numbers_of_line (line.Vectors count) = count ∷ []
numbers_of_line (line.Vector prices) = prices
numbers_of_line (line.Nodes count) = count ∷ []
numbers_of_line (line.Split part at) = split_number part ∷ at ∷ []
numbers_of_line (line.Closed how rho mu vector changes weights) = rho_number how rho ∷ mu ∷ vector ∷ change_numbers changes
numbers_of_line (line.Leaf leaf) = rho_number weighing.WholeOrNone leaf.rho ∷ leaf.mu ∷ leaf.prices
numbers_of_line other = []

-- its bytes before the line feed
abbrev pub body : Line → List ℕ
body (line.Title v) = title_word v
body (line.Portfolio None) = codes "portfolio none"
body (line.Portfolio (Some count)) = codes "portfolio" ++ spaced_numbers (count ∷ [])
body (line.Purchase buy) = codes "buy" ++ spaced_numbers (buy.line ∷ buy.units ∷ [])
body (line.Gap cents) = codes "gap" ++ spaced_numbers (cents ∷ [])
body (line.Vectors count) = codes "vectors" ++ spaced_numbers (count ∷ [])
body (line.Vector prices) = codes "v" ++ spaced_numbers prices
body (line.Nodes count) = codes "nodes" ++ spaced_numbers (count ∷ [])
body (line.Split part at) = split_word part ++ spaced_numbers (split_number part ∷ at ∷ [])
body line.Point = codes "p" ++ spaced_numbers []
body (line.Closed how rho mu vector changes weights) = codes "l" ++ spaced_numbers (rho_number how rho ∷ mu ∷ vector ∷ change_numbers changes) ++ tail_text weights
body (line.Leaf leaf) = codes "l" ++ spaced_numbers (rho_number weighing.WholeOrNone leaf.rho ∷ leaf.mu ∷ leaf.prices)
body line.End = codes "end" ++ spaced_numbers []

pub body-text : (said : Line) → line_text said ≡ body said ++ 10 ∷ []
body-text (line.Title v) = refl
body-text (line.Portfolio None) = refl
body-text (line.Portfolio (Some count)) = refl
body-text (line.Purchase buy) = refl
body-text (line.Gap cents) = refl
body-text (line.Vectors count) = refl
body-text (line.Vector prices) = refl
body-text (line.Nodes count) = refl
body-text (line.Split part at) = refl
body-text line.Point = refl
body-text (line.Closed how rho mu vector changes weights) = refl
body-text (line.Leaf leaf) = refl
body-text line.End = refl

-- a leaf of a vector, whose weight is said so
pub record IsClosed (w : Weighing) (dates : ℕ) (vectors : List (List ℕ)) (how : Weighing) (rho mu vector : ℕ) (changes : List Change) (weights : List SumWeight) : Type 0 where
  pub said : how ≡ w
  pub leaf : IsPackedLeaf dates vectors rho mu vector changes weights
  pub weight : IsSayable w rho
  pub first : least_vector w ≤ vector
  pub tail : AreSayable w weights

-- a leaf at which the cost counts wholly or not at all and no sum is weighed
abbrev pub IsPlainLeaf : ℕ → Leaf → Type 0
IsPlainLeaf dates leaf = IsLeaf dates leaf × IsWholeOrNone leaf.rho × (leaf.weights ≡ [])

-- what a row may say: a tail is no part of a leaf's row
abbrev pub RowSays : ℕ → List (List ℕ) → Row → Line → Type 0
RowSays dates vectors (row.Portfolio most) (line.Portfolio (Some count)) = (count ≤ most) × (count ≤ GREATEST_GAP)
RowSays dates vectors (row.Buy least) (line.Purchase buy) = IsBuy buy × (least ≤ buy.line)
RowSays dates vectors (row.Gap most) (line.Gap cents) = (cents ≤ most) × (cents ≤ GREATEST_GAP)
RowSays dates vectors row.Vectors (line.Vectors count) = count ≤ MOST_VECTORS
RowSays dates vectors row.Vector (line.Vector prices) = IsVector dates prices
RowSays dates vectors row.Nodes (line.Nodes count) = (1 ≤ count) × (count ≤ MOST_NODES)
RowSays dates vectors row.Split (line.Split (part.Line number) at) = (number ≤ 65_535) × (at ≤ GREATEST_UNITS)
RowSays dates vectors row.SumSplit (line.Split (part.Sum sum) at) = (sum < dates) × (at ≤ GREATEST_UNITS)
RowSays dates vectors row.Point line.Point = Unit {0}
RowSays dates vectors (row.Leaf w) (line.Closed how rho mu vector changes []) = (length vectors ≤ MOST_VECTORS) × IsClosed w dates vectors how rho mu vector changes []
RowSays dates vectors row.Priced (line.Leaf leaf) = IsPlainLeaf dates leaf
RowSays dates vectors row.End line.End = Unit {0}
RowSays dates vectors r said = ⊥

-- a line without a fault is one that a row may say
pub record SaysLine (dates : ℕ) (vectors : List (List ℕ)) (r : Row) (numbers : List ℕ) (said : Line) : Type 0 where
  pub says : RowSays dates vectors r said
  pub bytes : row_word r ++ spaced_numbers numbers ≡ body said

ok_said : (x y : Line) → ◌≡◌ {A = Result Line FaultKind} (Ok x) (Ok y) → x ≡ y
ok_said x y h = cc

order_if : {X : Type 0} (b : Bool) (found : FaultKind) (x y : X) → (if b then Err found else Ok x) ≡ Ok y → (b ≡ false) × (x ≡ y)
order_if true found x y h = absurd (cc)
order_if false found x y h = (refl, cc)

rest_if : {X : Type 0} (b : Bool) (found : FaultKind) (rest : Result X FaultKind) (y : X) → (if b then Err found else rest) ≡ Ok y → (b ≡ false) × (rest ≡ Ok y)
rest_if true found rest y h = absurd (cc)
rest_if false found rest y h = (refl, h)

neither_order : (a b : Bool) → (not a || b) ≡ false → (a ≡ true) × (b ≡ false)
neither_order true b h = (refl, h)
neither_order false b h = absurd (cc)

same_line : (dates : ℕ) (vectors : List (List ℕ)) (r : Row) (numbers : List ℕ) (one other : Line) → one ≡ other → SaysLine dates vectors r numbers one →
    SaysLine dates vectors r numbers other
same_line dates vectors r numbers one other same says = let P : Line → Type 0 = λ l. SaysLine dates vectors r numbers l in subst P same says

portfolio_says : (dates : ℕ) (vectors : List (List ℕ)) (most : ℕ) (numbers : List ℕ) (said : Line) → length numbers ≡ 1 → InRanges (row_range dates (length vectors) (row.Portfolio most)) 1 numbers →
    AreWritten numbers → said_by dates vectors (row.Portfolio most) numbers ≡ Ok said → SaysLine dates vectors (row.Portfolio most) numbers said
portfolio_says dates vectors most [] said wide inside small h = absurd (omega arith)
portfolio_says dates vectors most (count ∷ []) said wide inside small h =
    same_line dates vectors (row.Portfolio most) (count ∷ []) (line.Portfolio (Some count)) said (ok_said _ _ h) (record { says = ((in_range 0 most count inside.0).1, small.0); bytes = refl })
portfolio_says dates vectors most (count ∷ more ∷ numbers) said wide inside small h = absurd (omega arith)

buy_says : (dates : ℕ) (vectors : List (List ℕ)) (least : ℕ) (numbers : List ℕ) (said : Line) → length numbers ≡ 2 → InRanges (row_range dates (length vectors) (row.Buy least)) 1 numbers →
    said_by dates vectors (row.Buy least) numbers ≡ Ok said → SaysLine dates vectors (row.Buy least) numbers said
buy_says dates vectors least [] said wide inside h = absurd (omega arith)
buy_says dates vectors least (number ∷ []) said wide inside h = absurd (omega arith)
buy_says dates vectors least (number ∷ units ∷ []) said wide inside h =
    let buy : Buy = record { line = number; units = units } in
    let both : (nat_lt number least ≡ false) × (line.Purchase buy ≡ said) = order_if (nat_lt number least) kind.Order (line.Purchase buy) said h in
    let first : (0 ≤ number) × (number ≤ 65_535) = in_range 0 65_535 number inside.0 in
    let second : (1 ≤ units) × (units ≤ GREATEST_UNITS) = in_range 1 GREATEST_UNITS units inside.1.0 in
    same_line dates vectors (row.Buy least) (number ∷ units ∷ []) (line.Purchase buy) said both.1
    (record { says = ((first.1, second.0, second.1), grind (arith, both.0)); bytes = refl })
buy_says dates vectors least (number ∷ units ∷ more ∷ numbers) said wide inside h = absurd (omega arith)

gap_says : (dates : ℕ) (vectors : List (List ℕ)) (most : ℕ) (numbers : List ℕ) (said : Line) → length numbers ≡ 1 → InRanges (row_range dates (length vectors) (row.Gap most)) 1 numbers →
    AreWritten numbers → said_by dates vectors (row.Gap most) numbers ≡ Ok said → SaysLine dates vectors (row.Gap most) numbers said
gap_says dates vectors most [] said wide inside small h = absurd (omega arith)
gap_says dates vectors most (cents ∷ []) said wide inside small h =
    same_line dates vectors (row.Gap most) (cents ∷ []) (line.Gap cents) said (ok_said _ _ h) (record { says = ((in_range 0 most cents inside.0).1, small.0); bytes = refl })
gap_says dates vectors most (cents ∷ more ∷ numbers) said wide inside small h = absurd (omega arith)

vectors_says : (dates : ℕ) (vectors : List (List ℕ)) (numbers : List ℕ) (said : Line) → length numbers ≡ 1 → InRanges (row_range dates (length vectors) row.Vectors) 1 numbers →
    said_by dates vectors row.Vectors numbers ≡ Ok said → SaysLine dates vectors row.Vectors numbers said
vectors_says dates vectors [] said wide inside h = absurd (omega arith)
vectors_says dates vectors (count ∷ []) said wide inside h =
    same_line dates vectors row.Vectors (count ∷ []) (line.Vectors count) said (ok_said _ _ h) (record { says = (in_range 0 MOST_VECTORS count inside.0).1; bytes = refl })
vectors_says dates vectors (count ∷ more ∷ numbers) said wide inside h = absurd (omega arith)

-- from the third place on a leaf has prices
price_place : (place : ℕ) → 3 ≤ place → weight_range place ≡ price_range
price_place place h =
    let first : (place == 1) ≡ false = grind (arith, h) in
    let second : (place == 2) ≡ false = grind (arith, h) in
    ap (λ (b : Bool). if b then from_to 0 1 else if place == 2 then from_to 0 PRICE_SCALE else price_range) first
    ∙ ap (λ (b : Bool). if b then from_to 0 PRICE_SCALE else price_range) second

prices_found : (dates vectors place : ℕ) (prices : List ℕ) → InRanges (row_range dates vectors row.Vector) place prices → All IsPrice prices
prices_found dates vectors place [] inside = λ i d h. absurd (omega (arith, h))
prices_found dates vectors place (price ∷ prices) inside =
    All-cons IsPrice price prices (in_range 0 (2 * PRICE_SCALE) price inside.0).1 (prices_found dates vectors (place + 1) prices inside.1)

vector_says : (dates : ℕ) (vectors : List (List ℕ)) (prices : List ℕ) (said : Line) → length prices ≡ dates → InRanges (row_range dates (length vectors) row.Vector) 1 prices →
    said_by dates vectors row.Vector prices ≡ Ok said → SaysLine dates vectors row.Vector prices said
vector_says dates vectors prices said wide inside h =
    let both : (rises prices ≡ false) × (line.Vector prices ≡ said) = order_if (rises prices) kind.Order (line.Vector prices) said h in
    same_line dates vectors row.Vector prices (line.Vector prices) said both.1
    (record { says = record { every_date = wide; range = prices_found dates (length vectors) 1 prices inside; falling = order-falling prices both.0 }; bytes = refl })

nodes_says : (dates : ℕ) (vectors : List (List ℕ)) (numbers : List ℕ) (said : Line) → length numbers ≡ 1 → InRanges (row_range dates (length vectors) row.Nodes) 1 numbers →
    said_by dates vectors row.Nodes numbers ≡ Ok said → SaysLine dates vectors row.Nodes numbers said
nodes_says dates vectors [] said wide inside h = absurd (omega arith)
nodes_says dates vectors (count ∷ []) said wide inside h =
    same_line dates vectors row.Nodes (count ∷ []) (line.Nodes count) said (ok_said _ _ h) (record { says = in_range 1 MOST_NODES count inside.0; bytes = refl })
nodes_says dates vectors (count ∷ more ∷ numbers) said wide inside h = absurd (omega arith)

split_says : (dates : ℕ) (vectors : List (List ℕ)) (numbers : List ℕ) (said : Line) → length numbers ≡ 2 → InRanges (row_range dates (length vectors) row.Split) 1 numbers →
    said_by dates vectors row.Split numbers ≡ Ok said → SaysLine dates vectors row.Split numbers said
split_says dates vectors [] said wide inside h = absurd (omega arith)
split_says dates vectors (number ∷ []) said wide inside h = absurd (omega arith)
split_says dates vectors (number ∷ at ∷ []) said wide inside h =
    same_line dates vectors row.Split (number ∷ at ∷ []) (line.Split (part.Line number) at) said (ok_said _ _ h)
    (record { says = ((in_range 0 65_535 number inside.0).1, (in_range 0 GREATEST_UNITS at inside.1.0).1); bytes = refl })
split_says dates vectors (number ∷ at ∷ more ∷ numbers) said wide inside h = absurd (omega arith)

sum_says : (dates : ℕ) (vectors : List (List ℕ)) (numbers : List ℕ) (said : Line) → length numbers ≡ 2 → InRanges (row_range dates (length vectors) row.SumSplit) 1 numbers →
    said_by dates vectors row.SumSplit numbers ≡ Ok said → SaysLine dates vectors row.SumSplit numbers said
sum_says dates vectors [] said wide inside h = absurd (omega arith)
sum_says dates vectors (date ∷ []) said wide inside h = absurd (omega arith)
sum_says dates vectors (date ∷ at ∷ []) said wide inside h =
    let first : (1 ≤ date) × (date ≤ dates) = in_range 1 dates date inside.0 in
    let back : date - 1 + 1 ≡ date = omega (arith, first.0) in
    same_line dates vectors row.SumSplit (date ∷ at ∷ []) (line.Split (part.Sum (date - 1)) at) said (ok_said _ _ h)
    (record {
      says = (omega (arith, first.0, first.1), (in_range 0 GREATEST_UNITS at inside.1.0).1);
      bytes = ap (λ (k : ℕ). codes "t" ++ spaced_numbers (k ∷ at ∷ [])) (sym back);
    })
sum_says dates vectors (date ∷ at ∷ more ∷ numbers) said wide inside h = absurd (omega arith)

point_says : (dates : ℕ) (vectors : List (List ℕ)) (numbers : List ℕ) (said : Line) → length numbers ≡ 0 → said_by dates vectors row.Point numbers ≡ Ok said →
    SaysLine dates vectors row.Point numbers said
point_says dates vectors [] said wide h = same_line dates vectors row.Point [] line.Point said (ok_said _ _ h) (record { says = tt; bytes = refl })
point_says dates vectors (more ∷ numbers) said wide h = absurd (omega arith)

end_says : (dates : ℕ) (vectors : List (List ℕ)) (numbers : List ℕ) (said : Line) → length numbers ≡ 0 → said_by dates vectors row.End numbers ≡ Ok said →
    SaysLine dates vectors row.End numbers said
end_says dates vectors [] said wide h = same_line dates vectors row.End [] line.End said (ok_said _ _ h) (record { says = tt; bytes = refl })
end_says dates vectors (more ∷ numbers) said wide h = absurd (omega arith)

-- no weights of sums
pub no-weights : (dates : ℕ) → AreSumWeights dates []
no-weights dates = record { few = omega arith; each = All-nil (IsSumWeight dates); rising = λ i j d before inside. absurd (omega (arith, inside)) }

no_sayable : (w : Weighing) → AreSayable w []
no_sayable weighing.WholeOrNone = refl
no_sayable weighing.Number = tt

-- a leaf
is_leaf_with : (dates rho mu number : ℕ) (vectors : List (List ℕ)) (changes : List Change) → IsVectorIn dates (vector_of vectors number) → rho ≤ PRICE_SCALE → mu ≤ PRICE_SCALE →
    All (IsChange dates) changes → rises (changed dates (vector_of vectors number) changes) ≡ false → IsLeaf dates (leaf_with dates vectors rho mu number changes [])
is_leaf_with dates rho mu number vectors changes vector small limit all order = record {
  cost = small;
  limit = limit;
  every_date = changed-length dates changes (vector_of vectors number) (vector-length dates (vector_of vectors number) vector);
  range = changed-range dates changes (vector_of vectors number) all vector;
  falling = order-falling (changed dates (vector_of vectors number) changes) order;
  weights = no-weights dates;
}

leaf_says : (how : Weighing) (dates : ℕ) (vectors : List (List ℕ)) (numbers : List ℕ) (said : Line) → All (IsVector dates) vectors → length vectors ≤ MOST_VECTORS →
    (3 ≤ length numbers) × (length numbers % 2 ≡ 1) → InRanges (row_range dates (length vectors) (row.Leaf how)) 1 numbers →
    said_by dates vectors (row.Leaf how) numbers ≡ Ok said → SaysLine dates vectors (row.Leaf how) numbers said
leaf_says how dates vectors [] said all few wide inside h = absurd (omega (arith, wide.0))
leaf_says how dates vectors (rho ∷ []) said all few wide inside h = absurd (omega (arith, wide.0))
leaf_says how dates vectors (rho ∷ mu ∷ []) said all few wide inside h = absurd (omega (arith, wide.0))
leaf_says how dates vectors (rho ∷ mu ∷ number ∷ numbers) said all few wide inside h =
    let changes : List Change = changes_of numbers in
    let vector : Option (List ℕ) = vector_of vectors number in
    let leaf : Line = line.Closed how (rho_said how rho) mu number changes [] in
    let first : (restates vector changes ≡ false)
    × ((if not (are_rising (places_of changes)) || rises (changed dates vector changes) then Err kind.Order else Ok leaf) ≡ Ok said) = rest_if _ kind.Number _ said h in
    let second : ((not (are_rising (places_of changes)) || rises (changed dates vector changes)) ≡ false) × (leaf ≡ said) = order_if _ kind.Order leaf said first.1 in
    let order : (are_rising (places_of changes) ≡ true) × (rises (changed dates vector changes) ≡ false) = neither_order _ _ second.0 in
    let one : (0 ≤ rho) × (rho ≤ most_weight how) = in_range 0 (most_weight how) rho inside.0 in
    let two : (0 ≤ mu) × (mu ≤ PRICE_SCALE) = in_range 0 PRICE_SCALE mu inside.1.0 in
    let three : (least_vector how ≤ number) × (number ≤ length vectors) = in_range (least_vector how) (length vectors) number inside.1.1.0 in
    let all_changes : All (IsChange dates) changes = changes-in how dates (length vectors) numbers 4 (omega arith) refl inside.1.1.1 in
    let there : IsVectorIn dates vector = vector-there dates number vectors all three.1 in
    let even : length numbers % 2 ≡ 0 = omega (arith, wide.1) in
    same_line dates vectors (row.Leaf how) (rho ∷ mu ∷ number ∷ numbers) leaf said second.1 (record {
      says = (
        few,
        record {
          said = refl;
          leaf = record {
            last = three.1;
            changes_are = record { all = all_changes; rising = rising-places changes order.0; other = first.0 };
            leaf = is_leaf_with dates (rho_said how rho) mu number vectors changes there (rho-small how rho one.1) two.1 all_changes order.1;
          };
          weight = rho-sayable how rho;
          first = three.0;
          tail = no_sayable how;
        },
      );
      bytes =
          ap (λ (k : ℕ). codes "l" ++ spaced_numbers (k ∷ mu ∷ number ∷ numbers)) (sym (weight-found how rho one.1))
          ∙ ap (λ (ns : List ℕ). codes "l" ++ spaced_numbers (rho_number how (rho_said how rho) ∷ mu ∷ number ∷ ns)) (sym (numbers-back numbers even))
          ∙ sym (append-nil (codes "l" ++ spaced_numbers (rho_number how (rho_said how rho) ∷ mu ∷ number ∷ change_numbers changes)));
    })

weights_found : (place : ℕ) (prices : List ℕ) → 3 ≤ place → InRanges weight_range place prices → All IsPrice prices
weights_found place [] h inside = λ i d k. absurd (omega (arith, k))
weights_found place (price ∷ prices) h inside =
    let here : is_in price_range price ≡ true = ap (λ (r : Range). is_in r price) (sym (price_place place h)) ∙ inside.0 in
    All-cons IsPrice price prices (in_range 0 (2 * PRICE_SCALE) price here).1 (weights_found (place + 1) prices (omega arith) inside.1)

priced_says : (dates : ℕ) (vectors : List (List ℕ)) (numbers : List ℕ) (said : Line) → length numbers ≡ 2 + dates → InRanges (row_range dates (length vectors) row.Priced) 1 numbers →
    said_by dates vectors row.Priced numbers ≡ Ok said → SaysLine dates vectors row.Priced numbers said
priced_says dates vectors [] said wide inside h = absurd (omega (arith, wide))
priced_says dates vectors (rho ∷ []) said wide inside h = absurd (omega (arith, wide))
priced_says dates vectors (rho ∷ mu ∷ prices) said wide inside h =
    let leaf : Leaf = record { rho = rho_said weighing.WholeOrNone rho; mu = mu; prices = prices; weights = [] } in
    let both : (rises prices ≡ false) × (line.Leaf leaf ≡ said) = order_if (rises prices) kind.Order (line.Leaf leaf) said h in
    let one : (0 ≤ rho) × (rho ≤ 1) = in_range 0 1 rho inside.0 in
    same_line dates vectors row.Priced (rho ∷ mu ∷ prices) (line.Leaf leaf) said both.1 (record {
      says = (
        record {
          cost = rho-small weighing.WholeOrNone rho one.1;
          limit = (in_range 0 PRICE_SCALE mu inside.1.0).1;
          every_date = omega (arith, wide);
          range = weights_found 3 prices (omega arith) inside.1.1;
          falling = order-falling prices both.0;
          weights = no-weights dates;
        },
        rho-sayable weighing.WholeOrNone rho,
        refl,
      );
      bytes = ap (λ (k : ℕ). codes "l" ++ spaced_numbers (k ∷ mu ∷ prices)) (sym (weight-found weighing.WholeOrNone rho one.1));
    })

-- the prices of a vector's line, and those of a leaf with all its prices
pub vector-range : (dates vectors : ℕ) (prices : List ℕ) → AreRowNumbers dates vectors row.Vector prices → All IsPrice prices
vector-range dates vectors prices are = prices_found dates vectors 1 prices are.ranges

pub priced-range : (dates vectors : ℕ) (numbers : List ℕ) → AreRowNumbers dates vectors row.Priced numbers → All IsPrice (take (length numbers - 2) (drop 2 numbers))
priced-range dates vectors [] are = absurd (omega (arith, equal_by _ _ are.fits))
priced-range dates vectors (rho ∷ []) are = absurd (omega (arith, equal_by _ _ are.fits))
priced-range dates vectors (rho ∷ mu ∷ prices) are =
    let whole : take (length (rho ∷ mu ∷ prices) - 2) prices ≡ prices = take_all (length (rho ∷ mu ∷ prices) - 2) prices (omega arith) in
    let P : List ℕ → Type 0 = λ ps. All IsPrice ps in
    subst P (sym whole) (weights_found 3 prices (omega arith) are.ranges.1.1)

leaf_wide : (how : Weighing) (dates count : ℕ) → row_fits dates (row.Leaf how) count ≡ true → (3 ≤ count) × (count % 2 ≡ 1)
leaf_wide how dates count h = (grind (arith, h), grind (arith, h))

pub says-line : (dates : ℕ) (vectors : List (List ℕ)) (r : Row) (numbers : List ℕ) (said : Line) → All (IsVector dates) vectors → length vectors ≤ MOST_VECTORS →
    row_fits dates r (length numbers) ≡ true → InRanges (row_range dates (length vectors) r) 1 numbers → AreWritten numbers → said_by dates vectors r numbers ≡ Ok said →
    SaysLine dates vectors r numbers said
says-line dates vectors (row.Portfolio most) numbers said all few fits inside small h = portfolio_says dates vectors most numbers said (equal_by _ _ fits) inside small h
says-line dates vectors (row.Buy least) numbers said all few fits inside small h = buy_says dates vectors least numbers said (equal_by _ _ fits) inside h
says-line dates vectors (row.Gap most) numbers said all few fits inside small h = gap_says dates vectors most numbers said (equal_by _ _ fits) inside small h
says-line dates vectors row.Vectors numbers said all few fits inside small h = vectors_says dates vectors numbers said (equal_by _ _ fits) inside h
says-line dates vectors row.Vector numbers said all few fits inside small h = vector_says dates vectors numbers said (equal_by _ _ fits) inside h
says-line dates vectors row.Nodes numbers said all few fits inside small h = nodes_says dates vectors numbers said (equal_by _ _ fits) inside h
says-line dates vectors row.Split numbers said all few fits inside small h = split_says dates vectors numbers said (equal_by _ _ fits) inside h
says-line dates vectors row.SumSplit numbers said all few fits inside small h = sum_says dates vectors numbers said (equal_by _ _ fits) inside h
says-line dates vectors row.Point numbers said all few fits inside small h = point_says dates vectors numbers said (equal_by _ _ fits) h
says-line dates vectors (row.Leaf how) numbers said all few fits inside small h = leaf_says how dates vectors numbers said all few (leaf_wide how dates (length numbers) fits) inside h
says-line dates vectors row.Priced numbers said all few fits inside small h = priced_says dates vectors numbers said (equal_by _ _ fits) inside h
says-line dates vectors row.Tail numbers said all few fits inside small h = absurd (cc)
says-line dates vectors row.End numbers said all few fits inside small h = end_says dates vectors numbers said (equal_by _ _ fits) h

-- a line that a row may say, by its bytes
pub record FoundLine (dates : ℕ) (vectors : List (List ℕ)) (r : Row) (may : Bool) (bytes : List ℕ) (said : Line) : Type 0 where
  pub allowed : may ≡ true
  pub says : RowSays dates vectors r said
  pub bytes_of : bytes ≡ body said

found_or : (dates : ℕ) (vectors : List (List ℕ)) (r : Row) (may : Bool) (bytes : List ℕ) (said : Line) → All (IsVector dates) vectors → length vectors ≤ MOST_VECTORS →
    (o : Result (List ℕ) FaultKind) → row_said dates (length vectors) r may bytes ≡ o → said_or dates vectors r o ≡ Ok said → FoundLine dates vectors r may bytes said
found_or dates vectors r may bytes said all few (Err found) e h = absurd (cc)
found_or dates vectors r may bytes said all few (Ok numbers) e h =
    let is : IsRowOf dates (length vectors) r may bytes numbers = row-found dates (length vectors) r may bytes numbers e in
    let says : SaysLine dates vectors r numbers said = says-line dates vectors r numbers said all few is.fits is.ranges is.small h in
    record { allowed = is.stands; says = says.says; bytes_of = is.text ∙ says.bytes }

pub row-line-found : (dates : ℕ) (vectors : List (List ℕ)) (r : Row) (may : Bool) (bytes : List ℕ) (said : Line) → All (IsVector dates) vectors → length vectors ≤ MOST_VECTORS →
    row_line dates vectors r may bytes ≡ Ok said → FoundLine dates vectors r may bytes said
row-line-found dates vectors r may bytes said all few h = found_or dates vectors r may bytes said all few (row_said dates (length vectors) r may bytes) refl h

-- ---- and the other way
pub record ShowsLine (dates : ℕ) (vectors : List (List ℕ)) (r : Row) (said : Line) : Type 0 where
  pub small : AreWritten (numbers_of_line said)
  pub ranges : InRanges (row_range dates (length vectors) r) 1 (numbers_of_line said)
  pub fits : row_fits dates r (length (numbers_of_line said)) ≡ true
  pub said_is : said_by dates vectors r (numbers_of_line said) ≡ Ok said
  pub bytes : body said ≡ row_word r ++ spaced_numbers (numbers_of_line said)

same_count : (m n : ℕ) → m ≡ n → (m == n) ≡ true
same_count m n h = grind (arith, h)

prices_read : (dates vectors place : ℕ) (prices : List ℕ) → All IsPrice prices → InRanges (row_range dates vectors row.Vector) place prices
prices_read dates vectors place [] all = tt
prices_read dates vectors place (price ∷ prices) all =
    (within 0 (2 * PRICE_SCALE) price (omega arith) (All-head IsPrice price prices all), prices_read dates vectors (place + 1) prices (All-tail IsPrice price prices all))

leaf_fits : (how : Weighing) (dates count : ℕ) → count ≤ dates → row_fits dates (row.Leaf how) (3 + 2 * count) ≡ true
leaf_fits how dates count h =
    let low : 3 ≤ 3 + 2 * count = omega arith in
    let high : 3 + 2 * count ≤ 3 + 2 * dates = omega arith in
    let odd : (3 + 2 * count) % 2 ≡ 1 = omega arith in
    grind (arith, low, high, odd)

order_read : (a b : Bool) → a ≡ true → b ≡ false → (not a || b) ≡ false
order_read true b h k = k
order_read false b h k = absurd (cc)

own_shows : (how : Weighing) (dates : ℕ) (vectors : List (List ℕ)) (rho mu number : ℕ) (changes : List Change) → dates ≤ MOST_DATES → length vectors ≤ MOST_VECTORS →
    IsPackedLeaf dates vectors rho mu number changes [] → IsSayable how rho → least_vector how ≤ number → ShowsLine dates vectors (row.Leaf how) (line.Closed how rho mu number changes [])
own_shows how dates vectors rho mu number changes short few is counts first =
    let vector : Option (List ℕ) = vector_of vectors number in
    let said : Line = line.Closed how rho mu number changes [] in
    let all : All (IsChange dates) changes = is.changes_are.all in
    let count : length (numbers_of_line said) ≡ 3 + 2 * length changes = omega (arith, change-count changes) in
    let weight : ℕ = rho_number how rho in
    record {
      small = (weight_written how rho is.leaf.cost, (omega (arith, is.leaf.limit), (omega (arith, is.last, few), changes-written dates changes short all)));
      ranges = (
        weight_within how rho is.leaf.cost,
        (
          within 0 PRICE_SCALE mu (omega arith) is.leaf.limit,
          (within (least_vector how) (length vectors) number first is.last, changes-ranges how dates (length vectors) changes 4 (omega arith) refl all),
        ),
      );
      fits = ap (λ (k : ℕ). row_fits dates (row.Leaf how) k) count ∙ leaf_fits how dates (length changes) (few-changes dates changes all is.changes_are.rising);
      said_is =
          ap (λ (cs : List Change). leaf_said how dates vector weight mu number cs) (changes-back changes)
          ∙ ap (λ (b : Bool). if b then Err kind.Number else if not (are_rising (places_of changes)) || rises (changed dates vector changes) then Err kind.Order
          else Ok (line.Closed how (rho_said how weight) mu number changes [])) is.changes_are.other
          ∙ ap (λ (b : Bool). if b then Err kind.Order else Ok (line.Closed how (rho_said how weight) mu number changes []))
          (order_read _ _ (places-rising changes is.changes_are.rising) (falling-order (changed dates vector changes) is.leaf.falling))
          ∙ ap (λ (w : ℕ). Ok (line.Closed how w mu number changes [])) (weight_read how rho counts);
      bytes = append-nil (codes "l" ++ spaced_numbers (numbers_of_line said));
    }

leaf_shows : (w : Weighing) (dates : ℕ) (vectors : List (List ℕ)) (how : Weighing) (rho mu number : ℕ) (changes : List Change) → dates ≤ MOST_DATES → length vectors ≤ MOST_VECTORS →
    IsClosed w dates vectors how rho mu number changes [] → ShowsLine dates vectors (row.Leaf w) (line.Closed how rho mu number changes [])
leaf_shows w dates vectors how rho mu number changes short few closed =
    let P : Weighing → Type 0 = λ u. ShowsLine dates vectors (row.Leaf w) (line.Closed u rho mu number changes []) in
    subst P (sym closed.said) (own_shows w dates vectors rho mu number changes short few closed.leaf closed.weight closed.first)

-- the places of changes and of sums are written where there are few need dates
abbrev pub IsShort : ℕ → Row → Type 0
IsShort dates (row.Leaf how) = dates ≤ MOST_DATES
IsShort dates row.SumSplit = dates ≤ MOST_DATES
IsShort dates other = Unit {0}

weights_read : (place : ℕ) (prices : List ℕ) → 3 ≤ place → All IsPrice prices → InRanges weight_range place prices
weights_read place [] h all = tt
weights_read place (price ∷ prices) h all = (
  ap (λ (r : Range). is_in r price) (price_place place h) ∙ within 0 (2 * PRICE_SCALE) price (omega arith) (All-head IsPrice price prices all),
  weights_read (place + 1) prices (omega arith) (All-tail IsPrice price prices all),
)

priced_shows : (dates : ℕ) (vectors : List (List ℕ)) (leaf : Leaf) → IsPlainLeaf dates leaf → ShowsLine dates vectors row.Priced (line.Leaf leaf)
priced_shows dates vectors leaf is = record {
  small = (weight_written weighing.WholeOrNone leaf.rho is.0.cost, (omega (arith, is.0.limit), prices-written leaf.prices is.0.range));
  ranges = (weight_within weighing.WholeOrNone leaf.rho is.0.cost, (within 0 PRICE_SCALE leaf.mu (omega arith) is.0.limit, weights_read 3 leaf.prices (omega arith) is.0.range));
  fits = same_count (length (numbers_of_line (line.Leaf leaf))) (2 + dates) (omega (arith, is.0.every_date));
  said_is =
      ap (λ (b : Bool). if b then Err kind.Order else Ok (line.Leaf (record { rho = rho_said weighing.WholeOrNone (rho_number weighing.WholeOrNone leaf.rho); mu = leaf.mu; prices = leaf.prices; weights = [] }))) (falling-order leaf.prices is.0.falling)
      ∙ ap (λ (w : ℕ). Ok (line.Leaf (record { rho = w; mu = leaf.mu; prices = leaf.prices; weights = [] }))) (weight_read weighing.WholeOrNone leaf.rho is.1)
      ∙ ap (λ (ws : List SumWeight). Ok (line.Leaf (record { rho = leaf.rho; mu = leaf.mu; prices = leaf.prices; weights = ws }))) (sym is.2);
  bytes = refl;
}

not_below : (m n : ℕ) → n ≤ m → nat_lt m n ≡ false
not_below m n h = grind (arith, h)

pub row-shows-line : (dates : ℕ) (vectors : List (List ℕ)) (r : Row) (said : Line) → IsShort dates r → RowSays dates vectors r said → ShowsLine dates vectors r said
row-shows-line dates vectors (row.Portfolio most) (line.Portfolio (Some count)) short says = record {
  small = (says.1, tt);
  ranges = (within 0 most count (omega arith) says.0, tt);
  fits = refl;
  said_is = refl;
  bytes = refl;
}
row-shows-line dates vectors (row.Buy least) (line.Purchase buy) short says = record {
  small = (omega (arith, says.0.0), (omega (arith, says.0.2), tt));
  ranges = (within 0 65_535 buy.line (omega arith) says.0.0, (within 1 GREATEST_UNITS buy.units says.0.1 says.0.2, tt));
  fits = refl;
  said_is = ap (λ (b : Bool). if b then Err kind.Order else Ok (line.Purchase buy)) (not_below buy.line least says.1);
  bytes = refl;
}
row-shows-line dates vectors (row.Gap most) (line.Gap cents) short says = record {
  small = (says.1, tt);
  ranges = (within 0 most cents (omega arith) says.0, tt);
  fits = refl;
  said_is = refl;
  bytes = refl;
}
row-shows-line dates vectors row.Vectors (line.Vectors count) short says = record {
  small = (omega (arith, says), tt);
  ranges = (within 0 MOST_VECTORS count (omega arith) says, tt);
  fits = refl;
  said_is = refl;
  bytes = refl;
}
row-shows-line dates vectors row.Vector (line.Vector prices) short says =
    let is : IsVector dates prices = says in
    record {
      small = prices-written prices is.range;
      ranges = prices_read dates (length vectors) 1 prices is.range;
      fits = same_count (length prices) dates is.every_date;
      said_is = ap (λ (b : Bool). if b then Err kind.Order else Ok (line.Vector prices)) (falling-order prices is.falling);
      bytes = refl;
    }
row-shows-line dates vectors row.Nodes (line.Nodes count) short says = record {
  small = (omega (arith, says.1), tt);
  ranges = (within 1 MOST_NODES count says.0 says.1, tt);
  fits = refl;
  said_is = refl;
  bytes = refl;
}
row-shows-line dates vectors row.Split (line.Split (part.Line number) at) short says = record {
  small = (omega (arith, says.0), (omega (arith, says.1), tt));
  ranges = (within 0 65_535 number (omega arith) says.0, (within 0 GREATEST_UNITS at (omega arith) says.1, tt));
  fits = refl;
  said_is = refl;
  bytes = refl;
}
row-shows-line dates vectors row.SumSplit (line.Split (part.Sum sum) at) short says =
    let back : sum + 1 - 1 ≡ sum = omega arith in
    record {
      small = (omega (arith, says.0, short), (omega (arith, says.1), tt));
      ranges = (within 1 dates (sum + 1) (omega arith) (omega (arith, says.0)), (within 0 GREATEST_UNITS at (omega arith) says.1, tt));
      fits = refl;
      said_is = ap (λ (k : ℕ). Ok (line.Split (part.Sum k) at)) back;
      bytes = refl;
    }
row-shows-line dates vectors row.Point line.Point short says = record { small = tt; ranges = tt; fits = refl; said_is = refl; bytes = refl }
row-shows-line dates vectors (row.Leaf w) (line.Closed how rho mu vector changes []) short says = leaf_shows w dates vectors how rho mu vector changes short says.0 says.1
row-shows-line dates vectors row.Priced (line.Leaf leaf) short says = priced_shows dates vectors leaf says
row-shows-line dates vectors row.End line.End short says = record { small = tt; ranges = tt; fits = refl; said_is = refl; bytes = refl }
row-shows-line dates vectors r said short says = absurd says

pub record IsLineOf (dates : ℕ) (vectors : List (List ℕ)) (r : Row) (said : Line) : Type 0 where
  pub said_is : row_line dates vectors r true (body said) ≡ Ok said
  pub one : IsOneLine (body said)

pub row-line-shows : (dates : ℕ) (vectors : List (List ℕ)) (r : Row) (said : Line) → IsShort dates r → RowSays dates vectors r said → IsLineOf dates vectors r said
row-line-shows dates vectors r said short says =
    let shows : ShowsLine dates vectors r said = row-shows-line dates vectors r said short says in
    let P : List ℕ → Type 0 = λ bs. IsOneLine bs in
    record {
      said_is =
          ap (λ (bs : List ℕ). row_line dates vectors r true bs) shows.bytes
          ∙ ap (λ (o : Result (List ℕ) FaultKind). said_or dates vectors r o) (row-shows dates (length vectors) r (numbers_of_line said) shows.small shows.ranges shows.fits)
          ∙ shows.said_is;
      one = subst P (sym shows.bytes) (row-one r (numbers_of_line said) shows.small);
    }
