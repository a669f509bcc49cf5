-- A leaf's line of version 3 that is longer than any right one.
use Rattle.std.proofs.Common.{◌≡◌, ◌∙◌, ℕ, ◌-◌, ◌<◌, ◌≤◌, ◌⊎◌, inl, inr, Bool, true, false, ◌&&◌, ◌||◌, not, nat_eq, if◌then◌else◌, List, [], ◌∷◌, ◌++◌, length, refl, sym, ap, arith, subst, Option, Some, None, Result, Ok, Err, codes, decimal}
use lib.Pointwise.{pointwise, bytes_decides}
use Rattle.std.proofs.lemmas.Bool.{and_parts}
use Rattle.std.proofs.lemmas.List.{length-append, length-map}
use Rattle.proof_tree.specs.declared.weights.SumWeight.{SumWeight}
use Rattle.line_words.specs.declared.range.Range.{Range}
use Rattle.bound_certificate.specs.declared.fault.FaultKind.{FaultKind}
use Rattle.bound_certificate.specs.declared.fault.FaultKind.TheVariants as kind
use Rattle.bound_certificate.specs.declared.limits.TheConstants.{LINE_ROOM, MOST_DATES}
use Rattle.bound_certificate.specs.declared.line.Line.{Line}
use Rattle.bound_certificate.specs.declared.line.Line.TheVariants as line_of
use Rattle.bound_certificate.specs.declared.packed.Change.{Change}
use Rattle.bound_certificate.specs.declared.row.Row.{Row}
use Rattle.bound_certificate.specs.declared.row.Row.TheVariants as row
use Rattle.bound_certificate.specs.declared.seen.Seen.{Seen}
use Rattle.bound_certificate.specs.declared.weighing.Weighing.TheVariants as weighing
use Rattle.bound_certificate.specs.Grammar.{are_rising, begins_with, changes_of, front_words, is_tail, leaf_words, node_said, places_of, rises, row_line, said_by, said_or, sums_of, tail_said, tail_words, weights_of, weights_or, with_tail}
use Rattle.bound_certificate.specs.LongLine.{IsLongLine, tail_fits, words_fit}
use Rattle.bound_certificate.specs.Packed.{changed, restates, vector_of}
use Rattle.bound_certificate.specs.Row.{numbers_by, numbers_or, row_fits, row_range, row_word, row_words}
use Rattle.bound_certificate.specs.Weights.{rho_said}
use Rattle.line_words.specs.Words.{first_word, words_of}
use Rattle.bound_certificate.proofs.ChangeFacts.{leaf_three}
use Rattle.bound_certificate.proofs.LongFacts.{AreShort, both-hold, line-parted, long-begins, no-fit, no-may, other-count, others_of, row-count, row-header, row-number, short-by, short-line}
use Rattle.bound_certificate.proofs.ReadRowFacts.{few-numbers}
use Rattle.bound_certificate.proofs.TableFacts.{by-found}
use Rattle.bound_certificate.proofs.TailFacts.{front-tail}
use Rattle.bound_certificate.proofs.WeightFacts.{tail_three}

-- ---- a leaf of version 3
abbrev LEAF : Row
LEAF = row.Leaf weighing.Number

-- what stands in place of a line or of weights has no fault that is answered before another word's: no `Header`; and no `Count` either
abbrev IsLate : {X : Type 0} → Result X FaultKind → Type 0
IsLate (Err kind.Header) = ⊥
IsLate other = Unit {0}

abbrev IsLater : {X : Type 0} → Result X FaultKind → Type 0
IsLater (Err kind.Header) = ⊥
IsLater (Err kind.Count) = ⊥
IsLater other = Unit {0}

header_first : (tail : Result (List SumWeight) FaultKind) → with_tail (Err kind.Header) tail ≡ Err kind.Header
header_first (Ok weights) = refl
header_first (Err kind.Header) = refl
header_first (Err kind.Number) = refl
header_first (Err kind.Order) = refl
header_first (Err kind.Count) = refl
header_first (Err kind.Truncated) = refl
header_first (Err kind.Trailing) = refl

count_first : (tail : Result (List SumWeight) FaultKind) → IsLate tail → with_tail (Err kind.Count) tail ≡ Err kind.Count
count_first (Ok weights) late = refl
count_first (Err kind.Header) late = absurd late
count_first (Err kind.Number) late = refl
count_first (Err kind.Order) late = refl
count_first (Err kind.Count) late = refl
count_first (Err kind.Truncated) late = refl
count_first (Err kind.Trailing) late = refl

count_second : (front : Result Line FaultKind) → IsLate front → with_tail front (Err kind.Count) ≡ Err kind.Count
count_second (Ok said) late = refl
count_second (Err kind.Header) late = absurd late
count_second (Err kind.Number) late = refl
count_second (Err kind.Order) late = refl
count_second (Err kind.Count) late = refl
count_second (Err kind.Truncated) late = refl
count_second (Err kind.Trailing) late = refl

number_first : (tail : Result (List SumWeight) FaultKind) → IsLater tail → with_tail (Err kind.Number) tail ≡ Err kind.Number
number_first (Ok weights) late = refl
number_first (Err kind.Header) late = absurd late
number_first (Err kind.Number) late = refl
number_first (Err kind.Order) late = refl
number_first (Err kind.Count) late = absurd late
number_first (Err kind.Truncated) late = refl
number_first (Err kind.Trailing) late = refl

number_second : (front : Result Line FaultKind) → IsLater front → with_tail front (Err kind.Number) ≡ Err kind.Number
number_second (Ok said) late = refl
number_second (Err kind.Header) late = absurd late
number_second (Err kind.Number) late = refl
number_second (Err kind.Order) late = refl
number_second (Err kind.Count) late = absurd late
number_second (Err kind.Truncated) late = refl
number_second (Err kind.Trailing) late = refl

-- the tail
order_later : (b : Bool) (weights : List SumWeight) → IsLater (if b then Ok weights else Err kind.Order)
order_later true weights = tt
order_later false weights = tt

tail_later : (o : Option (List ℕ)) → IsLater (weights_or (numbers_or o))
tail_later None = tt
tail_later (Some numbers) = order_later (are_rising (sums_of (weights_of numbers))) (weights_of numbers)

weaker : {X : Type 0} (r : Result X FaultKind) → IsLater r → IsLate r
weaker (Ok said) later = tt
weaker (Err kind.Header) later = absurd later
weaker (Err kind.Number) later = tt
weaker (Err kind.Order) later = tt
weaker (Err kind.Count) later = absurd later
weaker (Err kind.Truncated) later = tt
weaker (Err kind.Trailing) later = tt

fit_late : (o : Option (List ℕ)) (fits : Bool) → IsLate (weights_or (if not fits then Err kind.Count else numbers_or o))
fit_late o false = tt
fit_late None true = tt
fit_late (Some numbers) true = weaker _ (order_later (are_rising (sums_of (weights_of numbers))) (weights_of numbers))

-- the words of a tail: none, or `t` and others
abbrev IsTailOf : ℕ → List (List ℕ) → Type 0
IsTailOf dates [] = Unit {0}
IsTailOf dates (word ∷ words) = (is_tail word ≡ true) × (tail_said dates (word ∷ words)
    ≡ weights_or (if not (row_fits dates row.Tail (length words)) then Err kind.Count else numbers_or (numbers_by (row_range dates 0 row.Tail) 1 words)))

named_tail : (dates : ℕ) (word : List ℕ) (words : List (List ℕ)) → is_tail word ≡ true → IsTailOf dates (word ∷ words)
named_tail dates word words named = (
  named,
  ap (λ (b : Bool). weights_or (if not b then Err kind.Header else if not (row_fits dates row.Tail (length words)) then Err kind.Count
      else numbers_or (numbers_by (row_range dates 0 row.Tail) 1 words))) named,
)

tail_by : (dates : ℕ) (word : List ℕ) (words : List (List ℕ)) (b : Bool) → is_tail word ≡ b → IsTailOf dates (tail_words words) → IsTailOf dates (if b then word ∷ words else tail_words words)
tail_by dates word words true e later = named_tail dates word words e
tail_by dates word words false e later = later

tail_is : (dates : ℕ) (words : List (List ℕ)) → IsTailOf dates (tail_words words)
tail_is dates [] = tt
tail_is dates (word ∷ words) = tail_by dates word words (is_tail word) refl (tail_is dates words)

late_tail : (dates : ℕ) (tail : List (List ℕ)) → IsTailOf dates tail → IsLate (tail_said dates tail)
late_tail dates [] is = tt
late_tail dates (word ∷ words) is =
    let P : Result (List SumWeight) FaultKind → Type 0 = λ r. IsLate r in
    subst P (sym is.1) (fit_late (numbers_by (row_range dates 0 row.Tail) 1 words) (row_fits dates row.Tail (length words)))

later_tail : (dates : ℕ) (tail : List (List ℕ)) → IsTailOf dates tail → tail_fits dates tail ≡ true → IsLater (tail_said dates tail)
later_tail dates [] is fits = tt
later_tail dates (word ∷ words) is fits =
    let P : Result (List SumWeight) FaultKind → Type 0 = λ r. IsLater r in
    let o : Option (List ℕ) = numbers_by (row_range dates 0 row.Tail) 1 words in
    subst P (sym (is.1 ∙ ap (λ (b : Bool). weights_or (if not b then Err kind.Count else numbers_or o)) fits)) (tail_later o)

unfit_tail : (dates : ℕ) (tail : List (List ℕ)) → IsTailOf dates tail → tail_fits dates tail ≡ false → tail_said dates tail ≡ Err kind.Count
unfit_tail dates [] is fits = absurd (cc)
unfit_tail dates (word ∷ words) is fits =
    is.1 ∙ ap (λ (b : Bool). weights_or (if not b then Err kind.Count else numbers_or (numbers_by (row_range dates 0 row.Tail) 1 words))) fits

-- the front
said_later : (b c : Bool) (leaf : Line) → IsLater (if b then Err kind.Number else if c then Err kind.Order else Ok leaf)
said_later true c leaf = tt
said_later false true leaf = tt
said_later false false leaf = tt

front_later : (dates : ℕ) (vectors : List (List ℕ)) (numbers : List ℕ) → 3 ≤ length numbers → IsLater (said_by dates vectors LEAF numbers)
front_later dates vectors [] some = absurd (omega (arith, some))
front_later dates vectors (rho ∷ []) some = absurd (omega (arith, some))
front_later dates vectors (rho ∷ mu ∷ []) some = absurd (omega (arith, some))
front_later dates vectors (rho ∷ mu ∷ number ∷ numbers) some =
    let prices : Option (List ℕ) = vector_of vectors number in
    let changes : List Change = changes_of numbers in
    said_later (restates prices changes) (not (are_rising (places_of changes)) || rises (changed dates prices changes)) (line_of.Closed weighing.Number (rho_said weighing.Number rho) mu number changes [])

front_late : (dates : ℕ) (vectors : List (List ℕ)) (numbers : List ℕ) → IsLate (said_by dates vectors LEAF numbers)
front_late dates vectors [] = tt
front_late dates vectors (rho ∷ []) = tt
front_late dates vectors (rho ∷ mu ∷ []) = tt
front_late dates vectors (rho ∷ mu ∷ number ∷ numbers) = weaker _ (front_later dates vectors (rho ∷ mu ∷ number ∷ numbers) (omega arith))

-- what the words of a leaf say behind `l`, before its tail
abbrev front_said : ℕ → List (List ℕ) → Bool → List (List ℕ) → Result Line FaultKind
front_said dates vectors fits front =
    said_or dates vectors LEAF (if not fits then Err kind.Count else numbers_or (numbers_by (row_range dates (length vectors) LEAF) 1 front))

late_by : (dates : ℕ) (vectors : List (List ℕ)) (o : Option (List ℕ)) → IsLate (said_or dates vectors LEAF (numbers_or o))
late_by dates vectors None = tt
late_by dates vectors (Some numbers) = front_late dates vectors numbers

late_front : (dates : ℕ) (vectors : List (List ℕ)) (fits : Bool) (front : List (List ℕ)) → IsLate (front_said dates vectors fits front)
late_front dates vectors false front = tt
late_front dates vectors true front = late_by dates vectors (numbers_by (row_range dates (length vectors) LEAF) 1 front)

-- ---- the words of a long line
others_header : (dates : ℕ) (vectors : List (List ℕ)) (may : Bool) (first : List ℕ) (others : List (List ℕ)) (b : Bool) → pointwise nat_eq (codes "l") first ≡ false →
    row_words dates (length vectors) LEAF may (if b then [] else first ∷ front_words others) ≡ Err kind.Header
others_header dates vectors may first others true h = refl
others_header dates vectors may first others false h =
    ap (λ (b : Bool). if not b then Err kind.Header else if not (may && row_fits dates LEAF (length (front_words others))) then Err kind.Count
    else numbers_or (numbers_by (row_range dates (length vectors) LEAF) 1 (front_words others))) h

leaf_header : (dates : ℕ) (vectors : List (List ℕ)) (may : Bool) (first : List ℕ) (others : List (List ℕ)) → pointwise nat_eq (codes "l") first ≡ false →
    leaf_words dates vectors may (first ∷ others) ≡ Err kind.Header
leaf_header dates vectors may first others h =
    ap (λ (o : Result (List ℕ) FaultKind). with_tail (said_or dates vectors LEAF o) (tail_said dates (tail_words (first ∷ others)))) (others_header dates vectors may first others (is_tail first) h)
    ∙ header_first (tail_said dates (tail_words (first ∷ others)))

-- behind the line's first word
abbrev behind : ℕ → List (List ℕ) → Bool → List (List ℕ) → Result Line FaultKind
behind dates vectors fits others = with_tail (front_said dates vectors fits (front_words others)) (tail_said dates (tail_words others))

leaf_named : (dates : ℕ) (vectors : List (List ℕ)) (may : Bool) (first : List ℕ) (others : List (List ℕ)) → codes "l" ≡ first →
    leaf_words dates vectors may (first ∷ others) ≡ behind dates vectors (may && row_fits dates LEAF (length (front_words others))) others
leaf_named dates vectors may first others named = ap (λ (w : List ℕ). leaf_words dates vectors may (w ∷ others)) (sym named)

leaf_count : (dates : ℕ) (vectors : List (List ℕ)) (others : List (List ℕ)) (b : Bool) → b ≡ false → behind dates vectors b others ≡ Err kind.Count
leaf_count dates vectors others b none =
    ap (λ (c : Bool). behind dates vectors c others) none ∙ count_first (tail_said dates (tail_words others)) (late_tail dates (tail_words others) (tail_is dates others))

leaf_unfit : (dates : ℕ) (vectors : List (List ℕ)) (may : Bool) (others : List (List ℕ)) (b : Bool) → row_fits dates LEAF (length (front_words others)) ≡ b →
    (b && tail_fits dates (tail_words others)) ≡ false → behind dates vectors (may && row_fits dates LEAF (length (front_words others))) others ≡ Err kind.Count
leaf_unfit dates vectors may others false e h = leaf_count dates vectors others (may && row_fits dates LEAF (length (front_words others))) (no-fit may _ e)
leaf_unfit dates vectors may others true e h =
    let fits : Bool = may && row_fits dates LEAF (length (front_words others)) in
    ap (λ (o : Result (List SumWeight) FaultKind). with_tail (front_said dates vectors fits (front_words others)) o) (unfit_tail dates (tail_words others) (tail_is dates others) h)
    ∙ count_second (front_said dates vectors fits (front_words others)) (late_front dates vectors fits (front_words others))

short_both : (one other : List (List ℕ)) → AreShort one → AreShort other → AreShort (one ++ other)
short_both [] other short also = also
short_both (word ∷ one) other short also = (short.0, short_both one other short.1 also)

tail_short : (word : List ℕ) → is_tail word ≡ true → length word ≤ 16
tail_short word h = omega (arith, ap length ((bytes_decides (codes "t") word).0 h))

-- so many short words are no long line
no_long : (line : List ℕ) (front tail : List (List ℕ)) → words_of line ≡ codes "l" ∷ (front ++ tail) → AreShort front → AreShort tail → length front ≤ 963 → length tail ≤ 193 →
    LINE_ROOM < length line → ⊥
no_long line front tail words short also few many long =
    absurd (omega (arith, long, few, many, length-append front tail, short-line line (codes "l") (front ++ tail) words (short_both front tail short also)))

found_count : (range : ℕ → Range) (place : ℕ) (words : List (List ℕ)) (numbers : List ℕ) → numbers_by range place words ≡ Some numbers → length words ≡ length numbers
found_count range place words numbers h = let are = by-found range place words numbers h in ap length are.texts ∙ length-map numbers decimal

number_tail : (dates : ℕ) (vectors : List (List ℕ)) (line : List ℕ) (front words : List (List ℕ)) (word : List ℕ) (numbers : List ℕ) (p : Option (List ℕ)) →
    words_of line ≡ codes "l" ∷ (front ++ word ∷ words) → LINE_ROOM < length line → dates ≤ MOST_DATES → row_fits dates LEAF (length front) ≡ true →
    numbers_by (row_range dates (length vectors) LEAF) 1 front ≡ Some numbers → row_fits dates row.Tail (length words) ≡ true → IsTailOf dates (word ∷ words) →
    numbers_by (row_range dates 0 row.Tail) 1 words ≡ p → with_tail (said_by dates vectors LEAF numbers) (tail_said dates (word ∷ words)) ≡ Err kind.Number
number_tail dates vectors line front words word numbers None whole long few fits found fit is e =
    let some : 3 ≤ length numbers = omega (arith, (leaf_three weighing.Number dates (length front) fits).0, found_count _ 1 front numbers found) in
    ap (λ (o : Result (List SumWeight) FaultKind). with_tail (said_by dates vectors LEAF numbers) o)
    (is.1 ∙ ap (λ (b : Bool). weights_or (if not b then Err kind.Count else numbers_or (numbers_by (row_range dates 0 row.Tail) 1 words))) fit ∙ ap (λ (o : Option (List ℕ)). weights_or (numbers_or o)) e)
    ∙ number_second (said_by dates vectors LEAF numbers) (front_later dates vectors numbers some)
number_tail dates vectors line front words word numbers (Some others) whole long few fits found fit is e =
    absurd (no_long line front (word ∷ words) whole (short-by _ 1 front numbers found) (tail_short word is.0, short-by _ 1 words others e)
    (omega (arith, few-numbers dates (length front) LEAF few fits)) (omega (arith, (tail_three dates (length words) fit).1)) long)

number_front : (dates : ℕ) (vectors : List (List ℕ)) (line : List ℕ) (front tail : List (List ℕ)) (o : Option (List ℕ)) → words_of line ≡ codes "l" ∷ (front ++ tail) →
    LINE_ROOM < length line → dates ≤ MOST_DATES → row_fits dates LEAF (length front) ≡ true → numbers_by (row_range dates (length vectors) LEAF) 1 front ≡ o →
    IsTailOf dates tail → tail_fits dates tail ≡ true → with_tail (said_or dates vectors LEAF (numbers_or o)) (tail_said dates tail) ≡ Err kind.Number
number_front dates vectors line front tail None whole long few fits e is fit = number_first (tail_said dates tail) (later_tail dates tail is fit)
number_front dates vectors line front [] (Some numbers) whole long few fits e is fit =
    absurd (no_long line front [] whole (short-by _ 1 front numbers e) tt (omega (arith, few-numbers dates (length front) LEAF few fits)) (omega arith) long)
number_front dates vectors line front (word ∷ words) (Some numbers) whole long few fits e is fit =
    number_tail dates vectors line front words word numbers _ whole long few fits e fit is refl

leaf_number : (dates : ℕ) (vectors : List (List ℕ)) (line : List ℕ) (others : List (List ℕ)) → words_of line ≡ codes "l" ∷ others → LINE_ROOM < length line → dates ≤ MOST_DATES →
    row_fits dates LEAF (length (front_words others)) ≡ true → tail_fits dates (tail_words others) ≡ true → behind dates vectors true others ≡ Err kind.Number
leaf_number dates vectors line others words long few fits fit =
    number_front dates vectors line (front_words others) (tail_words others) _ (words ∙ ap (λ (ws : List (List ℕ)). codes "l" ∷ ws) (sym (front-tail others))) long few fits refl
    (tail_is dates others) fit

-- ---- a line of any row
-- a row without a tail
record IsBare (r : Row) : Type 0 where
  fit : (dates : ℕ) (words : List (List ℕ)) → words_fit dates r words ≡ row_fits dates r (length words - 1)
  said : (dates : ℕ) (vectors : List (List ℕ)) (may : Bool) (bytes : List ℕ) → node_said dates vectors r may bytes ≡ row_line dates vectors r may bytes

kind_of : (r : Row) → IsBare r ⊎ (r ≡ LEAF)
kind_of (row.Portfolio most) = inl (record { fit = λ dates words. refl; said = λ dates vectors may bytes. refl })
kind_of (row.Buy least) = inl (record { fit = λ dates words. refl; said = λ dates vectors may bytes. refl })
kind_of (row.Gap most) = inl (record { fit = λ dates words. refl; said = λ dates vectors may bytes. refl })
kind_of row.Vectors = inl (record { fit = λ dates words. refl; said = λ dates vectors may bytes. refl })
kind_of row.Vector = inl (record { fit = λ dates words. refl; said = λ dates vectors may bytes. refl })
kind_of row.Nodes = inl (record { fit = λ dates words. refl; said = λ dates vectors may bytes. refl })
kind_of row.Split = inl (record { fit = λ dates words. refl; said = λ dates vectors may bytes. refl })
kind_of row.SumSplit = inl (record { fit = λ dates words. refl; said = λ dates vectors may bytes. refl })
kind_of row.Point = inl (record { fit = λ dates words. refl; said = λ dates vectors may bytes. refl })
kind_of row.Priced = inl (record { fit = λ dates words. refl; said = λ dates vectors may bytes. refl })
kind_of (row.Leaf weighing.WholeOrNone) = inl (record { fit = λ dates words. refl; said = λ dates vectors may bytes. refl })
kind_of (row.Leaf weighing.Number) = inr refl
kind_of row.Tail = inl (record { fit = λ dates words. refl; said = λ dates vectors may bytes. refl })
kind_of row.End = inl (record { fit = λ dates words. refl; said = λ dates vectors may bytes. refl })

-- a leaf's long line
record LongLeaf (line : List ℕ) (begun : Bool) : Type 0 where
  words : words_of line ≡ first_word line ∷ others_of line
  first : pointwise nat_eq (codes "l") (first_word line) ≡ begun
  long : LINE_ROOM < length line

long_leaf : (head line : List ℕ) (seen : Seen) (b : Bool) → IsLongLine head seen line → begins_with (codes "l") head ≡ b → LongLeaf line b
long_leaf head line seen b is begins = record { words = line-parted line; first = long-begins (codes "l") head line seen is (omega arith) ∙ begins; long = is.long }

leaf_said_of : (dates : ℕ) (vectors : List (List ℕ)) (may : Bool) (line : List ℕ) → LongLeaf line true →
    leaf_words dates vectors may (words_of line) ≡ behind dates vectors (may && row_fits dates LEAF (length (front_words (others_of line)))) (others_of line)
leaf_said_of dates vectors may line leaf =
    ap (λ (ws : List (List ℕ)). leaf_words dates vectors may ws) leaf.words
    ∙ leaf_named dates vectors may (first_word line) (others_of line) ((bytes_decides (codes "l") (first_word line)).0 leaf.first)

leaf_fits_of : (dates : ℕ) (line : List ℕ) → LongLeaf line true →
    words_fit dates LEAF (words_of line) ≡ (row_fits dates LEAF (length (front_words (others_of line))) && tail_fits dates (tail_words (others_of line)))
leaf_fits_of dates line leaf =
    let others : List (List ℕ) = others_of line in
    let same : length (codes "l" ∷ front_words others) - 1 ≡ length (front_words others) = omega arith in
    ap (λ (ws : List (List ℕ)). words_fit dates LEAF ws) leaf.words
    ∙ ap (λ (w : List ℕ). words_fit dates LEAF (w ∷ others)) (sym ((bytes_decides (codes "l") (first_word line)).0 leaf.first))
    ∙ ap (λ (k : ℕ). row_fits dates LEAF k && tail_fits dates (tail_words others)) same

by_kind : (dates : ℕ) (vectors : List (List ℕ)) (r : Row) (may : Bool) (line : List ℕ) (found : FaultKind) → IsBare r → row_line dates vectors r may line ≡ Err found →
    node_said dates vectors r may line ≡ Err found
by_kind dates vectors r may line found bare h = bare.said dates vectors may line ∙ h

header_by : (dates : ℕ) (vectors : List (List ℕ)) (r : Row) (may : Bool) (head line : List ℕ) (seen : Seen) → IsBare r ⊎ (r ≡ LEAF) → IsLongLine head seen line →
    begins_with (row_word r) head ≡ false → node_said dates vectors r may line ≡ Err kind.Header
header_by dates vectors r may head line seen (inl bare) is other = by_kind dates vectors r may line kind.Header bare (row-header dates vectors r may head line seen is other)
header_by dates vectors r may head line seen (inr same) is other =
    let P : Row → Type 0 = λ x. begins_with (row_word x) head ≡ false in
    let leaf : LongLeaf line false = long_leaf head line seen false is (subst P same other) in
    ap (λ (x : Row). node_said dates vectors x may line) same ∙ ap (λ (ws : List (List ℕ)). leaf_words dates vectors may ws) leaf.words
    ∙ leaf_header dates vectors may (first_word line) (others_of line) leaf.first

pub long-row-header : (dates : ℕ) (vectors : List (List ℕ)) (r : Row) (may : Bool) (head line : List ℕ) (seen : Seen) → IsLongLine head seen line →
    begins_with (row_word r) head ≡ false → node_said dates vectors r may line ≡ Err kind.Header
long-row-header dates vectors r may head line seen is other = header_by dates vectors r may head line seen (kind_of r) is other

closed_by : (dates : ℕ) (vectors : List (List ℕ)) (r : Row) (may : Bool) (head line : List ℕ) (seen : Seen) → IsBare r ⊎ (r ≡ LEAF) → IsLongLine head seen line →
    begins_with (row_word r) head ≡ true → may ≡ false → node_said dates vectors r may line ≡ Err kind.Count
closed_by dates vectors r may head line seen (inl bare) is begins closed =
    by_kind dates vectors r may line kind.Count bare (row-count dates vectors r may head line seen is begins (no-may may _ closed))
closed_by dates vectors r may head line seen (inr same) is begins closed =
    let P : Row → Type 0 = λ x. begins_with (row_word x) head ≡ true in
    let leaf : LongLeaf line true = long_leaf head line seen true is (subst P same begins) in
    ap (λ (x : Row). node_said dates vectors x may line) same ∙ leaf_said_of dates vectors may line leaf
    ∙ leaf_count dates vectors (others_of line) _ (no-may may _ closed)

pub long-row-closed : (dates : ℕ) (vectors : List (List ℕ)) (r : Row) (may : Bool) (head line : List ℕ) (seen : Seen) → IsLongLine head seen line →
    begins_with (row_word r) head ≡ true → may ≡ false → node_said dates vectors r may line ≡ Err kind.Count
long-row-closed dates vectors r may head line seen is begins closed = closed_by dates vectors r may head line seen (kind_of r) is begins closed

unfit_by : (dates : ℕ) (vectors : List (List ℕ)) (r : Row) (may : Bool) (head line : List ℕ) (seen : Seen) → IsBare r ⊎ (r ≡ LEAF) → IsLongLine head seen line →
    begins_with (row_word r) head ≡ true → words_fit dates r (words_of line) ≡ false → node_said dates vectors r may line ≡ Err kind.Count
unfit_by dates vectors r may head line seen (inl bare) is begins unfit =
    let fits : row_fits dates r (length (others_of line)) ≡ false =
    ap (λ (k : ℕ). row_fits dates r k) (sym (other-count line)) ∙ sym (bare.fit dates (words_of line)) ∙ unfit in
    by_kind dates vectors r may line kind.Count bare (row-count dates vectors r may head line seen is begins (no-fit may _ fits))
unfit_by dates vectors r may head line seen (inr same) is begins unfit =
    let P : Row → Type 0 = λ x. begins_with (row_word x) head ≡ true in
    let leaf : LongLeaf line true = long_leaf head line seen true is (subst P same begins) in
    let none : (row_fits dates LEAF (length (front_words (others_of line))) && tail_fits dates (tail_words (others_of line))) ≡ false =
    sym (leaf_fits_of dates line leaf) ∙ ap (λ (x : Row). words_fit dates x (words_of line)) (sym same) ∙ unfit in
    ap (λ (x : Row). node_said dates vectors x may line) same ∙ leaf_said_of dates vectors may line leaf
    ∙ leaf_unfit dates vectors may (others_of line) _ refl none

pub long-row-unfit : (dates : ℕ) (vectors : List (List ℕ)) (r : Row) (may : Bool) (head line : List ℕ) (seen : Seen) → IsLongLine head seen line →
    begins_with (row_word r) head ≡ true → words_fit dates r (words_of line) ≡ false → node_said dates vectors r may line ≡ Err kind.Count
long-row-unfit dates vectors r may head line seen is begins unfit = unfit_by dates vectors r may head line seen (kind_of r) is begins unfit

number_by : (dates : ℕ) (vectors : List (List ℕ)) (r : Row) (may : Bool) (head line : List ℕ) (seen : Seen) → IsBare r ⊎ (r ≡ LEAF) → IsLongLine head seen line →
    begins_with (row_word r) head ≡ true → dates ≤ MOST_DATES → may ≡ true → words_fit dates r (words_of line) ≡ true → node_said dates vectors r may line ≡ Err kind.Number
number_by dates vectors r may head line seen (inl bare) is begins few allowed fit =
    let fits : row_fits dates r (length (others_of line)) ≡ true =
    ap (λ (k : ℕ). row_fits dates r k) (sym (other-count line)) ∙ sym (bare.fit dates (words_of line)) ∙ fit in
    by_kind dates vectors r may line kind.Number bare (row-number dates vectors r may head line seen is begins few allowed fits)
number_by dates vectors r may head line seen (inr same) is begins few allowed fit =
    let P : Row → Type 0 = λ x. begins_with (row_word x) head ≡ true in
    let leaf : LongLeaf line true = long_leaf head line seen true is (subst P same begins) in
    let others : List (List ℕ) = others_of line in
    let both = and_parts _ _ (sym (leaf_fits_of dates line leaf) ∙ ap (λ (x : Row). words_fit dates x (words_of line)) (sym same) ∙ fit) in
    let words : words_of line ≡ codes "l" ∷ others = leaf.words ∙ ap (λ (w : List ℕ). w ∷ others) (sym ((bytes_decides (codes "l") (first_word line)).0 leaf.first)) in
    ap (λ (x : Row). node_said dates vectors x may line) same ∙ leaf_said_of dates vectors may line leaf
    ∙ ap (λ (b : Bool). behind dates vectors b others) (both-hold may _ allowed both.0)
    ∙ leaf_number dates vectors line others words leaf.long few both.0 both.1

pub long-row-number : (dates : ℕ) (vectors : List (List ℕ)) (r : Row) (may : Bool) (head line : List ℕ) (seen : Seen) → IsLongLine head seen line →
    begins_with (row_word r) head ≡ true → dates ≤ MOST_DATES → may ≡ true → words_fit dates r (words_of line) ≡ true → node_said dates vectors r may line ≡ Err kind.Number
long-row-number dates vectors r may head line seen is begins few allowed fit = number_by dates vectors r may head line seen (kind_of r) is begins few allowed fit
