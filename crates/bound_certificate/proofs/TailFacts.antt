-- A leaf's line with a tail, by its words.
use Rattle.std.proofs.Common.{◌≡◌, ◌∙◌, ℕ, ◌≤◌, Bool, true, false, if◌then◌else◌, List, [], ◌∷◌, ◌++◌, length, map, slice_index_or, All, refl, sym, subst, ap, arith, Result, Ok, Err, codes, decimal}
use Rattle.std.specs.List.{join_with_byte, onto_first}
use lib.Pointwise.{bytes_decides}
use Rattle.std.proofs.lemmas.List.{append-nil}
use Rattle.std.proofs.lemmas.List.Elements.{All-append, All-head, All-nil}
use Rattle.std.proofs.lemmas.List.Splits.{join_with_byte-slice_split, length-slice_split, slice_split-cons_no, slice_split-cons_yes}
use Rattle.proof_tree.specs.Tree.{AreSumWeights}
use Rattle.proof_tree.specs.declared.weights.SumWeight.{SumWeight}
use Rattle.bound_certificate.specs.declared.fault.FaultKind.{FaultKind}
use Rattle.bound_certificate.specs.declared.fault.FaultKind.TheVariants as kind
use Rattle.bound_certificate.specs.declared.limits.TheConstants.{MOST_DATES, MOST_VECTORS}
use Rattle.bound_certificate.specs.declared.line.Line.{Line}
use Rattle.bound_certificate.specs.declared.line.Line.TheVariants as line
use Rattle.bound_certificate.specs.declared.packed.Change.{Change}
use Rattle.bound_certificate.specs.declared.row.Row.{Row}
use Rattle.bound_certificate.specs.declared.row.Row.TheVariants as row
use Rattle.bound_certificate.specs.declared.weighing.Weighing.TheVariants as weighing
use Rattle.bound_certificate.specs.Grammar.{are_rising, front_words, is_tail, leaf_words, row_line, said_or, sums_of, tail_said, tail_words, weighed, weights_of, weights_or, with_tail}
use Rattle.bound_certificate.specs.Packed.{IsVector}
use Rattle.bound_certificate.specs.Row.{AreRowNumbers, row_fits, row_word, row_words}
use Rattle.bound_certificate.specs.Text.{IsOneLine, NotFeed, spaced_numbers, tail_text, weight_numbers}
use Rattle.line_words.specs.Words.{first_word, is_space, words_of}
use Rattle.bound_certificate.proofs.LineFacts.{IsClosed, IsLineOf, RowSays, SaysLine, ShowsLine, body, no-weights, numbers_of_line, row-line-shows, row-shows-line, says-line}
use Rattle.bound_certificate.proofs.PriceFacts.{line_by, numbers_line}
use Rattle.bound_certificate.proofs.RowFacts.{AreWritten, IsDigit, decimal-digits, row-words}
use Rattle.bound_certificate.proofs.TableFacts.{AreRowWords, row-one, row-shows, row-word, words-found}
use Rattle.bound_certificate.proofs.WeightFacts.{sums-rising, tail-fits, tail-weights, tail_three, threes-back, three-weights, weight-count, weights-back, weights-ranges, weights-written}

-- ---- words before a tail, and from it on
front_tail_by : (word : List ℕ) (words : List (List ℕ)) (b : Bool) → front_words words ++ tail_words words ≡ words →
    (if b then [] else word ∷ front_words words) ++ (if b then word ∷ words else tail_words words) ≡ word ∷ words
front_tail_by word words true later = refl
front_tail_by word words false later = ap (λ (ws : List (List ℕ)). word ∷ ws) later

pub front-tail : (words : List (List ℕ)) → front_words words ++ tail_words words ≡ words
front-tail [] = refl
front-tail (word ∷ words) = front_tail_by word words (is_tail word) (front-tail words)

pub no-tail : (words : List (List ℕ)) → tail_words words ≡ [] → front_words words ≡ words
no-tail words none = sym (append-nil (front_words words)) ∙ ap (λ (ws : List (List ℕ)). front_words words ++ ws) (sym none) ∙ front-tail words

-- words of which none is `t`
abbrev pub AreFront : List (List ℕ) → Type 0
AreFront [] = Unit {0}
AreFront (word ∷ words) = (is_tail word ≡ false) × AreFront words

pub front-of : (before behind : List (List ℕ)) → AreFront before → front_words (before ++ behind) ≡ before ++ front_words behind
front-of [] behind are = refl
front-of (word ∷ before) behind are =
    ap (λ (b : Bool). if b then [] else word ∷ front_words (before ++ behind)) are.0 ∙ ap (λ (ws : List (List ℕ)). word ∷ ws) (front-of before behind are.1)

pub tail-of : (before behind : List (List ℕ)) → AreFront before → tail_words (before ++ behind) ≡ tail_words behind
tail-of [] behind are = refl
tail-of (word ∷ before) behind are =
    ap (λ (b : Bool). if b then word ∷ before ++ behind else tail_words (before ++ behind)) are.0 ∙ tail-of before behind are.1

-- ---- bytes and their words
onto_more : (byte : ℕ) (words more : List (List ℕ)) → 1 ≤ length words → onto_first byte (words ++ more) ≡ onto_first byte words ++ more
onto_more byte [] more some = absurd (omega (arith, some))
onto_more byte (word ∷ words) more some = refl

split_by : (byte : ℕ) (bytes more : List ℕ) (b : Bool) → is_space byte ≡ b → words_of (bytes ++ 32 ∷ more) ≡ words_of bytes ++ words_of more →
    words_of (byte ∷ bytes ++ 32 ∷ more) ≡ words_of (byte ∷ bytes) ++ words_of more
split_by byte bytes more true e later =
    slice_split-cons_yes is_space byte (bytes ++ 32 ∷ more) e ∙ ap (λ (ws : List (List ℕ)). [] ∷ ws) later
    ∙ sym (ap (λ (ws : List (List ℕ)). ws ++ words_of more) (slice_split-cons_yes is_space byte bytes e))
split_by byte bytes more false e later =
    slice_split-cons_no is_space byte (bytes ++ 32 ∷ more) e ∙ ap (λ (ws : List (List ℕ)). onto_first byte ws) later
    ∙ onto_more byte (words_of bytes) (words_of more) (omega (arith, length-slice_split is_space bytes))
    ∙ sym (ap (λ (ws : List (List ℕ)). ws ++ words_of more) (slice_split-cons_no is_space byte bytes e))

-- a space parts words
pub split-words : (bytes more : List ℕ) → words_of (bytes ++ 32 ∷ more) ≡ words_of bytes ++ words_of more
split-words [] more = slice_split-cons_yes is_space 32 more refl
split-words (byte ∷ bytes) more = split_by byte bytes more _ refl (split-words bytes more)

pub same-bytes : (one other : List ℕ) → words_of one ≡ words_of other → one ≡ other
same-bytes one other e =
    sym (join_with_byte-slice_split 32 one) ∙ ap (λ (ws : List (List ℕ)). join_with_byte 32 ws) e ∙ join_with_byte-slice_split 32 other

-- ---- a line that is read
-- what the words before a tail say
record FoundFront (dates : ℕ) (vectors : List (List ℕ)) (may : Bool) (words : List (List ℕ)) (said : Line) : Type 0 where
  allowed : may ≡ true
  says : RowSays dates vectors (row.Leaf weighing.Number) said
  texts : words ≡ words_of (body said)

front_found : (dates : ℕ) (vectors : List (List ℕ)) (may : Bool) (words : List (List ℕ)) (said : Line) → All (IsVector dates) vectors → length vectors ≤ MOST_VECTORS →
    (o : Result (List ℕ) FaultKind) → row_words dates (length vectors) (row.Leaf weighing.Number) may words ≡ o →
    said_or dates vectors (row.Leaf weighing.Number) o ≡ Ok said → FoundFront dates vectors may words said
front_found dates vectors may words said all few (Err found) e h = absurd (cc)
front_found dates vectors may words said all few (Ok numbers) e h =
    let r : Row = row.Leaf weighing.Number in
    let are : AreRowWords dates (length vectors) r may words numbers = words-found dates (length vectors) r may numbers words e in
    let says : SaysLine dates vectors r numbers said = says-line dates vectors r numbers said all few are.fits are.ranges are.small h in
    record {
      allowed = are.stands;
      says = says.says;
      texts = are.texts ∙ sym (row-words numbers (row_word r) (row-word r) are.small) ∙ ap (λ (bs : List ℕ). words_of bs) says.bytes;
    }

-- what the words of a tail say: none, or weights of sums
record FoundTail (dates : ℕ) (words : List (List ℕ)) (weights : List SumWeight) : Type 0 where
  are : AreSumWeights dates weights
  texts : (front : List ℕ) → words_of front ++ words ≡ words_of (front ++ tail_text weights)

no_tail_found : (dates : ℕ) → FoundTail dates [] []
no_tail_found dates = record {
  are = no-weights dates;
  texts = λ front. append-nil (words_of front) ∙ ap (λ (bs : List ℕ). words_of bs) (sym (append-nil front));
}

tail_by : (weights : List SumWeight) (numbers : List ℕ) (words : List (List ℕ)) (front : List ℕ) → 1 ≤ length weights → weight_numbers weights ≡ numbers →
    words ≡ words_of (codes "t" ++ spaced_numbers numbers) → words_of front ++ words ≡ words_of (front ++ tail_text weights)
tail_by [] numbers words front some back texts = absurd (omega (arith, some))
tail_by (own ∷ weights) numbers words front some back texts =
    ap (λ (ws : List (List ℕ)). words_of front ++ ws) texts
    ∙ sym (split-words front (codes "t" ++ spaced_numbers numbers))
    ∙ ap (λ (ns : List ℕ). words_of (front ++ (codes " t" ++ spaced_numbers ns))) (sym back)

order_tail : (b : Bool) (one weights : List SumWeight) → (if b then Ok one else Err kind.Order) ≡ Ok weights → (b ≡ true) × (one ≡ weights)
order_tail true one weights h = (refl, cc)
order_tail false one weights h = absurd (cc)

some_tail_found : (dates : ℕ) (words : List (List ℕ)) (weights : List SumWeight) (o : Result (List ℕ) FaultKind) → row_words dates 0 row.Tail true words ≡ o →
    weights_or o ≡ Ok weights → FoundTail dates words weights
some_tail_found dates words weights (Err found) e h = absurd (cc)
some_tail_found dates words weights (Ok numbers) e h =
    let r : Row = row.Tail in
    let is : AreRowWords dates 0 r true words numbers = words-found dates 0 r true numbers words e in
    let are : AreRowNumbers dates 0 r numbers = record { fits = is.fits; ranges = is.ranges } in
    let both : (are_rising (sums_of (weights_of numbers)) ≡ true) × (weights_of numbers ≡ weights) = order_tail _ (weights_of numbers) weights h in
    let P : List SumWeight → Type 0 = λ ws. FoundTail dates words ws in
    let some : 1 ≤ length (weights_of numbers) = omega (arith, three-weights dates 0 numbers are, (tail_three dates (length numbers) is.fits).0) in
    subst P both.1 (record {
      are = tail-weights dates 0 numbers are both.0;
      texts = λ front. tail_by (weights_of numbers) numbers words front some (threes-back dates 0 numbers are)
          (is.texts ∙ sym (row-words numbers (row_word r) (row-word r) is.small));
    })

tail_found : (dates : ℕ) (words : List (List ℕ)) (weights : List SumWeight) → tail_said dates words ≡ Ok weights → FoundTail dates words weights
tail_found dates [] weights h =
    let none : [] ≡ weights = cc in
    let P : List SumWeight → Type 0 = λ ws. FoundTail dates [] ws in subst P none (no_tail_found dates)
tail_found dates (word ∷ words) weights h = some_tail_found dates (word ∷ words) weights (row_words dates 0 row.Tail true (word ∷ words)) refl h

-- what a front says is a leaf
pub record IsFront (said : Line) (dates : ℕ) (vectors : List (List ℕ)) : Type 0 where
  pub rho : ℕ
  pub mu : ℕ
  pub vector : ℕ
  pub changes : List Change
  pub said_is : said ≡ line.Closed weighing.Number rho mu vector changes []
  pub closed : IsClosed weighing.Number dates vectors weighing.Number rho mu vector changes []

pub front-is : (dates : ℕ) (vectors : List (List ℕ)) (said : Line) → RowSays dates vectors (row.Leaf weighing.Number) said → IsFront said dates vectors
front-is dates vectors (line.Closed weighing.Number rho mu vector changes []) says =
    record { rho = rho; mu = mu; vector = vector; changes = changes; said_is = refl; closed = says.1 }
front-is dates vectors (line.Closed weighing.WholeOrNone rho mu vector changes []) says = absurd (let other = says.1.said in cc)
front-is dates vectors said says = absurd says

-- a leaf with weights of sums
leaf_weighed : (dates : ℕ) (vectors : List (List ℕ)) (rho mu vector : ℕ) (changes : List Change) (before weights : List SumWeight) →
    IsClosed weighing.Number dates vectors weighing.Number rho mu vector changes before → AreSumWeights dates weights →
    IsClosed weighing.Number dates vectors weighing.Number rho mu vector changes weights
leaf_weighed dates vectors rho mu vector changes before weights is are = record {
  said = refl;
  leaf = record {
    last = is.leaf.last;
    changes_are = is.leaf.changes_are;
    leaf = record {
      cost = is.leaf.leaf.cost;
      limit = is.leaf.leaf.limit;
      every_date = is.leaf.leaf.every_date;
      range = is.leaf.leaf.range;
      falling = is.leaf.leaf.falling;
      weights = are;
    };
  };
  weight = tt;
  first = is.first;
  tail = tt;
}

-- what a leaf's line of version 3 may say
abbrev pub IsTailedLeaf : ℕ → List (List ℕ) → Line → Type 0
IsTailedLeaf dates vectors (line.Closed how rho mu vector changes weights) = IsClosed weighing.Number dates vectors how rho mu vector changes weights
IsTailedLeaf dates vectors said = ⊥

pub record FoundLeaf (dates : ℕ) (vectors : List (List ℕ)) (may : Bool) (bytes : List ℕ) (said : Line) : Type 0 where
  pub allowed : may ≡ true
  pub is : IsTailedLeaf dates vectors said
  pub bytes_of : bytes ≡ body said

weighed_found : (dates : ℕ) (vectors : List (List ℕ)) (may : Bool) (bytes : List ℕ) (front said : Line) (weights : List SumWeight) →
    FoundFront dates vectors may (front_words (words_of bytes)) front → FoundTail dates (tail_words (words_of bytes)) weights → weighed front weights ≡ said →
    FoundLeaf dates vectors may bytes said
weighed_found dates vectors may bytes front said weights found tail same =
    let leaf : IsFront front dates vectors = front-is dates vectors front found.says in
    let own : Line = line.Closed weighing.Number leaf.rho leaf.mu leaf.vector leaf.changes weights in
    let bare : List ℕ = codes "l" ++ spaced_numbers (numbers_of_line own) in
    let is : own ≡ said = ap (λ (l : Line). weighed l weights) (sym leaf.said_is) ∙ same in
    let first : front_words (words_of bytes) ≡ words_of bare =
    found.texts ∙ ap (λ (l : Line). words_of (body l)) leaf.said_is ∙ ap (λ (bs : List ℕ). words_of bs) (append-nil bare) in
    let whole : words_of bytes ≡ words_of (bare ++ tail_text weights) =
    sym (front-tail (words_of bytes)) ∙ ap (λ (ws : List (List ℕ)). ws ++ tail_words (words_of bytes)) first ∙ tail.texts bare in
    let P : Line → Type 0 = λ l. FoundLeaf dates vectors may bytes l in
    subst P is (record {
      allowed = found.allowed;
      is = leaf_weighed dates vectors leaf.rho leaf.mu leaf.vector leaf.changes [] weights leaf.closed tail.are;
      bytes_of = same-bytes bytes (bare ++ tail_text weights) whole;
    })

both_found : (dates : ℕ) (vectors : List (List ℕ)) (may : Bool) (bytes : List ℕ) (said : Line) → All (IsVector dates) vectors → length vectors ≤ MOST_VECTORS →
    (front : Result Line FaultKind) (tail : Result (List SumWeight) FaultKind) →
    said_or dates vectors (row.Leaf weighing.Number) (row_words dates (length vectors) (row.Leaf weighing.Number) may (front_words (words_of bytes))) ≡ front →
    tail_said dates (tail_words (words_of bytes)) ≡ tail → with_tail front tail ≡ Ok said → FoundLeaf dates vectors may bytes said
both_found dates vectors may bytes said all few (Ok front) (Ok weights) one other h =
    let same : weighed front weights ≡ said = cc in
    weighed_found dates vectors may bytes front said weights
    (front_found dates vectors may (front_words (words_of bytes)) front all few _ refl one) (tail_found dates (tail_words (words_of bytes)) weights other) same
both_found dates vectors may bytes said all few (Ok front) (Err found) one other h = absurd (cc)
both_found dates vectors may bytes said all few (Err found) (Ok weights) one other h = absurd (cc)
both_found dates vectors may bytes said all few (Err found) (Err second) one other h = absurd (cc)

pub leaf-found : (dates : ℕ) (vectors : List (List ℕ)) (may : Bool) (bytes : List ℕ) (said : Line) → All (IsVector dates) vectors → length vectors ≤ MOST_VECTORS →
    leaf_words dates vectors may (words_of bytes) ≡ Ok said → FoundLeaf dates vectors may bytes said
leaf-found dates vectors may bytes said all few h = both_found dates vectors may bytes said all few _ _ refl refl h

-- ---- and the other way
not_tail : (word : List ℕ) (b : Bool) → All IsDigit word → is_tail word ≡ b → b ≡ false
not_tail word false digits e = refl
not_tail word true digits e =
    let P : List ℕ → Type 0 = λ w. All IsDigit w in
    let first : IsDigit 116 = All-head IsDigit 116 [] (subst P (sym ((bytes_decides (codes "t") word).0 e)) digits) in absurd (omega (arith, first.1))

numbers_front : (numbers : List ℕ) → AreWritten numbers → AreFront (map decimal numbers)
numbers_front [] small = tt
numbers_front (number ∷ numbers) small = (not_tail (decimal number) _ (decimal-digits number small.0) refl, numbers_front numbers small.1)

front_all : (words : List (List ℕ)) → AreFront words → front_words words ≡ words
front_all [] are = refl
front_all (word ∷ words) are =
    ap (λ (b : Bool). if b then [] else word ∷ front_words words) are.0 ∙ ap (λ (ws : List (List ℕ)). word ∷ ws) (front_all words are.1)

tail_none : (words : List (List ℕ)) → AreFront words → tail_words words ≡ []
tail_none [] are = refl
tail_none (word ∷ words) are = ap (λ (b : Bool). if b then word ∷ words else tail_words words) are.0 ∙ tail_none words are.1

-- a line's words before its tail, what the tail says, and the first word
record ShowsTail (dates : ℕ) (bare : List ℕ) (weights : List SumWeight) : Type 0 where
  front : front_words (words_of (bare ++ tail_text weights)) ≡ words_of bare
  tail : tail_said dates (tail_words (words_of (bare ++ tail_text weights))) ≡ Ok weights
  first : first_word (bare ++ tail_text weights) ≡ first_word bare
  one : IsOneLine (tail_text weights)

abbrev IsOf : List ℕ → List ℕ → List ℕ → Type 0
IsOf bare word numbers = words_of bare ≡ word ∷ map decimal numbers

none_shows : (dates : ℕ) (bare word numbers : List ℕ) → IsOf bare word numbers → AreFront (word ∷ map decimal numbers) → ShowsTail dates bare []
none_shows dates bare word numbers words are =
    let whole : bare ++ [] ≡ bare = append-nil bare in
    let P : List (List ℕ) → Type 0 = λ ws. AreFront ws in
    let all : AreFront (words_of bare) = subst P (sym words) are in
    record {
      front = ap (λ (bs : List ℕ). front_words (words_of bs)) whole ∙ front_all (words_of bare) all;
      tail = ap (λ (bs : List ℕ). tail_said dates (tail_words (words_of bs))) whole ∙ ap (λ (ws : List (List ℕ)). tail_said dates ws) (tail_none (words_of bare) all);
      first = ap (λ (bs : List ℕ). first_word bs) whole;
      one = All-nil NotFeed;
    }

-- a tail is said by its numbers
tail_read : (dates : ℕ) (weights : List SumWeight) → dates ≤ MOST_DATES → 1 ≤ length weights → AreSumWeights dates weights →
    tail_said dates (codes "t" ∷ map decimal (weight_numbers weights)) ≡ Ok weights
tail_read dates weights few some are =
    let r : Row = row.Tail in
    let numbers : List ℕ = weight_numbers weights in
    let small : AreWritten numbers = weights-written dates weights few are.each in
    let fits : row_fits dates r (length numbers) ≡ true =
    ap (λ (k : ℕ). row_fits dates r k) (weight-count weights) ∙ tail-fits dates (length weights) some are.few in
    ap (λ (ws : List (List ℕ)). weights_or (row_words dates 0 r true ws)) (sym (row-words numbers (row_word r) (row-word r) small))
    ∙ ap weights_or (row-shows dates 0 r numbers small (weights-ranges dates weights 1 refl are.each) fits)
    ∙ ap (λ (ws : List SumWeight). if are_rising (sums_of ws) then Ok ws else Err kind.Order) (weights-back weights)
    ∙ ap (λ (b : Bool). if b then Ok weights else Err kind.Order) (sums-rising weights are.rising)

some_shows : (dates : ℕ) (bare word numbers : List ℕ) (own : SumWeight) (weights : List SumWeight) → dates ≤ MOST_DATES → AreSumWeights dates (own ∷ weights) →
    IsOf bare word numbers → AreFront (word ∷ map decimal numbers) → ShowsTail dates bare (own ∷ weights)
some_shows dates bare word numbers own weights few are words front =
    let behind : List ℕ = weight_numbers (own ∷ weights) in
    let small : AreWritten behind = weights-written dates (own ∷ weights) few are.each in
    let tail : List (List ℕ) = codes "t" ∷ map decimal behind in
    let before : List (List ℕ) = word ∷ map decimal numbers in
    let whole : words_of (bare ++ tail_text (own ∷ weights)) ≡ before ++ tail =
    split-words bare (codes "t" ++ spaced_numbers behind)
    ∙ ap (λ (ws : List (List ℕ)). ws ++ words_of (codes "t" ++ spaced_numbers behind)) words
    ∙ ap (λ (ws : List (List ℕ)). before ++ ws) (row-words behind (codes "t") (row-word row.Tail) small) in
    record {
      front = ap front_words whole ∙ front-of before tail front ∙ append-nil before ∙ sym words;
      tail = ap (λ (ws : List (List ℕ)). tail_said dates (tail_words ws)) whole ∙ ap (λ (ws : List (List ℕ)). tail_said dates ws) (tail-of before tail front)
          ∙ tail_read dates (own ∷ weights) few (omega arith) are;
      first = ap (λ (ws : List (List ℕ)). slice_index_or ws 0 []) whole ∙ sym (ap (λ (ws : List (List ℕ)). slice_index_or ws 0 []) words);
      one = All-append NotFeed (codes " t") (spaced_numbers behind) (line_by (codes " t") refl) (numbers_line behind small);
    }

tail_shows : (dates : ℕ) (bare word numbers : List ℕ) (weights : List SumWeight) → dates ≤ MOST_DATES → AreSumWeights dates weights → IsOf bare word numbers →
    AreFront (word ∷ map decimal numbers) → ShowsTail dates bare weights
tail_shows dates bare word numbers [] few are words front = none_shows dates bare word numbers words front
tail_shows dates bare word numbers (own ∷ weights) few are words front = some_shows dates bare word numbers own weights few are words front

-- a leaf's line of version 3 says its leaf
pub record IsLeafLine (dates : ℕ) (vectors : List (List ℕ)) (said : Line) : Type 0 where
  pub said_is : leaf_words dates vectors true (words_of (body said)) ≡ Ok said
  pub first : first_word (body said) ≡ codes "l"
  pub one : IsOneLine (body said)

own_leaf_shows : (dates : ℕ) (vectors : List (List ℕ)) (rho mu vector : ℕ) (changes : List Change) (weights : List SumWeight) → dates ≤ MOST_DATES → length vectors ≤ MOST_VECTORS →
    IsClosed weighing.Number dates vectors weighing.Number rho mu vector changes weights → IsLeafLine dates vectors (line.Closed weighing.Number rho mu vector changes weights)
own_leaf_shows dates vectors rho mu vector changes weights few many is =
    let r : Row = row.Leaf weighing.Number in
    let said : Line = line.Closed weighing.Number rho mu vector changes weights in
    let front : Line = line.Closed weighing.Number rho mu vector changes [] in
    let numbers : List ℕ = numbers_of_line said in
    let bare : List ℕ = codes "l" ++ spaced_numbers numbers in
    let closed : IsClosed weighing.Number dates vectors weighing.Number rho mu vector changes [] = leaf_weighed dates vectors rho mu vector changes weights [] is (no-weights dates) in
    let shows : ShowsLine dates vectors r front = row-shows-line dates vectors r front few (many, closed) in
    let line_is : IsLineOf dates vectors r front = row-line-shows dates vectors r front few (many, closed) in
    let words : IsOf bare (codes "l") numbers = row-words numbers (row_word r) (row-word r) shows.small in
    let tail : ShowsTail dates bare weights = tail_shows dates bare (codes "l") numbers weights few is.leaf.leaf.weights words (refl, numbers_front numbers shows.small) in
    record {
      said_is =
          ap (λ (ws : List (List ℕ)). with_tail (said_or dates vectors r (row_words dates (length vectors) r true ws)) (tail_said dates (tail_words (words_of (bare ++ tail_text weights))))) tail.front
          ∙ ap (λ (bs : List ℕ). with_tail (row_line dates vectors r true bs) (tail_said dates (tail_words (words_of (bare ++ tail_text weights))))) (sym (append-nil bare))
          ∙ ap (λ (o : Result Line FaultKind). with_tail o (tail_said dates (tail_words (words_of (bare ++ tail_text weights))))) line_is.said_is
          ∙ ap (λ (o : Result (List SumWeight) FaultKind). with_tail (Ok front) o) tail.tail;
      first = tail.first ∙ ap (λ (ws : List (List ℕ)). slice_index_or ws 0 []) words;
      one = All-append NotFeed bare (tail_text weights) (row-one r numbers shows.small) tail.one;
    }

pub leaf-shows : (dates : ℕ) (vectors : List (List ℕ)) (said : Line) → dates ≤ MOST_DATES → length vectors ≤ MOST_VECTORS → IsTailedLeaf dates vectors said →
    IsLeafLine dates vectors said
leaf-shows dates vectors (line.Closed weighing.Number rho mu vector changes weights) few many is = own_leaf_shows dates vectors rho mu vector changes weights few many is
leaf-shows dates vectors (line.Closed weighing.WholeOrNone rho mu vector changes weights) few many is = absurd (let other = is.said in cc)
leaf-shows dates vectors said few many is = absurd is
