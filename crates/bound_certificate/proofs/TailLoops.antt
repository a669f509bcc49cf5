-- What loops over a leaf's tail find.
use Rattle.std.proofs.Common.{◌≡◌, ◌∙◌, ℕ, suc, ◌+◌, ◌-◌, ◌<◌, ◌≤◌, Bool, true, false, ◌==◌, ◌&&◌, nat_eq, nat_lt, if◌then◌else◌, List, [], ◌∷◌, ◌++◌, length, drop, drop-cons, get_or, slice_index_or, take, refl, sym, subst, ap, arith, length-drop, append_assoc, Option, Some, None, Ok, Err}
use Rattle.std.specs.List.{join_with_byte, onto_first}
use denote.Ref.{Bor}
use lib.Pointwise.{pointwise}
use Rattle.std.proofs.lemmas.List.{append-nil, length-append, take-append-le}
use Rattle.std.proofs.lemmas.List.Elements.{All-cons, All-nil}
use Rattle.std.proofs.lemmas.List.Splits.{join_with_byte-slice_split, length-slice_split, slice_split-cons_no, slice_split-cons_yes, slice_split_none}
use Rattle.std.proofs.Math.Seq.{take_all}
use Rattle.proof_tree.specs.declared.weights.Side.{Side}
use Rattle.proof_tree.specs.declared.weights.Side.TheVariants.{AtMost}
use Rattle.proof_tree.specs.declared.weights.SumWeight.{SumWeight}
use Rattle.bound_certificate.specs.Grammar.{are_rising, front_words, is_tail, sums_of, tail_said, tail_words, weights_of, weights_or}
use Rattle.bound_certificate.specs.declared.fault.FaultKind.TheVariants as kind
use Rattle.bound_certificate.specs.declared.row.Row.TheVariants as row
use Rattle.bound_certificate.specs.Row.{row_said, row_words}
use Rattle.bound_certificate.specs.Taken.{IsTailed}
use Rattle.bound_certificate.specs.Weights.{side_said}
use Rattle.line_words.specs.Words.{first_word, is_space, parts_behind, words_of}
use Rattle.bound_certificate.proofs.RowFacts.{IsWord}
use Rattle.memchr.specs.Find.{IsFirstByte}
use Rattle.bound_certificate.proofs.TailFacts.{no-tail, split-words}

-- ---- sums that rise
abbrev pub no_weight : SumWeight
no_weight = record { sum = 0; side = AtMost; weight = 0 }

pub sums-more : (weights : List SumWeight) (place : ℕ) → 1 ≤ place → place < length weights →
    are_rising (sums_of (drop (place - 1) weights))
    ≡ (nat_lt (get_or weights (place - 1) no_weight).sum (get_or weights place no_weight).sum && are_rising (sums_of (drop place weights)))
sums-more weights place some inside =
    let next : suc (place - 1) ≡ place = omega arith in
    let first : drop (place - 1) weights ≡ get_or weights (place - 1) no_weight ∷ drop place weights =
    drop-cons weights (place - 1) no_weight (omega arith) ∙ ap (λ (k : ℕ). get_or weights (place - 1) no_weight ∷ drop k weights) next in
    let second : drop place weights ≡ get_or weights place no_weight ∷ drop (suc place) weights = drop-cons weights place no_weight inside in
    ap (λ (ws : List SumWeight). are_rising (sums_of ws)) (first ∙ ap (λ (ws : List SumWeight). get_or weights (place - 1) no_weight ∷ ws) second)
    ∙ ap (λ (ws : List SumWeight). nat_lt (get_or weights (place - 1) no_weight).sum (get_or weights place no_weight).sum && are_rising (sums_of ws)) (sym second)

one_weight : (weights : List SumWeight) → length weights ≤ 1 → are_rising (sums_of weights) ≡ true
one_weight [] few = refl
one_weight (x ∷ []) few = refl
one_weight (x ∷ y ∷ weights) few = absurd (omega arith)

pub sums-end : (weights : List SumWeight) (place : ℕ) → length weights ≤ place → are_rising (sums_of (drop (place - 1) weights)) ≡ true
sums-end weights place over = one_weight (drop (place - 1) weights) (omega (arith, length-drop (place - 1) weights))

pub sums-here : (weights : List SumWeight) (place : ℕ) → 1 ≤ place → place < length weights →
    (get_or weights place no_weight).sum ≤ (get_or weights (place - 1) no_weight).sum → are_rising (sums_of (drop (place - 1) weights)) ≡ false
sums-here weights place some inside down =
    let here : nat_lt (get_or weights (place - 1) no_weight).sum (get_or weights place no_weight).sum ≡ false = grind (arith, down) in
    sums-more weights place some inside ∙ ap (λ (b : Bool). b && are_rising (sums_of (drop place weights))) here

pub sums-on : (weights : List SumWeight) (place : ℕ) → 1 ≤ place → place < length weights →
    (get_or weights (place - 1) no_weight).sum < (get_or weights place no_weight).sum →
    are_rising (sums_of (drop (place - 1) weights)) ≡ are_rising (sums_of (drop place weights))
sums-on weights place some inside up =
    let here : nat_lt (get_or weights (place - 1) no_weight).sum (get_or weights place no_weight).sum ≡ true = grind (arith, up) in
    sums-more weights place some inside ∙ ap (λ (b : Bool). b && are_rising (sums_of (drop place weights))) here

-- ---- weights as numbers
-- the weight whose three numbers begin at a place
abbrev pub weight_at : List ℕ → ℕ → SumWeight
weight_at numbers place = record { sum = get_or numbers place 0 - 1; side = side_said (get_or numbers (place + 1) 0); weight = get_or numbers (place + 2) 0 }

pub weight-is : (numbers : List ℕ) (place sum : ℕ) (side : Side) → sum ≡ get_or numbers place 0 - 1 → side ≡ side_said (get_or numbers (place + 1) 0) →
    ◌≡◌ {A = SumWeight} (record { sum = sum; side = side; weight = get_or numbers (place + 2) 0 }) (weight_at numbers place)
weight-is numbers place sum side one two =
    ap (λ (k : ℕ). record { sum = k; side = side; weight = get_or numbers (place + 2) 0 }) one
    ∙ ap (λ (s : Side). record { sum = get_or numbers place 0 - 1; side = s; weight = get_or numbers (place + 2) 0 }) two

pub weights-more : (numbers : List ℕ) (place : ℕ) → place + 2 < length numbers → weights_of (drop place numbers) ≡ weight_at numbers place ∷ weights_of (drop (place + 3) numbers)
weights-more numbers place inside =
    let one : suc place ≡ place + 1 = omega arith in
    let two : suc (place + 1) ≡ place + 2 = omega arith in
    let three : suc (place + 2) ≡ place + 3 = omega arith in
    let first : drop place numbers ≡ get_or numbers place 0 ∷ drop (place + 1) numbers =
    drop-cons numbers place 0 (omega (arith, inside)) ∙ ap (λ (k : ℕ). get_or numbers place 0 ∷ drop k numbers) one in
    let second : drop (place + 1) numbers ≡ get_or numbers (place + 1) 0 ∷ drop (place + 2) numbers =
    drop-cons numbers (place + 1) 0 (omega (arith, inside)) ∙ ap (λ (k : ℕ). get_or numbers (place + 1) 0 ∷ drop k numbers) two in
    let third : drop (place + 2) numbers ≡ get_or numbers (place + 2) 0 ∷ drop (place + 3) numbers =
    drop-cons numbers (place + 2) 0 inside ∙ ap (λ (k : ℕ). get_or numbers (place + 2) 0 ∷ drop k numbers) three in
    ap weights_of (first ∙ ap (λ (ns : List ℕ). get_or numbers place 0 ∷ ns) (second ∙ ap (λ (ns : List ℕ). get_or numbers (place + 1) 0 ∷ ns) third))

two_numbers : (numbers : List ℕ) → length numbers ≤ 2 → weights_of numbers ≡ []
two_numbers [] few = refl
two_numbers (x ∷ []) few = refl
two_numbers (x ∷ y ∷ []) few = refl
two_numbers (x ∷ y ∷ z ∷ numbers) few = absurd (omega arith)

pub weights-end : (numbers : List ℕ) (place : ℕ) → length numbers ≤ place + 2 → weights_of (drop place numbers) ≡ []
weights-end numbers place over = two_numbers (drop place numbers) (omega (arith, length-drop place numbers))

-- ---- the words before a tail
join_more : (word : List ℕ) (words : List (List ℕ)) → 1 ≤ length words → join_with_byte 32 (word ∷ words) ≡ word ++ 32 ∷ join_with_byte 32 words
join_more word [] some = absurd (omega (arith, some))
join_more word (next ∷ words) some = refl

some_words : (bytes : List ℕ) → 1 ≤ length (words_of bytes)
some_words bytes = omega (arith, length-slice_split is_space bytes)

-- a word and the bytes behind its space
pub cut-bytes : (line word rest : List ℕ) → words_of line ≡ word ∷ words_of rest → line ≡ word ++ 32 ∷ rest
cut-bytes line word rest e =
    sym (join_with_byte-slice_split 32 line) ∙ ap (λ (ws : List (List ℕ)). join_with_byte 32 ws) e ∙ join_more word (words_of rest) (some_words rest)
    ∙ ap (λ (bs : List ℕ). word ++ 32 ∷ bs) (join_with_byte-slice_split 32 rest)

onto_front : (byte : ℕ) (words : List (List ℕ)) → slice_index_or (onto_first byte words) 0 [] ≡ byte ∷ slice_index_or words 0 []
onto_front byte [] = refl
onto_front byte (word ∷ words) = refl

first_by : (byte : ℕ) (bytes : List ℕ) (b : Bool) → is_space byte ≡ b → IsWord (first_word bytes) → IsWord (first_word (byte ∷ bytes))
first_by byte bytes true e later =
    let P : List ℕ → Type 0 = λ w. IsWord w in
    subst P (sym (ap (λ (ws : List (List ℕ)). slice_index_or ws 0 []) (slice_split-cons_yes is_space byte bytes e))) (All-nil (λ b. is_space b ≡ false))
first_by byte bytes false e later =
    let P : List ℕ → Type 0 = λ w. IsWord w in
    subst P (sym (ap (λ (ws : List (List ℕ)). slice_index_or ws 0 []) (slice_split-cons_no is_space byte bytes e) ∙ onto_front byte (words_of bytes)))
    (All-cons (λ b. is_space b ≡ false) byte (first_word bytes) e later)

first_is_word : (bytes : List ℕ) → IsWord (first_word bytes)
first_is_word [] = All-nil (λ b. is_space b ≡ false)
first_is_word (byte ∷ bytes) = first_by byte bytes _ refl (first_is_word bytes)

pub one-word : (line word : List ℕ) (words : List (List ℕ)) → words_of line ≡ word ∷ words → words_of word ≡ word ∷ []
one-word line word words e =
    let P : List ℕ → Type 0 = λ w. IsWord w in
    slice_split_none is_space word (subst P (ap (λ (ws : List (List ℕ)). slice_index_or ws 0 []) e) (first_is_word line))

-- words that are left behind a space, before which no word is `t`
pub record IsLeft (line words : List ℕ) : Type 0 where
  pub before : List ℕ
  pub whole : before ++ 32 ∷ words ≡ line
  pub front : front_words (words_of line) ≡ words_of before ++ front_words (words_of words)

pub record IsSearched (line : List ℕ) (rest : Option (Bor (List ℕ))) : Type 0 where
  pub tail : tail_words (words_of line) ≡ tail_words (parts_behind 32 rest)
  pub left : (words : Bor (List ℕ)) → rest ≡ Some words → IsLeft line words.now

front_one : (word : List ℕ) (words : List (List ℕ)) → is_tail word ≡ false → front_words (word ∷ words) ≡ word ∷ front_words words
front_one word words other = ap (λ (b : Bool). if b then [] else word ∷ front_words words) other

tail_one : (word : List ℕ) (words : List (List ℕ)) → is_tail word ≡ false → tail_words (word ∷ words) ≡ tail_words words
tail_one word words other = ap (λ (b : Bool). if b then word ∷ words else tail_words words) other

pub first-left : (line word : List ℕ) (rest : Option (Bor (List ℕ))) → words_of line ≡ word ∷ parts_behind 32 rest → is_tail (first_word line) ≡ false → IsSearched line rest
first-left line word rest e other =
    let bare : is_tail word ≡ false = ap is_tail (sym (ap (λ (ws : List (List ℕ)). slice_index_or ws 0 []) e)) ∙ other in
    record {
      tail = ap tail_words e ∙ tail_one word (parts_behind 32 rest) bare;
      left = λ words is. (let here : words_of line ≡ word ∷ words_of words.now = e ∙ ap (λ (r : Option (Bor (List ℕ))). word ∷ parts_behind 32 r) is in
          record {
            before = word;
            whole = sym (cut-bytes line word words.now here);
            front = ap front_words here ∙ front_one word (words_of words.now) bare ∙ ap (λ (ws : List (List ℕ)). ws ++ front_words (words_of words.now)) (sym (one-word line word (words_of words.now) here));
          });
    }

pub next-left : (line : List ℕ) (words : Bor (List ℕ)) (word : List ℕ) (before rest : Option (Bor (List ℕ))) → before ≡ Some words → IsSearched line before →
    words_of words.now ≡ word ∷ parts_behind 32 rest → is_tail word ≡ false → IsSearched line rest
next-left line words word before rest was is e bare =
    let left : IsLeft line words.now = is.left words was in
    record {
      tail = is.tail ∙ ap (λ (r : Option (Bor (List ℕ))). tail_words (parts_behind 32 r)) was ∙ ap tail_words e ∙ tail_one word (parts_behind 32 rest) bare;
      left = λ next here. (let split : words_of words.now ≡ word ∷ words_of next.now = e ∙ ap (λ (r : Option (Bor (List ℕ))). word ∷ parts_behind 32 r) here in
          let behind : List (List ℕ) = front_words (words_of next.now) in
          record {
            before = left.before ++ 32 ∷ word;
            whole = append_assoc left.before (32 ∷ word) (32 ∷ next.now) ∙ ap (λ (bs : List ℕ). left.before ++ 32 ∷ bs) (sym (cut-bytes words.now word next.now split)) ∙ left.whole;
            front = left.front ∙ ap (λ (ws : List (List ℕ)). words_of left.before ++ ws) (ap front_words split ∙ front_one word (words_of next.now) bare)
                ∙ sym (append_assoc (words_of left.before) (word ∷ []) behind)
                ∙ ap (λ (ws : List (List ℕ)). (words_of left.before ++ ws) ++ behind) (sym (one-word words.now word (words_of next.now) split))
                ∙ ap (λ (ws : List (List ℕ)). ws ++ behind) (sym (split-words left.before word));
          });
    }

pub left-size : (line : List ℕ) (words : Bor (List ℕ)) (rest : Option (Bor (List ℕ))) → rest ≡ Some words → IsSearched line rest → length words.now + 1 ≤ length line
left-size line words rest is searched =
    let left : IsLeft line words.now = searched.left words is in omega (arith, sym (ap length left.whole), length-append left.before (32 ∷ words.now))

pub tail-at : (line front : List ℕ) (words : Bor (List ℕ)) (word : List ℕ) (rest behind : Option (Bor (List ℕ))) → rest ≡ Some words → IsSearched line rest →
    words_of words.now ≡ word ∷ parts_behind 32 behind → is_tail word ≡ true → front ≡ take (length line - length words.now - 1) line → IsTailed line front rest
tail-at line front words word rest behind is searched e named cut =
    let left : IsLeft line words.now = searched.left words is in
    let size : length line - length words.now - 1 ≡ length left.before = omega (arith, sym (ap length left.whole), length-append left.before (32 ∷ words.now)) in
    let same : take (length line - length words.now - 1) line ≡ left.before =
    ap (λ (k : ℕ). take k line) size ∙ ap (λ (bs : List ℕ). take (length left.before) bs) (sym left.whole)
    ∙ take-append-le (length left.before) left.before (32 ∷ words.now) (omega arith) ∙ take_all (length left.before) left.before (omega arith) in
    let others : List (List ℕ) = parts_behind 32 behind in
    let none : front_words (words_of words.now) ≡ [] = ap front_words e ∙ ap (λ (b : Bool). if b then [] else word ∷ front_words others) named in
    let all : tail_words (words_of words.now) ≡ words_of words.now = ap tail_words e ∙ ap (λ (b : Bool). if b then word ∷ others else tail_words others) named ∙ sym e in
    record {
      front_is = ap words_of (cut ∙ same) ∙ sym (append-nil (words_of left.before)) ∙ ap (λ (ws : List (List ℕ)). words_of left.before ++ ws) (sym none) ∙ sym left.front;
      tail_is = sym (searched.tail ∙ ap (λ (r : Option (Bor (List ℕ))). tail_words (parts_behind 32 r)) is ∙ all ∙ ap (λ (r : Option (Bor (List ℕ))). parts_behind 32 r) (sym is));
    }

pub no-tail-left : (line : List ℕ) → tail_words (words_of line) ≡ [] → IsTailed line line None
no-tail-left line none = record { front_is = sym (no-tail (words_of line) none); tail_is = sym none }

pub none-left : (line : List ℕ) (rest : Option (Bor (List ℕ))) → rest ≡ None → IsSearched line rest → IsTailed line line None
none-left line rest is searched = no-tail-left line (searched.tail ∙ ap (λ (r : Option (Bor (List ℕ))). tail_words (parts_behind 32 r)) is)

-- ---- bytes of which none is a `t`
tail_rest : (word : List ℕ) (words : List (List ℕ)) (b : Bool) → (if b then word ∷ words else tail_words words) ≡ [] → tail_words words ≡ []
tail_rest word words true h = absurd (cc)
tail_rest word words false h = h

no_letter : (byte : ℕ) (words : List (List ℕ)) → (byte == 116) ≡ false → tail_words words ≡ [] → tail_words (onto_first byte words) ≡ []
no_letter byte [] other none =
    let differs : nat_eq 116 byte ≡ false = grind (arith, other) in
    ap (λ (b : Bool). if b && pointwise nat_eq [] [] then (byte ∷ []) ∷ [] else []) differs
no_letter byte (word ∷ words) other none =
    let differs : nat_eq 116 byte ≡ false = grind (arith, other) in
    ap (λ (b : Bool). if b && pointwise nat_eq [] word then (byte ∷ word) ∷ words else tail_words words) differs ∙ tail_rest word words (is_tail word) none

no_letters_by : (byte : ℕ) (bytes : List ℕ) (b : Bool) → is_space byte ≡ b → (byte == 116) ≡ false → tail_words (words_of bytes) ≡ [] → tail_words (words_of (byte ∷ bytes)) ≡ []
no_letters_by byte bytes true e other later = ap tail_words (slice_split-cons_yes is_space byte bytes e) ∙ later
no_letters_by byte bytes false e other later = ap tail_words (slice_split-cons_no is_space byte bytes e) ∙ no_letter byte (words_of bytes) other later

no_letters : (bytes : List ℕ) → ((k : ℕ) → k < length bytes → (get_or bytes k 0 == 116) ≡ false) → tail_words (words_of bytes) ≡ []
no_letters [] none = refl
no_letters (byte ∷ bytes) none =
    no_letters_by byte bytes (is_space byte) refl (none 0 (omega arith)) (no_letters bytes (λ k inside. none (suc k) (omega (arith, inside))))

not_true : (b : Bool) → (b ≡ true → ⊥) → b ≡ false
not_true true h = absurd (h refl)
not_true false h = refl

pub no-letter-tail : (line : List ℕ) → IsFirstByte (λ byte. byte == 116) line None → IsTailed line line None
no-letter-tail line none = no-tail-left line (no_letters line (λ k inside. not_true _ (none k (omega arith) inside)))

-- ---- a tail is said by its numbers
some_said : (dates : ℕ) (words : List (List ℕ)) → 1 ≤ length words → tail_said dates words ≡ weights_or (row_words dates 0 row.Tail true words)
some_said dates [] some = absurd (omega (arith, some))
some_said dates (word ∷ words) some = refl

pub tail-said : (dates : ℕ) (bytes : List ℕ) → tail_said dates (words_of bytes) ≡ weights_or (row_said dates 0 row.Tail true bytes)
tail-said dates bytes = some_said dates (words_of bytes) (some_words bytes)

pub tail-order : (dates : ℕ) (bytes numbers : List ℕ) (rising : Bool) → row_said dates 0 row.Tail true bytes ≡ Ok numbers → are_rising (sums_of (weights_of numbers)) ≡ rising →
    tail_said dates (words_of bytes) ≡ (if rising then Ok (weights_of numbers) else Err kind.Order)
tail-order dates bytes numbers rising said order =
    tail-said dates bytes ∙ ap weights_or said ∙ ap (λ (b : Bool). if b then Ok (weights_of numbers) else Err kind.Order) order
