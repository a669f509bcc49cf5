-- What the words of a line are, byte by byte.
use Rattle.std.proofs.Common.{◌≡◌, ◌∙◌, ℕ, ◌+◌, ◌-◌, ◌<◌, ◌≤◌, Bool, true, false, ◌==◌, ◌&&◌, nat_eq, nat_lt, if◌then◌else◌, min, ◌⊎◌, inl, inr, List, [], ◌∷◌, ◌++◌, length, refl, sym, subst, ap, arith, append_assoc}
use Rattle.std.specs.List.{fold, onto_first}
use lib.Pointwise.{pointwise}
use Rattle.std.proofs.lemmas.List.{append-nil, length-append}
use Rattle.std.proofs.lemmas.List.Elements.{All-append, All-cons, All-nil}
use Rattle.std.proofs.lemmas.List.Splits.{length-slice_split, slice_split_at, slice_split_none, slice_split-cons_no, slice_split-cons_yes}
use Rattle.bound_certificate.specs.declared.limits.TheConstants.{MOST_DATES, MOST_NUMBERS, WORDS_COUNTED}
use Rattle.bound_certificate.specs.declared.row.Row.{Row}
use Rattle.bound_certificate.specs.declared.row.Row.TheVariants as row
use Rattle.bound_certificate.specs.declared.weighing.Weighing.TheVariants as weighing
use Rattle.bound_certificate.specs.declared.seen.At.{At}
use Rattle.bound_certificate.specs.declared.seen.At.TheVariants as at
use Rattle.bound_certificate.specs.declared.seen.Seen.{Seen}
use Rattle.bound_certificate.specs.Grammar.{front_words, is_tail, tail_words}
use Rattle.bound_certificate.specs.LongLine.{IsCounted, at_byte, counted, seen_of, seen_with, tail_fits, word_ended, words_fit}
use Rattle.bound_certificate.specs.Row.{row_fits}
use Rattle.line_words.specs.Words.{is_space, words_of}
use Rattle.bound_certificate.proofs.ReadRowFacts.{few-numbers}
use Rattle.bound_certificate.proofs.RowFacts.{IsWord}
use Rattle.bound_certificate.proofs.TailFacts.{front-tail, no-tail}

-- ---- counting
many_by : (count words : ℕ) (b : Bool) → nat_lt count WORDS_COUNTED ≡ b → IsCounted count words → words < WORDS_COUNTED → WORDS_COUNTED ≤ count + 1 → WORDS_COUNTED ≤ words + 1
many_by count words true e is low h = let few : count < WORDS_COUNTED = grind (arith, e) in omega (arith, is.few few, h)
many_by count words false e is low h = let many : WORDS_COUNTED ≤ count = grind (arith, e) in absurd (omega (arith, is.many many, low))

counted_by : (count words : ℕ) (b : Bool) → nat_lt words WORDS_COUNTED ≡ b → IsCounted count words → IsCounted (count + 1) (if b then words + 1 else words)
counted_by count words true e is =
    let low : words < WORDS_COUNTED = grind (arith, e) in
    record {
      few = λ h. (let same : words ≡ count = is.few (omega (arith, h)) in omega (arith, same));
      many = λ h. many_by count words (nat_lt count WORDS_COUNTED) refl is low h;
    }
counted_by count words false e is =
    let high : WORDS_COUNTED ≤ words = grind (arith, e) in
    record { few = λ h. absurd (let same : words ≡ count = is.few (omega (arith, h)) in omega (arith, same, high, h)); many = λ h. high }

one_counted : (count words : ℕ) → IsCounted count words → IsCounted (count + 1) (counted words)
one_counted count words is = counted_by count words (nat_lt words WORDS_COUNTED) refl is

none_counted : IsCounted 0 0
none_counted = record { few = λ h. refl; many = λ h. h }

as_counted : (count other words : ℕ) → count ≡ other → IsCounted count words → IsCounted other words
as_counted count other words same is = let P : ℕ → Type 0 = λ k. IsCounted k words in subst P same is

-- ---- a word so far
-- where the last byte of a word stands that has begun so
abbrev Stands : At → List ℕ → Type 0
Stands at.Start begun = begun ≡ []
Stands at.Letter begun = begun ≡ 116 ∷ []
Stands at.Within begun = (more : List ℕ) → is_tail (begun ++ more) ≡ false
Stands at.Tail begun = ⊥

other_tail : (byte : ℕ) (more : List ℕ) → (byte == 116) ≡ false → is_tail (byte ∷ more) ≡ false
other_tail byte more e = let no : nat_eq 116 byte ≡ false = grind (arith, e) in ap (λ (b : Bool). b && pointwise nat_eq [] more) no

begins_by : (byte : ℕ) (b : Bool) → (byte == 116) ≡ b → Stands (if b then at.Letter else at.Within) (byte ∷ [])
begins_by byte true e = let same : byte ≡ 116 = grind (arith, e) in ap (λ (k : ℕ). k ∷ []) same
begins_by byte false e = λ more. other_tail byte more e

stands_more : (a : At) (begun : List ℕ) (byte : ℕ) → Stands a begun → Stands (at_byte a byte) (begun ++ byte ∷ [])
stands_more at.Start begun byte is =
    let P : List ℕ → Type 0 = λ bs. Stands (at_byte at.Start byte) (bs ++ byte ∷ []) in subst P (sym is) (begins_by byte (byte == 116) refl)
stands_more at.Letter begun byte is =
    let P : List ℕ → Type 0 = λ bs. (more : List ℕ) → is_tail ((bs ++ byte ∷ []) ++ more) ≡ false in subst P (sym is) (λ more. refl)
stands_more at.Within begun byte is = λ more. ap is_tail (append_assoc begun (byte ∷ []) more) ∙ is (byte ∷ more)
stands_more at.Tail begun byte is = absurd is

-- ---- words and what was seen of them
-- the words of a line, of which so many came before
abbrev EndsAt : At → ℕ → List (List ℕ) → ℕ → ℕ → Type 0
EndsAt at.Start n words front tail = (tail_words words ≡ []) × IsCounted (n + length (front_words words) - 1) front × (tail ≡ 0)
EndsAt at.Within n words front tail = (tail_words words ≡ []) × IsCounted (n + length (front_words words) - 1) front × (tail ≡ 0)
EndsAt at.Letter n words front tail = (1 ≤ length (tail_words words)) × IsCounted (n + length (front_words words)) front × IsCounted (length (tail_words words) - 1) tail
EndsAt at.Tail n words front tail = (1 ≤ length (tail_words words)) × IsCounted (n + length (front_words words)) front × IsCounted (length (tail_words words) - 1) tail

abbrev pub Ends : ℕ → List (List ℕ) → Seen → Type 0
Ends n words seen = EndsAt seen.at n words seen.front seen.tail

front_one : (word : List ℕ) (words : List (List ℕ)) → is_tail word ≡ false → front_words (word ∷ words) ≡ word ∷ front_words words
front_one word words other = ap (λ (b : Bool). if b then [] else word ∷ front_words words) other

tail_one : (word : List ℕ) (words : List (List ℕ)) → is_tail word ≡ false → tail_words (word ∷ words) ≡ tail_words words
tail_one word words other = ap (λ (b : Bool). if b then word ∷ words else tail_words words) other

-- a word more before the others
word_before : (a : At) (n : ℕ) (word : List ℕ) (words : List (List ℕ)) (front tail : ℕ) → is_tail word ≡ false → EndsAt a (n + 1) words front tail → EndsAt a n (word ∷ words) front tail
word_before at.Start n word words front tail other ends =
    (tail_one word words other ∙ ends.0, as_counted _ _ front (omega (arith, ap length (front_one word words other))) ends.1, ends.2)
word_before at.Within n word words front tail other ends =
    (tail_one word words other ∙ ends.0, as_counted _ _ front (omega (arith, ap length (front_one word words other))) ends.1, ends.2)
word_before at.Letter n word words front tail other ends =
    let same : length (tail_words (word ∷ words)) ≡ length (tail_words words) = ap length (tail_one word words other) in
    (omega (arith, same, ends.0), as_counted _ _ front (omega (arith, ap length (front_one word words other))) ends.1, as_counted _ _ tail (omega (arith, same)) ends.2)
word_before at.Tail n word words front tail other ends =
    let same : length (tail_words (word ∷ words)) ≡ length (tail_words words) = ap length (tail_one word words other) in
    (omega (arith, same, ends.0), as_counted _ _ front (omega (arith, ap length (front_one word words other))) ends.1, as_counted _ _ tail (omega (arith, same)) ends.2)

-- ---- from the tail on
record TailSeen (front count : ℕ) (seen : Seen) : Type 0 where
  at_is : seen.at ≡ at.Tail
  front_is : seen.front ≡ front
  tail_is : IsCounted count seen.tail

some_words : (bytes : List ℕ) → 1 ≤ length (words_of bytes)
some_words bytes = omega (arith, length-slice_split is_space bytes)

onto_length : (byte : ℕ) (words : List (List ℕ)) → 1 ≤ length words → length (onto_first byte words) ≡ length words
onto_length byte [] some = absurd (omega (arith, some))
onto_length byte (word ∷ words) some = refl

tail_seen_by : (bytes : List ℕ) (byte front tail count : ℕ) (b : Bool) → is_space byte ≡ b → IsCounted count tail →
    ((next more : ℕ) → IsCounted more next → TailSeen front (more + length (words_of bytes) - 1) (fold seen_with (record { front = front; tail = next; at = at.Tail }) bytes)) →
    TailSeen front (count + length (words_of (byte ∷ bytes)) - 1)
    (fold seen_with (if b then record { front = front; tail = counted tail; at = at.Tail } else record { front = front; tail = tail; at = at.Tail }) bytes)
tail_seen_by bytes byte front tail count true e is later =
    let seen = later (counted tail) (count + 1) (one_counted count tail is) in
    record {
      at_is = seen.at_is;
      front_is = seen.front_is;
      tail_is = as_counted _ _ _ (omega (arith, ap length (slice_split-cons_yes is_space byte bytes e), some_words bytes)) seen.tail_is;
    }
tail_seen_by bytes byte front tail count false e is later =
    let seen = later tail count is in
    record {
      at_is = seen.at_is;
      front_is = seen.front_is;
      tail_is = as_counted _ _ _ (omega (arith, ap length (slice_split-cons_no is_space byte bytes e), onto_length byte (words_of bytes) (some_words bytes))) seen.tail_is;
    }

tail_seen : (bytes : List ℕ) (front tail count : ℕ) → IsCounted count tail →
    TailSeen front (count + length (words_of bytes) - 1) (fold seen_with (record { front = front; tail = tail; at = at.Tail }) bytes)
tail_seen [] front tail count is = record { at_is = refl; front_is = refl; tail_is = as_counted _ _ tail (omega arith) is }
tail_seen (byte ∷ bytes) front tail count is = tail_seen_by bytes byte front tail count (is_space byte) refl is (λ next more counts. tail_seen bytes front next more counts)

tail_ends : (n : ℕ) (words : List (List ℕ)) (front : ℕ) (seen : Seen) → TailSeen front (length (tail_words words) - 1) seen → 1 ≤ length (tail_words words) →
    IsCounted (n + length (front_words words)) front → Ends n words seen
tail_ends n words front seen tail some is =
    let P : At → Type 0 = λ a. EndsAt a n words seen.front seen.tail in
    let Q : ℕ → Type 0 = λ k. IsCounted (n + length (front_words words)) k in
    subst P (sym tail.at_is) (some, subst Q (sym tail.front_is) is, tail.tail_is)

-- ---- before the tail
word_ends : (a : At) (begun : List ℕ) (front n : ℕ) → Stands a begun → IsCounted n front → EndsAt a n (begun ∷ []) front 0
word_ends at.Start begun front n is counts =
    let P : List ℕ → Type 0 = λ bs. EndsAt at.Start n (bs ∷ []) front 0 in subst P (sym is) (refl, as_counted _ _ front (omega arith) counts, refl)
word_ends at.Letter begun front n is counts =
    let P : List ℕ → Type 0 = λ bs. EndsAt at.Letter n (bs ∷ []) front 0 in subst P (sym is) (omega arith, as_counted _ _ front (omega arith) counts, none_counted)
word_ends at.Within begun front n is counts =
    let other : is_tail begun ≡ false = ap is_tail (sym (append-nil begun)) ∙ is [] in
    (tail_one begun [] other, as_counted _ _ front (omega (arith, ap length (front_one begun [] other))) counts, refl)
word_ends at.Tail begun front n is counts = absurd is

abbrev SeenFrom : ℕ → At → Seen
SeenFrom front a = record { front = front; tail = 0; at = a }

-- a word ends, and others follow
space_ends : (a : At) (begun bytes : List ℕ) (front n : ℕ) → Stands a begun → IsCounted n front →
    ((next more : ℕ) → IsCounted more next → Ends more (words_of bytes) (fold seen_with (SeenFrom next at.Start) bytes)) →
    Ends n (begun ∷ words_of bytes) (fold seen_with (seen_with (SeenFrom front a) 32) bytes)
space_ends at.Start begun bytes front n is counts later =
    let seen : Seen = fold seen_with (SeenFrom (counted front) at.Start) bytes in
    let other : is_tail begun ≡ false = ap is_tail is in
    word_before seen.at n begun (words_of bytes) seen.front seen.tail other (later (counted front) (n + 1) (one_counted n front counts))
space_ends at.Within begun bytes front n is counts later =
    let seen : Seen = fold seen_with (SeenFrom (counted front) at.Start) bytes in
    let other : is_tail begun ≡ false = ap is_tail (sym (append-nil begun)) ∙ is [] in
    word_before seen.at n begun (words_of bytes) seen.front seen.tail other (later (counted front) (n + 1) (one_counted n front counts))
space_ends at.Letter begun bytes front n is counts later =
    let P : List ℕ → Type 0 = λ bs. Ends n (bs ∷ words_of bytes) (fold seen_with (seen_with (SeenFrom front at.Letter) 32) bytes) in
    let seen = tail_seen bytes front 1 1 (one_counted 0 0 none_counted) in
    let tail : TailSeen front (length ((116 ∷ []) ∷ words_of bytes) - 1) (fold seen_with (record { front = front; tail = 1; at = at.Tail }) bytes) = record {
      at_is = seen.at_is;
      front_is = seen.front_is;
      tail_is = as_counted _ _ _ (omega arith) seen.tail_is;
    } in
    subst P (sym is) (tail_ends n ((116 ∷ []) ∷ words_of bytes) front _ tail (omega arith) (as_counted _ _ front (omega arith) counts))
space_ends at.Tail begun bytes front n is counts later = absurd is

same_space : (byte : ℕ) → is_space byte ≡ true → byte ≡ 32
same_space byte e = grind (arith, e)

byte_ends : (a : At) (begun bytes : List ℕ) (byte front n : ℕ) (b : Bool) → is_space byte ≡ b → IsWord begun → Stands a begun → IsCounted n front →
    ((other : At) (before : List ℕ) (next more : ℕ) → IsWord before → Stands other before → IsCounted more next → Ends more (words_of (before ++ bytes)) (fold seen_with (SeenFrom next other) bytes)) →
    Ends n (words_of (begun ++ byte ∷ bytes)) (fold seen_with (seen_with (SeenFrom front a) byte) bytes)
byte_ends a begun bytes byte front n true e word is counts later =
    let P : List (List ℕ) → Type 0 = λ ws. Ends n ws (fold seen_with (seen_with (SeenFrom front a) byte) bytes) in
    let Q : ℕ → Type 0 = λ k. Ends n (begun ∷ words_of bytes) (fold seen_with (seen_with (SeenFrom front a) k) bytes) in
    subst P (sym (slice_split_at is_space begun byte bytes word e))
    (subst Q (sym (same_space byte e)) (space_ends a begun bytes front n is counts (λ next more c. later at.Start [] next more (All-nil (λ b. is_space b ≡ false)) refl c)))
byte_ends a begun bytes byte front n false e word is counts later =
    let P : List ℕ → Type 0 = λ bs. Ends n (words_of bs) (fold seen_with (seen_with (SeenFrom front a) byte) bytes) in
    let Q : Seen → Type 0 = λ s. Ends n (words_of ((begun ++ byte ∷ []) ++ bytes)) (fold seen_with s bytes) in
    let next : SeenFrom front (at_byte a byte) ≡ seen_with (SeenFrom front a) byte = sym (ap (λ (b : Bool). if b then word_ended (SeenFrom front a) a else SeenFrom front (at_byte a byte)) e) in
    subst P (append_assoc begun (byte ∷ []) bytes)
    (subst Q next (later (at_byte a byte) (begun ++ byte ∷ []) front n
    (All-append (λ b. is_space b ≡ false) begun (byte ∷ []) word (All-cons (λ b. is_space b ≡ false) byte [] e (All-nil (λ b. is_space b ≡ false)))) (stands_more a begun byte is) counts))

seen_ends : (bytes : List ℕ) (a : At) (begun : List ℕ) (front n : ℕ) → IsWord begun → Stands a begun → IsCounted n front →
    Ends n (words_of (begun ++ bytes)) (fold seen_with (SeenFrom front a) bytes)
seen_ends [] a begun front n word is counts =
    let P : List (List ℕ) → Type 0 = λ ws. EndsAt a n ws front 0 in
    let one : words_of (begun ++ []) ≡ begun ∷ [] = ap words_of (append-nil begun) ∙ slice_split_none is_space begun word in
    subst P (sym one) (word_ends a begun front n is counts)
seen_ends (byte ∷ bytes) a begun front n word is counts =
    byte_ends a begun bytes byte front n (is_space byte) refl word is counts (λ other before next more w s c. seen_ends bytes other before next more w s c)

pub line-ends : (line : List ℕ) → Ends 0 (words_of line) (seen_of line)
line-ends line = seen_ends line at.Start [] 0 0 (All-nil (λ b. is_space b ≡ false)) refl none_counted

-- ---- whether so many words make a line
-- so many words as don't fit need not be counted
unfit_by : (dates count : ℕ) (r : Row) (b : Bool) → row_fits dates r count ≡ b → dates ≤ MOST_DATES → MOST_NUMBERS < count → b ≡ false
unfit_by dates count r false e few many = refl
unfit_by dates count r true e few many = absurd (omega (arith, many, few-numbers dates count r few e))

fits_by : (dates count words less : ℕ) (r : Row) (b : Bool) → nat_lt count WORDS_COUNTED ≡ b → IsCounted count words → dates ≤ MOST_DATES → less ≤ 1 →
    row_fits dates r (words - less) ≡ row_fits dates r (count - less)
fits_by dates count words less r true e is few low = let small : count < WORDS_COUNTED = grind (arith, e) in ap (λ (k : ℕ). row_fits dates r (k - less)) (is.few small)
fits_by dates count words less r false e is few low =
    let many : WORDS_COUNTED ≤ count = grind (arith, e) in
    unfit_by dates (words - less) r _ refl few (omega (arith, is.many many, low)) ∙ sym (unfit_by dates (count - less) r _ refl few (omega (arith, many, low)))

same_fits : (dates count words less : ℕ) (r : Row) → IsCounted count words → dates ≤ MOST_DATES → less ≤ 1 → row_fits dates r (words - less) ≡ row_fits dates r (count - less)
same_fits dates count words less r is few low = fits_by dates count words less r (nat_lt count WORDS_COUNTED) refl is few low

sum_many : (a b x y : ℕ) (low small : Bool) → nat_lt a WORDS_COUNTED ≡ low → nat_lt b WORDS_COUNTED ≡ small → IsCounted a x → IsCounted b y →
    WORDS_COUNTED ≤ a + b → WORDS_COUNTED ≤ x + y
sum_many a b x y true true e f first second h =
    let one : a < WORDS_COUNTED = grind (arith, e) in
    let two : b < WORDS_COUNTED = grind (arith, f) in omega (arith, first.few one, second.few two, h)
sum_many a b x y false small e f first second h = let one : WORDS_COUNTED ≤ a = grind (arith, e) in omega (arith, first.many one)
sum_many a b x y true false e f first second h = let two : WORDS_COUNTED ≤ b = grind (arith, f) in omega (arith, second.many two)

same_whole : (dates count words : ℕ) (r : Row) → IsCounted count words → dates ≤ MOST_DATES → row_fits dates r words ≡ row_fits dates r count
same_whole dates count words r is few =
    let one : words ≡ words - 0 = omega arith in
    let two : count - 0 ≡ count = omega arith in
    ap (λ (k : ℕ). row_fits dates r k) one ∙ same_fits dates count words 0 r is few (omega arith) ∙ ap (λ (k : ℕ). row_fits dates r k) two

counted_sum : (a b x y : ℕ) → IsCounted a x → IsCounted b y → IsCounted (a + b) (x + y)
counted_sum a b x y first second = record {
  few = λ h. (let one : x ≡ a = first.few (omega (arith, h)) in let two : y ≡ b = second.few (omega (arith, h)) in omega (arith, one, two));
  many = λ h. sum_many a b x y (nat_lt a WORDS_COUNTED) (nat_lt b WORDS_COUNTED) refl refl first second h;
}

-- all words of a line
all_by : (a : At) (words : List (List ℕ)) (front tail : ℕ) → EndsAt a 0 words front tail → 1 ≤ length words → IsCounted (length words - 1) (front + tail)
all_by at.Start words front tail ends some =
    let same : front_words words ≡ words = no-tail words ends.0 in
    let Q : ℕ → Type 0 = λ k. IsCounted (length words - 1) k in
    subst Q (omega (arith, ends.2)) (as_counted _ _ front (omega (arith, ap length same)) ends.1)
all_by at.Within words front tail ends some =
    let same : front_words words ≡ words = no-tail words ends.0 in
    let Q : ℕ → Type 0 = λ k. IsCounted (length words - 1) k in
    subst Q (omega (arith, ends.2)) (as_counted _ _ front (omega (arith, ap length same)) ends.1)
all_by at.Letter words front tail ends some =
    let whole : length (front_words words) + length (tail_words words) ≡ length words = sym (length-append (front_words words) (tail_words words)) ∙ ap length (front-tail words) in
    as_counted _ _ (front + tail) (omega (arith, whole, ends.0)) (counted_sum _ _ front tail ends.1 ends.2)
all_by at.Tail words front tail ends some =
    let whole : length (front_words words) + length (tail_words words) ≡ length words = sym (length-append (front_words words) (tail_words words)) ∙ ap length (front-tail words) in
    as_counted _ _ (front + tail) (omega (arith, whole, ends.0)) (counted_sum _ _ front tail ends.1 ends.2)

pub all-words : (dates : ℕ) (r : Row) (seen : Seen) (line : List ℕ) (sum : ℕ) → seen ≡ seen_of line → dates ≤ MOST_DATES →
    (seen.front + seen.tail < WORDS_COUNTED → sum ≡ seen.front + seen.tail) → (WORDS_COUNTED ≤ seen.front + seen.tail → WORDS_COUNTED ≤ sum) →
    row_fits dates r sum ≡ row_fits dates r (length (words_of line) - 1)
all-words dates r seen line sum same short few many =
    let P : Seen → Type 0 = λ s. IsCounted (length (words_of line) - 1) (s.front + s.tail) in
    let own : Seen = seen_of line in
    let all : IsCounted (length (words_of line) - 1) (seen.front + seen.tail) =
    subst P (sym same) (all_by own.at (words_of line) own.front own.tail (line-ends line) (some_words line)) in
    same_whole dates (length (words_of line) - 1) sum r (record {
      few = λ h. (let is : seen.front + seen.tail ≡ length (words_of line) - 1 = all.few h in few (omega (arith, is, h)) ∙ is);
      many = λ h. many (all.many h);
    }) short

-- a leaf of version 3
no_and : (b c : Bool) → c ≡ true → b ≡ (b && c)
no_and true c h = sym h
no_and false c h = refl

tail_some : (dates : ℕ) (words : List (List ℕ)) → 1 ≤ length words → tail_fits dates words ≡ row_fits dates row.Tail (length words - 1)
tail_some dates [] some = absurd (omega (arith, some))
tail_some dates (word ∷ words) some =
    let same : length words ≡ length (word ∷ words) - 1 = omega arith in ap (λ (k : ℕ). row_fits dates row.Tail k) same

pub ends-of : (a : At) (seen : Seen) (line : List ℕ) → seen ≡ seen_of line → seen.at ≡ a → EndsAt a 0 (words_of line) seen.front seen.tail
ends-of a seen line same here =
    let P : Seen → Type 0 = λ s. Ends 0 (words_of line) s in
    let Q : At → Type 0 = λ x. EndsAt x 0 (words_of line) seen.front seen.tail in subst Q here (subst P (sym same) (line-ends line))

abbrev LEAF : Row
LEAF = row.Leaf weighing.Number

pub bare-fits : (dates front tail : ℕ) (words : List (List ℕ)) → dates ≤ MOST_DATES → EndsAt at.Start 0 words front tail → row_fits dates LEAF front ≡ words_fit dates LEAF words
bare-fits dates front tail words short ends =
    same_whole dates (length (front_words words) - 1) front LEAF (as_counted _ _ front (omega arith) ends.1) short ∙ no_and _ (tail_fits dates (tail_words words)) (ap (λ (ws : List (List ℕ)). tail_fits dates ws) ends.0)

pub tailed-fits : (dates front tail : ℕ) (words : List (List ℕ)) → dates ≤ MOST_DATES → EndsAt at.Tail 0 words front tail →
    (row_fits dates LEAF (front - 1) && row_fits dates row.Tail tail) ≡ words_fit dates LEAF words
tailed-fits dates front tail words short ends =
    ap (λ (b : Bool). b && row_fits dates row.Tail tail) (same_fits dates (length (front_words words)) front 1 LEAF (as_counted _ _ front (omega arith) ends.1) short (omega arith))
    ∙ ap (λ (b : Bool). row_fits dates LEAF (length (front_words words) - 1) && b)
    (same_whole dates (length (tail_words words) - 1) tail row.Tail ends.2 short ∙ sym (tail_some dates (tail_words words) ends.0))

pub leaf-bare : (dates : ℕ) (seen : Seen) (line : List ℕ) → (seen.at ≡ at.Start) ⊎ (seen.at ≡ at.Within) → seen ≡ seen_of line → dates ≤ MOST_DATES →
    row_fits dates LEAF seen.front ≡ words_fit dates LEAF (words_of line)
leaf-bare dates seen line (inl here) same short = bare-fits dates seen.front seen.tail (words_of line) short (ends-of at.Start seen line same here)
leaf-bare dates seen line (inr here) same short = bare-fits dates seen.front seen.tail (words_of line) short (ends-of at.Within seen line same here)

pub leaf-tailed : (dates : ℕ) (seen : Seen) (line : List ℕ) → (seen.at ≡ at.Letter) ⊎ (seen.at ≡ at.Tail) → seen ≡ seen_of line → dates ≤ MOST_DATES →
    (row_fits dates LEAF (seen.front - 1) && row_fits dates row.Tail seen.tail) ≡ words_fit dates LEAF (words_of line)
leaf-tailed dates seen line (inl here) same short = tailed-fits dates seen.front seen.tail (words_of line) short (ends-of at.Letter seen line same here)
leaf-tailed dates seen line (inr here) same short = tailed-fits dates seen.front seen.tail (words_of line) short (ends-of at.Tail seen line same here)

-- other lines have no tail
pub no-leaf-fits : (dates : ℕ) (r : Row) (words : List (List ℕ)) → (r ≡ LEAF → ⊥) → words_fit dates r words ≡ row_fits dates r (length words - 1)
no-leaf-fits dates (row.Portfolio most) words other = refl
no-leaf-fits dates (row.Buy least) words other = refl
no-leaf-fits dates (row.Gap most) words other = refl
no-leaf-fits dates row.Vectors words other = refl
no-leaf-fits dates row.Vector words other = refl
no-leaf-fits dates row.Nodes words other = refl
no-leaf-fits dates row.Split words other = refl
no-leaf-fits dates row.SumSplit words other = refl
no-leaf-fits dates row.Point words other = refl
no-leaf-fits dates row.Priced words other = refl
no-leaf-fits dates (row.Leaf weighing.WholeOrNone) words other = refl
no-leaf-fits dates (row.Leaf weighing.Number) words other = absurd (other refl)
no-leaf-fits dates row.Tail words other = refl
no-leaf-fits dates row.End words other = refl

pub sum-few : (sum front tail : ℕ) → sum ≡ min (front + tail) 18446744073709551615 → front + tail < WORDS_COUNTED → sum ≡ front + tail
sum-few sum front tail is few = omega (arith, is, few)

pub sum-many : (sum front tail : ℕ) → sum ≡ min (front + tail) 18446744073709551615 → WORDS_COUNTED ≤ front + tail → WORDS_COUNTED ≤ sum
sum-many sum front tail is many = omega (arith, is, many)

pub leaf-row-fits : (dates : ℕ) (r : Row) (words : List (List ℕ)) → r ≡ LEAF → words_fit dates LEAF words ≡ words_fit dates r words
leaf-row-fits dates r words same = ap (λ (x : Row). words_fit dates x words) (sym same)
