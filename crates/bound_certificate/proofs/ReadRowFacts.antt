-- What the code finds of a line of a word and numbers.
use Rattle.std.proofs.Common.{◌≡◌, ◌∙◌, ℕ, ◌+◌, ◌*◌, ◌≤◌, Bool, true, false, ◌&&◌, not, nat_eq, if◌then◌else◌, List, [], ◌∷◌, length, count_by, decimal, ◌++◌, length-append, refl, sym, ap, arith, slice_index_or, Option, Some, None, option_and_then, option_map, Ok, Err}
use denote.Ref.{Bor}
use lib.Pointwise.{pointwise, bytes_decides}
use Rattle.std.proofs.lemmas.List.{length-map}
use Rattle.std.proofs.lemmas.List.Splits.{length-slice_split}
use Rattle.bound_certificate.specs.declared.fault.FaultKind.TheVariants as kind
use Rattle.bound_certificate.specs.declared.row.Row.{Row}
use Rattle.bound_certificate.specs.declared.row.Row.TheVariants as row
use Rattle.bound_certificate.specs.declared.limits.TheConstants.{MOST_DATES, MOST_NUMBERS}
use Rattle.line_words.specs.declared.range.Range.{Range}
use Rattle.bound_certificate.specs.Row.{AreReadTo, numbers_by, numbers_or, row_fits, row_range, row_said, row_word, row_words}
use Rattle.line_words.specs.Words.{is_space, number_in, parts_behind, words_of}
use Rattle.bound_certificate.proofs.TableFacts.{by-found}

-- a line begins with a row's word
pub record Begins (r : Row) (line first : List ℕ) (rest : Option (Bor (List ℕ))) : Type 0 where
  pub words : words_of line ≡ first ∷ parts_behind 32 rest
  pub named : first ≡ row_word r

pub spaces : (r : Row) (line first : List ℕ) (rest : Option (Bor (List ℕ))) → Begins r line first rest → length (parts_behind 32 rest) ≡ count_by is_space line
spaces r line first rest begins =
    let count : 1 + length (parts_behind 32 rest) ≡ count_by is_space line + 1 = omega (arith, sym (ap length begins.words), length-slice_split is_space line) in omega (arith, count)

pub named-row : (dates vectors : ℕ) (r : Row) (may : Bool) (line first : List ℕ) (rest : Option (Bor (List ℕ))) → Begins r line first rest →
    row_said dates vectors r may line
    ≡ (if not (may && row_fits dates r (count_by is_space line)) then Err kind.Count else numbers_or (numbers_by (row_range dates vectors r) 1 (parts_behind 32 rest)))
named-row dates vectors r may line first rest begins =
    let others : List (List ℕ) = parts_behind 32 rest in
    let named : pointwise nat_eq (row_word r) first ≡ true = (bytes_decides (row_word r) first).1 (sym begins.named) in
    ap (λ (ws : List (List ℕ)). row_words dates vectors r may ws) begins.words
    ∙ ap (λ (b : Bool). if not b then Err kind.Header else if not (may && row_fits dates r (length others)) then Err kind.Count
    else numbers_or (numbers_by (row_range dates vectors r) 1 others)) named
    ∙ ap (λ (k : ℕ). if not (may && row_fits dates r k) then Err kind.Count else numbers_or (numbers_by (row_range dates vectors r) 1 others))
    (spaces r line first rest begins)

no_may : (b c : Bool) → b ≡ false → (b && c) ≡ false
no_may true c h = absurd (cc)
no_may false c h = refl

no_fit : (b c : Bool) → c ≡ false → (b && c) ≡ false
no_fit true c h = h
no_fit false c h = refl

count_by_test : (dates vectors : ℕ) (r : Row) (may : Bool) (line first : List ℕ) (rest : Option (Bor (List ℕ))) → Begins r line first rest →
    (may && row_fits dates r (count_by is_space line)) ≡ false → row_said dates vectors r may line ≡ Err kind.Count
count_by_test dates vectors r may line first rest begins h =
    named-row dates vectors r may line first rest begins
    ∙ ap (λ (b : Bool). if not b then Err kind.Count else numbers_or (numbers_by (row_range dates vectors r) 1 (parts_behind 32 rest))) h

pub closed-row : (dates vectors : ℕ) (r : Row) (may : Bool) (line first : List ℕ) (rest : Option (Bor (List ℕ))) → Begins r line first rest → may ≡ false →
    row_said dates vectors r may line ≡ Err kind.Count
closed-row dates vectors r may line first rest begins h = count_by_test dates vectors r may line first rest begins (no_may may (row_fits dates r (count_by is_space line)) h)

pub unfit-row : (dates vectors : ℕ) (r : Row) (may : Bool) (line first : List ℕ) (rest : Option (Bor (List ℕ))) → Begins r line first rest →
    row_fits dates r (count_by is_space line) ≡ false → row_said dates vectors r may line ≡ Err kind.Count
unfit-row dates vectors r may line first rest begins h = count_by_test dates vectors r may line first rest begins (no_fit may (row_fits dates r (count_by is_space line)) h)

pub fit-row : (dates vectors : ℕ) (r : Row) (may : Bool) (line first : List ℕ) (rest : Option (Bor (List ℕ))) → Begins r line first rest → may ≡ true →
    row_fits dates r (count_by is_space line) ≡ true → row_said dates vectors r may line ≡ numbers_or (numbers_by (row_range dates vectors r) 1 (parts_behind 32 rest))
fit-row dates vectors r may line first rest begins allowed fits =
    named-row dates vectors r may line first rest begins
    ∙ ap (λ (b : Bool). if not (b && row_fits dates r (count_by is_space line)) then Err kind.Count else numbers_or (numbers_by (row_range dates vectors r) 1 (parts_behind 32 rest))) allowed
    ∙ ap (λ (b : Bool). if not b then Err kind.Count else numbers_or (numbers_by (row_range dates vectors r) 1 (parts_behind 32 rest))) fits

-- a line has at most so many numbers
pub few-numbers : (dates count : ℕ) (r : Row) → dates ≤ MOST_DATES → row_fits dates r count ≡ true → count ≤ MOST_NUMBERS
few-numbers dates count (row.Portfolio most) few fits = let same : count ≡ 1 = grind (arith, fits) in omega (arith, same)
few-numbers dates count (row.Buy least) few fits = let same : count ≡ 2 = grind (arith, fits) in omega (arith, same)
few-numbers dates count (row.Gap most) few fits = let same : count ≡ 1 = grind (arith, fits) in omega (arith, same)
few-numbers dates count row.Vectors few fits = let same : count ≡ 1 = grind (arith, fits) in omega (arith, same)
few-numbers dates count row.Vector few fits = let same : count ≡ dates = grind (arith, fits) in omega (arith, same, few)
few-numbers dates count row.Nodes few fits = let same : count ≡ 1 = grind (arith, fits) in omega (arith, same)
few-numbers dates count row.Split few fits = let same : count ≡ 2 = grind (arith, fits) in omega (arith, same)
few-numbers dates count row.SumSplit few fits = let same : count ≡ 2 = grind (arith, fits) in omega (arith, same)
few-numbers dates count row.Point few fits = let same : count ≡ 0 = grind (arith, fits) in omega (arith, same)
few-numbers dates count (row.Leaf how) few fits = let same : count ≤ 3 + 2 * dates = grind (arith, fits) in omega (arith, same, few)
few-numbers dates count row.Priced few fits = let same : count ≡ 2 + dates = grind (arith, fits) in omega (arith, same, few)
few-numbers dates count row.Tail few fits = let same : count ≤ 192 = grind (arith, fits) in omega (arith, same)
few-numbers dates count row.End few fits = let same : count ≡ 0 = grind (arith, fits) in omega (arith, same)

-- as many words as numbers
found_count : (range : ℕ → Range) (place : ℕ) (words : List (List ℕ)) (numbers : List ℕ) → numbers_by range place words ≡ Some numbers → length words ≡ length numbers
found_count range place words numbers h = let are = by-found range place words numbers h in ap length are.texts ∙ length-map numbers decimal

many_by : (range : ℕ → Range) (words left : List (List ℕ)) (numbers : List ℕ) (o : Option (List ℕ)) → numbers_by range (length numbers + 1) left ≡ o → AreReadTo range words numbers left →
    MOST_NUMBERS ≤ length numbers → 1 ≤ length left → length words ≤ MOST_NUMBERS → numbers_by range 1 words ≡ None
many_by range words left numbers None e read many some few = read ∙ ap (λ (o : Option (List ℕ)). option_map (λ others. numbers ++ others) o) e
many_by range words left numbers (Some others) e read many some few =
    let all : numbers_by range 1 words ≡ Some (numbers ++ others) = read ∙ ap (λ (o : Option (List ℕ)). option_map (λ others. numbers ++ others) o) e in
    absurd (omega (
      arith,
      many,
      some,
      few,
      found_count range 1 words (numbers ++ others) all,
      found_count range (length numbers + 1) left others e,
      length-append numbers others,
    ))

-- a line with more words than any right one
pub read-many : (range : ℕ → Range) (words left : List (List ℕ)) (numbers : List ℕ) → AreReadTo range words numbers left → MOST_NUMBERS ≤ length numbers → 1 ≤ length left →
    length words ≤ MOST_NUMBERS → numbers_by range 1 words ≡ None
read-many range words left numbers read many some few = many_by range words left numbers _ refl read many some few

-- the numbers of a line that begins with its word
pub row-ok : (dates vectors : ℕ) (r : Row) (may : Bool) (line first : List ℕ) (rest : Option (Bor (List ℕ))) (numbers : List ℕ) → Begins r line first rest → may ≡ true →
    numbers_by (row_range dates vectors r) 1 (parts_behind 32 rest) ≡ Some numbers → row_fits dates r (length numbers) ≡ true → row_said dates vectors r may line ≡ Ok numbers
row-ok dates vectors r may line first rest numbers begins allowed found fits =
    let count : count_by is_space line ≡ length numbers = sym (spaces r line first rest begins) ∙ found_count (row_range dates vectors r) 1 (parts_behind 32 rest) numbers found in
    fit-row dates vectors r may line first rest begins allowed (ap (λ (k : ℕ). row_fits dates r k) count ∙ fits) ∙ ap numbers_or found

pub row-unfit : (dates vectors : ℕ) (r : Row) (may : Bool) (line first : List ℕ) (rest : Option (Bor (List ℕ))) (numbers : List ℕ) → Begins r line first rest →
    numbers_by (row_range dates vectors r) 1 (parts_behind 32 rest) ≡ Some numbers → row_fits dates r (length numbers) ≡ false → row_said dates vectors r may line ≡ Err kind.Count
row-unfit dates vectors r may line first rest numbers begins found unfit =
    let count : count_by is_space line ≡ length numbers = sym (spaces r line first rest begins) ∙ found_count (row_range dates vectors r) 1 (parts_behind 32 rest) numbers found in
    unfit-row dates vectors r may line first rest begins (ap (λ (k : ℕ). row_fits dates r k) count ∙ unfit)

pub row-number : (dates vectors : ℕ) (r : Row) (may : Bool) (line first : List ℕ) (rest : Option (Bor (List ℕ))) → Begins r line first rest → dates ≤ MOST_DATES → may ≡ true →
    row_fits dates r (count_by is_space line) ≡ true → (length (parts_behind 32 rest) ≤ MOST_NUMBERS → numbers_by (row_range dates vectors r) 1 (parts_behind 32 rest) ≡ None) →
    row_said dates vectors r may line ≡ Err kind.Number
row-number dates vectors r may line first rest begins few allowed fits none =
    let short : length (parts_behind 32 rest) ≤ MOST_NUMBERS = omega (arith, spaces r line first rest begins, few-numbers dates (count_by is_space line) r few fits) in
    fit-row dates vectors r may line first rest begins allowed fits ∙ ap numbers_or (none short)

-- a comparison that found no difference
same_by : (b ne : Bool) → ne ≡ not b → ne ≡ false → b ≡ true
same_by true ne e h = refl
same_by false ne e h = absurd (cc)

pub begun-row : (r : Row) (line first word : List ℕ) (rest : Option (Bor (List ℕ))) (ne : Bool) → words_of line ≡ first ∷ parts_behind 32 rest → word ≡ row_word r →
    ne ≡ not (pointwise nat_eq first word) → ne ≡ false → Begins r line first rest
begun-row r line first word rest ne words written compared equal =
    record { words = words; named = (bytes_decides first word).0 (same_by _ ne compared equal) ∙ written }

-- a word that is no number of its place's range
pub no-number : (range : ℕ → Range) (place : ℕ) (words : List (List ℕ)) → 1 ≤ length words → number_in (range place) (slice_index_or words 0 []) ≡ None → numbers_by range place words ≡ None
no-number range place [] some none = absurd (omega (arith, some))
no-number range place (word ∷ words) some none =
    ap (λ (o : Option ℕ). option_and_then (λ number. option_map (λ numbers. number ∷ numbers) (numbers_by range (place + 1) words)) o) none
