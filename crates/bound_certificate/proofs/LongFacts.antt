-- A line that is longer than any right one.
use Rattle.std.proofs.Common.{◌≡◌, ◌∙◌, ℕ, ◌+◌, ◌-◌, ◌*◌, ◌<◌, ◌≤◌, Bool, true, false, ◌&&◌, not, nat_eq, if◌then◌else◌, List, [], ◌∷◌, ◌++◌, length, drop, map, count_by, refl, sym, ap, arith, subst, Option, Some, None, Result, Ok, Err, slice_index_or, decimal, codes}
use Rattle.std.specs.List.{join_with_byte, onto_first}
use lib.Pointwise.{pointwise, bytes_decides}
use Rattle.std.proofs.lemmas.Fmt.{length-decimal-le}
use Rattle.std.proofs.lemmas.List.{length-append, length-take-le, take-append-drop}
use Rattle.std.proofs.lemmas.List.Splits.{join_with_byte-slice_split, length-slice_split, slice_split-cons_no, slice_split-cons_yes}
use Rattle.bound_certificate.specs.declared.due.Due.TheVariants as due
use Rattle.line_words.specs.declared.range.Range.{Range}
use Rattle.bound_certificate.specs.declared.fault.FaultKind.{FaultKind}
use Rattle.bound_certificate.specs.declared.fault.FaultKind.TheVariants as kind
use Rattle.bound_certificate.specs.declared.limits.TheConstants.{LINE_ROOM, MOST_DATES, MOST_NUMBERS}
use Rattle.bound_certificate.specs.declared.row.Row.{Row}
use Rattle.bound_certificate.specs.declared.row.Row.TheVariants as row
use Rattle.bound_certificate.specs.declared.line.Line.TheVariants as line_of
use Rattle.bound_certificate.specs.declared.version.Version.{Version}
use Rattle.bound_certificate.specs.declared.version.Version.TheVariants as version
use Rattle.bound_certificate.specs.declared.weighing.Weighing.TheVariants as weighing
use Rattle.bound_certificate.specs.Grammar.{begins_with, has_sums, leaf_row, line_said, node_row, row_line, said_or, title_version, title_weighing, title_word}
use Rattle.bound_certificate.specs.LongLine.{IsLongLine}
use Rattle.bound_certificate.specs.declared.seen.Seen.{Seen}
use Rattle.bound_certificate.specs.Row.{numbers_by, numbers_or, row_fits, row_range, row_said, row_word, row_words}
use Rattle.line_words.specs.Words.{first_word, is_space, words_of}
use Rattle.line_words.proofs.LaneFacts.{less}
use Rattle.bound_certificate.proofs.ReadRowFacts.{few-numbers}
use Rattle.bound_certificate.proofs.RowFacts.{AreWritten}
use Rattle.bound_certificate.proofs.TableFacts.{by-found}

-- the first word of bytes, byte by byte
first_onto : (byte : ℕ) (words : List (List ℕ)) → slice_index_or (onto_first byte words) 0 [] ≡ byte ∷ slice_index_or words 0 []
first_onto byte [] = refl
first_onto byte (word ∷ words) = refl

first_space : (byte : ℕ) (bytes : List ℕ) → is_space byte ≡ true → first_word (byte ∷ bytes) ≡ []
first_space byte bytes e = ap (λ (ws : List (List ℕ)). slice_index_or ws 0 []) (slice_split-cons_yes is_space byte bytes e)

first_byte : (byte : ℕ) (bytes : List ℕ) → is_space byte ≡ false → first_word (byte ∷ bytes) ≡ byte ∷ first_word bytes
first_byte byte bytes e = ap (λ (ws : List (List ℕ)). slice_index_or ws 0 []) (slice_split-cons_no is_space byte bytes e) ∙ first_onto byte (words_of bytes)

-- whether a word begins bytes is told by more of them than it has
head_by : (word : List ℕ) (byte : ℕ) (bytes more : List ℕ) (b : Bool) → is_space byte ≡ b →
    ((x : ℕ) (rest : List ℕ) → word ≡ x ∷ rest → pointwise nat_eq rest (first_word (bytes ++ more)) ≡ pointwise nat_eq rest (first_word bytes)) →
    pointwise nat_eq word (first_word (byte ∷ bytes ++ more)) ≡ pointwise nat_eq word (first_word (byte ∷ bytes))
head_by word byte bytes more true e later =
    ap (λ (w : List ℕ). pointwise nat_eq word w) (first_space byte (bytes ++ more) e ∙ sym (first_space byte bytes e))
head_by [] byte bytes more false e later =
    ap (λ (w : List ℕ). pointwise nat_eq [] w) (first_byte byte (bytes ++ more) e) ∙ sym (ap (λ (w : List ℕ). pointwise nat_eq [] w) (first_byte byte bytes e))
head_by (x ∷ rest) byte bytes more false e later =
    ap (λ (w : List ℕ). pointwise nat_eq (x ∷ rest) w) (first_byte byte (bytes ++ more) e)
    ∙ ap (λ (b : Bool). nat_eq x byte && b) (later x rest refl)
    ∙ sym (ap (λ (w : List ℕ). pointwise nat_eq (x ∷ rest) w) (first_byte byte bytes e))

begins_head : (head word more : List ℕ) → length word < length head → begins_with word (head ++ more) ≡ begins_with word head
begins_head [] word more h = absurd (omega (arith, h))
begins_head (byte ∷ bytes) word more h =
    head_by word byte bytes more _ refl (λ x rest e. begins_head bytes rest more (omega (arith, h, ap length e)))

-- the line's first bytes tell whether a word begins it that is shorter than they
pub long-begins : (word head line : List ℕ) (seen : Seen) → IsLongLine head seen line → length word ≤ 20 → begins_with word line ≡ begins_with word head
long-begins word head line seen is few =
    let whole : head ++ drop LINE_ROOM line ≡ line = ap (λ (h : List ℕ). h ++ drop LINE_ROOM line) is.front ∙ take-append-drop LINE_ROOM line in
    let room : length head ≡ LINE_ROOM = ap length is.front ∙ length-take-le LINE_ROOM line (omega (arith, is.long)) in
    ap (λ (l : List ℕ). begins_with word l) (sym whole) ∙ begins_head head word (drop LINE_ROOM line) (omega (arith, few, room))

-- words of at most 16 bytes
abbrev pub AreShort : List (List ℕ) → Type 0
AreShort [] = Unit {0}
AreShort (word ∷ words) = (length word ≤ 16) × AreShort words

short_join : (words : List (List ℕ)) (first : List ℕ) → AreShort words → length (join_with_byte 32 (first ∷ words)) ≤ length first + 17 * length words
short_join [] first short = omega arith
short_join (word ∷ words) first short =
    let count : length (first ++ 32 ∷ join_with_byte 32 (word ∷ words)) ≡ length first + length (32 ∷ join_with_byte 32 (word ∷ words)) = length-append first (32 ∷ join_with_byte 32 (word ∷ words)) in
    omega (arith, count, short.0, short_join words word short.1)

pub short-line : (line first : List ℕ) (others : List (List ℕ)) → words_of line ≡ first ∷ others → AreShort others → length line ≤ length first + 17 * length others
short-line line first others words short =
    let same : join_with_byte 32 (first ∷ others) ≡ line = ap (λ (ws : List (List ℕ)). join_with_byte 32 ws) (sym words) ∙ join_with_byte-slice_split 32 line in
    omega (arith, ap length same, short_join others first short)

short_written : (numbers : List ℕ) → AreWritten numbers → AreShort (map decimal numbers)
short_written [] few = tt
short_written (number ∷ numbers) few = (length-decimal-le 16 number (omega arith) (omega (arith, few.0)) (omega (arith, few.0)), short_written numbers few.1)

pub short-by : (range : ℕ → Range) (place : ℕ) (words : List (List ℕ)) (numbers : List ℕ) → numbers_by range place words ≡ Some numbers → AreShort words
short-by range place words numbers h = let are = by-found range place words numbers h in subst AreShort (sym are.texts) (short_written numbers are.small)

none_by : (o : Option (List ℕ)) → ((numbers : List ℕ) → o ≡ Some numbers → ⊥) → o ≡ None
none_by None never = refl
none_by (Some numbers) never = absurd (never numbers refl)

-- the words of a line: the first, and the others
abbrev pub others_of : List ℕ → List (List ℕ)
others_of line = drop 1 (words_of line)

parted : (words : List (List ℕ)) → 1 ≤ length words → words ≡ slice_index_or words 0 [] ∷ drop 1 words
parted [] some = absurd (omega (arith, some))
parted (first ∷ others) some = refl

pub line-parted : (line : List ℕ) → words_of line ≡ first_word line ∷ others_of line
line-parted line = parted (words_of line) (omega (arith, length-slice_split is_space line))

other_words : (line : List ℕ) → length (others_of line) ≡ count_by is_space line
other_words line =
    let count : 1 + length (others_of line) ≡ count_by is_space line + 1 = omega (arith, sym (ap length (line-parted line)), length-slice_split is_space line) in omega (arith, count)

pub row-length : (r : Row) → length (row_word r) ≤ 20
row-length (row.Portfolio most) = omega arith
row-length (row.Buy least) = omega arith
row-length (row.Gap most) = omega arith
row-length row.Vectors = omega arith
row-length row.Vector = omega arith
row-length row.Nodes = omega arith
row-length row.Split = omega arith
row-length row.SumSplit = omega arith
row-length row.Point = omega arith
row-length row.Priced = omega arith
row-length (row.Leaf how) = omega arith
row-length row.Tail = omega arith
row-length row.End = omega arith

-- what a long line of a row says is by its words
long_row : (dates vectors : ℕ) (r : Row) (may : Bool) (head line : List ℕ) (seen : Seen) (b : Bool) → IsLongLine head seen line → begins_with (row_word r) head ≡ b →
    row_said dates vectors r may line
    ≡ (if not b then Err kind.Header else if not (may && row_fits dates r (length (others_of line))) then Err kind.Count
    else numbers_or (numbers_by (row_range dates vectors r) 1 (others_of line)))
long_row dates vectors r may head line seen b is h =
    ap (λ (ws : List (List ℕ)). row_words dates vectors r may ws) (line-parted line)
    ∙ ap (λ (c : Bool). if not c then Err kind.Header else if not (may && row_fits dates r (length (others_of line))) then Err kind.Count
    else numbers_or (numbers_by (row_range dates vectors r) 1 (others_of line))) (long-begins (row_word r) head line seen is (row-length r) ∙ h)

row_err : (dates : ℕ) (vectors : List (List ℕ)) (r : Row) (may : Bool) (line : List ℕ) (found : FaultKind) → row_said dates (length vectors) r may line ≡ Err found →
    row_line dates vectors r may line ≡ Err found
row_err dates vectors r may line found h = ap (λ (said : Result (List ℕ) FaultKind). said_or dates vectors r said) h

pub no-may : (b c : Bool) → b ≡ false → (b && c) ≡ false
no-may true c h = absurd (cc)
no-may false c h = refl

pub no-fit : (b c : Bool) → c ≡ false → (b && c) ≡ false
no-fit true c h = h
no-fit false c h = refl

pub both-hold : (b c : Bool) → b ≡ true → c ≡ true → (b && c) ≡ true
both-hold true c g h = h
both-hold false c g h = absurd (cc)

-- ---- a line without a tail
pub row-header : (dates : ℕ) (vectors : List (List ℕ)) (r : Row) (may : Bool) (head line : List ℕ) (seen : Seen) → IsLongLine head seen line →
    begins_with (row_word r) head ≡ false → row_line dates vectors r may line ≡ Err kind.Header
row-header dates vectors r may head line seen is other =
    row_err dates vectors r may line kind.Header (long_row dates (length vectors) r may head line seen false is other)

pub row-count : (dates : ℕ) (vectors : List (List ℕ)) (r : Row) (may : Bool) (head line : List ℕ) (seen : Seen) → IsLongLine head seen line →
    begins_with (row_word r) head ≡ true → (may && row_fits dates r (length (others_of line))) ≡ false → row_line dates vectors r may line ≡ Err kind.Count
row-count dates vectors r may head line seen is begins h =
    row_err dates vectors r may line kind.Count
    (long_row dates (length vectors) r may head line seen true is begins
    ∙ ap (λ (b : Bool). if not b then Err kind.Count else numbers_or (numbers_by (row_range dates (length vectors) r) 1 (others_of line))) h)

pub row-number : (dates : ℕ) (vectors : List (List ℕ)) (r : Row) (may : Bool) (head line : List ℕ) (seen : Seen) → IsLongLine head seen line →
    begins_with (row_word r) head ≡ true → dates ≤ MOST_DATES → may ≡ true → row_fits dates r (length (others_of line)) ≡ true → row_line dates vectors r may line ≡ Err kind.Number
row-number dates vectors r may head line seen is begins few allowed fits =
    let others : List (List ℕ) = others_of line in
    let count : length others ≤ MOST_NUMBERS = few-numbers dates (length others) r few fits in
    let named : begins_with (row_word r) line ≡ true = long-begins (row_word r) head line seen is (row-length r) ∙ begins in
    let first : length (first_word line) ≤ 20 = omega (arith, ap length ((bytes_decides (row_word r) (first_word line)).0 named), row-length r) in
    let none : numbers_by (row_range dates (length vectors) r) 1 others ≡ None = none_by (numbers_by (row_range dates (length vectors) r) 1 others) (λ numbers e.
    omega (arith, is.long, first, count, short-line line (first_word line) others (line-parted line) (short-by (row_range dates (length vectors) r) 1 others numbers e))) in
    row_err dates vectors r may line kind.Number
    (long_row dates (length vectors) r may head line seen true is begins
    ∙ ap (λ (b : Bool). if not b then Err kind.Count else numbers_or (numbers_by (row_range dates (length vectors) r) 1 others)) (both-hold may _ allowed fits)
    ∙ ap numbers_or none)

pub other-count : (line : List ℕ) → length (words_of line) - 1 ≡ length (others_of line)
other-count line = omega (arith, ap length (line-parted line))

-- a line is longer than another
other_by : (word line : List ℕ) (b : Bool) → pointwise nat_eq word line ≡ b → length word < length line → b ≡ false
other_by word line false e less = refl
other_by word line true e less = absurd (omega (arith, less, ap length ((bytes_decides word line).0 e)))

pub long-other : (word head line : List ℕ) (seen : Seen) → IsLongLine head seen line → length word ≤ 20 → pointwise nat_eq word line ≡ false
long-other word head line seen is few = other_by word line _ refl (omega (arith, is.long, few))

pub long-node : (v : Version) (head line : List ℕ) (seen : Seen) → IsLongLine head seen line → node_row v line ≡ node_row v head
long-node v head line seen is =
    ap (λ (b : Bool). if b then row.Split else if begins_with (codes "p") line then row.Point else if has_sums v && begins_with (codes "t") line then row.SumSplit else leaf_row v)
    (long-begins (codes "s") head line seen is (omega arith))
    ∙ ap (λ (b : Bool). if begins_with (codes "s") head then row.Split else if b then row.Point else if has_sums v && begins_with (codes "t") line then row.SumSplit else leaf_row v)
    (long-begins (codes "p") head line seen is (omega arith))
    ∙ ap (λ (b : Bool). if begins_with (codes "s") head then row.Split else if begins_with (codes "p") head then row.Point else if has_sums v && b then row.SumSplit else leaf_row v)
    (long-begins (codes "t") head line seen is (omega arith))

title_by : (v : Version) (head line : List ℕ) (seen : Seen) → IsLongLine head seen line → pointwise nat_eq (title_word v) line ≡ false
title_by version.One head line seen is = long-other (title_word version.One) head line seen is (omega arith)
title_by (version.Packed weighing.WholeOrNone) head line seen is = long-other (title_word (version.Packed weighing.WholeOrNone)) head line seen is (omega arith)
title_by (version.Packed weighing.Number) head line seen is = long-other (title_word (version.Packed weighing.Number)) head line seen is (omega arith)

-- a long line is no first line, and says no version but 1
pub long-title : (v : Version) (dates : ℕ) (vectors : List (List ℕ)) (head line : List ℕ) (seen : Seen) → IsLongLine head seen line → line_said v dates vectors due.Title line ≡ Err kind.Header
long-title v dates vectors head line seen is = ap (λ (b : Bool). if b then Ok (line_of.Title v) else Err kind.Header) (title_by v head line seen is)

pub long-version : (head line : List ℕ) (seen : Seen) → IsLongLine head seen line → title_version line ≡ version.One
long-version head line seen is = ap (λ (b : Bool). if b then version.Packed (title_weighing line) else version.One) (title_by (version.Packed (title_weighing line)) head line seen is)
