-- A line that is longer than any right one, of which the first bytes are at hand and what its words are. It is this project's own.
use Rattle.std.specs.Prelude.{◌≡◌, ℕ, ◌+◌, ◌-◌, ◌≤◌, ◌<◌, Bool, true, ◌&&◌, nat_lt, ◌==◌, if◌then◌else◌, List, [], ◌∷◌, length, take}
use Rattle.std.specs.List.{fold}
use Rattle.bound_certificate.specs.declared.limits.TheConstants.{LINE_ROOM, WORDS_COUNTED}
use Rattle.bound_certificate.specs.declared.row.Row.{Row}
use Rattle.bound_certificate.specs.declared.row.Row.TheVariants as row
use Rattle.bound_certificate.specs.declared.seen.At.{At}
use Rattle.bound_certificate.specs.declared.seen.At.TheVariants as at
use Rattle.bound_certificate.specs.declared.seen.Seen.{Seen}
use Rattle.bound_certificate.specs.declared.weighing.Weighing.TheVariants as weighing
use Rattle.bound_certificate.specs.Grammar.{front_words, tail_words}
use Rattle.bound_certificate.specs.Row.{row_fits}
use Rattle.line_words.specs.Words.{is_space}

-- words are counted, but perhaps not all of many
pub record IsCounted (count words : ℕ) : Type 0 where
  pub few : count < WORDS_COUNTED → words ≡ count
  pub many : WORDS_COUNTED ≤ count → WORDS_COUNTED ≤ words

-- one more
abbrev pub counted : ℕ → ℕ
counted count = if nat_lt count WORDS_COUNTED then count + 1 else count

-- before the first byte of a line
abbrev pub nothing_seen : Seen
nothing_seen = record { front = 0; tail = 0; at = at.Start }

-- a space ends a word: one before the first that is `t`, or one from it on
abbrev pub word_ended : Seen → At → Seen
word_ended seen at.Start = record { front = counted seen.front; tail = seen.tail; at = at.Start }
word_ended seen at.Letter = record { front = seen.front; tail = counted seen.tail; at = at.Tail }
word_ended seen at.Within = record { front = counted seen.front; tail = seen.tail; at = at.Start }
word_ended seen at.Tail = record { front = seen.front; tail = counted seen.tail; at = at.Tail }

-- where a byte of a word stands
abbrev pub at_byte : At → ℕ → At
at_byte at.Start byte = if byte == 116 then at.Letter else at.Within
at_byte at.Tail byte = at.Tail
at_byte other byte = at.Within

-- with one more byte
abbrev pub seen_with : Seen → ℕ → Seen
seen_with seen byte =
    if is_space byte then word_ended seen seen.at else record { front = seen.front; tail = seen.tail; at = at_byte seen.at byte }

-- what the words of bytes are
abbrev pub seen_of : List ℕ → Seen
seen_of bytes = fold seen_with nothing_seen bytes

pub record IsLongLine (head : List ℕ) (seen : Seen) (line : List ℕ) : Type 0 where
  pub long : LINE_ROOM < length line
  pub front : head ≡ take LINE_ROOM line
  pub words : seen ≡ seen_of line

-- whether a tail, where there is one, has as many words as may stand there
abbrev pub tail_fits : ℕ → List (List ℕ) → Bool
tail_fits dates [] = true
tail_fits dates (word ∷ words) = row_fits dates row.Tail (length words)

-- whether so many words make a line of a row: of a leaf of version 3 those before the tail, and those of the tail
abbrev pub words_fit : ℕ → Row → List (List ℕ) → Bool
words_fit dates (row.Leaf weighing.Number) words =
    row_fits dates (row.Leaf weighing.Number) (length (front_words words) - 1) && tail_fits dates (tail_words words)
words_fit dates r words = row_fits dates r (length words - 1)
