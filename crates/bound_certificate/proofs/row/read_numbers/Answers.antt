use Rattle.std.proofs.Common.{◌≡◌, ◌∙◌, ◌++◌, ◌+◌, ◌≤◌, ℕ, Some, List, Option, None, ap, arith, option_map, refl, sym, length}
use denote.Ref.{Bor}
use Rattle.std.proofs.lemmas.List.Splits.{length-slice_split}
use Rattle.line_words.specs.declared.range.Range.{Range}
use Rattle.bound_certificate.specs.Row.{numbers_by, row_range}
use Rattle.line_words.specs.Words.{first_word, is_space, number_in, parts_behind, words_of}
use Rattle.bound_certificate.proofs.ReadRowFacts.{no-number, read-many}
use Rattle.bound_certificate.proofs.row.read_numbers.Goals as goal

some_words : (rest : Option (Bor (List ℕ))) (bytes : Bor (List ℕ)) → rest ≡ Some bytes → 1 ≤ length (parts_behind 32 rest)
some_words rest bytes is = omega (arith, ap (λ (o : Option (Bor (List ℕ))). length (parts_behind 32 o)) is, length-slice_split is_space bytes.now)

pub returns-then-len-ge-MOST_NUMBERS : goal.returns-then-len-ge-MOST_NUMBERS
returns-then-len-ge-MOST_NUMBERS c = (
  refl,
  λ few. read-many (row_range c.args.dates c.args.vectors c.args.row) (parts_behind 32 c.args.words) (parts_behind 32 c.loop-rest.rest) c.loop-rest.numbers.items
      c.loop-rest.invariant (omega (arith, c.len.ensures.value, c.if-len-ge-MOST_NUMBERS.true)) (some_words c.loop-rest.rest c.in-Some.bytes c.in-Some.is) few,
)

pub returns-in_default-front_number_in : goal.returns-in_default-front_number_in
returns-in_default-front_number_in c =
    let range : ℕ → Range = row_range c.args.dates c.args.vectors c.args.row in
    let place : ℕ = length c.loop-rest.numbers.items + 1 in
    let bytes : List ℕ = c.in-Some.bytes.now in
    let none : numbers_by range place (words_of bytes) ≡ None =
    no-number range place (words_of bytes) (omega (arith, length-slice_split is_space bytes))
    (ap (λ (r : Range). number_in r (first_word bytes)) (sym (c.range-range.ensures ∙ ap (λ (count : ℕ). range (count + 1)) c.len-in-Some.ensures.value))
    ∙ c.front_number_in.ensures.none c.in_default-front_number_in.is) in (
      refl,
      λ few. c.loop-rest.invariant
          ∙ ap (λ (rest : Option (Bor (List ℕ))). option_map (λ numbers. c.loop-rest.numbers.items ++ numbers) (numbers_by range place (parts_behind 32 rest))) c.in-Some.is
          ∙ ap (λ (o : Option (List ℕ)). option_map (λ numbers. c.loop-rest.numbers.items ++ numbers) o) none,
    )
