use Rattle.std.proofs.Common.{◌≡◌, ◌∙◌, ◌+◌, ◌*◌, ℕ, List, All, Some, ap, arith, get_or, length, subst, sym, take}
use Rattle.std.specs.Str.Parse.{digits_value}
use Rattle.std.proofs.lemmas.List.{take_all}
use Rattle.std.proofs.lemmas.List.Elements.{All-more}
use Rattle.line_words.proofs.DigitFacts.{Digit}
use Rattle.line_words.proofs.NumberFacts.{digits-written, no-digit, no-empty, no-lead, no-more, value-more}
use Rattle.line_words.proofs.digits.slow_number.Goals as goal
use Rattle.line_words.proofs.digits.slow_number.Goals.{else-word-eq48-via-then-word-eq48+else-word-gt1, else-word-eq48-via-else-word-eq48}

pub returns-then-is_empty : goal.returns-then-is_empty
returns-then-is_empty c = no-empty c.args.word.now (grind (arith, c.is_empty.ensures, c.if-is_empty.true))

pub returns-then-word-gt1 : goal.returns-then-word-gt1
returns-then-word-gt1 c = no-lead c.args.word.now c.if-word-gt1.true c.if-word-eq48.true

pub returns-then-not-is_ascii_digit : goal.returns-then-not-is_ascii_digit
returns-then-not-is_ascii_digit c =
    no-digit c.args.word.now c.loop-byte.byte-index c.loop-byte-test.true
    (λ (digit : Digit (get_or c.args.word.now c.loop-byte.byte-index 0)). grind (arith, digit, c.is_ascii_digit.ensures.value, c.if-not-is_ascii_digit.true))

pub returns-then-number-gt-GREATEST_NUMBER : goal.returns-then-number-gt-GREATEST_NUMBER
returns-then-number-gt-GREATEST_NUMBER c =
    let word : List ℕ = c.args.word.now in
    let place : ℕ = c.loop-byte.byte-index in
    let digit : Digit (get_or word place 0) = sym c.is_ascii_digit.ensures.value ∙ c.if-not-is_ascii_digit.false in
    no-more word (place + 1) (10 * c.loop-byte.number + c.from.result)
    (ap (λ (n : ℕ). 10 * c.loop-byte.number + n) c.from.ensures ∙ value-more word place c.loop-byte.number c.loop-byte-test.true c.loop-byte.invariant.is digit)
    c.if-number-gt-GREATEST_NUMBER.true

pub loop-byte-preserved : goal.loop-byte-preserved
loop-byte-preserved c =
    let word : List ℕ = c.args.word.now in
    let place : ℕ = c.loop-byte.byte-index in
    let i = c.loop-byte.invariant in
    let digit : Digit (get_or word place 0) = sym c.is_ascii_digit.ensures.value ∙ c.if-not-is_ascii_digit.false in
    record {
      all = All-more Digit word place 0 c.loop-byte-test.true i.all digit;
      is = ap (λ (n : ℕ). 10 * c.loop-byte.number + n) c.from.ensures ∙ value-more word place c.loop-byte.number c.loop-byte-test.true i.is digit;
      few = c.if-number-gt-GREATEST_NUMBER.false;
    }

pub returns : goal.returns
returns c =
    let word : List ℕ = c.args.word.now in
    let i = c.loop-byte.invariant in
    let whole : take c.loop-byte.byte-index word ≡ word = take_all c.loop-byte.byte-index word (omega arith) in
    let value : c.loop-byte.number ≡ digits_value 10 word = i.is ∙ ap (digits_value 10) whole in
    let lead : get_or word 0 0 ≡ 48 → length word ≡ 1 = λ zero. elim c.else-word-eq48.branch [
      | else-word-eq48-via-then-word-eq48+else-word-gt1 w ↦ grind (arith, w.if-word-gt1.false, c.is_empty.ensures, c.if-is_empty.false)
      | else-word-eq48-via-else-word-eq48 w ↦ absurd (w.if-word-eq48.false zero)
    ] in
    ap (λ (n : ℕ). Some n) value
    ∙ sym (digits-written word (subst (All Digit) whole i.all) (grind (arith, c.is_empty.ensures, c.if-is_empty.false)) lead (omega (arith, sym value, i.few)))
