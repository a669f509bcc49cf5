use Rattle.std.proofs.Common.{◌∙◌, Some, ap, arith, get_or, sym, ◌+◌, ◌*◌, ℕ}
use Rattle.line_words.proofs.DigitFacts.{Digit}
use Rattle.line_words.proofs.NumberFacts.{number-more}
use Rattle.line_words.proofs.digits.more_digits.Goals as goal

pub loop-place-preserved : goal.loop-place-preserved
loop-place-preserved c =
    let i = c.loop-place.invariant in
    let digit : Digit (get_or c.args.piece.now c.loop-place.place 0) = sym c.is_ascii_digit.ensures.value ∙ c.if-is_ascii_digit.true in
    record {
      within = omega arith;
      some = omega arith;
      is = number-more c.args.piece.now c.loop-place.place c.loop-place.number c.loop-place-test.true i.is i.some c.if-number.true digit
          ∙ ap (λ (n : ℕ). Some (10 * c.loop-place.number + n)) (sym c.from.ensures);
    }
