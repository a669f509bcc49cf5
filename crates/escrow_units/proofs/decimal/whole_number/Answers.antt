use Rattle.std.proofs.Common.{arith, ◌≡◌, ◌∙◌, ◌*◌, ◌+◌, ◌-◌, get_or, length, true, sym, ap}
use Rattle.std.proofs.lemmas.Grind.{common_steps}
use Rattle.std.proofs.Math.Nat.{pow-le-pow_right}
use Rattle.std.specs.Char.{is_ascii_digit}
use Rattle.escrow_units.proofs.NumberFacts.{digits_fit, digit-bound, more-below, digits_value-more}
use Rattle.escrow_units.proofs.decimal.whole_number.Goals as goal

pub overflow_mul-number : goal.overflow_mul-number
overflow_mul-number c =
    let more = more-below c.loop-byte.number 0 c.loop-byte.byte-index c.loop-byte.invariant.bound (omega arith) in
    let fits = digits_fit (10 * c.loop-byte.number + 0) (c.loop-byte.byte-index + 1) (omega arith) more in
    record { fits = omega arith }

pub overflow_add-number : goal.overflow_add-number
overflow_add-number c =
    let digit : is_ascii_digit (get_or c.args.bytes.now c.loop-byte.byte-index 0) ≡ true = sym c.is_ascii_digit.ensures.value ∙ c.if-not-is_ascii_digit.false in
    let d = get_or c.args.bytes.now c.loop-byte.byte-index 0 - 48 in
    let more = more-below c.loop-byte.number d c.loop-byte.byte-index c.loop-byte.invariant.bound (digit-bound _ digit) in
    let fits = digits_fit (10 * c.loop-byte.number + d) (c.loop-byte.byte-index + 1) (omega arith) more in
    record { fits = omega arith }

pub loop-byte-preserved : goal.loop-byte-preserved
loop-byte-preserved c =
    let digit : is_ascii_digit (get_or c.args.bytes.now c.loop-byte.byte-index 0) ≡ true = sym c.is_ascii_digit.ensures.value ∙ c.if-not-is_ascii_digit.false in
    let d = get_or c.args.bytes.now c.loop-byte.byte-index 0 - 48 in
    record {
      digits = grind (arith, common_steps);
      number = ap (λ n. 10 * n + d) c.loop-byte.invariant.number ∙ sym (digits_value-more c.args.bytes.now c.loop-byte.byte-index c.loop-byte-test.true digit);
      bound = more-below c.loop-byte.number d c.loop-byte.byte-index c.loop-byte.invariant.bound (digit-bound _ digit);
      short = c.loop-byte.invariant.short;
    }

pub returns-clause-bound : goal.returns-clause-bound
returns-clause-bound c =
    omega (arith, pow-le-pow_right {n = 10} (omega arith) {i = c.loop-byte.byte-index} {j = length c.args.bytes.now} (omega arith))
