use Rattle.std.proofs.Common.{◌≡◌, ◌∙◌, ◌*◌, ◌+◌, ◌-◌, ◌%◌, ◌/◌, ◌^◌, ◌<◌, ℕ, List, sym, ap, subst, arith, rules, get_or, take}
use Rattle.std.specs.Int.Digits.{number_from_digits}
use Rattle.line_words.specs.Digits.{HoldsDigits}
use Rattle.line_words.proofs.EightFacts.{IsMoved, behind-is, front-held, front-written, holds-fits, moved, powers}
use Rattle.line_words.proofs.digits.together.Goals as goal

pub eight_together-front-requires : goal.eight_together-front-requires
eight_together-front-requires c =
    let word = c.from_le_bytes-word in
    let r = c.requires in
    record { fits = holds-fits _ _ (front-held c.args.lanes word.result c.args.count (search rules) word.ensures r.many r.few r.digits) }

pub eight_together-behind-requires : goal.eight_together-behind-requires
eight_together-behind-requires c =
    let word = c.from_le_bytes-word in
    let r = c.requires in
    let is = behind-is c.args.lanes word.result c.args.count (search rules) word.ensures r.many r.few r.digits in
    let m = moved c.args.lanes word.result c.args.count (search rules) word.ensures r.many r.few r.digits in
    record { fits = holds-fits _ m.digits (subst (λ (n : ℕ). HoldsDigits (n * 2 ^ (8 * (16 - c.args.count)) % 18446744073709551616) m.digits) (sym is) m.holds) }

-- what both halves of the lanes write together
module _ (c : goal.After-result-2-1) where
  abbrev lanes : List ℕ
  lanes = c.args.lanes

  abbrev power : ℕ
  power = get_or powers (c.args.count - 8) 0

  front : c.eight_together-front.result ≡ number_from_digits 10 (take 8 lanes)
  front =
      let word = c.from_le_bytes-word in
      let r = c.requires in
      c.eight_together-front.ensures _ (front-held lanes word.result c.args.count (search rules) word.ensures r.many r.few r.digits)
      ∙ front-written lanes word.result c.args.count (search rules) word.ensures r.many r.few r.digits

  behind : IsMoved lanes c.args.count (c.from_le_bytes-word.result / 18446744073709551616)
  behind =
      let word = c.from_le_bytes-word in
      let r = c.requires in
      subst (λ (n : ℕ). IsMoved lanes c.args.count n) (sym (behind-is lanes word.result c.args.count (search rules) word.ensures r.many r.few r.digits))
      (moved lanes word.result c.args.count (search rules) word.ensures r.many r.few r.digits)

  number : c.eight_together-front.result * power + c.eight_together-behind.result ≡ number_from_digits 10 (take c.args.count lanes)
  number =
      ap (λ (n : ℕ). n * power + c.eight_together-behind.result) front
      ∙ ap (λ (n : ℕ). number_from_digits 10 (take 8 lanes) * power + n) (c.eight_together-behind.ensures behind.digits behind.holds) ∙ behind.written

  few : c.eight_together-front.result * power + c.eight_together-behind.result < 1000000000000000
  few = subst (λ (n : ℕ). n < 1000000000000000) (sym number) behind.few

pub overflow_mul-result : goal.overflow_mul-result
overflow_mul-result c = record { fits = omega (arith, few c) }

pub overflow_add-result : goal.overflow_add-result
overflow_add-result c = record { fits = omega (arith, few c) }

pub returns-clause-number : goal.returns-clause-number
returns-clause-number c = number c

pub returns-clause-small : goal.returns-clause-small
returns-clause-small c = few c
