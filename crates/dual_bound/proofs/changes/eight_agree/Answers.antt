use Rattle.std.proofs.Common.{◌≡◌, ◌+◌, ℕ, bit_xor, get_or, arith, inl, inr, subst}
use Rattle.std.specs.Int.Bits.{xor_add_and}
use Rattle.std.proofs.lemmas.Bool.{cases_lt}
use Rattle.std.proofs.lemmas.Nat.{and_le_l, and_le_r, le_or_l, le_or_r}
use Rattle.dual_bound.proofs.changes.eight_agree.Goals as goal

-- numbers without a bit in which they differ
same : (first second : ℕ) → bit_xor first second ≡ 0 → first ≡ second
same first second none = omega (arith, none, xor_add_and first second, and_le_l first second, and_le_r first second)

pub loop-ahead-preserved : goal.loop-ahead-preserved
loop-ahead-preserved c = λ none k few.
    let old : ℕ = get_or c.args.old.now (c.args.from + c.loop-ahead.ahead) 0 in
    let new : ℕ = get_or c.args.new.now (c.args.from + c.loop-ahead.ahead) 0 in
    let before : c.loop-ahead.differences ≡ 0 = omega (arith, none, le_or_l c.loop-ahead.differences (bit_xor old new)) in
    let here : bit_xor old new ≡ 0 = omega (arith, none, le_or_r c.loop-ahead.differences (bit_xor old new)) in
    elim (cases_lt k c.loop-ahead.ahead) [
      | inl earlier ↦ c.loop-ahead.invariant before k earlier
      | inr late ↦ subst (λ j. get_or c.args.old.now (c.args.from + j) 0 ≡ get_or c.args.new.now (c.args.from + j) 0) (omega (arith, few, late)) (same old new here)
    ]
