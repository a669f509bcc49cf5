use Rattle.std.proofs.Common.{◌≡◌, ◌∙◌, ◌≤◌, ap, rules, arith, ℕ, ℤ, pos, ◌+ℤ◌, ◌≤ℤ◌, to_z, w32}
use Rattle.std.proofs.lemmas.Int.{ints, to_z-of_z, to_z_pos}
use mir.Val.{SFits}
use Rattle.escrow_units.specs.Calendar.{years_after_of}
use Rattle.escrow_units.specs.SlgsTerms.{IsSettlement}
use Rattle.escrow_units.proofs.YearFacts.{settlement-base}
use Rattle.cash_table.proofs.day_balances.day_after.Goals as goal

few_days : (settle : ℤ) (days : ℕ) → IsSettlement settle → (settle +ℤ pos days) ≤ℤ years_after_of settle 40 → days ≤ 80718
few_days settle days h within =
    let base = settlement-base settle (settle +ℤ pos days) h (omega (arith, ints)) within in
    omega (arith, ints, base.1, h.0)

pub overflow_cast-days : goal.overflow_cast-days
overflow_cast-days c =
    let few = few_days c.args.settle c.args.days c.requires.settlement c.requires.within in
    search rules

pub overflow_add-number : goal.overflow_add-number
overflow_add-number c =
    let few = few_days c.args.settle c.args.days c.requires.settlement c.requires.within in
    let fits : SFits w32 c.number.result = search rules in
    let small : to_z w32 c.args.days ≡ pos c.args.days = to_z_pos w32 c.args.days (omega (arith, few)) in
    rw small (simp to_z-of_z (search rules))

pub new-requires : goal.new-requires
new-requires c =
    let few = few_days c.args.settle c.args.days c.requires.settlement c.requires.within in
    let fits : SFits w32 c.number.result = search rules in
    let small : to_z w32 c.args.days ≡ pos c.args.days = to_z_pos w32 c.args.days (omega (arith, few)) in
    let fits_sum : SFits w32 (c.number.result +ℤ pos c.args.days) = search rules in
    let base = settlement-base c.args.settle (c.args.settle +ℤ pos c.args.days) c.requires.settlement (omega (arith, ints)) c.requires.within in
    rw small (simp to_z-of_z (rw c.number.ensures.value (omega (arith, ints, base.0), omega (arith, ints, base.1))))

pub returns : goal.returns
returns c =
    let few = few_days c.args.settle c.args.days c.requires.settlement c.requires.within in
    let fits : SFits w32 c.number.result = search rules in
    let small : to_z w32 c.args.days ≡ pos c.args.days = to_z_pos w32 c.args.days (omega (arith, few)) in
    let fits_sum : SFits w32 (c.number.result +ℤ pos c.args.days) = search rules in
    c.new.ensures ∙ rw small (simp to_z-of_z (ap (λ (z : ℤ). z +ℤ pos c.args.days) c.number.ensures.value))
