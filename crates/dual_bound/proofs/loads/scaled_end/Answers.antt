use Rattle.std.proofs.Common.{◌≡◌, ◌∙◌, ◌*◌, ◌^◌, ◌≤◌, ◌*ℤ◌, pos, ap, arith, to_z, of_z, unsigned_abs}
use mir.Syntax.{w128}
use Rattle.std.proofs.lemmas.Int.{fits_signed_from_abs, to_z-of_z, unsigned_abs-mul}
use Rattle.std.proofs.Math.Nat.{mul-le-mul, mul-le-mul_right}
use Rattle.offer_book.specs.declared.coefficients.TheConstants.{COEFFICIENT_SCALE}
use Rattle.dual_bound.proofs.Signed.{pos-mul, read-again}
use Rattle.dual_bound.proofs.loads.scaled_end.Goals as goal

scale-is : (c : goal.After-from-3) → to_z w128 (of_z w128 (to_z w128 (of_z w128 c.from.result) *ℤ to_z w128 (of_z w128 c.from-2.result))) ≡ pos (COEFFICIENT_SCALE * c.args.coarse)
scale-is c =
    let scale = to_z-of_z w128 c.from.result (record { sfits = c.from.type_inv }) ∙ c.from.ensures in
    let step = to_z-of_z w128 c.from-2.result (record { sfits = c.from-2.type_inv }) ∙ c.from-2.ensures in
    let product = (λ i. scale i *ℤ step i) ∙ pos-mul COEFFICIENT_SCALE c.args.coarse in
    read-again _ (omega (arith, ap unsigned_abs product, c.ranges.coarse.fits)) ∙ product

weighed-is : (c : goal.After-from-3) → to_z w128 (of_z w128 (to_z w128 (of_z w128 c.args.weight) *ℤ to_z w128 (of_z w128 c.from-3.result))) ≡ c.args.weight *ℤ pos c.args.end
weighed-is c =
    let weight = read-again c.args.weight (omega (arith, c.requires.weight)) in
    let end = to_z-of_z w128 c.from-3.result (record { sfits = c.from-3.type_inv }) ∙ c.from-3.ensures in
    let product : to_z w128 (of_z w128 c.args.weight) *ℤ to_z w128 (of_z w128 c.from-3.result) ≡ c.args.weight *ℤ pos c.args.end = (λ i. weight i *ℤ end i) in
    read-again _ (omega (arith, ap unsigned_abs product, unsigned_abs-mul c.args.weight (pos c.args.end), mul-le-mul_right c.args.end c.requires.weight, c.ranges.end.fits)) ∙ product

product-small : (c : goal.After-from-3) → unsigned_abs (pos (COEFFICIENT_SCALE * c.args.coarse) *ℤ (c.args.weight *ℤ pos c.args.end)) ≤ 512 * 10 ^ 32
product-small c =
    omega (
      arith,
      unsigned_abs-mul (pos (COEFFICIENT_SCALE * c.args.coarse)) (c.args.weight *ℤ pos c.args.end),
      ap (λ n. COEFFICIENT_SCALE * c.args.coarse * n) (unsigned_abs-mul c.args.weight (pos c.args.end)),
      mul-le-mul c.requires.weight c.requires.end,
    )

both : (c : goal.After-from-3)
    → to_z w128 (of_z w128 (to_z w128 (of_z w128 c.from.result) *ℤ to_z w128 (of_z w128 c.from-2.result)))
    *ℤ to_z w128 (of_z w128 (to_z w128 (of_z w128 c.args.weight) *ℤ to_z w128 (of_z w128 c.from-3.result)))
    ≡ pos (COEFFICIENT_SCALE * c.args.coarse) *ℤ (c.args.weight *ℤ pos c.args.end)
both c = λ i. scale-is c i *ℤ weighed-is c i

pub overflow_mul-result-3 : goal.overflow_mul-result-3
overflow_mul-result-3 c =
    fits_signed_from_abs w128 _ (omega (arith, ap unsigned_abs (both c), product-small c))

pub returns-clause-value : goal.returns-clause-value
returns-clause-value c =
    read-again _ (omega (arith, ap unsigned_abs (both c), product-small c)) ∙ both c

pub returns-clause-small : goal.returns-clause-small
returns-clause-small c = omega (arith, ap unsigned_abs (returns-clause-value c), product-small c)
