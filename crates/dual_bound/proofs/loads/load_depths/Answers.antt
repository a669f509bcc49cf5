use Rattle.std.proofs.Common.{◌≡◌, ◌∙◌, ℕ, ◌+◌, ◌-◌, ◌*◌, ◌^◌, ◌<◌, ◌≤◌, ℤ, ◌+ℤ◌, ◌*ℤ◌, get_or, length, pos, take, refl, sym, ap, subst, arith, to_z, of_z, unsigned_abs}
use mir.Syntax.{w128}
use Rattle.std.proofs.lemmas.Int.{ints}
use Rattle.std.proofs.lemmas.List.{length-set}
use Rattle.offer_book.specs.declared.coefficients.TheConstants.{COEFFICIENT_SCALE}
use Rattle.dual_bound.specs.LeafBound.{signed_sum, signed_weight}
use Rattle.dual_bound.proofs.LoadFacts.{IsTakenTo, load-taken, loads-more, some-weight, taken-more, taken-none, taken-stays}
use Rattle.dual_bound.proofs.Signed.{mul-add, read-again, signed_sum_more}
use Rattle.dual_bound.proofs.loads.load_depths.Goals.{then-next-weights+then-from-depth, else-next-weights, else-next-weights-via-then-next-weights+else-from-depth, else-next-weights-via-else-next-weights}
use Rattle.dual_bound.proofs.loads.load_depths.Goals as goal

-- what is taken once the weight of a depth is
record IsStep (c : goal.Joined-next-weights) : Type 0 where
  pub taken : IsTakenTo c.args.weights.now (c.loop-depth.depth + 1) c.if-next-weights.next
  pub value : to_z w128 c.if-next-weights.load-bits ≡ pos (COEFFICIENT_SCALE * c.args.coarse) *ℤ signed_sum signed_weight (take c.if-next-weights.next c.args.weights.now)
  pub small : unsigned_abs (to_z w128 c.if-next-weights.load-bits) ≤ c.if-next-weights.next * (64 * 10 ^ 29)

step : (c : goal.Joined-next-weights) → IsStep c
step c =
    elim c.if-next-weights.branch [
      | then-next-weights+then-from-depth w ↦
          let scale = pos (COEFFICIENT_SCALE * c.args.coarse) in
          let before = signed_sum signed_weight (take c.loop-depth.next c.args.weights.now) in
          let here = get_or c.args.weights.now c.loop-depth.next some-weight in
          let weight = read-again w.signed_weight.result (omega (arith, w.signed_weight.ensures.small)) ∙ w.signed_weight.ensures.value in
          let own = read-again w.scaled_load-load.result (omega (arith, w.scaled_load-load.ensures.small)) ∙ w.scaled_load-load.ensures.value ∙ ap (λ (z : ℤ). scale *ℤ z) weight in
          let more = ap (λ (z : ℤ). scale *ℤ z) (signed_sum_more signed_weight c.args.weights.now c.loop-depth.next some-weight w.if-next-weights.true) ∙ mul-add scale before (signed_weight here) in
          let small : unsigned_abs (to_z w128 (of_z w128 w.scaled_load-load.result)) ≤ 64 * 10 ^ 29 =
          omega (arith, ap unsigned_abs (read-again w.scaled_load-load.result (omega (arith, w.scaled_load-load.ensures.small))), w.scaled_load-load.ensures.small) in
          let sum = read-again (to_z w128 c.loop-depth.load-bits +ℤ to_z w128 (of_z w128 w.scaled_load-load.result))
          (omega (arith, ints, small, c.loop-depth.invariant.small, c.loop-depth.invariant.taken.few, c.requires.weights.few)) in
          let taken = taken-more c.args.weights.now (length c.args.by_depth.now - 1) c.loop-depth.depth c.loop-depth.next c.requires.weights c.loop-depth.invariant.taken w.if-next-weights.true
          (omega (arith, w.from.ensures, w.if-from-depth.true)) in record {
            taken = subst (IsTakenTo c.args.weights.now (c.loop-depth.depth + 1)) (sym w.next-is) taken;
            value = w.load-is ∙ sum ∙ (λ i. c.loop-depth.invariant.value i +ℤ own i) ∙ sym more
                ∙ ap (λ (n : ℕ). scale *ℤ signed_sum signed_weight (take n c.args.weights.now)) (sym w.next-is);
            small = omega (arith, ints, w.load-is, sum, small, w.next-is, c.loop-depth.invariant.small);
          }
      | else-next-weights w ↦
          let above : c.loop-depth.next < length c.args.weights.now → c.loop-depth.depth ≤ (get_or c.args.weights.now c.loop-depth.next some-weight).sum =
          (λ there.
          elim w.else-next-weights.branch [
            | else-next-weights-via-then-next-weights+else-from-depth u ↦ omega (arith, u.from.ensures, u.if-from-depth.false)
            | else-next-weights-via-else-next-weights u ↦ absurd (omega (arith, there, u.if-next-weights.false))
          ]) in
          let taken = taken-stays c.args.weights.now (length c.args.by_depth.now - 1) c.loop-depth.depth c.loop-depth.next c.requires.weights c.loop-depth.invariant.taken above in record {
            taken = subst (IsTakenTo c.args.weights.now (c.loop-depth.depth + 1)) (sym w.next-is) taken;
            value = w.load-is ∙ c.loop-depth.invariant.value
                ∙ ap (λ (n : ℕ). pos (COEFFICIENT_SCALE * c.args.coarse) *ℤ signed_sum signed_weight (take n c.args.weights.now)) (sym w.next-is);
            small = omega (arith, ap unsigned_abs w.load-is, w.next-is, c.loop-depth.invariant.small);
          }
    ]

pub loop-depth-init : goal.loop-depth-init
loop-depth-init c = record {
  same = refl;
  taken = taken-none c.args.weights.now;
  value = omega (arith, ints);
  small = omega arith;
  before = λ k d few. absurd (omega (arith, few));
}

pub loop-depth-preserved : goal.loop-depth-preserved
loop-depth-preserved c =
    let now = step c in
    let there : c.loop-depth.depth < length c.loop-depth.by_depth = omega (arith, c.loop-depth-test.true, c.loop-depth.invariant.same) in
    let own = now.value ∙ ap (λ (z : ℤ). pos (COEFFICIENT_SCALE * c.args.coarse) *ℤ z) (sym (load-taken c.args.weights.now c.loop-depth.depth c.if-next-weights.next now.taken)) in record {
      same = length-set c.loop-depth.by_depth c.loop-depth.depth _ ∙ c.loop-depth.invariant.same;
      taken = now.taken;
      value = now.value;
      small = now.small;
      before = loads-more c.args.coarse c.args.weights.now c.loop-depth.by_depth c.loop-depth.depth _ there own c.loop-depth.invariant.before;
    }
