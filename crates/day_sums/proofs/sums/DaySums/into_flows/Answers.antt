use Rattle.std.proofs.Common.{◌≡◌, ◌∙◌, ap, sym, subst, rules, ℤ, pos, ◌+ℤ◌, ◌<◌, ◌^◌, length, to_z, w32, get_or, arith}
use Rattle.std.proofs.lemmas.Int.{ints, to_z-of_z, to_z_pos}
use mir.Val.{SFits}
use Rattle.day_sums.proofs.TableFacts.{push-sum}
use Rattle.escrow_units.specs.Flows.{Rise}
use Rattle.day_sums.specs.Summed.{summed}
use Rattle.day_sums.specs.SummedLaws.{AreAboveZero}
use Rattle.day_sums.specs.Table.{SpanSums}
use Rattle.day_sums.proofs.TableFacts.{summed_skip-to, summed_more-some, nothing-yet, all-sums}
use Rattle.day_sums.proofs.SumFacts.{above-summed, pairs-from_rising, rising-summed}
use Rattle.day_sums.proofs.sums.DaySums.into_flows.Goals as goal

pub loop-place-init : goal.loop-place-init
loop-place-init c = record { bound = omega arith; sums = c.new-sums.ensures.items ∙ nothing-yet }

pub loop-place-preserved-then-cents-gt0 : goal.loop-place-preserved-then-cents-gt0
loop-place-preserved-then-cents-gt0 c =
    let more = summed_more-some c.args.self.from c.as_slice-table.result.now c.loop-place.place 0 c.loop-place-test.true c.if-cents-gt0.true in
    let from : c.self.inside.from ≡ c.args.self.from = ap (λ (s : SpanSums). s.from) c.self.view_is in
    let places : length c.as_slice-table.result.now ≡ length c.self.inside.cents.items = ap length c.as_slice-table.ensures.value in
    let few : c.loop-place.place < 2 ^ 31 = omega (arith, ints, c.self.invariant.few, c.self.invariant.days, c.self.invariant.first, c.self.invariant.last, places, c.loop-place-test.true) in
    let small : to_z w32 c.loop-place.place ≡ pos c.loop-place.place = to_z_pos w32 c.loop-place.place few in
    let fits : SFits w32 c.number.result = search rules in
    let fits_sum : SFits w32 (c.number.result +ℤ pos c.loop-place.place) = search rules in
    let day : c.new-day.result ≡ c.args.self.from +ℤ pos c.loop-place.place =
    c.new-day.ensures ∙ rw small (simp to_z-of_z (ap (λ (z : ℤ). z +ℤ pos c.loop-place.place) (c.number.ensures.value ∙ from))) in
    record {
      bound = omega (arith, c.loop-place-test.true);
      sums = push-sum c.loop-place.sums.items c.push.new.self.items _ _ c.new-day.result (c.args.self.from +ℤ pos c.loop-place.place) (get_or c.as_slice-table.result.now c.loop-place.place 0)
          c.in_ok-push.ensures.items c.loop-place.invariant.sums day more;
    }

pub loop-place-preserved : goal.loop-place-preserved
loop-place-preserved c = record {
  bound = c.past_empty-place.ensures.bound;
  sums = c.loop-place.invariant.sums
      ∙ sym (summed_skip-to c.args.self.from c.as_slice-table.result.now c.loop-place.place c.past_empty-place.result c.loop-place-test.true (omega (arith, c.if-cents-gt0.false)) c.past_empty-place.ensures.order c.past_empty-place.ensures.bound c.past_empty-place.ensures.empty);
}

pub returns-clause-value : goal.returns-clause-value
returns-clause-value c =
    let from : c.self.inside.from ≡ c.args.self.from = ap (λ (s : SpanSums). s.from) c.self.view_is in
    c.loop-place.invariant.sums ∙ all-sums c.args.self.from c.as_slice-table.result.now c.loop-place.place c.loop-place-test.false
    ∙ rw (c.as_slice-table.ensures.value, ← from) (ap (λ (s : SpanSums). s.sums) c.self.view_is)

pub returns-clause-rise : goal.returns-clause-rise
returns-clause-rise c = subst Rise (sym c.loop-place.invariant.sums) (pairs-from_rising (summed _) (rising-summed _))

pub returns-clause-above : goal.returns-clause-above
returns-clause-above c = subst AreAboveZero (sym c.loop-place.invariant.sums) (above-summed _)
