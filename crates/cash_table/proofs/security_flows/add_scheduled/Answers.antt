use Rattle.std.proofs.Common.{◌≡◌, ◌+◌, ◌++◌, [], get_or, length, refl, subst, sym, ap, ◌∙◌, arith}
use Rattle.std.specs.List.{zip}
use Rattle.std.proofs.lemmas.List.{take_all, length_push}
use Rattle.escrow_units.specs.Flows.{FallWithin, total}
use Rattle.escrow_units.specs.Calendar.{years_after_of}
use Rattle.day_sums.specs.Summed.{summed}
use Rattle.day_sums.specs.Table.{SpanSums}
use Rattle.day_sums.proofs.TableFacts.{span, span_sums}
use Rattle.day_sums.proofs.Uniqueness.{nothing}
use Rattle.cash_table.proofs.ZipFacts.{this_pair, all_pairs, sum_by-zip_room}
use Rattle.cash_table.proofs.PaymentFacts.{pair_payments, pair_total, total-payments, units_at}
use Rattle.cash_table.proofs.FlowFacts.{total-sums, sums_more, sums_same}
use Rattle.cash_table.proofs.ScheduledFacts.{kept-there, kept-at}
use Rattle.cash_table.proofs.security_flows.add_scheduled.Goals as goal

pub loop-line-init : goal.loop-line-init
loop-line-init c = record { place = refl; sums = c.requires.none ∙ ap (span c.args.days.now.settle (years_after_of c.args.days.now.settle 40)) (sym nothing) }

pub paid-requires-clause-units : goal.paid-requires-clause-units
paid-requires-clause-units c =
    let at = this_pair c.args.lines.now c.args.plan.now c.loop-line.yielded c.into_iter-line-iterator.result c.loop-line.line-iterator c.next.new.self c.next.result (c.in-Some.line, c.in-Some.units) (cc) (cc) c.loop-line.yielded_by c.in-Some.is c.next.ensures.steps in
    units_at c.args.lines.now c.args.plan.now (length c.loop-line.yielded) c.in-Some.line.now c.in-Some.units.now c.requires.permitted at

pub add-requires-clause-span : goal.add-requires-clause-span
add-requires-clause-span c =
    let from = ap (λ (s : SpanSums). s.from) c.loop-line.invariant.sums in
    let to = ap (λ (s : SpanSums). s.to) c.loop-line.invariant.sums in
    subst (λ flows. FallWithin c.loop-line.sums.from c.loop-line.sums.to flows) (sym c.as_slice.ensures.value) (rw (from, to) c.paid.ensures.within)

pub add-requires-clause-room : goal.add-requires-clause-room
add-requires-clause-room c =
    let at = this_pair c.args.lines.now c.args.plan.now c.loop-line.yielded c.into_iter-line-iterator.result c.loop-line.line-iterator c.next.new.self c.next.result (c.in-Some.line, c.in-Some.units) (cc) (cc) c.loop-line.yielded_by c.in-Some.is c.next.ensures.steps in
    let room = sum_by-zip_room (pair_total c.args.days.now) _ _ _ _ _ at in
    let whole = total-payments c.args.days.now (zip c.args.lines.now c.args.plan.now) in
    let pays = ap total (c.as_slice.ensures.value ∙ c.paid.ensures.value) in
    let sums = total-sums c.loop-line.sums.sums c.args.days.now c.args.lines.now c.args.plan.now (length c.loop-line.yielded) (ap (λ (s : SpanSums). s.sums) c.loop-line.invariant.sums) in
    omega (arith, room, whole, pays, sums, c.requires.room)

pub loop-line-preserved-then-units-gt0 : goal.loop-line-preserved-then-units-gt0
loop-line-preserved-then-units-gt0 c =
    let at = this_pair c.args.lines.now c.args.plan.now c.loop-line.yielded c.into_iter-line-iterator.result c.loop-line.line-iterator c.next.new.self c.next.result (c.in-Some.line, c.in-Some.units) (cc) (cc) c.loop-line.yielded_by c.in-Some.is c.next.ensures.steps in
    let pays : c.as_slice.result.now ≡ pair_payments c.args.days.now (c.in-Some.line.now, c.in-Some.units.now) = c.as_slice.ensures.value ∙ c.paid.ensures.value in
    let from = ap (λ (s : SpanSums). s.from) c.loop-line.invariant.sums in
    let to = ap (λ (s : SpanSums). s.to) c.loop-line.invariant.sums in
    let before = ap (λ (s : SpanSums). s.sums) c.loop-line.invariant.sums in
    rw length_push (record {
      place = omega (arith, c.loop-line.invariant.place);
      sums = c.add.ensures ∙ span_sums from to
          (sums_more c.loop-line.sums.sums (summed (c.loop-line.sums.sums ++ c.as_slice.result.now)) c.as_slice.result.now c.args.days.now c.args.lines.now c.args.plan.now (length c.loop-line.yielded) c.in-Some.line.now c.in-Some.units.now at before pays refl);
    })

pub loop-line-preserved : goal.loop-line-preserved
loop-line-preserved c =
    let at = this_pair c.args.lines.now c.args.plan.now c.loop-line.yielded c.into_iter-line-iterator.result c.loop-line.line-iterator c.next.new.self c.next.result (c.in-Some.line, c.in-Some.units) (cc) (cc) c.loop-line.yielded_by c.in-Some.is c.next.ensures.steps in
    rw length_push (record {
      place = omega (arith, c.loop-line.invariant.place);
      sums = c.loop-line.invariant.sums ∙ ap (span c.args.days.now.settle (years_after_of c.args.days.now.settle 40))
          (sums_same _ c.args.days.now c.args.lines.now c.args.plan.now (length c.loop-line.yielded) c.in-Some.line.now c.in-Some.units.now at (omega arith) refl);
    })

pub returns : goal.returns
returns c =
    let count = all_pairs c.args.lines.now c.args.plan.now c.loop-line.yielded c.into_iter-line-iterator.result c.loop-line.line-iterator c.next.new.self c.next.result (cc) (cc) c.loop-line.yielded_by c.in-None.is c.next.ensures.steps in
    let whole = take_all (length c.loop-line.yielded) (zip c.args.lines.now c.args.plan.now) (omega (arith, count)) in
    let from = ap (λ (s : SpanSums). s.from) c.requires.none in
    let to = ap (λ (s : SpanSums). s.to) c.requires.none in
    rw whole at c.loop-line.invariant.sums ∙ sym (span_sums from to refl)

pub paid-requires-clause-kept : goal.paid-requires-clause-kept
paid-requires-clause-kept c =
    let at = this_pair c.args.lines.now c.args.plan.now c.loop-line.yielded c.into_iter-line-iterator.result c.loop-line.line-iterator c.next.new.self c.next.result (c.in-Some.line, c.in-Some.units) (cc) (cc) c.loop-line.yielded_by c.in-Some.is c.next.ensures.steps in
    c.line.ensures ∙ ap (λ i. get_or c.args.schedules.now (i + 1) []) c.loop-line.invariant.place
    ∙ kept-at c.args.days.now c.args.lines.now c.args.schedules.now (length c.loop-line.yielded) c.in-Some.line.now c.requires.schedules at.first_in at.first

pub line-requires : goal.line-requires
line-requires c =
    let at = this_pair c.args.lines.now c.args.plan.now c.loop-line.yielded c.into_iter-line-iterator.result c.loop-line.line-iterator c.next.new.self c.next.result (c.in-Some.line, c.in-Some.units) (cc) (cc) c.loop-line.yielded_by c.in-Some.is c.next.ensures.steps in
    omega (arith, c.loop-line.invariant.place, kept-there c.args.days.now c.args.lines.now c.args.schedules.now (length c.loop-line.yielded) c.requires.schedules at.first_in)

pub overflow_add-place : goal.overflow_add-place
overflow_add-place c =
    let at = this_pair c.args.lines.now c.args.plan.now c.loop-line.yielded c.into_iter-line-iterator.result c.loop-line.line-iterator c.next.new.self c.next.result (c.in-Some.line, c.in-Some.units) (cc) (cc) c.loop-line.yielded_by c.in-Some.is c.next.ensures.steps in
    omega (arith, c.loop-line.invariant.place, at.first_in)
