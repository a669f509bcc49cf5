use Rattle.std.proofs.Common.{◌≡◌, slice_index_or, length, ap, ◌∙◌, arith}
use Rattle.std.specs.List.{zip}
use Rattle.std.proofs.lemmas.List.{take_all, length_push}
use Rattle.escrow_units.specs.Flows.{total}
use Rattle.cash_table.proofs.ZipFacts.{this_pair, all_pairs, sum_by-zip_more, sum_by-zip_room}
use Rattle.cash_table.proofs.PaymentFacts.{pair_payments, pair_total, total-payments, units_at}
use Rattle.cash_table.proofs.ReceiptFacts.{receipts_more, nothing_by}
use Rattle.cash_table.proofs.cash.add_bought.Goals as goal

pub payments-requires-clause-units : goal.payments-requires-clause-units
payments-requires-clause-units c =
    let at = this_pair c.args.lines.now c.args.plan.now c.loop-line.yielded c.into_iter-line-iterator.result c.loop-line.line-iterator c.next.new.self c.next.result (c.in-Some.line, c.in-Some.units) (cc) (cc) c.loop-line.yielded_by c.in-Some.is c.next.ensures.steps in
    units_at c.args.lines.now c.args.plan.now (length c.loop-line.yielded) c.in-Some.line.now c.in-Some.units.now c.requires.permitted at

pub add_receipts-requires-clause-room : goal.add_receipts-requires-clause-room
add_receipts-requires-clause-room c =
    let at = this_pair c.args.lines.now c.args.plan.now c.loop-line.yielded c.into_iter-line-iterator.result c.loop-line.line-iterator c.next.new.self c.next.result (c.in-Some.line, c.in-Some.units) (cc) (cc) c.loop-line.yielded_by c.in-Some.is c.next.ensures.steps in
    let room = sum_by-zip_room (pair_total c.args.days.now) _ _ _ _ _ at in
    let whole = total-payments c.args.days.now (zip c.args.lines.now c.args.plan.now) in
    let pays = ap total (c.as_slice.ensures.value ∙ c.payments.ensures.value) in
    omega (arith, room, whole, pays, c.loop-line.invariant.within, c.requires.room)

pub loop-line-preserved-then-units-gt0 : goal.loop-line-preserved-then-units-gt0
loop-line-preserved-then-units-gt0 c =
    let at = this_pair c.args.lines.now c.args.plan.now c.loop-line.yielded c.into_iter-line-iterator.result c.loop-line.line-iterator c.next.new.self c.next.result (c.in-Some.line, c.in-Some.units) (cc) (cc) c.loop-line.yielded_by c.in-Some.is c.next.ensures.steps in
    let more = sum_by-zip_more (pair_total c.args.days.now) _ _ _ _ _ at in
    let pays : c.as_slice.result.now ≡ pair_payments c.args.days.now (c.in-Some.line.now, c.in-Some.units.now) = c.as_slice.ensures.value ∙ c.payments.ensures.value in
    rw length_push (record {
      receipts = receipts_more c.args.needs.now c.args.days.now c.args.lines.now c.args.plan.now (length c.loop-line.yielded) c.in-Some.line.now c.in-Some.units.now c.loop-line.receipts c.add_receipts.new.receipts at c.loop-line.invariant.receipts
          (rw pays at c.add_receipts.ensures.by_day);
      within = omega (arith, more, ap total pays, c.loop-line.invariant.within, c.add_receipts.ensures.whole);
    })

pub loop-line-preserved : goal.loop-line-preserved
loop-line-preserved c =
    let at = this_pair c.args.lines.now c.args.plan.now c.loop-line.yielded c.into_iter-line-iterator.result c.loop-line.line-iterator c.next.new.self c.next.result (c.in-Some.line, c.in-Some.units) (cc) (cc) c.loop-line.yielded_by c.in-Some.is c.next.ensures.steps in
    let more = sum_by-zip_more (pair_total c.args.days.now) _ _ _ _ _ at in
    let none : c.in-Some.units.now ≡ 0 = omega arith in
    rw length_push (record {
      receipts = receipts_more c.args.needs.now c.args.days.now c.args.lines.now c.args.plan.now (length c.loop-line.yielded) c.in-Some.line.now c.in-Some.units.now c.loop-line.receipts c.loop-line.receipts at c.loop-line.invariant.receipts
          (λ k d within. omega (arith, nothing_by (slice_index_or c.args.needs.now k d).day c.args.days.now c.in-Some.line.now c.in-Some.units.now none));
      within = omega (arith, more, c.loop-line.invariant.within);
    })

pub returns-clause-receipts : goal.returns-clause-receipts
returns-clause-receipts c =
    let count = all_pairs c.args.lines.now c.args.plan.now c.loop-line.yielded c.into_iter-line-iterator.result c.loop-line.line-iterator c.next.new.self c.next.result (cc) (cc) c.loop-line.yielded_by c.in-None.is c.next.ensures.steps in
    let whole = take_all (length c.loop-line.yielded) (zip c.args.lines.now c.args.plan.now) (omega (arith, count)) in
    rw whole at c.loop-line.invariant.receipts

pub returns-clause-bound : goal.returns-clause-bound
returns-clause-bound c =
    let count = all_pairs c.args.lines.now c.args.plan.now c.loop-line.yielded c.into_iter-line-iterator.result c.loop-line.line-iterator c.next.new.self c.next.result (cc) (cc) c.loop-line.yielded_by c.in-None.is c.next.ensures.steps in
    let whole = take_all (length c.loop-line.yielded) (zip c.args.lines.now c.args.plan.now) (omega (arith, count)) in
    omega (arith, rw whole at c.loop-line.invariant.within, total-payments c.args.days.now (zip c.args.lines.now c.args.plan.now), c.requires.room)
