use Rattle.std.proofs.Common.{◌≡◌, length, ap, inl, inr, arith}
use Rattle.std.proofs.lemmas.Bool.{cases_lt}
use Rattle.std.proofs.lemmas.List.{length_push}
use Rattle.std.proofs.lemmas.Slice.Zip.{length-zip}
use Rattle.cash_table.specs.Receipts.{IsCovered}
use Rattle.cash_table.proofs.ZipFacts.{this_pair, all_pairs, sum_by-at_more, sum_by-at_room}
use Rattle.cash_table.proofs.cash.first_uncovered.Goals as goal

pub overflow_add-needed : goal.overflow_add-needed
overflow_add-needed c =
    let at = this_pair c.args.needs.now c.args.receipts.now c.loop-need.yielded c.into_iter-need-iterator.result c.loop-need.need-iterator c.next.new.self c.next.result (c.in-Some.need, c.in-Some.receipt) (cc) (cc) c.loop-need.yielded_by c.in-Some.is c.next.ensures.steps in
    let room = sum_by-at_room (λ flow. flow.cents.0) _ _ _ at.first_in at.first in
    omega (arith, room, c.loop-need.invariant.0)

pub overflow_add-received : goal.overflow_add-received
overflow_add-received c =
    let at = this_pair c.args.needs.now c.args.receipts.now c.loop-need.yielded c.into_iter-need-iterator.result c.loop-need.need-iterator c.next.new.self c.next.result (c.in-Some.need, c.in-Some.receipt) (cc) (cc) c.loop-need.yielded_by c.in-Some.is c.next.ensures.steps in
    let room = sum_by-at_room (λ n. n) _ _ _ at.second_in at.second in
    omega (arith, room, c.loop-need.invariant.1)

pub returns-then-received-needed-clause-some : goal.returns-then-received-needed-clause-some
returns-then-received-needed-clause-some c =
    let at = this_pair c.args.needs.now c.args.receipts.now c.loop-need.yielded c.into_iter-need-iterator.result c.loop-need.need-iterator c.next.new.self c.next.result (c.in-Some.need, c.in-Some.receipt) (cc) (cc) c.loop-need.yielded_by c.in-Some.is c.next.ensures.steps in
    let needed = sum_by-at_more (λ flow. flow.cents.0) _ _ _ at.first_in at.first in
    let received = sum_by-at_more (λ n. n) _ _ _ at.second_in at.second in (
      length c.loop-need.yielded,
      record {
        within = at.first_in;
        short = omega (arith, needed, received, c.loop-need.invariant.0, c.loop-need.invariant.1, c.if-received-needed.true);
        before = c.loop-need.invariant.2;
      },
      λ d. ap (λ flow. flow.day) (at.first d),
    )

pub loop-need-preserved : goal.loop-need-preserved
loop-need-preserved c =
    let at = this_pair c.args.needs.now c.args.receipts.now c.loop-need.yielded c.into_iter-need-iterator.result c.loop-need.need-iterator c.next.new.self c.next.result (c.in-Some.need, c.in-Some.receipt) (cc) (cc) c.loop-need.yielded_by c.in-Some.is c.next.ensures.steps in
    let needed = sum_by-at_more (λ flow. flow.cents.0) _ _ _ at.first_in at.first in
    let received = sum_by-at_more (λ n. n) _ _ _ at.second_in at.second in
    let here : IsCovered c.args.needs.now c.args.receipts.now (length c.loop-need.yielded) = omega (arith, needed, received, c.loop-need.invariant.0, c.loop-need.invariant.1, c.if-received-needed.false) in
    rw length_push (
      omega (arith, needed, c.loop-need.invariant.0),
      omega (arith, received, c.loop-need.invariant.1),
      λ k h. elim (cases_lt k (length c.loop-need.yielded)) [
        | inl less ↦ c.loop-need.invariant.2 k less
        | inr more ↦ (let same : k ≡ length c.loop-need.yielded = omega arith in rw same here)
      ],
    )

pub returns-clause-none : goal.returns-clause-none
returns-clause-none c =
    let count = all_pairs c.args.needs.now c.args.receipts.now c.loop-need.yielded c.into_iter-need-iterator.result c.loop-need.need-iterator c.next.new.self c.next.result (cc) (cc) c.loop-need.yielded_by c.in-None.is c.next.ensures.steps in
    λ k within. c.loop-need.invariant.2 k (omega (arith, count, within, length-zip c.args.needs.now c.args.receipts.now))
