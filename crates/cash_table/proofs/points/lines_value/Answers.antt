use Rattle.std.proofs.Common.{◌∙◌, length, ap, arith, List}
use Rattle.std.specs.List.{sum_by, zip}
use Rattle.std.proofs.lemmas.List.{take_all, length_push}
use Rattle.escrow_units.specs.Flows.{indexed}
use Rattle.escrow_units.specs.declared.security.Flow.{Flow}
use Rattle.fixed_powers.specs.PresentValues.{present_value}
use Rattle.cash_table.proofs.PaymentFacts.{units_at}
use Rattle.cash_table.proofs.PointFacts.{pair_value, value-none}
use Rattle.cash_table.proofs.ZipFacts.{this_pair, all_pairs, sum_by-zip_more, sum_by-zip_room}
use Rattle.cash_table.proofs.points.lines_value.Goals as goal

pub payments-requires-clause-units : goal.payments-requires-clause-units
payments-requires-clause-units c =
    let at = this_pair c.args.lines.now c.args.plan.now c.loop-line.yielded c.into_iter-line-iterator.result c.loop-line.line-iterator c.next.new.self c.next.result (c.in-Some.line, c.in-Some.units) (cc) (cc) c.loop-line.yielded_by c.in-Some.is c.next.ensures.steps in
    units_at c.args.lines.now c.args.plan.now (length c.loop-line.yielded) c.in-Some.line.now c.in-Some.units.now c.requires.permitted at

pub flows_value-total-requires-clause-room : goal.flows_value-total-requires-clause-room
flows_value-total-requires-clause-room c =
    let at = this_pair c.args.lines.now c.args.plan.now c.loop-line.yielded c.into_iter-line-iterator.result c.loop-line.line-iterator c.next.new.self c.next.result (c.in-Some.line, c.in-Some.units) (cc) (cc) c.loop-line.yielded_by c.in-Some.is c.next.ensures.steps in
    let room = sum_by-zip_room (pair_value c.args.powers.now.side c.args.powers.now.yield_units c.args.days.now) _ _ _ _ _ at in
    let pays = ap (λ (flows : List Flow). present_value c.args.powers.now.side c.args.powers.now.yield_units (indexed c.args.days.now.settle flows)) (c.as_slice.ensures.value ∙ c.payments.ensures.value) in
    omega (arith, room, pays, c.requires.room)

pub overflow_add-total : goal.overflow_add-total
overflow_add-total c =
    let at = this_pair c.args.lines.now c.args.plan.now c.loop-line.yielded c.into_iter-line-iterator.result c.loop-line.line-iterator c.next.new.self c.next.result (c.in-Some.line, c.in-Some.units) (cc) (cc) c.loop-line.yielded_by c.in-Some.is c.next.ensures.steps in
    let room = sum_by-zip_room (pair_value c.args.powers.now.side c.args.powers.now.yield_units c.args.days.now) _ _ _ _ _ at in
    let pays = ap (λ (flows : List Flow). present_value c.args.powers.now.side c.args.powers.now.yield_units (indexed c.args.days.now.settle flows)) (c.as_slice.ensures.value ∙ c.payments.ensures.value) in
    omega (arith, room, pays, c.requires.room, c.loop-line.invariant, c.flows_value-total.ensures)

pub loop-line-preserved-then-units-gt0 : goal.loop-line-preserved-then-units-gt0
loop-line-preserved-then-units-gt0 c =
    let at = this_pair c.args.lines.now c.args.plan.now c.loop-line.yielded c.into_iter-line-iterator.result c.loop-line.line-iterator c.next.new.self c.next.result (c.in-Some.line, c.in-Some.units) (cc) (cc) c.loop-line.yielded_by c.in-Some.is c.next.ensures.steps in
    let more = sum_by-zip_more (pair_value c.args.powers.now.side c.args.powers.now.yield_units c.args.days.now) _ _ _ _ _ at in
    let pays = ap (λ (flows : List Flow). present_value c.args.powers.now.side c.args.powers.now.yield_units (indexed c.args.days.now.settle flows)) (c.as_slice.ensures.value ∙ c.payments.ensures.value) in
    rw length_push (omega (arith, more, pays, c.loop-line.invariant, c.flows_value-total.ensures))

pub loop-line-preserved : goal.loop-line-preserved
loop-line-preserved c =
    let at = this_pair c.args.lines.now c.args.plan.now c.loop-line.yielded c.into_iter-line-iterator.result c.loop-line.line-iterator c.next.new.self c.next.result (c.in-Some.line, c.in-Some.units) (cc) (cc) c.loop-line.yielded_by c.in-Some.is c.next.ensures.steps in
    let more = sum_by-zip_more (pair_value c.args.powers.now.side c.args.powers.now.yield_units c.args.days.now) _ _ _ _ _ at in
    let none = value-none c.args.powers.now.side c.args.powers.now.yield_units c.args.days.now c.in-Some.line.now c.in-Some.units.now (omega arith) in
    rw length_push (omega (arith, more, none, c.loop-line.invariant))

pub returns : goal.returns
returns c =
    let count = all_pairs c.args.lines.now c.args.plan.now c.loop-line.yielded c.into_iter-line-iterator.result c.loop-line.line-iterator c.next.new.self c.next.result (cc) (cc) c.loop-line.yielded_by c.in-None.is c.next.ensures.steps in
    let whole = take_all (length c.loop-line.yielded) (zip c.args.lines.now c.args.plan.now) (omega (arith, count)) in
    let same = ap (sum_by (pair_value c.args.powers.now.side c.args.powers.now.yield_units c.args.days.now)) whole in
    cc
