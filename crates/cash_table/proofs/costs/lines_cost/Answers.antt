use Rattle.std.proofs.Common.{length, ap, arith}
use Rattle.std.specs.List.{sum_by, zip}
use Rattle.std.proofs.lemmas.List.{take_all, length_push}
use Rattle.offer_book.specs.Portfolio.{line_cost}
use Rattle.cash_table.proofs.ZipFacts.{this_pair, all_pairs, sum_by-zip_more, sum_by-zip_room}
use Rattle.cash_table.proofs.PaymentFacts.{line_at, units_at}
use Rattle.cash_table.proofs.costs.lines_cost.Goals as goal

pub cost-total-requires-clause-line : goal.cost-total-requires-clause-line
cost-total-requires-clause-line c =
    let at = this_pair c.args.lines.now c.args.plan.now c.loop-line.yielded c.into_iter-line-iterator.result c.loop-line.line-iterator c.next.new.self c.next.result (c.in-Some.line, c.in-Some.units) (cc) (cc) c.loop-line.yielded_by c.in-Some.is c.next.ensures.steps in
    (c.requires.lines.0, line_at c.requires.lines.0 c.args.lines.now c.args.plan.now (length c.loop-line.yielded) c.in-Some.line.now c.in-Some.units.now c.requires.lines.1 at)

pub cost-total-requires-clause-units : goal.cost-total-requires-clause-units
cost-total-requires-clause-units c =
    let at = this_pair c.args.lines.now c.args.plan.now c.loop-line.yielded c.into_iter-line-iterator.result c.loop-line.line-iterator c.next.new.self c.next.result (c.in-Some.line, c.in-Some.units) (cc) (cc) c.loop-line.yielded_by c.in-Some.is c.next.ensures.steps in
    units_at c.args.lines.now c.args.plan.now (length c.loop-line.yielded) c.in-Some.line.now c.in-Some.units.now c.requires.permitted at

pub overflow_add-total : goal.overflow_add-total
overflow_add-total c =
    let at = this_pair c.args.lines.now c.args.plan.now c.loop-line.yielded c.into_iter-line-iterator.result c.loop-line.line-iterator c.next.new.self c.next.result (c.in-Some.line, c.in-Some.units) (cc) (cc) c.loop-line.yielded_by c.in-Some.is c.next.ensures.steps in
    let room = sum_by-zip_room (λ p. line_cost p.0 p.1) _ _ _ _ _ at in
    omega (arith, room, c.requires.room)

pub loop-line-preserved : goal.loop-line-preserved
loop-line-preserved c =
    let at = this_pair c.args.lines.now c.args.plan.now c.loop-line.yielded c.into_iter-line-iterator.result c.loop-line.line-iterator c.next.new.self c.next.result (c.in-Some.line, c.in-Some.units) (cc) (cc) c.loop-line.yielded_by c.in-Some.is c.next.ensures.steps in
    let more = sum_by-zip_more (λ p. line_cost p.0 p.1) _ _ _ _ _ at in
    rw length_push (omega (arith, more))

pub returns : goal.returns
returns c =
    let count = all_pairs c.args.lines.now c.args.plan.now c.loop-line.yielded c.into_iter-line-iterator.result c.loop-line.line-iterator c.next.new.self c.next.result (cc) (cc) c.loop-line.yielded_by c.in-None.is c.next.ensures.steps in
    let whole = take_all (length c.loop-line.yielded) (zip c.args.lines.now c.args.plan.now) (omega (arith, count)) in
    let same = ap (sum_by (λ p. line_cost p.0 p.1)) whole in
    cc
