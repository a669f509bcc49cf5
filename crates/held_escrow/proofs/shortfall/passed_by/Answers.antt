use Rattle.std.proofs.Common.{◌≡◌, ◌<◌, ℤ, ◌≤ℤ◌, ◌<ℤ◌, true, false, is_lt, int_cmp, arith, rules, get_or, length}
use Rattle.std.proofs.lemmas.Int.{ints}
use Rattle.held_escrow.proofs.PassedFacts.{counts-room, counts-stop, next-at}
use Rattle.held_escrow.proofs.shortfall.passed_by.Goals as goal

later : (a b : ℤ) → true ≡ is_lt (int_cmp a b) → a <ℤ b
later a b h = grind (arith, ints)

due : (a b : ℤ) → false ≡ is_lt (int_cmp a b) → b ≤ℤ a
due a b h = grind (arith, ints)

same : (a : ℤ) → a ≤ℤ a
same a = omega (arith, ints)

pub returns-then-lt-clause-cents : goal.returns-then-lt-clause-cents
returns-then-lt-clause-cents c =
    let short : c.loop-flow.passed.count < length c.args.flows.now = search rules in
    let is : c.flow-item.result ≡ get_or c.args.flows.now c.loop-flow.passed.count c.flow-item.result =
    next-at c.args.flows.now c.args.before.count c.loop-flow.flow-index c.loop-flow.passed.count c.flow-item.result c.flow-item.is c.loop-flow.invariant.count short in
    counts-stop c.args.day c.args.flows.now c.loop-flow.passed c.flow-item.result c.requires.order short is (later c.args.day c.flow-item.result.day c.if-lt.ensures)
    (c.loop-flow.invariant.counts c.args.day (same c.args.day))

pub overflow_add-passed-in-loop-flow : goal.overflow_add-passed-in-loop-flow
overflow_add-passed-in-loop-flow c =
    let short : c.loop-flow.passed.count < length c.args.flows.now = search rules in
    let is : c.flow-item.result ≡ get_or c.args.flows.now c.loop-flow.passed.count c.flow-item.result =
    next-at c.args.flows.now c.args.before.count c.loop-flow.flow-index c.loop-flow.passed.count c.flow-item.result c.flow-item.is c.loop-flow.invariant.count short in
    let room = counts-room c.args.day c.args.flows.now c.loop-flow.passed c.flow-item.result short is (due c.args.day c.flow-item.result.day c.if-lt.ensures)
    (c.loop-flow.invariant.counts c.args.day (same c.args.day)) in
    omega (arith, room, c.requires.sum)
