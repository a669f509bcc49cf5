use Rattle.std.proofs.Common.{ap, arith, rules, ◌∙◌, ◌<◌, ◌≤◌, ◌≡◌, length, slice_index_or, List}
use Rattle.std.proofs.lemmas.List.{get_or_default, take_all}
use Rattle.escrow_units.specs.Flows.{indexed}
use Rattle.escrow_units.specs.declared.security.Flow.{Flow}
use Rattle.fixed_powers.specs.PresentValues.{present_value}
use Rattle.cash_table.proofs.PointFacts.{value-room}
use Rattle.savings_table.proofs.RangeFacts.{value-small}
use Rattle.savings_table.proofs.discounting.worth.Goals as goal

pub overflow_add-total : goal.overflow_add-total
overflow_add-total c =
    let side = c.args.powers.now.side in
    let n = c.args.powers.now.yield_units in
    let within : c.loop-flow.flow-index < length c.args.flows.now = search rules in
    let at : c.flow-item.result ≡ slice_index_or c.args.flows.now c.loop-flow.flow-index c.flow-item.result = search rules in
    let room = value-room side n c.args.settle c.args.flows.now c.loop-flow.flow-index c.flow-item.result within (λ d. at ∙ get_or_default c.args.flows.now c.loop-flow.flow-index c.flow-item.result d within) in
    let small = value-small side n c.args.settle c.args.flows.now c.requires.cents in
    rw (c.power.ensures.value, c.index360.ensures.value) (omega (arith, room, c.loop-flow.invariant, small))

pub returns-clause-most : goal.returns-clause-most
returns-clause-most c =
    let side = c.args.powers.now.side in
    let n = c.args.powers.now.yield_units in
    let all : length c.args.flows.now ≤ c.loop-flow.flow-index = search rules in
    let value = c.loop-flow.invariant ∙ ap (λ (flows : List Flow). present_value side n (indexed c.args.settle flows)) (take_all c.loop-flow.flow-index c.args.flows.now all) in
    omega (arith, value, value-small side n c.args.settle c.args.flows.now c.requires.cents)
