use Rattle.std.proofs.Common.{rules, IfOk, ◌≡◌, ◌∙◌, ◌≤◌, ◌≤ℤ◌, sym, ap, subst, arith, ℤ, List, [], ◌++◌}
use Rattle.std.specs.List.{All}
use Rattle.std.proofs.lemmas.Result.{IfOk-weaker}
use Rattle.escrow_units.specs.Calendar.{years_after_of}
use Rattle.escrow_units.specs.Flows.{FallWithinFortyYears, total}
use Rattle.escrow_units.specs.declared.security.Flow.{Flow}
use Rattle.day_sums.specs.Summed.{cents_on, summed}
use Rattle.day_sums.specs.Table.{SpanSums}
use Rattle.offer_book.specs.Portfolio.{security_cost, security_flows}
use Rattle.cash_table.proofs.BalanceLaws.{are_balances}
use Rattle.cash_table.proofs.FlowFacts.{flows_within}
use Rattle.roll_plan.specs.RolledFlows.{AreRolledFlows, YieldsNoMore}
use Rattle.roll_plan.specs.Rolls.{returned, taken}
use Rattle.roll_plan.proofs.MoveFacts.{taken_there}
use Rattle.roll_plan.proofs.PlanFacts.{known}
use Rattle.roll_plan.proofs.SumFacts.{same_total}
use Rattle.roll_plan.specs.RollsOf.{moved_by}
use Rattle.roll_plan.proofs.MovedLaws.{both_within, moved_are}
use Rattle.roll_plan.proofs.moving.rolled.Goals as goal

-- the flows of two lists, summed
list_is : (settle last : ℤ) (flows more first second items slice : List Flow) (sums : SpanSums) → sums ≡ record { from = settle; to = last; sums = summed (flows ++ more) } → flows ≡ first → more ≡ second
    → items ≡ sums.sums → slice ≡ items → slice ≡ summed (first ++ second)
list_is settle last flows more first second items slice sums is one two all same =
    same ∙ all ∙ ap (λ (s : SpanSums). s.sums) is ∙ ap (λ (l : List Flow). summed (l ++ more)) one ∙ ap (λ (l : List Flow). summed (first ++ l)) two

sums_are : (settle last : ℤ) (flows first : List Flow) (sums : SpanSums) → sums ≡ record { from = settle; to = last; sums = summed (flows ++ []) } → flows ≡ first → sums.sums ≡ summed (first ++ [])
sums_are settle last flows first sums is one = ap (λ (s : SpanSums). s.sums) is ∙ ap (λ (l : List Flow). summed (l ++ [])) one

pub sums_of-requires-clause-more : goal.sums_of-requires-clause-more
sums_of-requires-clause-more c =
    let k = known c.args.case.now.book c.args.plan.now c.requires.rolls.0 c.args.rolls.now c.line_count.ensures.limits c.requires.permitted
    (are_balances c.args.case.now.book c.args.plan.now c.line_count.ensures.limits c.requires.meets) c.requires.rolls.1 in
    subst (λ (z : ℤ). FallWithinFortyYears z c.as_slice-2.result.now) (sym c.settle-settle.ensures)
    (subst (λ (l : List Flow). FallWithinFortyYears c.args.case.now.book.days.settle l) (sym (c.as_slice-2.ensures.value ∙ c.in_ok-returned.ensures)) k.to)

pub sums_of-requires-clause-room : goal.sums_of-requires-clause-room
sums_of-requires-clause-room c =
    let k = known c.args.case.now.book c.args.plan.now c.requires.rolls.0 c.args.rolls.now c.line_count.ensures.limits c.requires.permitted
    (are_balances c.args.case.now.book c.args.plan.now c.line_count.ensures.limits c.requires.meets) c.requires.rolls.1 in
    omega (
      arith,
      ap total (c.as_slice.ensures.value),
      c.in_ok-flows.ensures.bound,
      ap total (c.as_slice-2.ensures.value ∙ c.in_ok-returned.ensures),
      same_total c.args.rolls.now,
      k.small,
    )

pub sums_of-requires-2-clause-flows : goal.sums_of-requires-2-clause-flows
sums_of-requires-2-clause-flows c =
    let k = known c.args.case.now.book c.args.plan.now c.requires.rolls.0 c.args.rolls.now c.line_count.ensures.limits c.requires.permitted
    (are_balances c.args.case.now.book c.args.plan.now c.line_count.ensures.limits c.requires.meets) c.requires.rolls.1 in
    subst (λ (z : ℤ). FallWithinFortyYears z c.as_slice-3.result.now) (sym c.settle-settle.ensures)
    (subst (λ (l : List Flow). FallWithinFortyYears c.args.case.now.book.days.settle l) (sym (c.as_slice-3.ensures.value ∙ c.in_ok-taken.ensures)) k.from)

pub sums_of-requires-2-clause-room : goal.sums_of-requires-2-clause-room
sums_of-requires-2-clause-room c =
    let k = known c.args.case.now.book c.args.plan.now c.requires.rolls.0 c.args.rolls.now c.line_count.ensures.limits c.requires.permitted
    (are_balances c.args.case.now.book c.args.plan.now c.line_count.ensures.limits c.requires.meets) c.requires.rolls.1 in
    omega (arith, ap total (c.as_slice-3.ensures.value ∙ c.in_ok-taken.ensures), k.small)

-- what is lessened, and by what
pub lessened-requires-clause-from : goal.lessened-requires-clause-from
lessened-requires-clause-from c =
    let k = known c.args.case.now.book c.args.plan.now c.requires.rolls.0 c.args.rolls.now c.line_count.ensures.limits c.requires.permitted
    (are_balances c.args.case.now.book c.args.plan.now c.line_count.ensures.limits c.requires.meets) c.requires.rolls.1 in
    let settle = c.args.case.now.book.days.settle in
    let flows = security_flows c.args.case.now.book c.args.plan.now in
    let list : c.as_slice-4.result.now ≡ summed (flows ++ returned c.args.rolls.now) =
    list_is c.settle-settle.result (years_after_of c.settle-settle.result 40) c.as_slice.result.now c.as_slice-2.result.now flows (returned c.args.rolls.now) c.in_ok-received-2.received.items c.as_slice-4.result.now c.in_ok-received.received
    c.in_ok-received.ensures (c.as_slice.ensures.value ∙ c.in_ok-flows.ensures.value) (c.as_slice-2.ensures.value ∙ c.in_ok-returned.ensures) c.in_ok-received-2.ensures.value c.as_slice-4.ensures.value in
    let from : c.in_ok-taken-2.taken.from ≡ settle = ap (λ (s : SpanSums). s.from) c.in_ok-taken-2.ensures ∙ c.settle-settle.ensures in
    let within = both_within settle flows (returned c.args.rolls.now) (flows_within c.args.case.now.book c.args.plan.now c.line_count.ensures.limits) k.to in
    subst (λ (l : List Flow). All (λ (flow : Flow). c.in_ok-taken-2.taken.from ≤ℤ flow.day) l) (sym list)
    (subst (λ (z : ℤ). All (λ (flow : Flow). z ≤ℤ flow.day) (summed (flows ++ returned c.args.rolls.now))) (sym from) (λ i d here. (within i d here).0))

pub lessened-requires-clause-to : goal.lessened-requires-clause-to
lessened-requires-clause-to c =
    let k = known c.args.case.now.book c.args.plan.now c.requires.rolls.0 c.args.rolls.now c.line_count.ensures.limits c.requires.permitted
    (are_balances c.args.case.now.book c.args.plan.now c.line_count.ensures.limits c.requires.meets) c.requires.rolls.1 in
    let settle = c.args.case.now.book.days.settle in
    let flows = security_flows c.args.case.now.book c.args.plan.now in
    let list : c.as_slice-4.result.now ≡ summed (flows ++ returned c.args.rolls.now) =
    list_is c.settle-settle.result (years_after_of c.settle-settle.result 40) c.as_slice.result.now c.as_slice-2.result.now flows (returned c.args.rolls.now) c.in_ok-received-2.received.items c.as_slice-4.result.now c.in_ok-received.received
    c.in_ok-received.ensures (c.as_slice.ensures.value ∙ c.in_ok-flows.ensures.value) (c.as_slice-2.ensures.value ∙ c.in_ok-returned.ensures) c.in_ok-received-2.ensures.value c.as_slice-4.ensures.value in
    let to : c.in_ok-taken-2.taken.to ≡ years_after_of settle 40 = ap (λ (s : SpanSums). s.to) c.in_ok-taken-2.ensures ∙ ap (λ (z : ℤ). years_after_of z 40) c.settle-settle.ensures in
    let within = both_within settle flows (returned c.args.rolls.now) (flows_within c.args.case.now.book c.args.plan.now c.line_count.ensures.limits) k.to in
    subst (λ (l : List Flow). All (λ (flow : Flow). flow.day ≤ℤ c.in_ok-taken-2.taken.to) l) (sym list)
    (subst (λ (z : ℤ). All (λ (flow : Flow). flow.day ≤ℤ z) (summed (flows ++ returned c.args.rolls.now))) (sym to) (λ i d here. (within i d here).1))

pub lessened-requires-clause-within : goal.lessened-requires-clause-within
lessened-requires-clause-within c =
    let k = known c.args.case.now.book c.args.plan.now c.requires.rolls.0 c.args.rolls.now c.line_count.ensures.limits c.requires.permitted
    (are_balances c.args.case.now.book c.args.plan.now c.line_count.ensures.limits c.requires.meets) c.requires.rolls.1 in
    let settle = c.args.case.now.book.days.settle in
    let flows = security_flows c.args.case.now.book c.args.plan.now in
    let list : c.as_slice-4.result.now ≡ summed (flows ++ returned c.args.rolls.now) =
    list_is c.settle-settle.result (years_after_of c.settle-settle.result 40) c.as_slice.result.now c.as_slice-2.result.now flows (returned c.args.rolls.now) c.in_ok-received-2.received.items c.as_slice-4.result.now c.in_ok-received.received
    c.in_ok-received.ensures (c.as_slice.ensures.value ∙ c.in_ok-flows.ensures.value) (c.as_slice-2.ensures.value ∙ c.in_ok-returned.ensures) c.in_ok-received-2.ensures.value c.as_slice-4.ensures.value in
    let away : c.in_ok-taken-2.taken.sums ≡ summed (taken c.args.rolls.now ++ []) =
    sums_are c.settle-settle.result (years_after_of c.settle-settle.result 40) c.as_slice-3.result.now (taken c.args.rolls.now) c.in_ok-taken-2.taken c.in_ok-taken-2.ensures (c.as_slice-3.ensures.value ∙ c.in_ok-taken.ensures) in
    subst (λ (l : List Flow). All (λ (flow : Flow). cents_on flow.day c.in_ok-taken-2.taken.sums ≤ flow.cents.0) l) (sym list)
    (subst (λ (l : List Flow). All (λ (flow : Flow). cents_on flow.day l ≤ flow.cents.0) (summed (flows ++ returned c.args.rolls.now))) (sym away) (taken_there flows c.args.rolls.now k.within))

pub returns-clause-flows : goal.returns-clause-flows
returns-clause-flows c =
    let book = c.args.case.now.book in
    let plan = c.args.plan.now in
    let value : IfOk c.lessened.result (λ moved. moved.items ≡ moved_by (security_flows book plan) c.args.rolls.now) = search rules in
    let are = moved_are book plan c.requires.rolls.0 c.args.rolls.now c.line_count.ensures.limits c.requires.permitted c.requires.meets c.requires.rolls.1 in
    IfOk-weaker c.lessened.result (λ moved. moved.items ≡ moved_by (security_flows book plan) c.args.rolls.now) (λ moved. AreRolledFlows (security_flows book plan) c.args.rolls.now moved.items)
    (λ moved is. subst (AreRolledFlows (security_flows book plan) c.args.rolls.now) (sym is) are.flows) value

pub returns-clause-total : goal.returns-clause-total
returns-clause-total c =
    let book = c.args.case.now.book in
    let plan = c.args.plan.now in
    let value : IfOk c.lessened.result (λ moved. moved.items ≡ moved_by (security_flows book plan) c.args.rolls.now) = search rules in
    let are = moved_are book plan c.requires.rolls.0 c.args.rolls.now c.line_count.ensures.limits c.requires.permitted c.requires.meets c.requires.rolls.1 in
    IfOk-weaker c.lessened.result (λ moved. moved.items ≡ moved_by (security_flows book plan) c.args.rolls.now) (λ moved. total moved.items ≡ total (security_flows book plan))
    (λ moved is. ap total is ∙ are.total) value

pub returns-clause-yields : goal.returns-clause-yields
returns-clause-yields c =
    let book = c.args.case.now.book in
    let plan = c.args.plan.now in
    let value : IfOk c.lessened.result (λ moved. moved.items ≡ moved_by (security_flows book plan) c.args.rolls.now) = search rules in
    let are = moved_are book plan c.requires.rolls.0 c.args.rolls.now c.line_count.ensures.limits c.requires.permitted c.requires.meets c.requires.rolls.1 in
    IfOk-weaker c.lessened.result (λ moved. moved.items ≡ moved_by (security_flows book plan) c.args.rolls.now) (λ moved. YieldsNoMore book.days.settle (security_cost book plan) (security_flows book plan) moved.items)
    (λ moved is. subst (YieldsNoMore book.days.settle (security_cost book plan) (security_flows book plan)) (sym is) are.yields) value

pub returns-clause-within : goal.returns-clause-within
returns-clause-within c =
    let book = c.args.case.now.book in
    let plan = c.args.plan.now in
    let value : IfOk c.lessened.result (λ moved. moved.items ≡ moved_by (security_flows book plan) c.args.rolls.now) = search rules in
    let are = moved_are book plan c.requires.rolls.0 c.args.rolls.now c.line_count.ensures.limits c.requires.permitted c.requires.meets c.requires.rolls.1 in
    IfOk-weaker c.lessened.result (λ moved. moved.items ≡ moved_by (security_flows book plan) c.args.rolls.now) (λ moved. FallWithinFortyYears book.days.settle moved.items)
    (λ moved is. subst (FallWithinFortyYears book.days.settle) (sym is) are.within) value
