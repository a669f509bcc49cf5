use Rattle.std.proofs.Common.{rules, ◌≡◌, sym, subst, IfOk, List}
use Rattle.std.proofs.lemmas.Result.{IfOk-weaker}
use Rattle.cash_table.specs.declared.day_balances.Balance.{Balance}
use Rattle.roll_plan.specs.Rolls.{AreRollsOf, StillMeet}
use Rattle.roll_plan.specs.RollsOf.{rolls_of}
use Rattle.roll_plan.specs.Steps.{AreInOrder}
use Rattle.roll_plan.proofs.PlanFacts.{in_order}
use Rattle.roll_plan.proofs.RollLaws.{are_rolls_of, rolls_still_meet}
use Rattle.roll_plan.proofs.planning.rolls.Goals as goal

pub rolls_along-requires-clause-entries : goal.rolls_along-requires-clause-entries
rolls_along-requires-clause-entries c =
    subst (λ (entries : List Balance). AreInOrder c.in_ok-paid.paid entries) (sym c.as_slice.ensures.value)
    (in_order c.args.case.now.book c.args.plan.now c.in_ok-paid.paid c.in_ok-entries.entries.items c.line_count.ensures.limits c.requires.permitted c.in_ok-entries.ensures.meaning c.in_ok-paid.ensures)

pub returns-clause-rolls : goal.returns-clause-rolls
returns-clause-rolls c =
    let book = c.args.case.now.book in
    let plan = c.args.plan.now in
    let value : IfOk c.rolls_along.result (λ rolls. rolls.items ≡ rolls_of book plan c.args.terms) = search rules in
    IfOk-weaker c.rolls_along.result (λ rolls. rolls.items ≡ rolls_of book plan c.args.terms) (λ rolls. AreRollsOf book plan c.args.terms rolls.items)
    (λ rolls is. subst (AreRollsOf book plan c.args.terms) (sym is) (are_rolls_of book plan c.args.terms c.line_count.ensures.limits c.requires.meets)) value

pub returns-clause-meet : goal.returns-clause-meet
returns-clause-meet c =
    let book = c.args.case.now.book in
    let plan = c.args.plan.now in
    let value : IfOk c.rolls_along.result (λ rolls. rolls.items ≡ rolls_of book plan c.args.terms) = search rules in
    IfOk-weaker c.rolls_along.result (λ rolls. rolls.items ≡ rolls_of book plan c.args.terms) (λ rolls. StillMeet book plan rolls.items)
    (λ rolls is. subst (StillMeet book plan) (sym is) (rolls_still_meet book plan c.args.terms c.line_count.ensures.limits c.requires.meets)) value
