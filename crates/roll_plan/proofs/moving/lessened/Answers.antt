use Rattle.std.proofs.Common.{◌∙◌, ap, arith}
use Rattle.std.proofs.lemmas.List.{take_all}
use Rattle.roll_plan.specs.Steps.{lessened_by}
use Rattle.roll_plan.proofs.MoveFacts.{lessened-kept, lessened-left_out}
use Rattle.roll_plan.proofs.moving.lessened.Goals as goal
use Rattle.roll_plan.proofs.moving.lessened.Goals.{then-cents-gt0+in_ok-push, else-cents-gt0}

pub overflow_sub-cents : goal.overflow_sub-cents
overflow_sub-cents c =
    let within = c.requires.within c.loop-flow.flow-index c.flow-item.result c.loop-flow-test.true in
    rw (c.on.ensures, c.flow-item.is) within

pub loop-flow-preserved : goal.loop-flow-preserved
loop-flow-preserved c = elim c.if-cents-gt0.branch [
  | then-cents-gt0+in_ok-push w ↦
      rw w.left-is
      (lessened-kept c.args.taken.now.sums c.args.flows.now c.loop-flow.flow-index c.flow-item.result c.loop-flow.left.items w.push.new.self.items c.loop-flow-test.true c.flow-item.is c.loop-flow.invariant c.on.result.0 c.on.ensures w.if-cents-gt0.true w.in_ok-push.ensures.items)
  | else-cents-gt0 w ↦
      rw w.left-is
      (lessened-left_out c.args.taken.now.sums c.args.flows.now c.loop-flow.flow-index c.flow-item.result c.loop-flow.left.items c.loop-flow-test.true c.flow-item.is c.loop-flow.invariant c.on.result.0 c.on.ensures w.if-cents-gt0.false)
]

pub returns : goal.returns
returns c = c.loop-flow.invariant ∙ ap (lessened_by c.args.taken.now.sums) (take_all c.loop-flow.flow-index c.args.flows.now (omega (arith, c.loop-flow-test.false)))
