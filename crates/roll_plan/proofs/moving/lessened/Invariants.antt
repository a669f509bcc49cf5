use Rattle.std.proofs.Common.{◌≡◌, take}
use Rattle.roll_plan.specs.Steps.{lessened_by}
use Rattle.roll_plan.proofs.moving.lessened.Given as goal

abbrev pub invariant-loop-flow : goal.invariant-loop-flow
invariant-loop-flow l = l.left.items ≡ lessened_by l.taken.sums (take l.flow-index l.flows)
