use Rattle.std.proofs.Common.{◌≡◌, ◌≤◌, take}
use Rattle.escrow_units.specs.Flows.{total}
use Rattle.day_sums.specs.Summed.{total_by}
use Rattle.plan_finder.proofs.mend.paid_until.Given as goal

abbrev pub invariant-loop-flow : goal.invariant-loop-flow
invariant-loop-flow l = (l.paid ≡ total_by l.day (take l.flow-index l.flows)) × (l.paid ≤ total (take l.flow-index l.flows))
