use Rattle.std.proofs.Common.{◌≡◌, ◌+◌, ◌≤◌, drop}
use Rattle.escrow_units.specs.declared.limits.TheConstants.{AMOUNT_LIMIT}
use Rattle.escrow_units.specs.Flows.{total}
use Rattle.issue_schedule.proofs.limits.limited_sum.Given as goal

abbrev pub invariant-loop-flow : goal.invariant-loop-flow
invariant-loop-flow l = record {
  limit : l.sum ≤ AMOUNT_LIMIT;
  rest : l.fn.sum + total l.flows ≡ l.sum + total (drop l.flow-index l.flows);
}
