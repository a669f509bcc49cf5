use Rattle.std.proofs.Common.{◌≡◌, ◌+◌, ◌≤◌, ◌^◌, take}
use Rattle.escrow_units.specs.Flows.{total, FallWithinFortyYears}
use Rattle.worked_figures.proofs.yields.are_allowed.Given as goal

-- the flows before the counter are in the sum, and none of them is out of range
abbrev pub invariant-loop-flow : goal.invariant-loop-flow
invariant-loop-flow l = record {
  sum : l.sum ≡ total (take l.flow-index l.flows) + l.fn.cost.0;
  within : l.sum ≤ 10 ^ 15;
  days : FallWithinFortyYears l.settle (take l.flow-index l.flows);
}
