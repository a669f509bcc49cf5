use Rattle.std.proofs.Common.{◌≡◌, ◌+◌, ◌≤◌, drop}
use Rattle.std.specs.List.{flat_map}
use Rattle.escrow_units.specs.declared.limits.TheConstants.{AMOUNT_LIMIT}
use Rattle.escrow_units.specs.Flows.{total}
use Rattle.issue_schedule.specs.Needs.{bond_needs}
use Rattle.issue_schedule.proofs.limits.limited_bonds.Given as goal

abbrev pub invariant-loop-bond : goal.invariant-loop-bond
invariant-loop-bond l = record {
  limit : l.sum ≤ AMOUNT_LIMIT;
  rest : l.fn.sum + total (flat_map (bond_needs l.issue.settle l.issue.call) l.bond-items) ≡ l.sum + total (flat_map (bond_needs l.issue.settle l.issue.call) (drop l.bond-index l.bond-items));
}
