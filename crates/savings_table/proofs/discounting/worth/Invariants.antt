use Rattle.std.proofs.Common.{◌≡◌, take}
use Rattle.escrow_units.specs.Flows.{indexed}
use Rattle.fixed_powers.specs.PresentValues.{present_value}
use Rattle.savings_table.proofs.discounting.worth.Given as goal

abbrev pub invariant-loop-flow : goal.invariant-loop-flow
invariant-loop-flow l = l.total ≡ present_value l.powers.side l.powers.yield_units (indexed l.settle (take l.flow-index l.flows))
