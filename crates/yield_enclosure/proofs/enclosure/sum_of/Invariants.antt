use Rattle.std.proofs.Common.{◌≡◌, take}
use Rattle.escrow_units.specs.Flows.{total}
use Rattle.yield_enclosure.proofs.enclosure.sum_of.Given as goal

abbrev pub invariant-loop-flow : goal.invariant-loop-flow
invariant-loop-flow l = l.sum ≡ total (take l.flow-index l.flows)
