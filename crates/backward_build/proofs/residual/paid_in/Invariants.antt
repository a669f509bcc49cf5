use Rattle.std.proofs.Common.{◌≡◌, ◌≤◌, take}
use Rattle.escrow_units.specs.Flows.{total}
use Rattle.backward_build.specs.Span.{paid_in}
use Rattle.backward_build.proofs.residual.paid_in.Given as goal

abbrev pub invariant-loop-flow : goal.invariant-loop-flow
invariant-loop-flow l = (l.paid ≡ paid_in l.span (take l.flow-index l.flows)) × (l.paid ≤ total (take l.flow-index l.flows))
