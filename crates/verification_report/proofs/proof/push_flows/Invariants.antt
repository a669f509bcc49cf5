use Rattle.std.proofs.Common.{◌≡◌, ◌++◌, drop}
use Rattle.std.specs.List.{flat_map}
use Rattle.verification_report.specs.Report.{proof_line}
use Rattle.verification_report.proofs.proof.push_flows.Given as goal

abbrev pub invariant-loop-flow : goal.invariant-loop-flow
invariant-loop-flow l =
    l.text.items ++ flat_map (proof_line l.settle l.fn.lo.0 l.fn.hi.0) (drop l.flow-index l.flows)
    ≡ l.fn.text.items ++ flat_map (proof_line l.settle l.fn.lo.0 l.fn.hi.0) l.flows
