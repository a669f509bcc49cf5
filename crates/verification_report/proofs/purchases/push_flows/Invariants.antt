use Rattle.std.proofs.Common.{◌≡◌, ◌++◌, drop}
use Rattle.std.specs.List.{flat_map}
use Rattle.verification_report.specs.Report.{pay_line}
use Rattle.verification_report.proofs.purchases.push_flows.Given as goal

abbrev pub invariant-loop-flow : goal.invariant-loop-flow
invariant-loop-flow l = l.text.items ++ flat_map (pay_line l.number) (drop l.flow-index l.flows) ≡ l.fn.text.items ++ flat_map (pay_line l.number) l.flows
