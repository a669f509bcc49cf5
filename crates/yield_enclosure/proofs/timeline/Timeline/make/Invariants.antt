use Rattle.std.proofs.Common.{◌≡◌, ◌≤◌, take}
use Rattle.std.specs.List.{All}
use Rattle.escrow_units.specs.Flows.{indexed}
use Rattle.yield_enclosure.proofs.timeline.Timeline.make.Given as goal

-- the flows before the counter stand by their index, none of them past `longest`
abbrev pub invariant-loop-flow : goal.invariant-loop-flow
invariant-loop-flow l = record {
  value : l.amounts.items ≡ indexed l.fn.settle (take l.flow-index l.flows);
  longest : All (λ amount. amount.index ≤ l.longest) l.amounts.items;
  near : l.longest ≤ 14_400;
}
