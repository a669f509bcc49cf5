use Rattle.std.proofs.Common.{rules, ◌≡◌, ◌≤◌, ◌<◌, length, get_or, arith}
use Rattle.yield_enclosure.proofs.EndFacts.{last_index-le, indexed-more, index-push}
use Rattle.yield_enclosure.proofs.timeline.Timeline.make.Goals as goal

pub loop-flow-preserved : goal.loop-flow-preserved
loop-flow-preserved c =
    let within : c.loop-flow.flow-index < length c.args.flows.now = search rules in
    let here : get_or c.args.flows.now c.loop-flow.flow-index c.flow-item.result ≡ c.flow-item.result = search rules in
    let more = indexed-more c.args.settle c.args.flows.now c.loop-flow.flow-index c.flow-item.result within here in
    let rises : c.loop-flow.longest ≤ c.max-longest.result = search rules in
    let holds : c.index-index.result ≤ c.max-longest.result = search rules in
    record {
      value = search rules;
      longest = let all = index-push c.loop-flow.longest c.max-longest.result c.loop-flow.amounts.items (record { index = c.index-index.result; cents = c.flow-item.result.cents.0 }) c.loop-flow.invariant.longest rises holds in search rules;
      near = search rules;
    }

pub returns-clause-near : goal.returns-clause-near
returns-clause-near c =
    omega (arith, last_index-le c.loop-flow.longest c.loop-flow.amounts.items c.loop-flow.invariant.longest, c.loop-flow.invariant.near)
