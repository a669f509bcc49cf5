use Rattle.std.proofs.Common.{rules, ◌≡◌, ◌<◌, length, get_or, arith, ◌≤ℤ◌}
use Rattle.escrow_units.specs.Calendar.{years_after_of}
use Rattle.yield_enclosure.proofs.EndFacts.{near-more, total-more}
use Rattle.worked_figures.proofs.yields.are_allowed.Goals as goal

pub loop-flow-preserved : goal.loop-flow-preserved
loop-flow-preserved c =
    let within : c.loop-flow.flow-index < length c.args.flows.now = search rules in
    let here : get_or c.args.flows.now c.loop-flow.flow-index c.flow-item.result ≡ c.flow-item.result = search rules in
    let from : c.args.settle ≤ℤ c.flow-item.result.day = search rules in
    let to : c.flow-item.result.day ≤ℤ years_after_of c.args.settle 40 = search rules in
    record {
      sum = omega (arith, c.loop-flow.invariant.sum, total-more c.args.flows.now c.loop-flow.flow-index c.flow-item.result within here);
      within = search rules;
      days = near-more c.args.settle c.args.flows.now c.loop-flow.flow-index c.flow-item.result within here from to c.loop-flow.invariant.days;
    }
