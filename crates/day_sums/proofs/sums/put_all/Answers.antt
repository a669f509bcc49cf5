use Rattle.std.proofs.Common.{refl, rules, arith, ◌∙◌}
use Rattle.day_sums.specs.Table.{sums_of}
use Rattle.day_sums.proofs.TableFacts.{sums-start, summed_more, total-left}
use Rattle.day_sums.proofs.sums.put_all.Goals as goal

pub loop-flow-init : goal.loop-flow-init
loop-flow-init c = record { capacity = refl; few = λ within. within; sums = sums-start c.args.first c.args.cents.now.items; total = refl }

pub loop-flow-preserved : goal.loop-flow-preserved
loop-flow-preserved c = record {
  capacity = c.put.ensures.capacity ∙ c.loop-flow.invariant.capacity;
  few = λ within. omega (arith, c.put.ensures.few, c.loop-flow.invariant.few within, c.loop-flow.invariant.capacity);
  sums = summed_more (sums_of c.args.first c.args.cents.now.items) c.args.flows.now c.loop-flow.flow-index c.flow-item.result (sums_of c.args.first c.loop-flow.cents.items) (sums_of c.args.first c.put.new.cents.items) c.loop-flow-test.true c.loop-flow.invariant.sums (search rules);
  total = total-left (sums_of c.args.first c.loop-flow.cents.items) (sums_of c.args.first c.put.new.cents.items) c.args.flows.now c.loop-flow.flow-index c.flow-item.result _ c.loop-flow-test.true c.loop-flow.invariant.total (search rules);
}
