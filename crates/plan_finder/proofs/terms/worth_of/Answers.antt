use Rattle.std.proofs.Common.{length, ap, arith}
use Rattle.std.specs.List.{sum_by, zip}
use Rattle.std.proofs.lemmas.List.{take_all, length_push}
use Rattle.cash_table.proofs.ZipFacts.{this_pair, all_pairs, sum_by-zip_more}
use Rattle.plan_finder.proofs.LedgerFacts.{pair_worth}
use Rattle.plan_finder.proofs.terms.worth_of.Goals as goal

pub loop-power-preserved : goal.loop-power-preserved
loop-power-preserved c =
    let at = this_pair c.args.powers.now c.args.flows.now c.loop-power.yielded c.into_iter-power-iterator.result c.loop-power.power-iterator c.next.new.self c.next.result (c.in-Some.power, c.in-Some.flow) (cc) (cc) c.loop-power.yielded_by c.in-Some.is c.next.ensures.steps in
    let more = sum_by-zip_more pair_worth _ _ _ _ _ at in
    rw length_push (record {
      value = omega (arith, more, c.loop-power.invariant.value, c.worth_by-worth.ensures.value);
      small = omega (arith, c.loop-power.invariant.small, c.worth_by-worth.ensures.small);
    })

pub returns : goal.returns
returns c =
    let count = all_pairs c.args.powers.now c.args.flows.now c.loop-power.yielded c.into_iter-power-iterator.result c.loop-power.power-iterator c.next.new.self c.next.result (cc) (cc) c.loop-power.yielded_by c.in-None.is c.next.ensures.steps in
    let whole = take_all (length c.loop-power.yielded) (zip c.args.powers.now c.args.flows.now) (omega (arith, count)) in
    let same = ap (sum_by pair_worth) whole in
    cc
