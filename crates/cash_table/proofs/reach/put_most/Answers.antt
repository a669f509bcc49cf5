use Rattle.std.proofs.Common.{◌≡◌, length, arith}
use Rattle.std.proofs.lemmas.List.{length-set}
use Rattle.cash_table.proofs.ReachFacts.{most_more, most_all}
use Rattle.cash_table.proofs.reach.put_most.Goals as goal

pub loop-place-preserved : goal.loop-place-preserved
loop-place-preserved c = (
  omega (arith, c.loop-place.invariant.0, length-set c.loop-place.units c.loop-place.place c.index-lines-place.result.most),
  most_more c.loop-place.units c.args.lines.now c.loop-place.place c.index-lines-place.result c.loop-place-test.true (omega (arith, c.requires, c.loop-place.invariant.0)) c.index-lines-place.is c.loop-place.invariant.1,
)

pub returns-clause-units : goal.returns-clause-units
returns-clause-units c =
    let «end» : c.loop-place.place ≡ length c.args.lines.now = omega (arith, c.loop-place-test.false, c.loop-place.auto.place-end) in
    most_all c.loop-place.units c.args.lines.now c.loop-place.place «end» c.loop-place.invariant.1
