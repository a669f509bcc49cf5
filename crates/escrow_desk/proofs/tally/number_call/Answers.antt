use Rattle.std.proofs.Common.{add-one}
use Rattle.escrow_desk.proofs.CallFacts.{listed-suc}
use Rattle.escrow_desk.proofs.tally.number_call.Goals as goal

pub returns-clause-tallied : goal.returns-clause-tallied
returns-clause-tallied c = rw (add-one, c.contains.ensures.value) (listed-suc c.args.failing.now c.args.calls.now)
