use Rattle.std.proofs.Common.{sym}
use Rattle.escrow_desk.proofs.CallFacts.{listed-zero}
use Rattle.escrow_desk.proofs.tally.Tally.new.Goals as goal

pub invariant_of-result : goal.invariant_of-result
invariant_of-result c = record { tallied = sym (listed-zero c.args.failing.items) }
