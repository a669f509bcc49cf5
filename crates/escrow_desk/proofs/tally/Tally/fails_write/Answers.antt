use Rattle.std.proofs.Common.{arith}
use Rattle.escrow_desk.proofs.CallFacts.{listed-le}
use Rattle.escrow_desk.proofs.tally.Tally.fails_write.Goals as goal

pub overflow_add-self : goal.overflow_add-self
overflow_add-self c =
    let more = rw (c.as_slice.ensures.value, c.if-listed.true) at c.number_call-listed.ensures.tallied in
    let top = listed-le c.args.self.now.failing.items c.number_call-listed.new.calls in
    let was = c.args.self.now.tallied in
    omega arith
