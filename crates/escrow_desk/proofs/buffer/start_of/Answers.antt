use Rattle.std.proofs.Common.{◌≡◌, ◌<◌, ◌+◌, ◌-◌, arith, length, sym}
use Rattle.csv.proofs.RecordFacts.{prev-first, prev-next}
use Rattle.escrow_desk.proofs.buffer.start_of.Goals as goal

pub returns-then-part-eq0 : goal.returns-then-part-eq0
returns-then-part-eq0 c = rw c.if-part-eq0.true (sym (prev-first c.args.ends.now))

pub returns-else-part-eq0 : goal.returns-else-part-eq0
returns-else-part-eq0 c =
    let more : c.args.part - 1 + 1 ≡ c.args.part = omega (arith, c.if-part-eq0.false) in
    let within : c.args.part - 1 + 1 < length c.args.ends.now = rw more c.requires in
    sym (rw more at (prev-next 0 c.args.ends.now (c.args.part - 1) 0 within))
