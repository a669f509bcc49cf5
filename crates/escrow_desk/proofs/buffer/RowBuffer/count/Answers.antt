use Rattle.std.proofs.Common.{arith}
use Rattle.escrow_desk.specs.Parts.{parts}
use Rattle.escrow_desk.proofs.PartFacts.{length-parts}
use Rattle.escrow_desk.proofs.buffer.RowBuffer.count.Goals as goal

pub returns : goal.returns
returns c =
    let b = c.args.self.now in
    omega (arith, c.len.ensures, length-parts 0 b.row_ends.items (parts b.field_ends.items b.bytes.items))
