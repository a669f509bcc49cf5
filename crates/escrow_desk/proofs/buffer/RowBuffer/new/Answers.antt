use Rattle.std.proofs.Common.{ap, length}
use Rattle.escrow_desk.specs.Parts.{parts}
use Rattle.escrow_desk.proofs.PartFacts.{no_ends, no_parts}
use Rattle.escrow_desk.proofs.buffer.RowBuffer.new.Goals as goal

pub returns-clause-kept : goal.returns-clause-kept
returns-clause-kept c = record {
  fields = no_ends c.new-2.result.items (length c.new.result.items) c.new-2.ensures.items (ap length c.new.ensures.items);
  rows = no_ends c.new-3.result.items (length c.new-2.result.items) c.new-3.ensures.items (ap length c.new-2.ensures.items);
}

pub returns-clause-rows : goal.returns-clause-rows
returns-clause-rows c = no_parts c.new-3.result.items (parts c.new-2.result.items c.new.result.items) c.new-3.ensures.items
