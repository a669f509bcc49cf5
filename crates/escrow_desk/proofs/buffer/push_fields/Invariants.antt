use Rattle.std.proofs.Common.{◌≡◌, ◌++◌, length, take}
use Rattle.csv.specs.Records.{fields_of}
use Rattle.escrow_desk.specs.Parts.{AreEnds, parts}
use Rattle.escrow_desk.proofs.buffer.push_fields.Given as goal

abbrev pub invariant-loop-field : goal.invariant-loop-field
invariant-loop-field l = record {
  same : l.field-iterator.row.now ≡ l.row;
  kept : AreEnds l.ends.items (length l.bytes.items);
  fields : parts l.ends.items l.bytes.items ≡ parts l.fn.ends.items l.fn.bytes.items ++ take l.field-iterator.at (fields_of l.row);
}
