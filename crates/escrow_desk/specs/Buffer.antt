-- Records that are kept in one buffer.
use Rattle.std.specs.Prelude.{ℕ, List, length}
use Rattle.escrow_desk.specs.Parts.{AreEnds, parts}
use Rattle.escrow_desk.specs.declared.buffer.RowBuffer.{RowBuffer}

-- the records, each a list of fields
abbrev pub rows_in : RowBuffer → List (List (List ℕ))
rows_in buffer = parts buffer.row_ends.items (parts buffer.field_ends.items buffer.bytes.items)

-- the fields end where the bytes do, and the records where the fields do
pub record IsRowBuffer (buffer : RowBuffer) : Type 0 where
  pub fields : AreEnds buffer.field_ends.items (length buffer.bytes.items)
  pub rows : AreEnds buffer.row_ends.items (length buffer.field_ends.items)
