use Rattle.std.proofs.Common.{◌≡◌, ◌<◌, ◌∙◌, arith, get_or, length, sym, rules}
use Rattle.std.proofs.lemmas.List.{get_or_default}
use Rattle.csv.specs.Records.{Rising}
use Rattle.csv.proofs.RecordFacts.{field-bounds}
use Rattle.escrow_desk.specs.Parts.{parts}
use Rattle.escrow_desk.proofs.PartFacts.{length-part, length-parts}
use Rattle.escrow_desk.proofs.buffer.RowBuffer.width.Goals as goal

pub index-requires : goal.index-requires
index-requires c =
    let b = c.args.self.now in
    let rows = length-parts 0 b.row_ends.items (parts b.field_ends.items b.bytes.items) in
    let row : c.args.row < length b.row_ends.items = omega (arith, rows, c.requires.row) in
    search rules

pub start_of-requires : goal.start_of-requires
start_of-requires c =
    let b = c.args.self.now in
    rw c.as_slice.ensures.value (omega (arith, length-parts 0 b.row_ends.items (parts b.field_ends.items b.bytes.items), c.requires.row))

pub overflow_sub-result : goal.overflow_sub-result
overflow_sub-result c =
    let b = c.args.self.now in
    let rows = length-parts 0 b.row_ends.items (parts b.field_ends.items b.bytes.items) in
    let row : c.args.row < length b.row_ends.items = omega (arith, rows, c.requires.row) in
    let bounds = field-bounds 0 b.row_ends.items (length b.field_ends.items) c.args.row c.requires.kept.rows.rising row in
    let end : c.index.result.now ≡ get_or b.row_ends.items c.args.row 0 = c.index.ensures ∙ get_or_default b.row_ends.items c.args.row c.index.result.now 0 row in
    rw (c.start_of.ensures, c.as_slice.ensures.value, end) bounds.0

pub returns : goal.returns
returns c =
    let b = c.args.self.now in
    let fields = parts b.field_ends.items b.bytes.items in
    let rows = length-parts 0 b.row_ends.items fields in
    let row : c.args.row < length b.row_ends.items = omega (arith, rows, c.requires.row) in
    let rising : Rising 0 b.row_ends.items (length fields) = rw (length-parts 0 b.field_ends.items b.bytes.items) c.requires.kept.rows.rising in
    let end : c.index.result.now ≡ get_or b.row_ends.items c.args.row 0 = c.index.ensures ∙ get_or_default b.row_ends.items c.args.row c.index.result.now 0 row in
    rw (c.start_of.ensures, c.as_slice.ensures.value, end) (sym (length-part b.row_ends.items fields c.args.row rising row))
