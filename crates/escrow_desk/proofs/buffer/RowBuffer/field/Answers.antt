use Rattle.std.proofs.Common.{◌≡◌, ◌<◌, ℕ, ◌+◌, ◌∙◌, [], arith, get_or, length, sym}
use Rattle.csv.specs.Records.{Rising, prev}
use Rattle.escrow_desk.specs.Parts.{parts}
use Rattle.escrow_desk.specs.Buffer.{IsRowBuffer, rows_in}
use Rattle.escrow_desk.specs.declared.buffer.RowBuffer.{RowBuffer}
use Rattle.escrow_desk.proofs.PartFacts.{item-of-part, length-parts}
use Rattle.escrow_desk.proofs.buffer.RowBuffer.field.Goals as goal

-- the field's number among all fields
row_there : (b : RowBuffer) (row : ℕ) → row < length (rows_in b) → row < length b.row_ends.items
row_there b row h = omega (arith, h, length-parts 0 b.row_ends.items (parts b.field_ends.items b.bytes.items))

place_there : (b : RowBuffer) (row place : ℕ) → IsRowBuffer b → row < length (rows_in b) → place < length (get_or (rows_in b) row [])
    → (prev 0 b.row_ends.items row + place < length b.field_ends.items)
    × (get_or (get_or (rows_in b) row []) place [] ≡ get_or (parts b.field_ends.items b.bytes.items) (prev 0 b.row_ends.items row + place) [])
place_there b row place kept h less =
    let fields = parts b.field_ends.items b.bytes.items in
    let many = length-parts 0 b.field_ends.items b.bytes.items in
    let rising : Rising 0 b.row_ends.items (length fields) = rw many kept.rows.rising in
    let item = item-of-part b.row_ends.items fields row place [] rising (row_there b row h) less in
    (omega (arith, item.0, many), item.1)

pub start_of-requires : goal.start_of-requires
start_of-requires c = rw c.as_slice.ensures.value (row_there c.args.self.now c.args.row c.requires.row)

pub part_of-requires : goal.part_of-requires
part_of-requires c =
    rw (c.as_slice-2.ensures.value, c.as_slice-3.ensures.value, c.start_of.ensures, c.as_slice.ensures.value) (record {
      kept = c.requires.kept.fields;
      part = (place_there c.args.self.now c.args.row c.args.place c.requires.kept c.requires.row c.requires.place).0;
    })

pub returns : goal.returns
returns c =
    let there = place_there c.args.self.now c.args.row c.args.place c.requires.kept c.requires.row c.requires.place in
    c.part_of.ensures ∙ (rw (c.as_slice-2.ensures.value, c.as_slice-3.ensures.value, c.start_of.ensures, c.as_slice.ensures.value) (sym there.1))
