use Rattle.std.proofs.Common.{◌≡◌, ◌≤◌, ◌∙◌, ◌++◌, ◌∷◌, [], ap, arith, length, length-append, rules, sym}
use Rattle.csv.specs.Records.{Rising, fields_of, last_end}
use Rattle.escrow_desk.specs.Parts.{parts}
use Rattle.escrow_desk.proofs.PartFacts.{ends-push, length-parts, parts-push}
use Rattle.escrow_desk.proofs.buffer.RowBuffer.push.Goals as goal

pub returns-clause-kept : goal.returns-clause-kept
returns-clause-kept c =
    let b = c.args.self.now in
    let bytes = c.push_fields.new.bytes.items in
    let ends = c.push_fields.new.ends.items in
    let was = length-parts 0 b.field_ends.items b.bytes.items in
    let now = ap length c.in_ok-push_fields.ensures.fields in
    let more : length b.field_ends.items ≤ length ends = omega (arith, was, now, length-parts 0 ends bytes, length-append (parts b.field_ends.items b.bytes.items) (fields_of c.args.row.now)) in
    let place : c.in_ok-place_at.field-0 ≡ length ends = search rules in
    let items : c.push.new.self.items ≡ b.row_ends.items ++ length ends ∷ [] = rw place at c.in_ok-push.ensures.items in
    record {
      fields = c.in_ok-push_fields.ensures.kept;
      rows = rw items (ends-push b.row_ends.items (length b.field_ends.items) (length ends) c.requires.rows more);
    }

pub returns-clause-rows : goal.returns-clause-rows
returns-clause-rows c =
    let b = c.args.self.now in
    let bytes = c.push_fields.new.bytes.items in
    let ends = c.push_fields.new.ends.items in
    let fields = parts b.field_ends.items b.bytes.items in
    let row = fields_of c.args.row.now in
    let was = length-parts 0 b.field_ends.items b.bytes.items in
    let size : length ends ≡ length (fields ++ row) = sym (length-parts 0 ends bytes) ∙ ap length c.in_ok-push_fields.ensures.fields in
    let place : c.in_ok-place_at.field-0 ≡ length ends = search rules in
    let items : c.push.new.self.items ≡ b.row_ends.items ++ length (fields ++ row) ∷ [] = rw (place, size) at c.in_ok-push.ensures.items in
    let rising : Rising 0 b.row_ends.items (length fields) = rw was c.requires.rows.rising in
    let last : last_end 0 b.row_ends.items ≡ length fields = rw was c.requires.rows.last in
    rw (items, c.in_ok-push_fields.ensures.fields) (parts-push 0 b.row_ends.items fields row rising last)
