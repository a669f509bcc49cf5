use Rattle.std.proofs.Common.{◌≡◌, ◌≤◌, ◌∙◌, ◌++◌, ◌∷◌, [], Some, add-one, ap, append_assoc, arith, length, length-append, rules, suc, sym, take}
use Rattle.csv.specs.Records.{field_at, fields_of}
use Rattle.escrow_desk.specs.Parts.{parts}
use Rattle.escrow_desk.proofs.PartFacts.{ends-push, parts-push, take-field, take-fields}
use Rattle.escrow_desk.proofs.buffer.push_fields.Goals as goal

pub loop-field-preserved : goal.loop-field-preserved
loop-field-preserved c =
    let inv = c.loop-field.invariant in
    let s = c.in-Some.ensures.steps in
    let fields = fields_of c.args.row.now in
    let n = c.loop-field.field-iterator.at in
    let field = c.in-Some.field.now in
    let bytes = c.loop-field.bytes.items in
    let ends = c.loop-field.ends.items in
    let is : field_at fields n ≡ Some field = rw inv.same at (sym s.1) in
    let more : c.extend_from_slice.new.self.items ≡ bytes ++ field = c.in_ok-extend_from_slice.ensures.items in
    let placed : c.in_ok-place_at.field-0 ≡ length c.extend_from_slice.new.self.items = search rules in
    let place : c.in_ok-place_at.field-0 ≡ length (bytes ++ field) = rw more at placed in
    let items : c.push.new.self.items ≡ ends ++ length (bytes ++ field) ∷ [] = rw place at c.in_ok-push.ensures.items in
    let wider : length bytes ≤ length (bytes ++ field) = omega (arith, length-append bytes field) in
    let next : c.next.new.self.at ≡ suc n = s.2 ∙ add-one n in
    record {
      same = ap (λ r. r.now) s.0 ∙ inv.same;
      kept = rw (items, more) (ends-push ends (length bytes) (length (bytes ++ field)) inv.kept wider);
      fields = rw (items, more, next) (parts-push 0 ends bytes field inv.kept.rising inv.kept.last
          ∙ ap (λ fs. fs ++ field ∷ []) inv.fields ∙ append_assoc (parts c.args.ends.now.items c.args.bytes.now.items) (take n fields) (field ∷ [])
          ∙ ap (λ fs. parts c.args.ends.now.items c.args.bytes.now.items ++ fs) (sym (take-field fields n field is)));
    }

pub returns-clause-fields : goal.returns-clause-fields
returns-clause-fields c =
    let inv = c.loop-field.invariant in
    let s = c.in-None.ensures.steps in
    let fields = fields_of c.args.row.now in
    let none = rw inv.same at (sym s.1) in
    inv.fields ∙ ap (λ fs. parts c.args.ends.now.items c.args.bytes.now.items ++ fs) (take-fields fields c.loop-field.field-iterator.at none)
