use Rattle.std.proofs.Common.{arith, ap, ◌<◌, ◌≤◌, length, Ok}
use Rattle.std.proofs.lemmas.Result.{err_from_is_err_and}
use Rattle.offer_book.proofs.MarketFacts.{all-sold, file-lines, no-lines, note-offered, notes-count, notes-keep_rules, refused-answers, sold_more}
use Rattle.offer_book.proofs.market.note_lines.Goals as goal

pub returns-in_default-clause-lines : goal.returns-in_default-clause-lines
returns-in_default-clause-lines c = rw c.new-lines.ensures.items (no-lines c.args.days.now c.args.file.now c.in_default.is)

pub returns-in_default-clause-rules : goal.returns-in_default-clause-rules
returns-in_default-clause-rules c =
    (notes-keep_rules c.args.days.now c.args.file.now c.new-lines.result.items c.requires.file (returns-in_default-clause-lines c)).0

pub returns-in_default-clause-count : goal.returns-in_default-clause-count
returns-in_default-clause-count c = notes-count c.args.days.now c.args.file.now c.new-lines.result.items (returns-in_default-clause-rules c)

pub note_line-requires-clause-note : goal.note_line-requires-clause-note
note_line-requires-clause-note c =
    let short : c.loop-place.place < length c.args.file.now.notes = omega (arith, ap length c.as_slice-note-items.ensures) in
    let is = rw c.as_slice-note-items.ensures at c.note-item.is in
    (note-offered c.args.days.now.settle c.args.file.now c.in-Some.terms c.loop-place.place c.note-item.result c.requires.file c.in-Some.is short is).note

pub note_line-requires-clause-same : goal.note_line-requires-clause-same
note_line-requires-clause-same c =
    let short : c.loop-place.place < length c.args.file.now.notes = omega (arith, ap length c.as_slice-note-items.ensures) in
    let is = rw c.as_slice-note-items.ensures at c.note-item.is in
    (note-offered c.args.days.now.settle c.args.file.now c.in-Some.terms c.loop-place.place c.note-item.result c.requires.file c.in-Some.is short is).settle

pub returns-in_err-line-clause-lines : goal.returns-in_err-line-clause-lines
returns-in_err-line-clause-lines c =
    let p = err_from_is_err_and c.from_residual-in_err-line.result c.from_residual-in_err-line.ensures.1 in
    let short : c.loop-place.place < length c.args.file.now.notes = omega (arith, ap length c.as_slice-note-items.ensures) in
    let is = rw c.as_slice-note-items.ensures at c.note-item.is in
    let answer = rw (c.note_line.ensures, c.in_ok-row.ensures) at c.in_err-line.ensures.answer in
    rw (p.1, p.2) (refused-answers c.args.days.now c.args.file.now c.in-Some.terms c.loop-place.place c.loop-place.lines.items c.note-item.result c.in_err-line.field-0.0
    c.in-Some.is short is c.loop-place.invariant answer)

pub loop-place-preserved : goal.loop-place-preserved
loop-place-preserved c =
    let short : c.loop-place.place < length c.args.file.now.notes = omega (arith, ap length c.as_slice-note-items.ensures) in
    let is = rw c.as_slice-note-items.ensures at c.note-item.is in
    let answer = rw (c.note_line.ensures, c.in_ok-row.ensures) at c.in_ok-line.ensures.answer in
    sold_more c.args.days.now c.in-Some.terms c.args.file.now.notes c.loop-place.place c.loop-place.lines.items c.push.new.self.items
    c.note-item.result c.in_ok-line.line short is c.loop-place.invariant answer c.in_ok-push.ensures.items

pub returns-clause-lines : goal.returns-clause-lines
returns-clause-lines c =
    let whole : length c.args.file.now.notes ≤ c.loop-place.place = omega (arith, ap length c.as_slice-note-items.ensures) in
    file-lines c.args.days.now c.args.file.now c.in-Some.terms (Ok c.loop-place.lines.items) c.in-Some.is
    (all-sold c.args.days.now c.in-Some.terms c.args.file.now.notes c.loop-place.place c.loop-place.lines.items whole c.loop-place.invariant)

pub returns-clause-rules : goal.returns-clause-rules
returns-clause-rules c =
    (notes-keep_rules c.args.days.now c.args.file.now c.loop-place.lines.items c.requires.file (returns-clause-lines c)).0

pub returns-clause-securities : goal.returns-clause-securities
returns-clause-securities c =
    (notes-keep_rules c.args.days.now c.args.file.now c.loop-place.lines.items c.requires.file (returns-clause-lines c)).1

pub returns-clause-count : goal.returns-clause-count
returns-clause-count c = notes-count c.args.days.now c.args.file.now c.loop-place.lines.items (returns-clause-rules c)
