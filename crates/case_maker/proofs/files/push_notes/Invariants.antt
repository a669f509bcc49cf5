use Rattle.std.proofs.Common.{◌≡◌, ◌+◌, ◌-◌, ◌++◌}
use Rattle.case_maker.specs.Draws.{state_after}
use Rattle.case_maker.specs.Files.{note_row, rows_up_to, text_of, thirty_seconds}
use Rattle.case_maker.proofs.files.push_notes.Given as goal

abbrev pub invariant-loop-note : goal.invariant-loop-note
invariant-loop-note g l = record {
  state : l.draws.state ≡ state_after g.number (l.note + 80);
  text : l.text.items ≡ l.fn.text.items ++ text_of (rows_up_to (l.note - 1) (λ j. note_row j l.fn.coupon.0 (thirty_seconds g.number j)));
}
