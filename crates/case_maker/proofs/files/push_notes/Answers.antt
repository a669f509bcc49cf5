use Rattle.std.proofs.Common.{◌≡◌, ◌∙◌, ◌+◌, ap, arith}
use Rattle.case_maker.specs.Draws.{state_after}
use Rattle.case_maker.specs.Files.{note_row, thirty_seconds}
use Rattle.case_maker.proofs.RowFacts.{state_after-next, text_of-drawn, thirty_seconds-drawn}
use Rattle.case_maker.proofs.files.push_notes.Goals as goal

pub loop-note-preserved : goal.loop-note-preserved
loop-note-preserved g c =
    let next : c.below.new.self.state ≡ state_after g.number (c.loop-note.note + 81)
    = state_after-next g.number (c.loop-note.note + 80) _ _ _ c.loop-note.invariant.state c.below.ensures.state (omega arith) in
    let drawn = thirty_seconds-drawn g.number c.loop-note.note _ _ next c.below.ensures.value in
    record {
      state = next ∙ ap (state_after g.number) (omega arith);
      text = text_of-drawn (λ j. note_row j c.args.coupon.0) (thirty_seconds g.number) c.loop-note.note _ _ _ _ drawn c.loop-note.auto.note c.loop-note.invariant.text c.in_ok-push_note.ensures;
    }
