use Rattle.std.proofs.Common.{◌≡◌, ◌∙◌, ◌+◌, arith}
use Rattle.case_maker.specs.Draws.{state_after}
use Rattle.case_maker.specs.Files.{need, need_row}
use Rattle.case_maker.proofs.RowFacts.{need-drawn, state_after-next, text_of-drawn}
use Rattle.case_maker.proofs.files.push_needs.Goals as goal

pub loop-k-preserved : goal.loop-k-preserved
loop-k-preserved g c =
    let next : c.below.new.self.state ≡ state_after g.number (c.loop-k.k + 1)
    = state_after-next g.number c.loop-k.k _ _ _ c.loop-k.invariant.state c.below.ensures.state (omega arith) in
    let drawn = need-drawn g.number c.loop-k.k _ _ next (c.from.ensures ∙ c.below.ensures.value) in
    record { state = next; text = text_of-drawn need_row (need g.number) c.loop-k.k _ _ _ _ drawn c.loop-k.auto.k c.loop-k.invariant.text c.in_ok-push_need.ensures }
