use Rattle.std.proofs.Common.{◌≡◌, ◌∙◌, ◌+◌, ap, arith}
use Rattle.case_maker.specs.Draws.{state_after}
use Rattle.case_maker.specs.Files.{lower_offer_row, lower_rate}
use Rattle.case_maker.proofs.RowFacts.{lower_rate-drawn, state_after-next, text_of-drawn}
use Rattle.case_maker.proofs.files.push_lower_offers.Goals as goal

pub loop-k-preserved : goal.loop-k-preserved
loop-k-preserved g c =
    let next : c.below.new.self.state ≡ state_after g.number (c.loop-k.k + 41)
    = state_after-next g.number (c.loop-k.k + 40) _ _ _ c.loop-k.invariant.state c.below.ensures.state (omega arith) in
    let drawn = lower_rate-drawn g.number c.loop-k.k _ _ _ next c.below.ensures.value c.requires.0 in
    record {
      state = next ∙ ap (state_after g.number) (omega arith);
      text = text_of-drawn lower_offer_row (lower_rate g.number) c.loop-k.k _ _ _ _ drawn c.loop-k.auto.k c.loop-k.invariant.text c.in_ok-push_lower_offer.ensures;
    }
