use Rattle.case_maker.specs.Files.{greatest_offer_row}
use Rattle.case_maker.proofs.RowFacts.{text_of-more}
use Rattle.case_maker.proofs.files.push_greatest_offers.Goals as goal

pub loop-k-preserved : goal.loop-k-preserved
loop-k-preserved c =
    text_of-more greatest_offer_row c.loop-k.k _ _ _ c.loop-k.auto.k c.loop-k.invariant c.in_ok-push_greatest_offer.ensures
