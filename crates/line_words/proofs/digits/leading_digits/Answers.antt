use Rattle.line_words.proofs.LaneFacts.{leading}
use Rattle.line_words.proofs.digits.leading_digits.Goals as goal

pub returns : goal.returns
returns c = λ few. leading c.args.lanes c.fits-lanes.0 few
