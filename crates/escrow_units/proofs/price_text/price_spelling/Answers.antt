use Rattle.escrow_units.proofs.QuoteFacts.{prices-are-spelled}
use Rattle.escrow_units.proofs.price_text.price_spelling.Goals as goal

pub returns : goal.returns
returns c = prices-are-spelled
