use Rattle.escrow_units.proofs.SpellingFacts.{decimal_of-spelled, decimal_of-read}
use Rattle.escrow_units.proofs.number_text.decimal_spelling.Goals as goal

pub returns-clause-spelled : goal.returns-clause-spelled
returns-clause-spelled c = decimal_of-spelled

pub returns-clause-read : goal.returns-clause-read
returns-clause-read c = decimal_of-read
