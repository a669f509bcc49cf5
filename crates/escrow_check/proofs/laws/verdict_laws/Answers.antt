use Rattle.escrow_check.proofs.VerdictFacts.{yes_is_right, yes_none_is_right}
use Rattle.escrow_check.proofs.laws.verdict_laws.Goals as goal

pub returns : goal.returns
returns c = record { yes = yes_is_right; none = yes_none_is_right }
