use Rattle.plain_case.proofs.GapFacts.{nearly_cheapest, plain_gap_holds}
use Rattle.plain_case.proofs.laws.plain_laws.Goals as goal

pub returns-clause-root : goal.returns-clause-root
returns-clause-root c = plain_gap_holds

pub returns-clause-cheapest : goal.returns-clause-cheapest
returns-clause-cheapest c = nearly_cheapest
