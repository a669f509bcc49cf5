use Rattle.case_file.specs.Case.{case_view}
use Rattle.cap_finder.proofs.tests.case_of.Goals as goal

pub returns-in-Ok-clause-rates : goal.returns-in-Ok-clause-rates
returns-in-Ok-clause-rates g c = c.cap_laws.ensures.rates _ _ _ (case_view c.in-Ok.case) c.in-Ok.ensures.kept
