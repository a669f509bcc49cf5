use Rattle.rate_cap.proofs.CaseFacts.{cases-are_one}
use Rattle.rate_cap.proofs.RateFacts.{files-give_table_rates}
use Rattle.rate_cap.proofs.RuleFacts.{caps-keep_rules}
use Rattle.rate_cap.proofs.cap.cap_laws.Goals as goal

pub returns-clause-one : goal.returns-clause-one
returns-clause-one c = cases-are_one

pub returns-clause-rules : goal.returns-clause-rules
returns-clause-rules c = caps-keep_rules

pub returns-clause-rates : goal.returns-clause-rates
returns-clause-rates c = files-give_table_rates
