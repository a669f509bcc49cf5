use Rattle.escrow_check.proofs.ReasonFacts.{no_names_reason, yes_where_unopposed}
use Rattle.escrow_check.proofs.laws.reason_laws.Goals as goal

pub returns : goal.returns
returns c = record { no = no_names_reason; «yes» = yes_where_unopposed }
