use Rattle.branch_search.proofs.NoneFacts.{plain_settled}
use Rattle.branch_search.proofs.found.settled_laws.Goals as goal

pub returns : goal.returns
returns c = record { settled = plain_settled }
