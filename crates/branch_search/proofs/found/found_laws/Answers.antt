use Rattle.branch_search.proofs.FoundFacts.{found_are_accepted, none_found_are_accepted}
use Rattle.branch_search.proofs.found.found_laws.Goals as goal

pub returns : goal.returns
returns c = record { accepted = found_are_accepted; none = none_found_are_accepted }
