use Rattle.node_pool.proofs.MergedFacts.{spines-short}
use Rattle.node_pool.proofs.laws.heap_laws.Goals as goal

pub returns : goal.returns
returns c = spines-short
