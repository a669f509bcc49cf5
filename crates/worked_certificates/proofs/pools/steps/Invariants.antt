use Rattle.node_pool.specs.Pool.{NoneInHand}
use Rattle.worked_certificates.proofs.pools.steps.Given as goal

abbrev pub invariant-loop-word : goal.invariant-loop-word
invariant-loop-word l = NoneInHand l.pool.states
