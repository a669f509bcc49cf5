use Rattle.node_pool.specs.Pool.{NoneInHand}
use Rattle.worked_certificates.proofs.pools.take_times.Given as goal

abbrev pub invariant-loop : goal.invariant-loop
invariant-loop l = NoneInHand l.pool.states
