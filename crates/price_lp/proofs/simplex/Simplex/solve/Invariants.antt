use Rattle.std.proofs.Common.{◌≡◌}
use Rattle.price_lp.proofs.simplex.Simplex.solve.Given as goal

abbrev pub invariant-loop : goal.invariant-loop
invariant-loop l = l.self ≡ l.fn.self
