use Rattle.std.proofs.Common.{◌*◌, ◌≤◌, ◌^◌, unsigned_abs}
use Rattle.price_lp.proofs.program.add_pays.Given as goal

abbrev pub invariant-loop-payment : goal.invariant-loop-payment
invariant-loop-payment l = unsigned_abs l.worth ≤ l.payment-index * 2 ^ 58
