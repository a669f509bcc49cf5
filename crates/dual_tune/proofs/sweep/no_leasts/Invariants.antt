use Rattle.std.proofs.Common.{◌≡◌, ◌≤◌, ◌*◌, ◌^◌, All, length, unsigned_abs}
use Rattle.dual_tune.proofs.sweep.no_leasts.Given as goal

abbrev pub invariant-loop : goal.invariant-loop
invariant-loop l = (length l.leasts.items ≡ l.counter) × All (λ least. unsigned_abs least.least ≤ 71 * 10 ^ 33) l.leasts.items
