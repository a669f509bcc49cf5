use Rattle.std.proofs.Common.{◌≡◌, ℕ, ◌+◌, ◌-◌, ◌<◌, ◌≤◌, get_or}
use Rattle.plan_finder.proofs.account.exchange.Given as goal

abbrev pub invariant-loop-place : goal.invariant-loop-place
invariant-loop-place l = record {
  done : (k : ℕ) → k < l.place → get_or l.received k 0 ≡ get_or l.fn.received k 0 - get_or l.before k 0 + get_or l.after k 0;
  rest : (k : ℕ) → l.place ≤ k → get_or l.received k 0 ≡ get_or l.fn.received k 0;
}
