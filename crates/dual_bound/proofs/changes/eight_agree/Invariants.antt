use Rattle.std.proofs.Common.{◌≡◌, ◌+◌, ◌<◌, ℕ, get_or}
use Rattle.dual_bound.proofs.changes.eight_agree.Given as goal

abbrev pub invariant-loop-ahead : goal.invariant-loop-ahead
invariant-loop-ahead l = l.differences ≡ 0 → (k : ℕ) → k < l.ahead → get_or l.old (l.from + k) 0 ≡ get_or l.new (l.from + k) 0
