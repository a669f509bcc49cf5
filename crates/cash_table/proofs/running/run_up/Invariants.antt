use Rattle.std.proofs.Common.{◌≡◌, ℕ, ◌+◌, ◌<◌, ◌≤◌, get_or, take}
use Rattle.std.specs.List.{sum}
use Rattle.cash_table.proofs.running.run_up.Given as goal

abbrev pub invariant-loop-place : goal.invariant-loop-place
invariant-loop-place l = record {
  total : l.total ≡ sum (take l.place l.fn.amounts);
  done : (k : ℕ) → k < l.place → get_or l.amounts k 0 ≡ sum (take (k + 1) l.fn.amounts);
  rest : (k : ℕ) → l.place ≤ k → get_or l.amounts k 0 ≡ get_or l.fn.amounts k 0;
}
