use Rattle.std.proofs.Common.{◌≡◌, ℕ, ◌-◌, ◌<◌, ◌≤◌, get_or, length}
use Rattle.escrow_units.specs.declared.limits.TheConstants.{MOST_NEED_DATES}
use Rattle.plan_finder.proofs.ledger.Ledger.due.Given as goal

abbrev pub invariant-loop-place : goal.invariant-loop-place
invariant-loop-place l = record {
  size : length l.due ≡ MOST_NEED_DATES;
  done : (k : ℕ) → k < l.place → get_or l.due k 0 ≡ get_or l.account.needed.value k 0 - (get_or l.account.received.value k 0 - get_or l.initial.due k 0);
  rest : (k : ℕ) → l.place ≤ k → get_or l.due k 0 ≡ get_or l.initial.due k 0;
}
