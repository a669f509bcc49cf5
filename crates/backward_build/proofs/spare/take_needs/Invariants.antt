use Rattle.std.proofs.Common.{◌≡◌, ℕ, ◌+◌, ◌<◌, ◌≤◌, get_or, take}
use Rattle.escrow_units.specs.Flows.{total}
use Rattle.backward_build.proofs.spare.take_needs.Given as goal

abbrev pub invariant-loop-place : goal.invariant-loop-place
invariant-loop-place l = record {
  needed : l.needed ≡ total (take l.place l.needs);
  done : (k : ℕ) → k < l.place → total (take (k + 1) l.needs) + get_or l.amounts k 0 ≡ get_or l.fn.amounts k 0;
  rest : (k : ℕ) → l.place ≤ k → get_or l.amounts k 0 ≡ get_or l.fn.amounts k 0;
}
