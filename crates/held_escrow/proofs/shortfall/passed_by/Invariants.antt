use Rattle.std.proofs.Common.{◌≡◌, ◌+◌, ℤ, ◌≤ℤ◌}
use Rattle.held_escrow.specs.Passed.{CountsOn}
use Rattle.held_escrow.proofs.shortfall.passed_by.Given as goal

abbrev pub invariant-loop-flow : goal.invariant-loop-flow
invariant-loop-flow l = record {
  count : l.passed.count ≡ l.fn.before.count + l.flow-index;
  counts : (t : ℤ) → l.fn.day ≤ℤ t → CountsOn l.fn.flows l.passed t;
}
