use Rattle.std.proofs.Common.{◌≡◌, ◌≤◌, ◌++◌, ℤ, ◌≤ℤ◌, drop, length, take}
use Rattle.std.specs.List.{All}
use Rattle.held_escrow.specs.Passed.{CountsOn}
use Rattle.held_escrow.specs.Residual.{growths, residual_of}
use Rattle.held_escrow.proofs.shortfall.residual.Given as goal

abbrev pub invariant-loop-need : goal.invariant-loop-need
invariant-loop-need l = record {
  so_far : l.residual.items ++ growths l.fn.needs l.fn.held l.greatest (drop l.need-index l.fn.needs) ≡ residual_of l.fn.needs l.fn.held;
  wanted : (t : ℤ) → All (λ flow. flow.day ≤ℤ t) (take l.need-index l.fn.needs) → CountsOn l.fn.needs l.wanted t;
  kept : (t : ℤ) → All (λ flow. flow.day ≤ℤ t) (take l.need-index l.fn.needs) → CountsOn l.fn.held l.kept t;
  wanted_count : l.wanted.count ≤ length l.fn.needs;
  kept_count : l.kept.count ≤ length l.fn.held;
}
