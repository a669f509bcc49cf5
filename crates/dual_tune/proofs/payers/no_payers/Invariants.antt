use Rattle.std.proofs.Common.{◌≡◌, All, length}
use Rattle.dual_tune.specs.declared.payers.Payers.{Payers}
use Rattle.dual_tune.proofs.payers.no_payers.Given as goal

abbrev pub invariant-loop : goal.invariant-loop
invariant-loop l = (length l.by_date.items ≡ l.counter) × All (λ (payers : Payers). length payers.lines.items ≡ 0) l.by_date.items
