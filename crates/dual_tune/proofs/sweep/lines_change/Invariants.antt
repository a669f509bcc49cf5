use Rattle.std.proofs.Common.{◌≡◌, ◌*◌, ◌^◌, ◌<◌, ◌≤◌, ℕ, get_or, length, unsigned_abs}
use Rattle.dual_tune.proofs.SweepFacts.{grown}
use Rattle.dual_tune.proofs.sweep.lines_change.Given as goal

abbrev pub invariant-loop-payer : goal.invariant-loop-payer
invariant-loop-payer l =
    (n : ℕ) × (n ≤ length l.given.book.now.lines) × (l.more ≡ grown l.given l.step n) × (unsigned_abs l.more ≤ n * (142 * 10 ^ 33))
    × ((k : ℕ) → k < l.payer → get_or l.step.lines.now k 0 < n)
    × ((k : ℕ) → l.payer ≤ k → k < length l.step.lines.now → n ≤ get_or l.step.lines.now k 0)
