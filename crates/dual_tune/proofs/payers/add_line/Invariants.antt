use Rattle.std.proofs.Common.{◌≡◌, ◌<◌, ℕ, get_or, length}
use Rattle.dual_tune.specs.declared.payers.Payers.{Payers}
use Rattle.dual_tune.proofs.PayerFacts.{AreAdded}
use Rattle.dual_tune.proofs.payers.add_line.Given as goal

abbrev pub invariant-loop-payment : goal.invariant-loop-payment
invariant-loop-payment l =
    (length l.by_date ≡ length l.book.needs)
    × ((place : ℕ) (e : Payers) → place < length l.book.needs → AreAdded l.book l.line place l.payment-items l.payment-index (get_or l.by_date place e).lines.items)
