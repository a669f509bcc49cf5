use Rattle.std.proofs.Common.{◌≡◌, ℕ, ◌<◌, length, take}
use Rattle.std.specs.List.{sum}
use Rattle.escrow_units.specs.Flows.{total}
use Rattle.cash_table.specs.Receipts.{IsCovered}
use Rattle.cash_table.proofs.cash.first_uncovered.Given as goal

abbrev pub invariant-loop-need : goal.invariant-loop-need
invariant-loop-need l =
    (l.needed ≡ total (take (length l.yielded) l.needs)) × (l.received ≡ sum (take (length l.yielded) l.receipts)) × ((k : ℕ) → k < length l.yielded → IsCovered l.needs l.receipts k)
