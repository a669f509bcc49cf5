use Rattle.std.proofs.Common.{◌≡◌, ◌+◌, take}
use Rattle.escrow_units.specs.Flows.{total}
use Rattle.escrow_units.specs.declared.limits.TheConstants.{AMOUNT_LIMIT}
use Rattle.held_escrow.proofs.held.is_within_limit.Given as goal

-- what is left of the limit
abbrev pub invariant-loop-receipt : goal.invariant-loop-receipt
invariant-loop-receipt l = l.room + total (take l.receipt-index l.fn.receipts) ≡ AMOUNT_LIMIT
