use Rattle.std.proofs.Common.{◌≡◌, ◌≤◌, length, take}
use Rattle.std.specs.List.{filter}
use Rattle.dual_bound.specs.Columns.{is_principal}
use Rattle.dual_bound.proofs.column.principal_alone.Given as goal

abbrev pub invariant-loop-payment : goal.invariant-loop-payment
invariant-loop-payment l =
    (l.payments.items ≡ filter is_principal (take l.payment-index l.schedule)) × (length l.payments.items ≤ l.payment-index)
