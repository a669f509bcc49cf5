use Rattle.std.proofs.Common.{◌≡◌, All, [], length}
use Rattle.dual_bound.specs.declared.date_days.DateDays.{DateDays}
use Rattle.dual_bound.proofs.date_days.no_days.Given as goal

abbrev pub invariant-loop-date : goal.invariant-loop-date
invariant-loop-date l = (length l.lists.items ≡ l.date) × All (λ (list : DateDays). list.places.items ≡ []) l.lists.items
