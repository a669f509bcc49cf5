use Rattle.std.proofs.Common.{◌≡◌, length}
use Rattle.dual_bound.proofs.DateFacts.{AreListed}
use Rattle.dual_bound.proofs.date_days.days_by_date.Given as goal

abbrev pub invariant-loop-place : goal.invariant-loop-place
invariant-loop-place l = (length l.lists.items ≡ l.dates) × AreListed l.dates l.place l.days l.lists.items
