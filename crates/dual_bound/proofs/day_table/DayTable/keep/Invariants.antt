use Rattle.std.proofs.Common.{◌≡◌, ℕ, get_or, length, None}
use Rattle.dual_bound.proofs.day_table.DayTable.keep.Given as goal

abbrev pub invariant-loop : goal.invariant-loop
invariant-loop l =
    ((other : ℕ) → get_or l.self.places.items other None ≡ get_or l.fn.self.places.items other None)
    × (length l.self.places.items ≡ l.counter) × (l.self.days.items ≡ l.fn.self.days.items)
