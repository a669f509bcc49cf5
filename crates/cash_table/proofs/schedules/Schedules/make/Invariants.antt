use Rattle.std.proofs.Common.{◌≡◌, map, take}
use Rattle.cash_table.specs.Schedules.{kept_of}
use Rattle.cash_table.proofs.schedules.Schedules.make.Given as goal

abbrev pub invariant-loop-line : goal.invariant-loop-line
invariant-loop-line l = map (λ kept. kept.items) l.lines.items ≡ map (kept_of l.book.days) (take l.line-index l.line-items)
