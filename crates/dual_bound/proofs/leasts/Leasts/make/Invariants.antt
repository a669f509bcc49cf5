use Rattle.std.proofs.Common.{take}
use Rattle.std.specs.List.{AllZip}
use Rattle.dual_bound.specs.Leasts.{IsLeast}
use Rattle.dual_bound.specs.declared.leasts.TheConstants.{PAST_DATES}
use Rattle.dual_bound.proofs.leasts.Leasts.make.Given as goal

abbrev pub invariant-loop-line : goal.invariant-loop-line
invariant-loop-line l = AllZip (IsLeast l.tableau.yield_units.0 l.book l.tableau.priced.leaf (record { first = PAST_DATES; last = 0 })) (take l.line l.book.lines) l.lines.items
