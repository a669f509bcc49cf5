use Rattle.std.proofs.Common.{◌≡◌, map, take}
use Rattle.dual_bound.specs.Columns.{worth_on}
use Rattle.dual_bound.proofs.tableau.worths_of.Given as goal

abbrev pub invariant-loop-day : goal.invariant-loop-day
invariant-loop-day l = l.worths.items ≡ map (worth_on l.leaf) (take l.day-index l.days)
