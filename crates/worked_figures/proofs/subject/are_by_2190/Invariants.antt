use Rattle.std.proofs.Common.{take}
use Rattle.std.specs.List.{All}
use Rattle.escrow_units.specs.OpenDays.{IsBy2190}
use Rattle.worked_figures.proofs.subject.are_by_2190.Given as goal

abbrev pub invariant-loop-day : goal.invariant-loop-day
invariant-loop-day l = All IsBy2190 (take l.day-index l.days)
