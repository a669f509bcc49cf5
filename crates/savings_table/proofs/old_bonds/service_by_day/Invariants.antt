use Rattle.std.proofs.Common.{◌≡◌, [], ◌++◌, take}
use Rattle.std.specs.Prelude.{None}
use Rattle.std.specs.List.{flat_map}
use Rattle.escrow_units.specs.Calendar.{years_after_of}
use Rattle.day_sums.proofs.TableFacts.{span}
use Rattle.day_sums.specs.Summed.{summed}
use Rattle.issue_schedule.specs.Needs.{bond_needs}
use Rattle.savings_table.proofs.old_bonds.service_by_day.Given as goal

abbrev pub invariant-loop-bond : goal.invariant-loop-bond
invariant-loop-bond l =
    l.sums ≡ span l.issue.settle (years_after_of l.issue.settle 40) (summed ([] ++ flat_map (bond_needs l.issue.settle None) (take l.bond-index l.bond-items)))
