use Rattle.std.proofs.Common.{◌≡◌, length, take}
use Rattle.std.specs.List.{flat_map, zip}
use Rattle.escrow_units.specs.Calendar.{years_after_of}
use Rattle.day_sums.specs.Summed.{summed}
use Rattle.day_sums.proofs.TableFacts.{span}
use Rattle.cash_table.proofs.PaymentFacts.{pair_payments}
use Rattle.cash_table.proofs.security_flows.add_scheduled.Given as goal

abbrev pub invariant-loop-line : goal.invariant-loop-line
invariant-loop-line l = record {
  place : l.place ≡ length l.yielded;
  sums : l.sums ≡ span l.days.settle (years_after_of l.days.settle 40) (summed (flat_map (pair_payments l.days) (take (length l.yielded) (zip l.lines l.plan))));
}
