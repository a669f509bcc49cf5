use Rattle.std.proofs.Common.{◌≡◌, map, take}
use Rattle.slgs_interest.specs.Payments.{payment_on}
use Rattle.slgs_interest.proofs.flows.schedule.Given as goal

abbrev pub invariant-loop-date : goal.invariant-loop-date
invariant-loop-date l = l.schedule.items ≡ map (payment_on l.slgs l.closed) (take l.date-index l.date-items)
