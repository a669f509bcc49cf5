use Rattle.std.proofs.Common.{◌≡◌, map, take}
use Rattle.payment_schedule.specs.Schedule.{flow_by}
use Rattle.payment_schedule.proofs.schedule.scheduled_flows.Given as goal

abbrev pub invariant-loop-payment : goal.invariant-loop-payment
invariant-loop-payment l = l.flows.items ≡ map (flow_by l.rate.0 l.amount.0) (take l.payment-index l.schedule)
