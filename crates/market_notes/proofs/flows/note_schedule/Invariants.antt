use Rattle.std.proofs.Common.{◌≡◌, map, take}
use Rattle.market_notes.specs.NoteFlows.{payment_on}
use Rattle.market_notes.proofs.flows.note_schedule.Given as goal

abbrev pub invariant-loop-date : goal.invariant-loop-date
invariant-loop-date l = l.schedule.items ≡ map (payment_on l.note l.closed) (take l.date-index l.date-items)
