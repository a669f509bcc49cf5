use Rattle.held_escrow.proofs.DayFacts.{rise-in_order}
use Rattle.answer_tests.proofs.held_escrow_tests.holdings.Goals as goal

pub returns-in-Ok-clause-order : goal.returns-in-Ok-clause-order
returns-in-Ok-clause-order g c = rise-in_order c.in-Ok.held.items c.in-Ok.ensures.kept.rising
