use Rattle.held_escrow.proofs.DayFacts.{rise-in_order}
use Rattle.certificate_answers.proofs.judging.beside_file.Goals as goal

pub held_case-requires-clause-order : goal.held_case-requires-clause-order
held_case-requires-clause-order c = rw (c.as_slice.ensures.value) (rise-in_order c.in_ok-held.held.items c.in_ok-held.ensures.kept.rising)
