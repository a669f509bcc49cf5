use Rattle.certificate_answers.proofs.answer.portfolio_text.Goals as goal

pub saved_text-requires-clause-kept : goal.saved_text-requires-clause-kept
saved_text-requires-clause-kept c = rw c.in-Savings.is at c.requires.kept
