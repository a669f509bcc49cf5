use Rattle.certificate_answers.proofs.asked.check.Goals as goal

pub returns-in-Within-clause-exactly : goal.returns-in-Within-clause-exactly
returns-in-Within-clause-exactly g c = rw (c.in_ok-files.ensures.told) at c.answer_to_files.ensures.exactly
