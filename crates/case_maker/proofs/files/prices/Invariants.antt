use Rattle.case_maker.proofs.files.prices.Given as goal

abbrev pub ghost-push_notes : goal.ghost-push_notes
ghost-push_notes g a = g.number
