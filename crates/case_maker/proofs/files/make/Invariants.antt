use Rattle.case_maker.proofs.files.make.Given as goal

abbrev pub ghost-made_from : goal.ghost-made_from
ghost-made_from a = a.draws.state
