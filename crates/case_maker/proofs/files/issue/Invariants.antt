use Rattle.case_maker.proofs.files.issue.Given as goal

abbrev pub ghost-push_needs : goal.ghost-push_needs
ghost-push_needs g a = g.number
