use Rattle.case_maker.proofs.files.rates.Given as goal

abbrev pub ghost-push_lower_offers : goal.ghost-push_lower_offers
ghost-push_lower_offers g a = g.number
