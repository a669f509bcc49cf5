use Rattle.case_maker.proofs.files.made_from.Given as goal

abbrev pub ghost-issue : goal.ghost-issue
ghost-issue g a = g.number

abbrev pub ghost-rates : goal.ghost-rates
ghost-rates g a = g.number

abbrev pub ghost-prices : goal.ghost-prices
ghost-prices g a = g.number
