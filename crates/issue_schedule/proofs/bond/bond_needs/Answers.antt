use Rattle.issue_schedule.proofs.BondFacts.{later-base, later-near}
use Rattle.issue_schedule.proofs.bond.bond_needs.Goals as goal

pub series_around-dates-requires-clause-base : goal.series_around-dates-requires-clause-base
series_around-dates-requires-clause-base c =
    later-base c.year_laws.ensures.base c.args.settle c.args.bond.now.maturity c.requires.settle c.requires.bond.maturity

pub series_around-dates-requires-clause-near : goal.series_around-dates-requires-clause-near
series_around-dates-requires-clause-near c =
    later-near c.year_laws.ensures.pass c.year_laws.ensures.none c.args.settle c.args.bond.now.maturity c.requires.settle c.requires.bond.maturity
