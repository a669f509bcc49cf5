use Rattle.escrow_units.proofs.SeriesAround.{dates-after-are-later, previous-is-last}
use Rattle.escrow_units.proofs.SeriesFacts.{half_back_of-start, years_after_of-none}
use Rattle.escrow_units.proofs.YearFacts.{settlement-base, years_after_of-passes}
use Rattle.issue_schedule.specs.BondLaws.{PeriodsStartBySeries}
use Rattle.issue_schedule.proofs.PaymentFacts.{called-once, held-once, period-last}
use Rattle.issue_schedule.proofs.laws.bond_laws.Goals as goal

pub returns-clause-periods : goal.returns-clause-periods
returns-clause-periods c = period-last settlement-base years_after_of-passes years_after_of-none previous-is-last

pub returns-clause-held : goal.returns-clause-held
returns-clause-held c = held-once dates-after-are-later half_back_of-start settlement-base

pub returns-clause-called : goal.returns-clause-called
returns-clause-called c =
    let periods : PeriodsStartBySeries = period-last settlement-base years_after_of-passes years_after_of-none previous-is-last in
    called-once dates-after-are-later settlement-base periods
