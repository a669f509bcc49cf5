use Rattle.escrow_units.proofs.SeriesFacts.{half_back_of-start, half_back_of-falls, half_back_of-steps, half_back_of-day, half_back_of-same_day, half_back_of-month_end, half_back_of-index}
use Rattle.escrow_units.proofs.SeriesAround.{dates-after-are-later, previous-is-last}
use Rattle.escrow_units.proofs.calendar_laws.series_laws.Goals as goal

pub returns-clause-start : goal.returns-clause-start
returns-clause-start c = half_back_of-start

pub returns-clause-fall : goal.returns-clause-fall
returns-clause-fall c = half_back_of-falls

pub returns-clause-half_years : goal.returns-clause-half_years
returns-clause-half_years c = half_back_of-steps

pub returns-clause-days : goal.returns-clause-days
returns-clause-days c = half_back_of-day

pub returns-clause-same_day : goal.returns-clause-same_day
returns-clause-same_day c = half_back_of-same_day

pub returns-clause-month_end : goal.returns-clause-month_end
returns-clause-month_end c = half_back_of-month_end

pub returns-clause-index : goal.returns-clause-index
returns-clause-index c = half_back_of-index

pub returns-clause-after : goal.returns-clause-after
returns-clause-after c = dates-after-are-later

pub returns-clause-previous : goal.returns-clause-previous
returns-clause-previous c = previous-is-last
