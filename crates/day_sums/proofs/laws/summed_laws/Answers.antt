use Rattle.day_sums.proofs.Uniqueness.{are-sums, unique, keep-total, keep-total_by, keep-weighted, fall-within, nothing, in-steps}
use Rattle.day_sums.proofs.laws.summed_laws.Goals as goal

pub returns-clause-sums : goal.returns-clause-sums
returns-clause-sums c = are-sums

pub returns-clause-unique : goal.returns-clause-unique
returns-clause-unique c = unique

pub returns-clause-total : goal.returns-clause-total
returns-clause-total c = keep-total

pub returns-clause-total_by : goal.returns-clause-total_by
returns-clause-total_by c = keep-total_by

pub returns-clause-within : goal.returns-clause-within
returns-clause-within c = fall-within

pub returns-clause-nothing : goal.returns-clause-nothing
returns-clause-nothing c = nothing

pub returns-clause-steps : goal.returns-clause-steps
returns-clause-steps c = in-steps

pub returns-clause-weighted : goal.returns-clause-weighted
returns-clause-weighted c = keep-weighted
