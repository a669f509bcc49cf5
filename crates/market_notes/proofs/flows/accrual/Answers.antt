use Rattle.std.proofs.Common.{◌≤◌, arith}
use Rattle.jiff_core.proofs.SignedLemmas.{signed_arith}
use Rattle.market_notes.proofs.FlowFacts.{accrual-is}
use Rattle.market_notes.proofs.flows.accrual.Goals as goal

pub overflow_mul-result : goal.overflow_mul-result
overflow_mul-result c =
    let few : c.days_between-half_year.result ≤ 184 = omega (arith, signed_arith, c.days_between-half_year.ensures, c.dates_at-dates.ensures.half_year.most) in
    record { fits = omega arith }

pub returns-clause-value : goal.returns-clause-value
returns-clause-value c =
    accrual-is c.args.note.now c.dates_at-dates.result.previous c.dates_at-dates.result.next c.days_between.result c.days_between-half_year.result
    c.dates_at-dates.ensures.previous c.dates_at-dates.ensures.next c.days_between.ensures c.days_between-half_year.ensures

pub returns-clause-some_year : goal.returns-clause-some_year
returns-clause-some_year c = omega (arith, signed_arith, c.days_between-half_year.ensures, c.dates_at-dates.ensures.half_year.least)

pub returns-clause-days : goal.returns-clause-days
returns-clause-days c =
    omega (arith, signed_arith, c.days_between.ensures, c.dates_at-dates.ensures.half_year.most, c.dates_at-dates.ensures.around.unpaid)

pub returns-clause-half_year : goal.returns-clause-half_year
returns-clause-half_year c = rw (← c.dates_at-dates.ensures.previous, ← c.dates_at-dates.ensures.next) c.dates_at-dates.ensures.around
