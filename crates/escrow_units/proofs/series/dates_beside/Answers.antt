use Rattle.std.proofs.Common.{arith, rules, ◌-◌, ◌*◌, ◌/◌, ◌<◌, ◌<ℤ◌, ◌≤ℤ◌}
use Rattle.jiff_core.proofs.SignedLemmas.{signed_arith}
use Rattle.escrow_units.proofs.SeriesAround.{beside-start, beside-more, beside-end}
use Rattle.escrow_units.proofs.series.dates_beside.Goals as goal

pub loop-next-init : goal.loop-next-init
loop-next-init c =
    let some : 0 < c.days_between.result = omega (arith, signed_arith, c.days_between.ensures, c.requires.before) in
    let short : 184 * ((c.days_between.result - 1) / 184) < c.days_between.result = omega arith in
    beside-start c.args.maturity c.args.rule c.args.day c.half_years_before-previous.result c.half_years_before-next.result c.days_between.result _
    (record { base = c.requires.base; most = c.requires.near }) c.days_between.ensures short
    (rw c.plain_date-end.ensures.number at c.half_years_before-previous.ensures) (rw c.plain_date-end.ensures.number at c.half_years_before-next.ensures)

pub loop-next-preserved : goal.loop-next-preserved
loop-next-preserved c =
    let late : c.args.day <ℤ c.loop-next.previous = search rules in
    record {
      few = beside-more c.args.maturity c.args.rule c.args.day c.loop-next.previous c.loop-next.next c.loop-next.steps
          (record { base = c.requires.base; most = c.requires.near }) c.loop-next.invariant late;
      before = rw c.plain_date-end.ensures.number at c.half_years_before-previous-in-loop-next.ensures;
      at = c.loop-next.invariant.before;
      late = late;
    }

pub returns-clause-previous : goal.returns-clause-previous
returns-clause-previous c =
    let by : c.loop-next.previous ≤ℤ c.args.day = search rules in
    (beside-end c.args.maturity c.args.rule c.args.day c.loop-next.steps c.loop-next.previous c.loop-next.next (record { base = c.requires.base; most = c.requires.near }) c.loop-next.invariant by).earlier

pub returns-clause-next : goal.returns-clause-next
returns-clause-next c =
    let by : c.loop-next.previous ≤ℤ c.args.day = search rules in
    (beside-end c.args.maturity c.args.rule c.args.day c.loop-next.steps c.loop-next.previous c.loop-next.next (record { base = c.requires.base; most = c.requires.near }) c.loop-next.invariant by).following

pub returns-clause-last : goal.returns-clause-last
returns-clause-last c =
    let by : c.loop-next.previous ≤ℤ c.args.day = search rules in
    (beside-end c.args.maturity c.args.rule c.args.day c.loop-next.steps c.loop-next.previous c.loop-next.next (record { base = c.requires.base; most = c.requires.near }) c.loop-next.invariant by).last

pub returns-clause-first : goal.returns-clause-first
returns-clause-first c =
    let by : c.loop-next.previous ≤ℤ c.args.day = search rules in
    (beside-end c.args.maturity c.args.rule c.args.day c.loop-next.steps c.loop-next.previous c.loop-next.next (record { base = c.requires.base; most = c.requires.near }) c.loop-next.invariant by).first

pub returns-clause-half_year : goal.returns-clause-half_year
returns-clause-half_year c =
    let by : c.loop-next.previous ≤ℤ c.args.day = search rules in
    (beside-end c.args.maturity c.args.rule c.args.day c.loop-next.steps c.loop-next.previous c.loop-next.next (record { base = c.requires.base; most = c.requires.near }) c.loop-next.invariant by).half_year
