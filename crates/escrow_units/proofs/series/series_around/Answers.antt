use Rattle.std.proofs.Common.{rules, ◌∙◌, ◌<ℤ◌, ◌≤ℤ◌, ap, refl, reverse}
use Rattle.escrow_units.specs.Calendar.{half_back_of}
use Rattle.escrow_units.proofs.SeriesAround.{walk-start, walk-more, walk-end}
use Rattle.escrow_units.proofs.LastDates.{refill-reverse}
use Rattle.escrow_units.proofs.series.series_around.Goals as goal

pub loop-next-init : goal.loop-next-init
loop-next-init c =
    walk-start c.args.maturity c.args.rule c.args.day c.new-after.result.items (record { base = c.requires.base; most = c.requires.near })
    c.requires.before c.new-after.ensures

pub loop-next-preserved : goal.loop-next-preserved
loop-next-preserved c =
    let late : c.args.day <ℤ c.loop-next.date = search rules in
    walk-more c.args.maturity c.args.rule c.args.day c.loop-next.date c.loop-next.next c.half_years_before-date.result c.loop-next.after.items c.push.new.self.items
    (record { base = c.requires.base; most = c.requires.near }) c.loop-next.invariant late
    (rw c.plain_date-end.ensures.number at c.half_years_before-date.ensures ∙ ap (λ n. half_back_of c.args.maturity n c.args.rule) c.len.ensures.value) c.push.ensures.items

pub returns-clause-previous : goal.returns-clause-previous
returns-clause-previous c =
    let by : c.loop-next.date ≤ℤ c.args.day = search rules in
    (walk-end c.args.maturity c.args.rule c.args.day c.loop-next.date c.loop-next.next c.loop-next.after.items (record { base = c.requires.base; most = c.requires.near }) c.loop-next.invariant by).previous

pub returns-clause-next : goal.returns-clause-next
returns-clause-next c =
    let by : c.loop-next.date ≤ℤ c.args.day = search rules in
    (walk-end c.args.maturity c.args.rule c.args.day c.loop-next.date c.loop-next.next c.loop-next.after.items (record { base = c.requires.base; most = c.requires.near }) c.loop-next.invariant by).following

pub returns-clause-after : goal.returns-clause-after
returns-clause-after c =
    let by : c.loop-next.date ≤ℤ c.args.day = search rules in
    refill-reverse _ c.loop-next.after.items c.reverse.new.self refl (c.reverse.ensures.after ∙ ap reverse c.deref_mut.ensures.value)
    ∙ (walk-end c.args.maturity c.args.rule c.args.day c.loop-next.date c.loop-next.next c.loop-next.after.items (record { base = c.requires.base; most = c.requires.near }) c.loop-next.invariant by).all

pub returns-clause-last : goal.returns-clause-last
returns-clause-last c =
    let by : c.loop-next.date ≤ℤ c.args.day = search rules in
    (walk-end c.args.maturity c.args.rule c.args.day c.loop-next.date c.loop-next.next c.loop-next.after.items (record { base = c.requires.base; most = c.requires.near }) c.loop-next.invariant by).last

pub returns-clause-half_year : goal.returns-clause-half_year
returns-clause-half_year c =
    let by : c.loop-next.date ≤ℤ c.args.day = search rules in
    (walk-end c.args.maturity c.args.rule c.args.day c.loop-next.date c.loop-next.next c.loop-next.after.items (record { base = c.requires.base; most = c.requires.near }) c.loop-next.invariant by).half_year

pub returns-clause-first : goal.returns-clause-first
returns-clause-first c =
    let by : c.loop-next.date ≤ℤ c.args.day = search rules in
    (walk-end c.args.maturity c.args.rule c.args.day c.loop-next.date c.loop-next.next c.loop-next.after.items (record { base = c.requires.base; most = c.requires.near }) c.loop-next.invariant by).first
