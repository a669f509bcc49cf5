use Rattle.std.proofs.Common.{◌≡◌, ◌∙◌, get_or, sym, subst, ℤ, inl, inr}
use Rattle.std.proofs.lemmas.List.{get_or_default}
use Rattle.escrow_units.specs.Calendar.{IsSeriesDate}
use Rattle.escrow_units.specs.declared.security.StepRule.TheVariants as rule
use Rattle.escrow_units.proofs.SeriesAround.{last-unique}
use Rattle.issue_schedule.proofs.BondFacts.{start-first, start-more, start-end}
use Rattle.issue_schedule.proofs.bond.period_start.Goals as goal

pub loop-date-init : goal.loop-date-init
loop-date-init c = start-first c.args.maturity c.args.settle c.args.previous c.args.day c.args.after.now c.requires.previous c.requires.from

pub loop-date-preserved : goal.loop-date-preserved
loop-date-preserved c =
    let is = c.loop-date.invariant in
    let later = c.later_by-start.ensures in
    let dated : IsSeriesDate c.args.maturity rule.SameDay c.later_by-start.result =
    elim later.either [
      | inl kept ↦ subst (λ (d : ℤ). IsSeriesDate c.args.maturity rule.SameDay d) (sym kept) is.series
      | inr taken ↦
          let found = (c.requires.after.series c.loop-date.date-index c.date-item.result c.loop-date-test.true).0 in
          subst (λ (d : ℤ). IsSeriesDate c.args.maturity rule.SameDay d) (sym (taken ∙ c.date-item.is)) found
    ] in
    start-more c.args.maturity c.args.settle c.args.previous c.args.day c.loop-date.start c.later_by-start.result c.args.after.now c.loop-date.date-index
    is dated later.by later.order
    (λ d short early.
    let same : get_or c.args.after.now c.loop-date.date-index d ≡ c.date-item.result = get_or_default c.args.after.now c.loop-date.date-index d c.date-item.result short ∙ sym c.date-item.is in
    rw same (later.reach (rw same at early)))

pub returns-clause-last : goal.returns-clause-last
returns-clause-last c =
    start-end c.args.maturity c.args.settle c.args.previous c.args.day c.loop-date.start c.args.after.now c.loop-date.date-index
    c.loop-date.invariant c.loop-date-test.false c.requires.previous c.requires.after

pub returns-clause-value : goal.returns-clause-value
returns-clause-value c =
    last-unique c.args.maturity rule.SameDay c.args.day c.loop-date.start _ (returns-clause-last c)
    (c.series_laws.ensures.previous c.args.maturity rule.SameDay c.args.day c.requires.base c.requires.near)
