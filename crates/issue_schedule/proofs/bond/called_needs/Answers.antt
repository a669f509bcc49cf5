use Rattle.std.proofs.Common.{arith, subst, sym, List, ℤ}
use Rattle.std.proofs.lemmas.Int.{ints}
use Rattle.jiff_core.proofs.SignedLemmas.{signed_arith}
use Rattle.escrow_units.specs.Series.{AreDatesAfter}
use Rattle.escrow_units.specs.declared.security.StepRule.TheVariants as rule
use Rattle.issue_schedule.proofs.BondFacts.{later-base, later-near}
use Rattle.issue_schedule.proofs.bond.called_needs.Goals as goal

pub period_start-start-requires-clause-base : goal.period_start-start-requires-clause-base
period_start-start-requires-clause-base c =
    later-base c.year_laws.ensures.base c.args.settle c.args.bond.now.maturity c.requires.settle c.requires.bond.maturity

pub period_start-start-requires-clause-near : goal.period_start-start-requires-clause-near
period_start-start-requires-clause-near c =
    let near = later-near c.year_laws.ensures.pass c.year_laws.ensures.none c.args.settle c.args.bond.now.maturity c.requires.settle c.requires.bond.maturity in
    omega (arith, signed_arith, near, c.requires.call.day.after)

pub period_start-start-requires-clause-from : goal.period_start-start-requires-clause-from
period_start-start-requires-clause-from c = omega (arith, ints, c.requires.call.day.after)

pub period_start-start-requires-clause-after : goal.period_start-start-requires-clause-after
period_start-start-requires-clause-after c =
    subst (λ (dates : List ℤ). AreDatesAfter c.args.bond.now.maturity rule.SameDay c.args.settle dates) (sym c.requires.after)
    (c.series_laws.ensures.after c.args.bond.now.maturity rule.SameDay c.args.settle
    (later-base c.year_laws.ensures.base c.args.settle c.args.bond.now.maturity c.requires.settle c.requires.bond.maturity))

pub push_accrued-requires-clause-base : goal.push_accrued-requires-clause-base
push_accrued-requires-clause-base c =
    later-base c.year_laws.ensures.base c.args.settle c.args.bond.now.maturity c.requires.settle c.requires.bond.maturity
