use Rattle.std.proofs.Common.{arith}
use Rattle.std.proofs.lemmas.Int.{ints}
use Rattle.escrow_units.proofs.SeriesAround.{last-recent}
use Rattle.escrow_units.specs.declared.security.StepRule.TheVariants as rule
use Rattle.issue_schedule.proofs.BondFacts.{start-near}
use Rattle.issue_schedule.proofs.bond.push_accrued.Goals as goal

pub accrued_since-cents-requires-clause-near : goal.accrued_since-cents-requires-clause-near
accrued_since-cents-requires-clause-near c =
    let recent = last-recent c.args.bond.now.maturity rule.SameDay c.args.day c.args.start c.requires.base c.requires.before c.requires.last in
    start-near c.year_laws.ensures.pass c.year_laws.ensures.none c.args.start c.args.day c.requires.late
    (omega (arith, ints, c.requires.base.1, c.requires.before)) c.requires.last.by recent
