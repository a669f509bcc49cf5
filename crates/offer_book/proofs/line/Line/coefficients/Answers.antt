use Rattle.std.proofs.Common.{◌∙◌, arith, map}
use Rattle.offer_book.specs.Coefficients.{pay_by}
use Rattle.offer_book.proofs.CoefficientFacts.{coefficients-enclose}
use Rattle.offer_book.proofs.LineFacts.{rate-low, step-at_most}
use Rattle.offer_book.proofs.line.Line.coefficients.Goals as goal

pub scaled_cost-cost-requires : goal.scaled_cost-cost-requires
scaled_cost-cost-requires c = (c.args.days.now, c.requires.line)

pub pays_of-requires-clause-rate : goal.pays_of-requires-clause-rate
pays_of-requires-clause-rate c = omega (arith, c.rate.ensures, rate-low c.args.days.now c.args.self.now c.requires.line)

pub pays_of-requires-clause-step : goal.pays_of-requires-clause-step
pays_of-requires-clause-step c = step-at_most c.args.days.now c.args.self.now c.requires.line

pub returns-clause-pays : goal.returns-clause-pays
returns-clause-pays c =
    c.pays_of.ensures ∙ (λ i. map (pay_by (c.rate.ensures i) c.args.self.now.step) ((c.as_slice.ensures.value ∙ c.schedule-schedule.ensures.value) i))

pub returns-clause-enclosing : goal.returns-clause-enclosing
returns-clause-enclosing c = coefficients-enclose c.args.days.now c.args.self.now c.requires.settlement c.requires.line
