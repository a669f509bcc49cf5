use Rattle.std.proofs.Common.{rules, Ok, Err}
use Rattle.slgs_rules.specs.declared.fault.RuleFault.TheVariants as fault
use Rattle.slgs_rules.proofs.ClassificationFacts.{classified-only}
use Rattle.slgs_rules.proofs.RuleFacts.{subscription-terms}
use Rattle.slgs_rules.proofs.rules.classify.Goals as goal

pub returns-clause-answer : goal.returns-clause-answer
returns-clause-answer c = search rules

pub returns-clause-terms : goal.returns-clause-terms
returns-clause-terms c =
    subscription-terms (record { settle = c.args.settle; maturity = c.args.maturity; rate = c.args.rate; first = c.args.first; most = c.args.most })
    (record { settle = c.args.settle; maturity = c.args.maturity; rate = c.in_ok-rate.rate; kind = c.kind_of-kind.result; first = c.in_ok-first.first })
    c.requires (returns-clause-answer c)

pub returns-clause-value : goal.returns-clause-value
returns-clause-value c =
    classified-only (record { settle = c.args.settle; maturity = c.args.maturity; rate = c.args.rate; first = c.args.first; most = c.args.most })
    (Ok (record { settle = c.args.settle; maturity = c.args.maturity; rate = c.in_ok-rate.rate; kind = c.kind_of-kind.result; first = c.in_ok-first.first }))
    c.requires (returns-clause-answer c)

pub returns-in_err-rate-clause-value : goal.returns-in_err-rate-clause-value
returns-in_err-rate-clause-value c =
    classified-only (record { settle = c.args.settle; maturity = c.args.maturity; rate = c.args.rate; first = c.args.first; most = c.args.most })
    c.from_residual.result c.requires (search rules)

pub returns-then-not-is_long_enough-clause-value : goal.returns-then-not-is_long_enough-clause-value
returns-then-not-is_long_enough-clause-value c =
    classified-only (record { settle = c.args.settle; maturity = c.args.maturity; rate = c.args.rate; first = c.args.first; most = c.args.most })
    (Err fault.TooShort) c.requires (search rules)

pub returns-then-gt-clause-value : goal.returns-then-gt-clause-value
returns-then-gt-clause-value c =
    classified-only (record { settle = c.args.settle; maturity = c.args.maturity; rate = c.args.rate; first = c.args.first; most = c.args.most })
    (Err fault.TooLong) c.requires (search rules)

pub returns-in_err-first-clause-value : goal.returns-in_err-first-clause-value
returns-in_err-first-clause-value c =
    classified-only (record { settle = c.args.settle; maturity = c.args.maturity; rate = c.args.rate; first = c.args.first; most = c.args.most })
    c.from_residual-in_err-first.result c.requires (search rules)
