use Rattle.slgs_interest.proofs.Series.{certificate-base}
use Rattle.slgs_interest.proofs.LeapDays.{basis-leap, basis-common}
use Rattle.slgs_interest.proofs.leap_day.basis.Goals as goal

pub returns-then-spans_leap_day : goal.returns-then-spans_leap_day
returns-then-spans_leap_day c =
    basis-leap c.args.settle c.args.maturity c.requires.settlement (certificate-base c.args.settle c.args.maturity c.requires.settlement c.requires.order c.requires.term)
    (c.spans_leap_day.ensures.0 c.if-spans_leap_day.true)

pub returns-else-spans_leap_day : goal.returns-else-spans_leap_day
returns-else-spans_leap_day c =
    basis-common c.args.settle c.args.maturity c.requires.settlement (certificate-base c.args.settle c.args.maturity c.requires.settlement c.requires.order c.requires.term)
    c.requires.order c.requires.term (λ leap. let t = c.spans_leap_day.ensures.1 leap in cc (t, c.if-spans_leap_day.false))
