use Rattle.issue_schedule.proofs.BondFacts.{IsStart}
use Rattle.issue_schedule.proofs.bond.period_start.Given as goal

abbrev pub invariant-loop-date : goal.invariant-loop-date
invariant-loop-date l = IsStart l.fn.maturity l.fn.settle l.fn.previous l.day l.start l.after l.date-index
