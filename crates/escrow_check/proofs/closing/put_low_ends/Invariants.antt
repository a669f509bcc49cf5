use Rattle.escrow_check.proofs.CloseFacts.{AreLowUpTo}
use Rattle.escrow_check.proofs.closing.put_low_ends.Given as goal

abbrev pub invariant-loop-line : goal.invariant-loop-line
invariant-loop-line l = AreLowUpTo l.line l.ranges.lines l.plan
