use Rattle.std.proofs.Common.{take}
use Rattle.rate_cap.specs.CaseAt.{IsTopOf, slgs_rates}
use Rattle.rate_cap.proofs.cap.top_rate.Given as goal

-- the top of the lines so far
abbrev pub invariant-loop-line : goal.invariant-loop-line
invariant-loop-line l = IsTopOf (slgs_rates (take l.line-index l.lines)) l.top
