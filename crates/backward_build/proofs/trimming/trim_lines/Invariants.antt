use Rattle.std.proofs.Common.{ℕ, ◌<◌, get_or}
use Rattle.offer_book.specs.Portfolio.{IsPermitted, payments}
use Rattle.backward_build.specs.Spare.{AreSpare}
use Rattle.backward_build.specs.Trim.{HasNoMore, IsFewest}
use Rattle.backward_build.specs.declared.order.Candidate.{Candidate}
use Rattle.backward_build.proofs.trimming.trim_lines.Given as goal

abbrev pub invariant-loop-candidate : goal.invariant-loop-candidate
invariant-loop-candidate l = record {
  permitted : IsPermitted l.book l.plan;
  spare : AreSpare l.book.needs (payments l.book l.plan) l.spare;
  no_more : HasNoMore l.plan l.fn.plan;
  fewest : (k : ℕ) (d : Candidate) → k < l.candidate-index → IsFewest l.book l.plan (get_or l.order k d).line;
}
