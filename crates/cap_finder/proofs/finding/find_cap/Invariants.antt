use Rattle.std.proofs.Common.{◌-◌}
use Rattle.case_file.specs.Case.{case_view}
use Rattle.rate_cap.specs.CaseAt.{IsTopOf, slgs_rates}
use Rattle.rate_cap.specs.Search.{tells}
use Rattle.cap_finder.specs.Progress.{IsProgress}
use Rattle.cap_finder.proofs.finding.find_cap.Given as goal

abbrev pub invariant-loop-cap : goal.invariant-loop-cap
invariant-loop-cap g l = record {
  progress : IsProgress (case_view l.case) l.progress;
  top : IsTopOf (slgs_rates l.case.book.lines) l.progress.search.top;
}

abbrev pub decreases-loop-cap : goal.decreases-loop-cap
decreases-loop-cap g l = 14 - tells l.progress.search
