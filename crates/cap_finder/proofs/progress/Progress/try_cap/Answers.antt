use Rattle.case_file.specs.Case.{case_view}
use Rattle.cap_finder.proofs.ProgressFacts.{in-the_way}
use Rattle.cap_finder.proofs.progress.Progress.try_cap.Goals as goal

pub returns-in-Ok-clause-progress : goal.returns-in-Ok-clause-progress
returns-in-Ok-clause-progress g c =
    c.tell_found.ensures.progress (case_view c.args.case.now) c.requires.progress
    (record { at = c.in_ok-at.ensures.at; found = c.in-Ok.ensures.outcome.0; found_by = c.in-Ok.ensures.outcome.1 })

pub returns-in_ok-obstacle-in-Err-clause-progress : goal.returns-in_ok-obstacle-in-Err-clause-progress
returns-in_ok-obstacle-in-Err-clause-progress g c =
    let case = case_view c.args.case.now in
    c.tell_unfound.ensures.progress case c.requires.progress
    (in-the_way c.cap_laws.ensures.one case (case_view c.in_ok-at.at) c.args.cap c.in_ok-obstacle-in-Err.obstacle c.in-Err.end
    c.in_ok-at.ensures.at c.in-Err.ensures.outcome c.in_ok-obstacle-in-Err.ensures)
