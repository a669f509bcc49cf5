use Rattle.case_file.specs.Case.{case_view}
use Rattle.cap_finder.proofs.ProgressFacts.{zero-in_the_way}
use Rattle.cap_finder.proofs.progress.at_zero.Goals as goal

pub returns-clause-obstacle : goal.returns-clause-obstacle
returns-clause-obstacle c =
    let zero = rw c.in-Some.is at c.requires in
    zero-in_the_way c.cap_laws.ensures.one (case_view c.args.case.now) (case_view c.in_ok-case.case) c.in-Some.unfound.cap c.in-Some.unfound.obstacle
    c.in_ok-case.ensures.at zero.0 zero.1
