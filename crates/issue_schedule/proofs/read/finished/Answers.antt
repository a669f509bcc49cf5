use Rattle.issue_schedule.proofs.FileFacts.{finished-with}
use Rattle.issue_schedule.proofs.read.finished.Goals as goal

pub returns-clause-issue : goal.returns-clause-issue
returns-clause-issue c =
    rw (← c.into_read-read.ensures.read)
    (finished-with c.into_read-read.result c.in_ok-restricted.restricted c.in_ok-issue_with.field-0 c.within_limits.result c.in_ok-restricted.ensures.value c.in_ok-issue_with.ensures c.within_limits.ensures.issue)
