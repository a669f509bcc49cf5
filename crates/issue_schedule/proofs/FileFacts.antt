-- What all the rows give, once the restricted yield is known.
use Rattle.std.proofs.Common.{◌≡◌, ◌∙◌, ap, subst}
use Rattle.std.specs.Prelude.{Result, Ok}
use Rattle.escrow_desk.specs.declared.refusal.RefusalKind.{RefusalKind}
use Rattle.row_fields.specs.declared.fault.RowFault.{RowFault}
use Rattle.row_fields.specs.RowForm.{RowAnswers, ◌>>=◌}
use Rattle.issue_schedule.specs.IssueForm.{finished_of, issue_with_of, restricted_of, within_limits_of}
use Rattle.issue_schedule.specs.declared.draft.IssueRead.{IssueRead}
use Rattle.issue_schedule.specs.declared.issue.Issue.{Issue}
use Rattle.issue_schedule.specs.declared.issue.Restricted.{Restricted}

pub finished-with : (read : IssueRead) (restricted : Restricted) (issue : Issue) (answer : Result Issue RowFault) → Ok restricted ≡ restricted_of read.restricted read.price read.pays → issue ≡ issue_with_of read restricted → RowAnswers answer (within_limits_of issue) → RowAnswers answer (finished_of read)
finished-with read restricted issue answer given is answers =
    subst (λ (result : Result Issue RefusalKind). RowAnswers answer result)
    (ap within_limits_of is ∙ ap (λ (yield : Result Restricted RefusalKind). yield >>= (λ (r : Restricted). within_limits_of (issue_with_of read r))) given) answers
