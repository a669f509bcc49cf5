use Rattle.std.proofs.lemmas.Result.{IfOk-weaker}
use Rattle.case_file.specs.Case.{case_view}
use Rattle.certificate_answers.specs.Reading.{files_view}
use Rattle.escrow_top.specs.Structure.{IsAcceptedDraft, IsDraftOf, telling_for}
use Rattle.escrow_top.proofs.StructureLaws.{accepted_draft}
use Rattle.escrow_top.proofs.structure.draft_of_files.Goals as goal

pub returns-in-Ok-clause-accepted : goal.returns-in-Ok-clause-accepted
returns-in-Ok-clause-accepted g c =
    let files = files_view c.args.files.now in
    let case = case_view c.in-Ok.case in
    let draft = rw c.telling_for.ensures at c.draft_of_case.ensures.draft in
    IfOk-weaker c.draft_of_case.result (IsDraftOf (telling_for files.held) case) (IsAcceptedDraft files)
    (λ d own. accepted_draft files (telling_for files.held) case d c.in-Ok.ensures.judged own) draft
