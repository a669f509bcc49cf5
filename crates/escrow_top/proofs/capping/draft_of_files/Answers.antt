use Rattle.std.proofs.lemmas.Result.{IfOk-weaker}
use Rattle.case_file.specs.Case.{case_view}
use Rattle.escrow_top.specs.Capped.{IsCappedDraft}
use Rattle.escrow_top.specs.Capping.{IsCapDraftOf}
use Rattle.certificate_answers.specs.Reading.{files_view}
use Rattle.escrow_top.proofs.CappingLaws.{capped_draft}
use Rattle.escrow_top.proofs.capping.draft_of_files.Goals as goal

pub draft_of_case-requires-clause-rates : goal.draft_of_case-requires-clause-rates
draft_of_case-requires-clause-rates g c = c.cap_laws.ensures.rates _ _ _ (case_view c.in-Ok.case) c.in-Ok.ensures.kept

pub returns-in-Ok-clause-capped : goal.returns-in-Ok-clause-capped
returns-in-Ok-clause-capped g c =
    let kept = c.in-Ok.ensures.kept in
    let files = files_view c.args.files.now in
    let case = case_view c.in-Ok.case in
    IfOk-weaker c.draft_of_case.result (IsCapDraftOf case) (IsCappedDraft files)
    (λ d own. capped_draft c.found_laws.ensures.accepted c.cap_laws.ensures.one files case d c.in-Ok.ensures.gives kept.book kept.terms own) c.draft_of_case.ensures.draft
