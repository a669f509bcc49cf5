use Rattle.certificate_answers.specs.Reading.{files_view, names_view}
use Rattle.escrow_top.proofs.StructureLaws.{accepted_for, draft_for, finds_plain_for}
use Rattle.escrow_top.proofs.structure.structure.Goals as goal

pub returns-in_ok-draft_of_files-in-Within-clause-draft : goal.returns-in_ok-draft_of_files-in-Within-clause-draft
returns-in_ok-draft_of_files-in-Within-clause-draft g c =
    let read = rw c.in-Within.is at c.in_ok-files.ensures.read in
    let within = rw c.in-Within.is at c.in_ok-files.ensures.within in
    draft_for (g.D.Desk.told c.args.desk.now) (names_view c.args.names.now) (files_view c.in-Within.files) c.in_ok-draft_of_files-in-Within.field-0
    read within c.in_ok-draft_of_files-in-Within.ensures.draft

pub returns-in_ok-draft_of_files-in-Within-clause-accepted : goal.returns-in_ok-draft_of_files-in-Within-clause-accepted
returns-in_ok-draft_of_files-in-Within-clause-accepted g c =
    let read = rw c.in-Within.is at c.in_ok-files.ensures.read in
    accepted_for (g.D.Desk.told c.args.desk.now) (names_view c.args.names.now) (files_view c.in-Within.files) c.in_ok-draft_of_files-in-Within.field-0
    read c.in_ok-draft_of_files-in-Within.ensures.accepted

pub returns-in_ok-draft_of_files-in-Within-clause-plain : goal.returns-in_ok-draft_of_files-in-Within-clause-plain
returns-in_ok-draft_of_files-in-Within-clause-plain g c =
    let read = rw c.in-Within.is at c.in_ok-files.ensures.read in
    let within = rw c.in-Within.is at c.in_ok-files.ensures.within in
    finds_plain_for (g.D.Desk.told c.args.desk.now) (names_view c.args.names.now) (files_view c.in-Within.files) c.in_ok-draft_of_files-in-Within.field-0
    read within c.in_ok-draft_of_files-in-Within.ensures.plain
