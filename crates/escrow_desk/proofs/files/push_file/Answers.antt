use Rattle.std.proofs.Common.{rules, ◌≡◌, ◌∙◌, true, ap}
use Rattle.std.specs.Result.{is_ok}
use Rattle.std.specs.FinMap.{insert}
use Rattle.escrow_desk.specs.NamedFiles.{files_of}
use Rattle.escrow_desk.proofs.FilesFacts.{files-push}
use Rattle.escrow_desk.proofs.files.push_file.Goals as goal

pub returns-clause-ok : goal.returns-clause-ok
returns-clause-ok c =
    let good : is_ok c.push.result ≡ true = search rules in
    rw (rw good at c.push.ensures.items) (
    files-push c.args.files.now.items c.args.name.now (record { name = c.in_ok-name.name; bytes = c.in_ok-bytes.bytes }) c.requires c.in_ok-name.ensures.ok
    ∙ ap (insert (files_of c.args.files.now.items) c.args.name.now) c.in_ok-bytes.ensures.items)
