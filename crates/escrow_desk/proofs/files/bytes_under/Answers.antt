use Rattle.std.proofs.Common.{◌∙◌, Some, ap, sym}
use Rattle.escrow_desk.proofs.FilesFacts.{get_none, get_place}
use Rattle.escrow_desk.proofs.files.bytes_under.Goals as goal

pub returns-in-None : goal.returns-in-None
returns-in-None c = sym (get_none c.args.files.now c.args.name.now c.in-None.ensures.none)

pub returns-in-Some : goal.returns-in-Some
returns-in-Some c =
    let found = c.in-Some.ensures.found in
    let file = c.index-files-place.result in
    sym (get_place c.args.files.now c.args.name.now c.in-Some.place file found.0 (found.1 file) c.in-Some.ensures.first ∙ ap Some (sym c.as_slice.ensures.value))
