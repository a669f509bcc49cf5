use Rattle.std.proofs.Common.{◌≡◌, ◌∙◌, ap, string_bytes}
use Rattle.escrow_desk.specs.declared.named.NamedBytes.{NamedBytes}
use Rattle.escrow_desk.proofs.FilesFacts.{files-set, get_none}
use Rattle.std.specs.FinMap.{insert}
use Rattle.escrow_desk.specs.NamedFiles.{files_of}
use Rattle.escrow_desk.proofs.files.empty_file.Goals as goal

pub push_file-requires : goal.push_file-requires
push_file-requires c = get_none c.args.files.now.items c.args.name.now (rw c.as_slice.ensures.value at c.in-None.ensures.none)

pub returns-in-Some-clause-ok : goal.returns-in-Some-clause-ok
returns-in-Some-clause-ok c =
    let found = rw c.as_slice.ensures.value at c.in-Some.ensures.found in
    let first = rw c.as_slice.ensures.value at c.in-Some.ensures.first in
    let file = c.index_mut-file.result.now in
    let named : string_bytes file.name ≡ c.args.name.now = ap (λ (f : NamedBytes). string_bytes f.name) c.index_mut-file.ensures.value ∙ found.1 file in
    files-set c.args.files.now.items c.args.name.now c.in-Some.place file (record { name = file.name; bytes = c.clear.new.self }) found.0 (found.1 file) first named
    ∙ ap (insert (files_of c.args.files.now.items) c.args.name.now) c.clear.ensures.items
