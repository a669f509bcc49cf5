use Rattle.std.proofs.Common.{rules, ◌≡◌, ◌∙◌, Some, Result, Ok, Err, true, false, ap, sym, string_bytes}
use Rattle.std.specs.Result.{is_ok, OnErr}
use Rattle.escrow_desk.specs.declared.named.NamedBytes.{NamedBytes}
use Rattle.std.specs.FinMap.{insert, get}
use Rattle.escrow_desk.specs.NamedFiles.{files_of}
use Rattle.escrow_desk.proofs.FilesFacts.{files-set, get_none, get_place, insert_same}
use Rattle.escrow_desk.proofs.files.extend_file.Goals as goal

-- what holds anyway holds where a result is an error
on_err : {T E P : Type 0} (r : Result T E) → P → OnErr r P
on_err (Ok value) holds = tt
on_err (Err error) holds = holds

pub push_file-requires : goal.push_file-requires
push_file-requires c = get_none c.args.files.now.items c.args.name.now (rw c.as_slice.ensures.value at c.in-None.ensures.none)

pub returns-in_err-extend_from_slice-in-Some-clause-err : goal.returns-in_err-extend_from_slice-in-Some-clause-err
returns-in_err-extend_from_slice-in-Some-clause-err c =
    let found = rw c.as_slice.ensures.value at c.in-Some.ensures.found in
    let first = rw c.as_slice.ensures.value at c.in-Some.ensures.first in
    let file = c.index_mut-file.result.now in
    let named : string_bytes file.name ≡ c.args.name.now = ap (λ (f : NamedBytes). string_bytes f.name) c.index_mut-file.ensures.value ∙ found.1 file in
    let was : get (files_of c.args.files.now.items) c.args.name.now ≡ Some file.bytes.items =
    get_place c.args.files.now.items c.args.name.now c.in-Some.place file found.0 (found.1 file) first ∙ ap (λ (f : NamedBytes). Some f.bytes.items) (sym c.index_mut-file.ensures.value) in
    let put = files-set c.args.files.now.items c.args.name.now c.in-Some.place file (record { name = file.name; bytes = c.extend_from_slice.new.self }) found.0 (found.1 file) first named in
    let bad : is_ok c.extend_from_slice.result ≡ false = search rules in
    let items = rw bad at c.extend_from_slice.ensures.items in
    let same = put ∙ ap (insert (files_of c.args.files.now.items) c.args.name.now) items ∙ insert_same (files_of c.args.files.now.items) c.args.name.now file.bytes.items was in
    on_err c.from_residual.result same

pub returns-in_ok-extend_from_slice-in-Some-clause-ok : goal.returns-in_ok-extend_from_slice-in-Some-clause-ok
returns-in_ok-extend_from_slice-in-Some-clause-ok c =
    let found = rw c.as_slice.ensures.value at c.in-Some.ensures.found in
    let first = rw c.as_slice.ensures.value at c.in-Some.ensures.first in
    let file = c.index_mut-file.result.now in
    let named : string_bytes file.name ≡ c.args.name.now = ap (λ (f : NamedBytes). string_bytes f.name) c.index_mut-file.ensures.value ∙ found.1 file in
    let was : get (files_of c.args.files.now.items) c.args.name.now ≡ Some file.bytes.items =
    get_place c.args.files.now.items c.args.name.now c.in-Some.place file found.0 (found.1 file) first ∙ ap (λ (f : NamedBytes). Some f.bytes.items) (sym c.index_mut-file.ensures.value) in
    let put = files-set c.args.files.now.items c.args.name.now c.in-Some.place file (record { name = file.name; bytes = c.extend_from_slice.new.self }) found.0 (found.1 file) first named in
    let good : is_ok c.extend_from_slice.result ≡ true = search rules in
    let items = rw good at c.extend_from_slice.ensures.items in
    rw was (put ∙ ap (insert (files_of c.args.files.now.items) c.args.name.now) items)

pub returns-in-None-clause-ok : goal.returns-in-None-clause-ok
returns-in-None-clause-ok c =
    let none = get_none c.args.files.now.items c.args.name.now (rw c.as_slice.ensures.value at c.in-None.ensures.none) in
    rw none c.push_file.ensures.ok
