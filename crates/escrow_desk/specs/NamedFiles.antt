-- Named bytes as files.
use Rattle.std.specs.Prelude.{◌≢◌, ℕ, List, map, string_bytes, AllPairs}
use Rattle.std.specs.FinMap as fin
use Rattle.escrow_desk.specs.declared.named.NamedBytes.{NamedBytes}
use Rattle.escrow_desk.specs.Content.{Files}

-- the bytes of a file's name
abbrev pub name_of : NamedBytes → List ℕ
name_of file = string_bytes file.name

-- a file as an entry of a map
abbrev pub entry_of : NamedBytes → List ℕ × List ℕ
entry_of file = (name_of file, file.bytes.items)

-- the files by name; of two with one name the first
abbrev pub files_of : List NamedBytes → Files
files_of files = fin.from_entries (map entry_of files)

-- no two files have one name
abbrev pub NamesDiffer : List NamedBytes → Type 0
NamesDiffer files = AllPairs (λ one other. name_of one ≢ name_of other) files
