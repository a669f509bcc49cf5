-- What a desk holds, and what its calls do to it. Names, files and what was said are lists of bytes.
use Rattle.std.specs.Prelude.{◌≡◌, ℕ, ◌-◌, ◌<◌, ◌≤◌, ◌++◌, List, [], length, take, drop, Option, Some, None, MatchOption, unwrap_or, IsSomeAnd, ◌⊎◌}
use Rattle.std.specs.Ordering.{nat_cmp}
use Rattle.std.specs.Cmp.Lexicographic.{slice_cmp}
use Rattle.std.specs.FinMap as map

-- files by name: a finite map
abbrev pub Files : Type 0
Files = map.FinMap (slice_cmp nat_cmp) (List ℕ)

-- what the files hold, and what was said so far
pub record Content : Type 0 where
  pub files : Files
  pub said : List ℕ

-- what a desk tells of its content, if it tells
abbrev pub Told : Type 0
Told = Option Content

-- the file of a name, if it is there
abbrev pub file_of : Content → List ℕ → Option (List ℕ)
file_of content name = map.get content.files name

-- the content where the file of a name holds these bytes, and all else is as it was
abbrev pub with_file : Content → List ℕ → List ℕ → Content
with_file content name bytes = record content { files = map.insert content.files name bytes }

-- the content where these bytes were said in addition, and all else is as it was
abbrev pub with_said : Content → List ℕ → Content
with_said content bytes = record content { said = content.said ++ bytes }

-- what is told of a changed content: a desk that tells goes on telling
abbrev pub told_map : (Content → Content) → Told → Told
told_map change None = None
told_map change (Some content) = Some (change content)

-- Reading. Of a desk that doesn't tell, each of these says nothing.

-- count bytes of the file from a place on stand at the front of the buffer, and its other bytes are as they were.
-- A buffer that isn't empty gets none only at the end of the file.
pub record PartOf (file : List ℕ) (at : ℕ) (old : List ℕ) (count : ℕ) (new : List ℕ) : Type 0 where
  pub within : count ≤ length file - at
  pub bytes : new ≡ take count (drop at file) ++ drop count old
  pub ending : 0 < length old → count ≡ 0 → length file ≤ at

-- the file is there, and a read from a place gave this part of it
abbrev pub Given : Told → List ℕ → ℕ → List ℕ → ℕ → List ℕ → Type 0
Given told name at old count new = MatchOption told (Unit {0}) (λ content. IsSomeAnd (file_of content name) (λ file. PartOf file at old count new))

-- there is no file of the name
abbrev pub IsAbsent : Told → List ℕ → Type 0
IsAbsent told name = MatchOption told (Unit {0}) (λ content. file_of content name ≡ None)

-- the file is there, and holds exactly these bytes
abbrev pub IsFile : Told → List ℕ → List ℕ → Type 0
IsFile told name bytes = MatchOption told (Unit {0}) (λ content. file_of content name ≡ Some bytes)

-- the file is there, and holds more bytes than the limit
abbrev pub IsLonger : Told → List ℕ → ℕ → Type 0
IsLonger told name limit = MatchOption told (Unit {0}) (λ content. IsSomeAnd (file_of content name) (λ file. limit < length file))

-- Writing and saying. All content that isn't named stays as it is.

-- the file is there and empty
abbrev pub Emptied : Told → List ℕ → Told → Type 0
Emptied old name new = new ≡ told_map (λ content. with_file content name []) old

-- the first count of the bytes were added to the file, which is made of them where it wasn't there
abbrev pub Appended : Told → List ℕ → ℕ → List ℕ → Told → Type 0
Appended old name count bytes new = new ≡ told_map (λ content. with_file content name (unwrap_or (file_of content name) [] ++ take count bytes)) old

-- the first count of the bytes were said
abbrev pub Said : Told → ℕ → List ℕ → Told → Type 0
Said old count bytes new = new ≡ told_map (λ content. with_said content (take count bytes)) old

-- all the bytes were said
abbrev pub SaidAll : Told → List ℕ → Told → Type 0
SaidAll old bytes new = new ≡ told_map (λ content. with_said content bytes) old

-- what was said grew by a prefix of the bytes
pub record SaidPart (old : Told) (bytes : List ℕ) (new : Told) : Type 0 where
  pub count : ℕ
  pub within : count ≤ length bytes
  pub said : Said old count bytes new

-- the file holds the first count of the bytes
abbrev pub Wrote : Told → List ℕ → ℕ → List ℕ → Told → Type 0
Wrote old name count bytes new = new ≡ told_map (λ content. with_file content name (take count bytes)) old

-- the file holds exactly the bytes
abbrev pub WroteAll : Told → List ℕ → List ℕ → Told → Type 0
WroteAll old name bytes new = new ≡ told_map (λ content. with_file content name bytes) old

-- the file holds a prefix of the bytes
pub record WrotePrefix (old : Told) (name bytes : List ℕ) (new : Told) : Type 0 where
  pub count : ℕ
  pub within : count ≤ length bytes
  pub wrote : Wrote old name count bytes new

-- the file is as before, or holds a prefix of the bytes
abbrev pub WrotePart : Told → List ℕ → List ℕ → Told → Type 0
WrotePart old name bytes new = (new ≡ old) ⊎ WrotePrefix old name bytes new
