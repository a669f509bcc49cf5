-- What the lines of a certificate's text say, of whichever version it is; the prices of a leaf are written out. It is this project's own.
use Rattle.std.specs.Prelude.{◌≡◌, ℕ, ◌⊎◌, List, [], ◌∷◌, ◌++◌, Result, Ok, Err}
use Rattle.std.specs.List.{fold}
use Rattle.proof_tree.specs.declared.tree.Leaf.{Leaf}
use Rattle.bound_certificate.specs.declared.certificate.Certificate.{Certificate}
use Rattle.bound_certificate.specs.declared.due.Due.{Due}
use Rattle.bound_certificate.specs.declared.due.Due.TheVariants as due
use Rattle.bound_certificate.specs.declared.fault.FaultKind.{FaultKind}
use Rattle.bound_certificate.specs.declared.item.Item.{Item}
use Rattle.bound_certificate.specs.declared.item.Item.TheVariants as item
use Rattle.bound_certificate.specs.declared.line.Line.{Line}
use Rattle.bound_certificate.specs.declared.line.Line.TheVariants as line
use Rattle.bound_certificate.specs.declared.version.Version.{Version}
use Rattle.bound_certificate.specs.Draft.{no_lines, with_item}
use Rattle.bound_certificate.specs.Due.{next_due}
use Rattle.bound_certificate.specs.Faults.{lines_in}
use Rattle.bound_certificate.specs.Grammar.{line_item, line_said, vectors_with}
use Rattle.bound_certificate.specs.Packed.{leaf_with}
use Rattle.bound_certificate.specs.Versions.{version_of}

-- what a line says, and for a leaf's line the leaf
pub record Told : Type 0 where
  pub item : Item
  pub leaf : Leaf

-- the leaf that stands for none
abbrev pub no_leaf : Leaf
no_leaf = record { rho = 0; mu = 0; prices = []; weights = [] }

-- the leaf that a line says, with its prices written out; of other lines the leaf that stands for none
abbrev pub line_leaf : ℕ → List (List ℕ) → Line → Leaf
line_leaf dates vectors (line.Closed w rho mu vector changes weights) = leaf_with dates vectors rho mu vector changes weights
line_leaf dates vectors (line.Leaf leaf) = leaf
line_leaf dates vectors said = no_leaf

-- what a line says, with its leaf
abbrev pub line_told : ℕ → List (List ℕ) → Line → Told
line_told dates vectors said = record { item = line_item said; leaf = line_leaf dates vectors said }

-- nothing more is told from a line at fault on
abbrev pub told_or : Result Line FaultKind → (Line → List Told) → List Told
told_or (Err found) more = []
told_or (Ok said) more = more said

-- what lines say, up to the first that is at fault, where this is due and these vectors were said; nothing is said behind the last line feed
abbrev pub told_lines : Version → ℕ → Due → List (List ℕ) → List (List ℕ) → List Told
told_lines v dates d vectors (bytes ∷ next ∷ lines) =
    told_or (line_said v dates vectors d bytes)
    (λ said. line_told dates vectors said ∷ told_lines v dates (next_due v d (line_item said)) (vectors_with vectors said) (next ∷ lines))
told_lines v dates d vectors lines = []

-- what the whole lines of bytes say, up to the first that is at fault
unfoldable pub told_in : ℕ → List ℕ → List Told
told_in dates bytes = told_lines (version_of (lines_in bytes)) dates due.Title [] (lines_in bytes)

-- the certificate so far, by what lines say
abbrev pub certificate_told : List Told → Certificate
certificate_told told = fold (λ cert said. with_item cert said.item said.leaf) no_lines told

-- the last of what was said is this; of a leaf's line it has the leaf
pub record IsLast (before : List Told) (told : Item) (leaf : Leaf) (after : List Told) : Type 0 where
  pub said : Told
  pub last : after ≡ before ++ said ∷ []
  pub item_is : told ≡ said.item
  pub leaf_is : told ≡ item.Leaf → leaf ≡ said.leaf

-- a line ended that says this, or none ended
abbrev pub Tells : List Told → Item → Leaf → List Told → Type 0
Tells before told leaf after = IsLast before told leaf after ⊎ ((told ≡ item.Nothing) × (after ≡ before))
