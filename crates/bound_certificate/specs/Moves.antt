-- What a line at hand whole leads to, of whichever version.
use Rattle.std.specs.Prelude.{◌≡◌, ◌≢◌, ℕ, ◌+◌, ◌<◌, ◌≤◌, All, false, List, [], ◌∷◌, ◌++◌, length, None, Some}
use Rattle.proof_tree.specs.declared.tree.Leaf.{Leaf}
use Rattle.bound_certificate.specs.declared.certificate.Certificate.{Certificate}
use Rattle.bound_certificate.specs.declared.due.Due.{Due}
use Rattle.bound_certificate.specs.declared.due.Due.TheVariants as due
use Rattle.bound_certificate.specs.declared.fault.CertFault.{CertFault}
use Rattle.bound_certificate.specs.declared.fault.FaultKind.{FaultKind}
use Rattle.bound_certificate.specs.declared.item.Item.{Item}
use Rattle.bound_certificate.specs.declared.item.Item.TheVariants as item
use Rattle.bound_certificate.specs.declared.limits.TheConstants.{MOST_DATES, MOST_VECTORS}
use Rattle.bound_certificate.specs.declared.text_reading.Stage.{Stage}
use Rattle.bound_certificate.specs.declared.text_reading.TextReading.{TextReading}
use Rattle.bound_certificate.specs.Draft.{with_item}
use Rattle.bound_certificate.specs.Due.{IsDue, is_over, lines_left}
use Rattle.bound_certificate.specs.Kept.{IsKept}
use Rattle.bound_certificate.specs.Packed.{IsVector}
use Rattle.bound_certificate.specs.Step.{IsSuited, due_after}
use Rattle.bound_certificate.specs.TextReading.{FewNodes, stage_due, stage_fault, stage_place, stage_told}
use Rattle.bound_certificate.specs.Told.{Told}

-- a line without a fault leads from where it may stand to what may stand behind it, and says this; of a leaf's line it has the leaf
pub record Moves (dates : ℕ) (old new : Stage) (vectors after : List (List ℕ)) (line : List ℕ) (told : Item) (leaf : Leaf) : Type 0 where
  pub said : Told
  pub item_is : told ≡ said.item
  pub ended : told ≢ item.Nothing
  pub leaf_is : told ≡ item.Leaf → leaf ≡ said.leaf
  pub more : is_over (stage_due old) ≡ false
  pub suited : IsSuited dates (stage_due old) told leaf
  pub due_is : stage_due new ≡ due_after (stage_due old) told
  pub few : (cert : Certificate) → FewNodes (stage_due old) cert → FewNodes (stage_due new) (with_item cert said.item said.leaf)
  pub fault : (number : ℕ) (lines : List (List ℕ)) → 0 < length lines →
      stage_fault dates number old vectors (line ∷ lines) ≡ stage_fault dates (number + 1) new after lines
  pub tells : (lines : List (List ℕ)) → 0 < length lines → stage_told dates old vectors (line ∷ lines) ≡ said ∷ stage_told dates new after lines

-- a line has this fault where it stands
abbrev pub Stops : ℕ → Stage → List (List ℕ) → List ℕ → FaultKind → Type 0
Stops dates old vectors line kind = (number : ℕ) (lines : List (List ℕ)) → 0 < length lines →
    stage_fault dates number old vectors (line ∷ lines) ≡ Some (record { line = number; kind = kind })

-- how many vectors may still come
abbrev pub vectors_left : Due → ℕ
vectors_left (due.Vector left) = left
vectors_left due.Count = 0
vectors_left (due.Node left trees) = 0
vectors_left (due.End trees) = 0
vectors_left due.Nothing = 0
vectors_left other = MOST_VECTORS

-- vectors that came, where this is due
pub record AreVectors (dates : ℕ) (d : Due) (vectors : List (List ℕ)) : Type 0 where
  pub all : All (IsVector dates) vectors
  pub room : length vectors + vectors_left d ≤ MOST_VECTORS

-- what stands at the beginning of a line
pub record IsStage (dates : ℕ) (stage : Stage) (vectors : List (List ℕ)) : Type 0 where
  pub due_is : IsDue (stage_place stage)
  pub vectors_are : AreVectors dates (stage_place stage) vectors

-- how many lines there may still be
abbrev pub stage_lines_left : Stage → ℕ
stage_lines_left stage = lines_left (stage_place stage)

-- a reader whose bytes had no fault so far
pub record IsGoing (reading : TextReading) : Type 0 where
  pub stage_is : IsStage (length reading.leaf.prices) reading.stage reading.vectors
  pub count : reading.line + stage_lines_left reading.stage ≤ 1 + lines_left due.Title

abbrev pub IsTextReading : TextReading → Type 0
IsTextReading reading = (length reading.leaf.prices ≤ MOST_DATES) × (reading.fault ≡ None → IsGoing reading)

-- the line that is read is at fault
abbrev pub fault_at : TextReading → FaultKind → CertFault
fault_at reading kind = record { line = reading.line; kind = kind }

-- a line ended that leads on
pub record EndsLine (old new : TextReading) (front : List ℕ) (told : Item) : Type 0 where
  pub dates_are : length new.leaf.prices ≡ length old.leaf.prices
  pub going : new.fault ≡ None
  pub line_is : new.line ≡ old.line + 1
  pub empty : IsKept [] new.part
  pub ended : told ≢ item.Nothing
  pub lent : told ≢ item.Leaf → new.leaf ≡ old.leaf
  pub moves : (part : List ℕ) → IsKept part old.part →
      Moves (length old.leaf.prices) old.stage new.stage old.vectors new.vectors (part ++ front) told new.leaf

-- a line ended that is at fault
pub record EndsFault (old new : TextReading) (front : List ℕ) (fault : CertFault) : Type 0 where
  pub kind : FaultKind
  pub fault_is : fault ≡ fault_at old kind
  pub dates_are : length new.leaf.prices ≡ length old.leaf.prices
  pub stopped : new.fault ≡ Some fault
  pub stops : (part : List ℕ) → IsKept part old.part → Stops (length old.leaf.prices) old.stage old.vectors (part ++ front) kind
