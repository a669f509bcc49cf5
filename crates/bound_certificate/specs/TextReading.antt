-- What a reader of a certificate's text has read, and what a piece adds to it.
use Rattle.std.specs.Prelude.{◌≡◌, ◌≢◌, ℕ, ◌+◌, ◌<◌, ◌≤◌, true, List, [], ◌++◌, length, take, position, Option, None, Some, MatchOption, Result, Ok, Err}
use Rattle.bound_certificate.specs.declared.certificate.Certificate.{Certificate}
use Rattle.bound_certificate.specs.declared.due.Due.{Due}
use Rattle.bound_certificate.specs.declared.due.Due.TheVariants as due
use Rattle.bound_certificate.specs.declared.fault.CertFault.{CertFault}
use Rattle.bound_certificate.specs.declared.item.Fed.{Fed}
use Rattle.bound_certificate.specs.declared.item.Item.TheVariants as item
use Rattle.bound_certificate.specs.declared.limits.TheConstants.{MOST_DATES, MOST_NODES}
use Rattle.bound_certificate.specs.declared.text_reading.Stage.{Stage}
use Rattle.bound_certificate.specs.declared.text_reading.Stage.TheVariants as stage
use Rattle.bound_certificate.specs.declared.text_reading.TextReading.{TextReading}
use Rattle.bound_certificate.specs.declared.version.Version.{Version}
use Rattle.bound_certificate.specs.Due.{is_over}
use Rattle.bound_certificate.specs.Faults.{first_fault, lines_in}
use Rattle.bound_certificate.specs.Kept.{IsKept}
use Rattle.bound_certificate.specs.Step.{IsSuited, due_after}
use Rattle.bound_certificate.specs.Text.{IsOneLine}
use Rattle.bound_certificate.specs.Told.{Tells, Told, certificate_told, told_in, told_lines}
use Rattle.bound_certificate.specs.Versions.{IsCertificateText, certificate_fault, version_of}
use Rattle.line_words.specs.Words.{is_feed}

-- where a text stands: before the first line, or with this due in a version
abbrev pub stage_place : Stage → Due
stage_place stage.First = due.Title
stage_place (stage.Later v d) = d

abbrev pub stage_version : Stage → List (List ℕ) → Version
stage_version stage.First lines = version_of lines
stage_version (stage.Later v d) lines = v

-- what is due, where vectors count as a part of what stands before the nodes
abbrev pub seen_due : Due → Due
seen_due due.VectorCount = due.Count
seen_due (due.Vector left) = due.Count
seen_due d = d

abbrev pub stage_due : Stage → Due
stage_due stage = seen_due (stage_place stage)

-- what is still to come of a text, by what its lines so far led to: the first fault of lines, from the line of a number on, and what they say
abbrev pub stage_fault : ℕ → ℕ → Stage → List (List ℕ) → List (List ℕ) → Option CertFault
stage_fault dates number stage vectors lines = first_fault (stage_version stage lines) dates number (stage_place stage) vectors lines

abbrev pub stage_told : ℕ → Stage → List (List ℕ) → List (List ℕ) → List Told
stage_told dates stage vectors lines = told_lines (stage_version stage lines) dates (stage_place stage) vectors lines

-- the nodes so far, with those still due, are not too many
abbrev pub FewNodes : Due → Certificate → Type 0
FewNodes (due.Node left trees) cert = (1 ≤ left) × (length cert.nodes + left ≤ MOST_NODES)
FewNodes (due.End trees) cert = Unit {0}
FewNodes due.Nothing cert = Unit {0}
FewNodes d cert = cert.nodes ≡ []

-- whole lines came without a fault, and then a part of a line: whatever follows, the fault and what is told are those of the part and of
-- what follows it
pub record IsAtLine (dates : ℕ) (bytes : List ℕ) (reading : TextReading) : Type 0 where
  pub part : List ℕ
  pub told : List Told
  pub one : IsOneLine part
  pub kept : IsKept part reading.part
  pub over : is_over (stage_due reading.stage) ≡ true → part ≡ []
  pub fault : (more : List ℕ) → certificate_fault dates (bytes ++ more) ≡ stage_fault dates reading.line reading.stage reading.vectors (lines_in (part ++ more))
  pub tells : (more : List ℕ) → told_in dates (bytes ++ more) ≡ told ++ stage_told dates reading.stage reading.vectors (lines_in (part ++ more))
  pub few : FewNodes (stage_due reading.stage) (certificate_told told)

-- a reader has read these bytes, where a leaf has a price for each of so many dates
pub record HasRead (dates : ℕ) (bytes : List ℕ) (reading : TextReading) : Type 0 where
  pub dates_are : length reading.leaf.prices ≡ dates
  pub short : dates ≤ MOST_DATES
  pub going : reading.fault ≡ None → IsAtLine dates bytes reading
  pub stopped : (fault : CertFault) → reading.fault ≡ Some fault → (more : List ℕ) → certificate_fault dates (bytes ++ more) ≡ Some fault

-- a piece is taken up to and with its first line feed, and a line ended; or it has none, all of it is taken, and no line ended
abbrev pub TakesLine : List ℕ → Fed → Type 0
TakesLine piece fed = MatchOption (position is_feed piece)
    ((fed.used ≡ length piece) × (fed.item ≡ item.Nothing))
    (λ place. (fed.used ≡ place + 1) × (fed.item ≢ item.Nothing))

-- bytes of a piece were read behind others, and no line was at fault: what they tell is told, it was due, and it tells what is due now;
-- the leaf that is lent changes by a leaf's line alone
pub record Reads (dates : ℕ) (bytes piece : List ℕ) (fed : Fed) (old new : TextReading) : Type 0 where
  pub read : HasRead dates (bytes ++ take fed.used piece) new
  pub going : new.fault ≡ None
  pub tells : Tells (told_in dates bytes) fed.item new.leaf (told_in dates (bytes ++ take fed.used piece))
  pub lent : fed.item ≢ item.Leaf → new.leaf ≡ old.leaf
  pub suited : IsSuited dates (stage_due old.stage) fed.item new.leaf
  pub due_is : stage_due new.stage ≡ due_after (stage_due old.stage) fed.item
  pub few : (left trees : ℕ) → stage_due old.stage ≡ due.Node left trees → length (certificate_told (told_in dates bytes)).nodes < MOST_NODES

-- a piece has a line at fault, and all of it counts as read
pub record ReadsFault (dates : ℕ) (bytes piece : List ℕ) (fault : CertFault) (new : TextReading) : Type 0 where
  pub read : HasRead dates (bytes ++ piece) new
  pub stopped : new.fault ≡ Some fault

-- bytes are the text of the certificate that their lines told, and no line was at fault
pub record EndsText (dates : ℕ) (bytes : List ℕ) (reading : TextReading) : Type 0 where
  pub text : IsCertificateText dates (certificate_told (told_in dates bytes)) bytes
  pub over : is_over (stage_due reading.stage) ≡ true
  pub going : reading.fault ≡ None

-- what a reader answers at the end of bytes: they are the text of a certificate, or this is their first fault
abbrev pub Finishes : ℕ → List ℕ → TextReading → Result (Unit {0}) CertFault → Type 0
Finishes dates bytes reading (Ok none) = EndsText dates bytes reading
Finishes dates bytes reading (Err fault) = certificate_fault dates bytes ≡ Some fault
