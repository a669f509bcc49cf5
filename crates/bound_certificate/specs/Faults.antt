-- The first fault of a text, by its lines. The grammar is this project's own.
use Rattle.std.specs.Prelude.{◌≡◌, ℕ, ◌+◌, Bool, true, false, List, [], ◌∷◌, Option, Some, None, option_map, Result, Ok, Err}
use Rattle.std.specs.List.{slice_split}
use Rattle.bound_certificate.specs.declared.due.Due.{Due}
use Rattle.bound_certificate.specs.declared.due.Due.TheVariants as due
use Rattle.bound_certificate.specs.declared.fault.CertError.{CertError}
use Rattle.bound_certificate.specs.declared.fault.CertError.TheVariants as error
use Rattle.bound_certificate.specs.declared.fault.CertFault.{CertFault}
use Rattle.bound_certificate.specs.declared.fault.FaultKind.{FaultKind}
use Rattle.bound_certificate.specs.declared.fault.FaultKind.TheVariants as kind
use Rattle.bound_certificate.specs.declared.line.Line.{Line}
use Rattle.bound_certificate.specs.declared.version.Version.{Version}
use Rattle.bound_certificate.specs.declared.version.Version.TheVariants as version
use Rattle.bound_certificate.specs.declared.weighing.Weighing.{Weighing}
use Rattle.bound_certificate.specs.declared.weighing.Weighing.TheVariants as weighing
use Rattle.bound_certificate.specs.Due.{is_over, next_due}
use Rattle.bound_certificate.specs.Grammar.{line_item, line_said, title_weighing, vectors_with}
use Rattle.line_words.specs.Words.{is_feed}

-- the lines of a text: what stands before each line feed, and last what stands behind the last one
abbrev pub lines_in : List ℕ → List (List ℕ)
lines_in bytes = slice_split is_feed bytes

-- why the bytes behind the last line feed don't end a text, where the last line came or didn't: there are any behind it, or a line is still due
abbrev pub rest_fault : Bool → List ℕ → Option FaultKind
rest_fault false rest = Some kind.Truncated
rest_fault true [] = None
rest_fault true (byte ∷ bytes) = Some kind.Trailing

-- why a line of a number is at fault
abbrev pub on_line : ℕ → Option FaultKind → Option CertFault
on_line number found = option_map (λ kind. record { line = number; kind = kind }) found

-- the fault of a line, or else the first one behind it
abbrev pub fault_or : ℕ → Result Line FaultKind → (Line → Option CertFault) → Option CertFault
fault_or number (Err found) more = on_line number (Some found)
fault_or number (Ok said) more = more said

-- the first fault of lines, from the line of a number on, where this is due and these vectors came
abbrev pub first_fault : Version → ℕ → ℕ → Due → List (List ℕ) → List (List ℕ) → Option CertFault
first_fault v dates number d vectors [] = None
first_fault v dates number d vectors (rest ∷ []) = on_line number (rest_fault (is_over d) rest)
first_fault v dates number d vectors (bytes ∷ next ∷ lines) =
    fault_or number (line_said v dates vectors d bytes)
    (λ said. first_fault v dates (number + 1) (next_due v d (line_item said)) (vectors_with vectors said) (next ∷ lines))

-- the first fault of a text of a version, where a leaf has a price for each of so many dates
abbrev pub text_fault : Version → ℕ → List ℕ → Option CertFault
text_fault v dates bytes = first_fault v dates 1 due.Title [] (lines_in bytes)

-- why a text of a version isn't read
abbrev pub IsCauseIn : Version → ℕ → List ℕ → CertError → Type 0
IsCauseIn v dates bytes error.NoMemory = Unit {0}
IsCauseIn v dates bytes (error.Fault fault) = text_fault v dates bytes ≡ Some fault

-- how leaves weigh the cost in a packed text: as in version 3 where its first line says so, and else as in version 2
abbrev pub packed_weighing_in : List (List ℕ) → Weighing
packed_weighing_in (first ∷ lines) = title_weighing first
packed_weighing_in [] = weighing.WholeOrNone

-- the first fault of a packed text
abbrev pub packed_fault : ℕ → List ℕ → Option CertFault
packed_fault dates bytes = text_fault (version.Packed (packed_weighing_in (lines_in bytes))) dates bytes

-- why a text of version 1 isn't read, and a packed one
abbrev pub IsCause : ℕ → List ℕ → CertError → Type 0
IsCause dates bytes found = IsCauseIn version.One dates bytes found

abbrev pub IsPackedCause : ℕ → List ℕ → CertError → Type 0
IsPackedCause dates bytes found = IsCauseIn (version.Packed (packed_weighing_in (lines_in bytes))) dates bytes found
