-- Rows of an input file: their fields, and how a fault of a field or a row is answered. The rows are this project's own.
use Rattle.std.specs.Prelude.{◌≡◌, ℕ, ◌+◌, Bool, ◌==◌, nat_eq, int_lt, if◌then◌else◌, List, [], ◌∷◌, length, slice_index_or, ok_or, Result, Ok, Err, codes, ℤ, ⊤}
use lib.Pointwise.{pointwise}
use Rattle.escrow_desk.specs.declared.refusal.CaseError.{CaseError}
use Rattle.escrow_desk.specs.declared.refusal.CaseError.TheVariants as error
use Rattle.escrow_desk.specs.declared.refusal.FileKind.{FileKind}
use Rattle.escrow_desk.specs.declared.refusal.Refusal.{Refusal}
use Rattle.escrow_desk.specs.declared.refusal.RefusalKind.{RefusalKind}
use Rattle.escrow_desk.specs.declared.refusal.RefusalKind.TheVariants as kind
use Rattle.escrow_units.specs.DateText.{day_of}
use Rattle.escrow_units.specs.Denomination.{terms_of}
use Rattle.escrow_units.specs.declared.fault.NumberFault.{NumberFault}
use Rattle.escrow_units.specs.declared.fault.NumberFault.TheVariants as fault
use Rattle.escrow_units.specs.declared.security.Terms.{Terms}
use Rattle.row_fields.specs.declared.fault.RowFault.{RowFault}
use Rattle.row_fields.specs.declared.fault.RowFault.TheVariants as row_fault

-- a record of fields
abbrev pub Row : Type 0
Row = List (List ℕ)

-- the field of a row at a place; a place that isn't there is an empty field
abbrev pub field_of : Row → ℕ → List ℕ
field_of row place = slice_index_or row place []

-- bytes are this word
abbrev pub is_word : List ℕ → List ℕ → Bool
is_word word bytes = pointwise nat_eq bytes word

-- what follows from a value, or else the same refusal
infixl 10 ◌>>=◌
abbrev pub ◌>>=◌ : {T U E : Type 0} → Result T E → (T → Result U E) → Result U E
Ok value >>= next = next value
Err refusal >>= next = Err refusal

-- a field is refused by the name of its fault
abbrev pub refusal_kind_of : NumberFault → RefusalKind
refusal_kind_of fault.BadNumber = kind.BadNumber
refusal_kind_of fault.BadDate = kind.BadDate
refusal_kind_of fault.OutOfRange = kind.OutOfRange
refusal_kind_of fault.PriceRange = kind.PriceRange

-- what a field holds, or the refusal that has the name of its fault
abbrev pub or_refused : {T : Type 0} → Result T NumberFault → Result T RefusalKind
or_refused (Ok value) = Ok value
or_refused (Err fault) = Err (refusal_kind_of fault)

-- a date
abbrev pub day_field_of : List ℕ → Result ℤ RefusalKind
day_field_of bytes = ok_or (day_of bytes) kind.BadDate

-- a date up to a last day
abbrev pub day_by_of : ℤ → List ℕ → Result ℤ RefusalKind
day_by_of last bytes = do
  day ← day_field_of bytes
  if int_lt last day then Err kind.OutOfRange else Ok day

-- a row of so many fields
abbrev pub of_width : {T : Type 0} → ℕ → Row → Result T RefusalKind → Result T RefusalKind
of_width width row answer = if length row == width then answer else Err kind.WrongFields

-- `terms,MINIMUM,STEP`: the denominations of each security of the file
abbrev pub terms_row_of : Row → Result Terms RefusalKind
terms_row_of row = of_width 3 row (or_refused (terms_of (field_of row 1) (field_of row 2)))

-- row 1 is `terms`
abbrev pub first_terms_of : Row → Result Terms RefusalKind
first_terms_of row = if is_word (codes "terms") (field_of row 0) then terms_row_of row else Err kind.Missing

-- a refusal of a file at the row with this number, from 1; 0 stands for the file as a whole
abbrev pub refusal_of : FileKind → ℕ → RefusalKind → Refusal
refusal_of file number refused = record { file = file; row = number; kind = refused }

-- what a row answers, as an answer of its file
abbrev pub answer_of_row : {T : Type 0} → FileKind → ℕ → Result T RefusalKind → Result T Refusal
answer_of_row file number (Ok value) = Ok value
answer_of_row file number (Err refused) = Err (refusal_of file number refused)

-- what was read of a file, with its rows from this number on, in order; the first that is refused refuses the file
abbrev pub with_rows : {T : Type 0} → FileKind → (T → ℕ → Row → Result T RefusalKind) → T → ℕ → List Row → Result T Refusal
with_rows file with_row before number [] = Ok before
with_rows file with_row before number (row ∷ rows) =
    answer_of_row file number (with_row before number row) >>= (λ more. with_rows file with_row more (number + 1) rows)

-- a call answers what is defined, or want of memory
abbrev pub Answers : {T : Type 0} → Result T CaseError → Result T Refusal → Type 0
Answers (Ok value) answer = answer ≡ Ok value
Answers (Err (error.Refused refusal)) answer = answer ≡ Err refusal
Answers (Err error.NoMemory) answer = ⊤

-- a row answers what is defined, or want of memory
abbrev pub RowAnswers : {T : Type 0} → Result T RowFault → Result T RefusalKind → Type 0
RowAnswers (Ok value) answer = answer ≡ Ok value
RowAnswers (Err (row_fault.Refused refused)) answer = answer ≡ Err refused
RowAnswers (Err row_fault.NoMemory) answer = ⊤

-- what a row answers, or want of memory, as an answer of a call
abbrev pub row_answer_of : {T : Type 0} → FileKind → ℕ → Result T RowFault → Result T CaseError
row_answer_of file number (Ok value) = Ok value
row_answer_of file number (Err (row_fault.Refused refused)) = Err (error.Refused (refusal_of file number refused))
row_answer_of file number (Err row_fault.NoMemory) = Err error.NoMemory
