-- What the rows of an input file say, one by one. The rows are this project's own.
use Rattle.std.specs.Prelude.{◌≡◌, ℕ, ℤ, true, Some, codes, List, All, Option, Result, Ok, IsTrue, length, unwrap_or, option_to_list}
use Rattle.std.specs.List.{AllZip, enumerate_from, filter, list_any}
use Rattle.row_fields.specs.RowForm.{Row, field_of, is_word}
use Rattle.escrow_units.specs.DateText.{day_of}
use Rattle.escrow_units.specs.Denomination.{terms_of}
use Rattle.escrow_units.specs.declared.security.Terms.{Terms}
use Rattle.issue_schedule.specs.IssueTerms.{IsLater}
use Rattle.escrow_units.specs.declared.fault.NumberFault.{NumberFault}

-- the rows after the first, each with its number
abbrev pub numbered : List Row → List (ℕ × Row)
numbered rows = enumerate_from 2 rows

-- the rows that begin with a word say these values, one each, in their order
abbrev pub Say : {T : Type 0} → List ℕ → (ℕ → Row → T → Type 0) → List (ℕ × Row) → List T → Type 0
Say word Says rows values = AllZip (λ row value. Says row.0 row.1 value) (filter (λ row. is_word word (field_of row.1 0)) rows) values

-- at most one of them does, and else this value is meant
abbrev pub SaysOnce : {T : Type 0} → List ℕ → (ℕ → Row → T → Type 0) → List (ℕ × Row) → T → T → Type 0
SaysOnce {T} word Says rows otherwise value = (said : Option T) × Say word Says rows (option_to_list said) × (value ≡ unwrap_or said otherwise)

-- each row begins with one of these words
abbrev pub BeginWith : List (List ℕ) → List (ℕ × Row) → Type 0
BeginWith words rows = All (λ row. IsTrue (list_any (λ word. is_word word (field_of row.1 0)) words)) rows

-- a row is its word and a field that says a value
abbrev pub SaysField : {T : Type 0} → (List ℕ → Result T NumberFault) → Row → T → Type 0
SaysField read row value = (length row ≡ 2) × (read (field_of row 1) ≡ Ok value)

-- a field says a date after settlement, at most 40 years later
abbrev pub SaysLater : ℤ → List ℕ → ℤ → Type 0
SaysLater settle field day = (day_of field ≡ Some day) × IsLater settle day

-- row 1 of a file of securities, `terms,MINIMUM,STEP`: their denominations
abbrev pub SaysTerms : Row → Terms → Type 0
SaysTerms row terms =
    (is_word (codes "terms") (field_of row 0) ≡ true) × (length row ≡ 3) × (terms_of (field_of row 1) (field_of row 2) ≡ Ok terms)
