-- The file of holdings: its rows, and what they give or where they are refused. The rows are this project's own.
use Rattle.std.specs.Prelude.{◌≡◌, ◌↔◌, ◌≤◌, ℕ, nat_lt, int_lt, if◌then◌else◌, List, [], ◌∷◌, ◌++◌, Result, Ok, Err, codes, ℤ}
use Rattle.std.specs.List.{AllZip}
use Rattle.escrow_desk.specs.declared.refusal.FileKind.TheVariants as file
use Rattle.escrow_desk.specs.declared.refusal.Refusal.{Refusal}
use Rattle.escrow_desk.specs.declared.refusal.RefusalKind.{RefusalKind}
use Rattle.escrow_desk.specs.declared.refusal.RefusalKind.TheVariants as kind
use Rattle.escrow_units.specs.Calendar.{years_after_of}
use Rattle.escrow_units.specs.Flows.{total}
use Rattle.escrow_units.specs.declared.limits.TheConstants.{AMOUNT_LIMIT}
use Rattle.escrow_units.specs.declared.security.Flow.{Flow}
use Rattle.day_sums.specs.Summed.{summed}
use Rattle.day_sums.specs.SummedLaws.{AreSums}
use Rattle.row_fields.specs.RowForm.{Row, field_of, is_word, ◌>>=◌, answer_of_row, with_rows}
use Rattle.issue_schedule.specs.IssueForm.{flow_row_of}

-- a receipt on or after settlement
abbrev pub on_or_after : ℤ → Flow → Result Flow RefusalKind
on_or_after settle receipt = if int_lt receipt.day settle then Err kind.DateOrder else Ok receipt

-- `held,DATE,AMOUNT`: what the escrow receives of its holdings, on or after settlement and at most 40 years after it
abbrev pub held_row_of : ℤ → Row → Result Flow RefusalKind
held_row_of settle row =
    if is_word (codes "held") (field_of row 0) then (flow_row_of (years_after_of settle 40) row >>= on_or_after settle) else Err kind.UnknownRow

-- the receipts that were read, with that of one more row
abbrev pub with_row : ℤ → List Flow → Row → Result (List Flow) RefusalKind
with_row settle before row = do
  receipt ← held_row_of settle row
  Ok (before ++ receipt ∷ [])

-- the receipts that were read, with those of the rows from this number on
abbrev pub with_held_rows : ℤ → List Flow → ℕ → List Row → Result (List Flow) Refusal
with_held_rows settle before number rows = with_rows file.Held (λ receipts _ row. with_row settle receipts row) before number rows

-- the receipts of rows, which are numbered from 1, or the first refusal of a row
abbrev pub receipts_of : ℤ → List Row → Result (List Flow) Refusal
receipts_of settle rows = with_held_rows settle [] 1 rows

-- they are at most 10^13 cents together, and are summed by day
abbrev pub holdings_of : List Flow → Result (List Flow) RefusalKind
holdings_of receipts = if nat_lt AMOUNT_LIMIT (total receipts) then Err kind.HeldTooLarge else Ok (summed receipts)

-- the holdings of the rows of a file, or its first refusal: no rows hold nothing
unfoldable pub held_of : ℤ → List Row → Result (List Flow) Refusal
held_of settle rows = do
  receipts ← receipts_of settle rows
  answer_of_row file.Held 0 (holdings_of receipts)

-- ---- what that comes to
-- what the rows of a file hold: each row says a receipt; they are at most 10^13 cents together; and the holdings are on each day as much
-- as the receipts come to, in order of day and none of 0 cents
pub record AreHeldBy (settle : ℤ) (rows : List Row) (held : List Flow) : Type 0 where
  pub receipts : List Flow
  pub said : AllZip (λ row receipt. held_row_of settle row ≡ Ok receipt) rows receipts
  pub small : total receipts ≤ AMOUNT_LIMIT
  pub sums : AreSums receipts held

-- a file gives just these
abbrev pub FilesHoldTheirRows : Type 0
FilesHoldTheirRows = (settle : ℤ) (rows : List Row) (held : List Flow) → (held_of settle rows ≡ Ok held) ↔ AreHeldBy settle rows held
