-- The case that the input files give, or their refusal. The limits are this project's own.
use Rattle.std.specs.Prelude.{◌≡◌, ℕ, ◌≤◌, List, Result, Ok, Err, ⊤}
use Rattle.escrow_desk.specs.declared.refusal.CaseError.{CaseError}
use Rattle.escrow_desk.specs.declared.refusal.CaseError.TheVariants as error
use Rattle.escrow_desk.specs.declared.refusal.Refusal.{Refusal}
use Rattle.row_fields.specs.RowForm.{Row, ◌>>=◌}
use Rattle.issue_schedule.specs.IssueForm.{issue_of}
use Rattle.issue_schedule.specs.declared.issue.Issue.{Issue}
use Rattle.market_notes.specs.PriceForm.{note_file_of}
use Rattle.market_notes.specs.declared.note.NoteFile.{NoteFile}
use Rattle.rate_table.specs.RateForm.{rate_file_of}
use Rattle.rate_table.specs.declared.table.RateFile.{RateFile}
use Rattle.offer_book.specs.Book.{BookContents, IsBook}
use Rattle.offer_book.specs.CaseBook.{IsBookOf, book_of_files}
use Rattle.case_file.specs.Limit.{RestsOn, limit_of}
use Rattle.case_file.specs.declared.case.Case.{Case}
use Rattle.escrow_units.specs.declared.limits.TheConstants.{AMOUNT_LIMIT, GREATEST_YIELD}

-- a case: its book; its limit on the yield, in units of 10^-10; the greatest gap that is allowed, in cents; and the greatest
-- number of nodes of a search
pub record CaseContents : Type 0 where
  pub book : BookContents
  pub limit : ℕ
  pub allowance : ℕ
  pub budget : ℕ

-- the case of an issue and its book
abbrev pub case_with : Issue → BookContents → Result CaseContents Refusal
case_with issue book = do
  limit ← limit_of issue
  Ok (record { book = book; limit = limit; allowance = issue.allowance.0; budget = issue.budget })

-- the case of the rows of the input files, or the first refusal: of the issue file's rows; of the rate file's; of the price
-- file's; of an offer that breaks a rule; of a note that opens too late; of too many lines; and of a restricted yield that is
-- out of range
unfoldable pub rows_case : List Row → List Row → List Row → Result CaseContents Refusal
rows_case issue_rows rate_rows price_rows = do
  issue ← issue_of issue_rows
  rates ← rate_file_of rate_rows
  notes ← note_file_of issue.settle price_rows
  book ← book_of_files issue rates notes
  case_with issue book

-- the numbers of a case: a limit of one thousandth of a percentage point to 30 percent, an allowance of at most 10^13 cents,
-- and a budget of 1 to 10,000 nodes
pub record HasTerms (case : CaseContents) : Type 0 where
  pub least_limit : 100_000 ≤ case.limit
  pub most_limit : case.limit ≤ GREATEST_YIELD
  pub allowance : case.allowance ≤ AMOUNT_LIMIT
  pub least_budget : 1 ≤ case.budget
  pub most_budget : case.budget ≤ 10_000

-- what each case keeps, also of the files that it was read from: its book keeps every limit; its lines are opening cash and those
-- of the files' rows, each with every rule of term, rate and denomination; and its limit rests on the restricted yield
pub record IsKept (issue_rows rate_rows price_rows : List Row) (case : CaseContents) : Type 0 where
  pub book : IsBook case.book
  pub issue : Issue
  pub is_issue : issue_of issue_rows ≡ Ok issue
  pub rates : RateFile
  pub is_rates : rate_file_of rate_rows ≡ Ok rates
  pub notes : NoteFile
  pub is_notes : note_file_of issue.settle price_rows ≡ Ok notes
  pub rows : IsBookOf issue rates notes case.book
  pub limit : RestsOn issue case.limit
  pub terms : HasTerms case

-- a case as contracts see it
abbrev pub case_view : Case → CaseContents
case_view case = record { book = case.book; limit = case.limit.0; allowance = case.allowance.0; budget = case.budget }

-- a call answers the case that is defined, or its refusal, or want of memory
abbrev pub CaseAnswers : Result Case CaseError → Result CaseContents Refusal → Type 0
CaseAnswers (Ok case) answer = answer ≡ Ok (case_view case)
CaseAnswers (Err (error.Refused refusal)) answer = answer ≡ Err refusal
CaseAnswers (Err error.NoMemory) answer = ⊤
