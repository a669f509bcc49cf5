-- The case that three input files give, without a way to work it out.
use Rattle.std.specs.Prelude.{◌≡◌, ◌↔◌, ℕ, ◌+◌, ◌≤◌, Ok, length, IfSome}
use Rattle.escrow_desk.specs.Rows.{rows_of}
use Rattle.escrow_desk.specs.declared.limits.TheConstants.{FILE_LIMIT}
use Rattle.escrow_units.specs.Flows.{indexed}
use Rattle.escrow_units.specs.PresentValue.{YieldLiesIn}
use Rattle.escrow_units.specs.declared.limits.TheConstants.{GREATEST_GIVEN_YIELD, MOST_LINES}
use Rattle.issue_schedule.specs.declared.issue.Issue.{Issue}
use Rattle.issue_schedule.specs.declared.issue.Restricted.{Restricted}
use Rattle.issue_schedule.specs.declared.issue.Restricted.TheVariants.{Computed, Given}
use Rattle.rate_table.specs.declared.table.RateFile.{RateFile}
use Rattle.market_notes.specs.declared.note.NoteFile.{NoteFile}
use Rattle.offer_book.specs.Book.{IsBook}
use Rattle.offer_book.specs.CaseBook.{IsBookOf}
use Rattle.case_file.specs.Case.{CaseContents}
use Rattle.case_file.specs.Limit.{RestsOn, materially_higher}
use Rattle.certificate_answers.specs.Answer.{case_of}
use Rattle.certificate_answers.specs.InputFiles.{InputFiles}
use Rattle.certificate_answers.specs.SaidIssue.{IsIssueOf}
use Rattle.certificate_answers.specs.SaidPrices.{IsNoteFileOf}
use Rattle.certificate_answers.specs.SaidRates.{IsRateFileOf}

-- what the rows of the three input files say
pub record InputsRead : Type 0 where
  pub issue : Issue
  pub rates : RateFile
  pub notes : NoteFile

-- this is what their bytes say
pub record SaysOf (files : InputFiles) (read : InputsRead) : Type 0 where
  pub issue : IsIssueOf (rows_of files.issue) read.issue
  pub rates : IsRateFileOf (rows_of files.rates) read.rates
  pub notes : IsNoteFileOf read.issue.settle (rows_of files.prices) read.notes

-- each of the input files has at most as many bytes as its limit
pub record AreWithin (files : InputFiles) : Type 0 where
  pub issue : length files.issue ≤ FILE_LIMIT
  pub rates : length files.rates ≤ FILE_LIMIT
  pub prices : length files.prices ≤ FILE_LIMIT
  pub held : IfSome files.held (λ bytes. length bytes ≤ FILE_LIMIT)

-- a yield is the restricted one: the issue gives it; or it isn't above the exact yield of the issue's own payments for its price, and at
-- most two units of 10^-10 below that (26 CFR 1.148-4(a))
abbrev pub Restricts : Issue → Restricted → ℕ → Type 0
Restricts issue (Given units) n = n ≡ units.0
Restricts issue (Computed row price) n = YieldLiesIn (indexed issue.settle issue.pays) price.0 n (n + 2)

-- a case is that of the files: its lines are opening cash, then one for each offer of the rate file, with every rule of term, rate and
-- denomination, and then one for each note of the price file, in the order of their rows, at most 512 besides cash; its limit is one
-- thousandth of a percentage point above the restricted yield, of at most 29.99 percent; and its allowance and budget are the issue's
pub record IsCaseOf (read : InputsRead) (case : CaseContents) : Type 0 where
  pub rows : IsBookOf read.issue read.rates read.notes case.book
  pub few : length case.book.lines ≤ 1 + MOST_LINES
  pub restricted : ℕ
  pub restricts : Restricts read.issue read.issue.restricted restricted
  pub most : restricted ≤ GREATEST_GIVEN_YIELD
  pub limit : case.limit ≡ restricted + materially_higher
  pub allowance : case.allowance ≡ read.issue.allowance.0
  pub budget : case.budget ≡ read.issue.budget

-- the bytes of input files give a case
pub record GiveCase (files : InputFiles) (case : CaseContents) : Type 0 where
  pub within : AreWithin files
  pub read : InputsRead
  pub says : SaysOf files read
  pub obeys : IsCaseOf read case

-- they give it with the lower end of the restricted yield that is worked out
abbrev pub GiveWorkedCase : InputFiles → CaseContents → Type 0
GiveWorkedCase files case = (gives : GiveCase files case) × RestsOn gives.read.issue case.limit

-- so is just the case that is worked out of their rows
abbrev pub CasesAreWorkedOut : Type 0
CasesAreWorkedOut = (files : InputFiles) (case : CaseContents) → AreWithin files → (case_of files ≡ Ok case) ↔ GiveWorkedCase files case

-- the book of each case that files give keeps every limit
abbrev pub BooksKeepLimits : Type 0
BooksKeepLimits = (files : InputFiles) (case : CaseContents) → GiveCase files case → IsBook case.book
