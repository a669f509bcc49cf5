-- What `check`, `check-cap`, `check-held`, `savings` and `roll` answer: a status and the text that is said. The texts are this project's own.
use Rattle.std.specs.Prelude.{ℕ, nat_lt, if◌then◌else◌, List, [], ◌∷◌, ◌++◌, length, Option, Some, None, Result, Ok, Err, is_ok, codes, decimal, option_map}
use Rattle.escrow_desk.specs.Content.{Content, file_of}
use Rattle.escrow_desk.specs.Rows.{rows_of}
use Rattle.escrow_desk.specs.declared.limits.TheConstants.{CERTIFICATE_LIMIT}
use Rattle.escrow_desk.specs.declared.refusal.FileKind.{FileKind}
use Rattle.escrow_desk.specs.declared.refusal.FileKind.TheVariants as file
use Rattle.escrow_desk.specs.declared.refusal.Refusal.{Refusal}
use Rattle.escrow_desk.specs.declared.refusal.RefusalKind.{RefusalKind}
use Rattle.escrow_desk.specs.declared.refusal.RefusalKind.TheVariants as kind
use Rattle.escrow_units.specs.DateText.{day_text}
use Rattle.escrow_units.specs.declared.security.Flow.{Flow}
use Rattle.row_fields.specs.RowForm.{Row, refusal_of}
use Rattle.bound_certificate.specs.declared.fault.FaultKind.{FaultKind}
use Rattle.bound_certificate.specs.declared.fault.FaultKind.TheVariants as fault
use Rattle.case_file.specs.Case.{CaseContents, rows_case}
use Rattle.escrow_check.specs.Verdicts.{verdict_of}
use Rattle.escrow_check.specs.declared.verdict.Portfolio.{Portfolio}
use Rattle.escrow_check.specs.declared.verdict.Reason.{Reason}
use Rattle.escrow_check.specs.declared.verdict.Reason.TheVariants as reason
use Rattle.escrow_check.specs.declared.verdict.Verdict.{Verdict}
use Rattle.escrow_check.specs.declared.verdict.Verdict.TheVariants as verdict
use Rattle.rate_cap.specs.CaseAt.{case_at}
use Rattle.held_escrow.specs.HeldCase.{held_case_of}
use Rattle.held_escrow.specs.HeldForm.{held_of}
use Rattle.verification_report.specs.Summary.{summary_text, text_line}
use Rattle.issue_schedule.specs.IssueForm.{issue_of}
use Rattle.rate_table.specs.RateForm.{rate_file_of}
use Rattle.roll_plan.specs.Steps.{stated_by}
use Rattle.certificate_answers.specs.InputFiles.{InputFiles, FileNames, ◌>>=◌, first_too_long, inputs_of}
use Rattle.certificate_answers.specs.RollsText.{rolled_text}
use Rattle.certificate_answers.specs.SavingsText.{saved_text}
use Rattle.certificate_answers.specs.declared.inquiry.Inquiry.{Inquiry}
use Rattle.certificate_answers.specs.declared.inquiry.Inquiry.TheVariants as inquiry
use Rattle.certificate_answers.specs.declared.status.Status.{Status}
use Rattle.certificate_answers.specs.declared.status.Status.TheVariants as status

-- a status, and what is said with it
pub record Answer : Type 0 where
  pub status : Status
  pub text : List ℕ

-- what a fault of a certificate's line is called
abbrev pub fault_word : FaultKind → List ℕ
fault_word fault.Header = codes "Header"
fault_word fault.Number = codes "Number"
fault_word fault.Order = codes "Order"
fault_word fault.Count = codes "Count"
fault_word fault.Truncated = codes "Truncated"
fault_word fault.Trailing = codes "Trailing"

-- a reason in words: with the line of a text and what is wrong with it, a line of the case, a day, or a node
abbrev pub reason_text : Reason → List ℕ
reason_text (reason.Grammar found) = text_line (codes "no Grammar ") (decimal found.line ++ 32 ∷ fault_word found.kind)
reason_text (reason.NotPermitted line) = text_line (codes "no NotPermitted ") (decimal line)
reason_text (reason.ShortOn day) = text_line (codes "no ShortOn ") (day_text day)
reason_text reason.YieldAbove = text_line (codes "no YieldAbove") []
reason_text (reason.BadSplit node) = text_line (codes "no BadSplit ") (decimal node)
reason_text (reason.WeakLeaf node) = text_line (codes "no WeakLeaf ") (decimal node)
reason_text reason.GapAbove = text_line (codes "no GapAbove") []

-- `yes` and the summary of a portfolio
abbrev pub yes_text : CaseContents → Portfolio → List ℕ
yes_text case portfolio =
    text_line (codes "yes") []
    ++ summary_text (record { cost = portfolio.cost; answer = portfolio.answer; limit = record { 0 = case.limit }; gap = portfolio.gap })

-- there is no rival
abbrev pub none_text : List ℕ
none_text = text_line (codes "yes none") []

-- what is said of a portfolio that is accepted, by what is asked of the files: its summary, its savings, or its rolls
abbrev pub portfolio_text : Inquiry → InputFiles → CaseContents → Portfolio → List ℕ
portfolio_text inquiry.Check files case portfolio = yes_text case portfolio
portfolio_text inquiry.Savings files case portfolio = saved_text (issue_of (rows_of files.issue)) case portfolio.plan
portfolio_text inquiry.Roll files case portfolio = rolled_text (stated_by (rate_file_of (rows_of files.rates))) case portfolio.plan
portfolio_text (inquiry.AtCap cap) files case portfolio = yes_text case portfolio

-- the answer to a verdict, with these words for a portfolio
abbrev pub verdict_answer : (Portfolio → List ℕ) → Verdict → Answer
verdict_answer words (verdict.Yes portfolio) = record { status = status.Done; text = words portfolio }
verdict_answer words verdict.YesNone = record { status = status.Done; text = none_text }
verdict_answer words (verdict.No why) = record { status = status.No; text = reason_text why }

-- what a file is called
abbrev pub file_word : FileKind → List ℕ
file_word file.Issue = codes "issue"
file_word file.Rates = codes "rates"
file_word file.Prices = codes "prices"
file_word file.Held = codes "held"
file_word file.Cert = codes "cert"

-- what a refusal is called
abbrev pub kind_word : RefusalKind → List ℕ
kind_word kind.TooLong = codes "TooLong"
kind_word kind.Missing = codes "Missing"
kind_word kind.UnknownRow = codes "UnknownRow"
kind_word kind.WrongFields = codes "WrongFields"
kind_word kind.BadNumber = codes "BadNumber"
kind_word kind.BadDate = codes "BadDate"
kind_word kind.OutOfRange = codes "OutOfRange"
kind_word kind.PriceRange = codes "PriceRange"
kind_word kind.Repeated = codes "Repeated"
kind_word kind.DateOrder = codes "DateOrder"
kind_word kind.Overlap = codes "Overlap"
kind_word kind.Matured = codes "Matured"
kind_word kind.NeedsTooLarge = codes "NeedsTooLarge"
kind_word kind.TooManyDates = codes "TooManyDates"
kind_word kind.NoRate = codes "NoRate"
kind_word kind.RateAboveTable = codes "RateAboveTable"
kind_word kind.TooShort = codes "TooShort"
kind_word kind.TooLongTerm = codes "TooLongTerm"
kind_word kind.FirstDate = codes "FirstDate"
kind_word kind.TooManyLines = codes "TooManyLines"
kind_word kind.ClosedPastEnd = codes "ClosedPastEnd"
kind_word kind.HeldTooLarge = codes "HeldTooLarge"

-- a file is refused: which one, at which row, from 1 or 0 for the whole file, and why
abbrev pub refused_text : Refusal → List ℕ
refused_text refusal =
    text_line (codes "refused ") (file_word refusal.file ++ codes " row " ++ decimal refusal.row ++ 32 ∷ kind_word refusal.kind)

-- the status `Refused`, and that text
abbrev pub refused : Refusal → Answer
refused refusal = record { status = status.Refused; text = refused_text refusal }

-- the answer to the bytes of a certificate, with these words for a portfolio: its length is tried before its lines
abbrev pub answer_with : (Portfolio → List ℕ) → CaseContents → List ℕ → Answer
answer_with words case cert =
    if nat_lt CERTIFICATE_LIMIT (length cert) then refused (refusal_of file.Cert 0 kind.TooLong)
    else verdict_answer words (verdict_of case cert)

-- that of `check`
abbrev pub certificate_answer : CaseContents → List ℕ → Answer
certificate_answer case cert = answer_with (yes_text case) case cert

-- the case of the bytes of the input files, or what is first to refuse it: their lengths are tried before their rows
abbrev pub case_of_texts : Option FileKind → InputFiles → Result CaseContents Refusal
case_of_texts (Some too_long) texts = Err (refusal_of too_long 0 kind.TooLong)
case_of_texts None texts = rows_case (rows_of texts.issue) (rows_of texts.rates) (rows_of texts.prices)

-- the case of the bytes of the input files, or what is first to refuse it
abbrev pub case_of : InputFiles → Result CaseContents Refusal
case_of texts = case_of_texts (first_too_long texts) texts

-- the case beside holdings, or the refusal of their file
abbrev pub held_case_by : CaseContents → Result (List Flow) Refusal → Result CaseContents Refusal
held_case_by case (Ok held) = Ok (held_case_of case held)
held_case_by case (Err refusal) = Err refusal

-- a case beside the holdings of the rows of their file, where they are given
abbrev pub beside : Option (List Row) → CaseContents → Result CaseContents Refusal
beside None case = Ok case
beside (Some rows) case = held_case_by case (held_of case.book.days.settle rows)

-- the case by which a certificate is judged: that of the input files, beside the holdings where `check` is given them, or at a cap
abbrev pub judged_case : Inquiry → Option (List ℕ) → CaseContents → Result CaseContents Refusal
judged_case inquiry.Check held case = beside (option_map rows_of held) case
judged_case inquiry.Savings held case = Ok case
judged_case inquiry.Roll held case = Ok case
judged_case (inquiry.AtCap cap) held case = Ok (case_at cap case)

-- the same, unless a file was refused before
abbrev pub judged_by : Inquiry → Option (List ℕ) → Result CaseContents Refusal → Result CaseContents Refusal
judged_by inquiry held (Err refusal) = Err refusal
judged_by inquiry held (Ok case) = judged_case inquiry held case

-- the same of the bytes of the input files
abbrev pub judged_of : Inquiry → InputFiles → Result CaseContents Refusal
judged_of inquiry texts = judged_by inquiry texts.held (case_of texts)

-- the case that is searched is the one by which `check` judges: that of the input files, beside the holdings where they are given
abbrev pub searched_of : InputFiles → Result CaseContents Refusal
searched_of texts = judged_of inquiry.Check texts

-- the answer to the bytes of a certificate for the case by which it is judged
abbrev pub answer_for : Inquiry → InputFiles → CaseContents → List ℕ → Answer
answer_for inquiry texts case cert = answer_with (portfolio_text inquiry texts case) case cert

-- the refusal of a file, or the answer to the certificate
abbrev pub case_answer : Inquiry → InputFiles → Result CaseContents Refusal → List ℕ → Answer
case_answer inquiry texts (Err refusal) cert = refused refusal
case_answer inquiry texts (Ok case) cert = answer_for inquiry texts case cert

-- what is answered to the bytes of the files, by what is asked of them
abbrev pub files_answer : Inquiry → InputFiles → List ℕ → Answer
files_answer inquiry texts cert = case_answer inquiry texts (judged_of inquiry texts) cert

-- what is asked, of the files of these names
pub record Asking : Type 0 where
  pub inquiry : Inquiry
  pub names : FileNames

-- what is answered where the files are there: the certificate is read last, and only where the others give a case
abbrev pub asked_answer : Content → Asking → Option Answer
asked_answer content asking = do
  texts ← inputs_of content asking.names
  cert ← if is_ok (judged_of asking.inquiry texts) then file_of content asking.names.cert else Some []
  Some (files_answer asking.inquiry texts cert)
