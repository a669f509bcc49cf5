-- What was read of the files that a desk tells.
use Rattle.std.specs.Prelude.{◌≡◌, ℕ, ◌≤◌, ◌<◌, true, false, List, length, Option, Some, None, MatchOption, IfSome, IsSomeAnd, option_map}
use Rattle.escrow_desk.specs.declared.limits.TheConstants.{CERTIFICATE_LIMIT, FILE_LIMIT}
use Rattle.escrow_desk.specs.Content.{Content, Told, file_of}
use Rattle.escrow_desk.specs.declared.refusal.FileKind.{FileKind}
use Rattle.certificate_answers.specs.declared.files.FileNames.{FileNames as CodeNames}
use Rattle.certificate_answers.specs.declared.files.InputFiles.{InputFiles as CodeFiles}
use Rattle.certificate_answers.specs.declared.files.FileText.{FileText}
use Rattle.certificate_answers.specs.declared.files.FileText.TheVariants as text
use Rattle.certificate_answers.specs.declared.files.HeldText.{HeldText}
use Rattle.certificate_answers.specs.declared.files.HeldText.TheVariants as holdings
use Rattle.certificate_answers.specs.declared.files.Inputs.{Inputs}
use Rattle.certificate_answers.specs.declared.files.Inputs.TheVariants as inputs
use Rattle.certificate_answers.specs.InputFiles.{InputFiles, FileNames, are_holdings_long, first_too_long, holdings_in, inputs_of}
use Rattle.escrow_desk.specs.Rows.{rows_of}
use Rattle.case_file.specs.Case.{CaseContents, IsKept}
use Rattle.offer_book.specs.Portfolio.{IsPermitted, Meets}
use Rattle.escrow_check.specs.Verdicts.{verdict_of}
use Rattle.escrow_check.specs.declared.verdict.Verdict.{Verdict}
use Rattle.escrow_check.specs.declared.verdict.Verdict.TheVariants as verdict
use Rattle.certificate_answers.specs.Answer.{Answer, Asking, asked_answer}
use Rattle.certificate_answers.specs.CaseOf.{AreWithin}
use Rattle.certificate_answers.specs.declared.inquiry.Asking.{Asking as CodeAsking}
use Rattle.certificate_answers.specs.declared.inquiry.Inquiry.{Inquiry}
use Rattle.certificate_answers.specs.declared.inquiry.Inquiry.TheVariants as inquiry
use Rattle.certificate_answers.specs.declared.hearing.Heard.{Heard}
use Rattle.certificate_answers.specs.declared.hearing.Heard.TheVariants as heard

-- the names as bytes
abbrev pub names_view : CodeNames → FileNames
names_view names = record {
  issue = names.issue.now;
  rates = names.rates.now;
  prices = names.prices.now;
  held = option_map (λ name. name.now) names.held;
  cert = names.cert.now;
}

-- what is asked, of files of these names as bytes
abbrev pub asking_view : CodeAsking → Asking
asking_view asking = record { inquiry = asking.inquiry; names = names_view asking.names }

-- the files as bytes
abbrev pub files_view : CodeFiles → InputFiles
files_view files = record {
  issue = files.issue.items;
  rates = files.rates.items;
  prices = files.prices.items;
  held = option_map (λ bytes. bytes.items) files.held;
}

-- the bytes of a file that has at most so many, or that it has more
abbrev pub IsBounded : ℕ → List ℕ → FileText → Type 0
IsBounded limit file text.TooLong = limit < length file
IsBounded limit file (text.Within bytes) = (file ≡ bytes.items) × (length bytes.items ≤ limit)

-- what was read of a file has at most so many bytes
abbrev pub KeepsTo : ℕ → FileText → Type 0
KeepsTo limit text.TooLong = Unit {0}
KeepsTo limit (text.Within bytes) = length bytes.items ≤ limit

-- the same of the file of a name on a desk that tells
abbrev pub IsRead : Told → List ℕ → ℕ → FileText → Type 0
IsRead told name limit found =
    MatchOption told (Unit {0}) (λ content. IsSomeAnd (file_of content name) (λ file. IsBounded limit file found))

-- the input files of these names are there, with these bytes
pub record AreThere (content : Content) (names : FileNames) (texts : InputFiles) : Type 0 where
  pub issue : file_of content names.issue ≡ Some texts.issue
  pub rates : file_of content names.rates ≡ Some texts.rates
  pub prices : file_of content names.prices ≡ Some texts.prices
  pub held : holdings_in content names.held ≡ Some texts.held

abbrev pub AreRead : Told → FileNames → InputFiles → Type 0
AreRead told names texts = MatchOption told (Unit {0}) (λ content. AreThere content names texts)

-- what is read of the input files ends with one that has more bytes than its limit
abbrev pub IsTooLong : Told → FileNames → FileKind → Type 0
IsTooLong told names kind =
    MatchOption told (Unit {0}) (λ content. IsSomeAnd (inputs_of content names) (λ texts. first_too_long texts ≡ Some kind))

-- what was read of the input files: all of them, or the first that is over its limit
abbrev pub AreFound : Told → FileNames → Inputs → Type 0
AreFound told names (inputs.Within files) = AreRead told names (files_view files)
AreFound told names (inputs.TooLong kind) = IsTooLong told names kind

-- all that were read keep to their limit
abbrev pub KeepToLimits : Inputs → Type 0
KeepToLimits (inputs.Within files) = AreWithin (files_view files)
KeepToLimits (inputs.TooLong kind) = Unit {0}

-- one of the input files that are read isn't there
abbrev pub LacksInput : Told → FileNames → Type 0
LacksInput told names = MatchOption told (Unit {0}) (λ content. inputs_of content names ≡ None)

-- what was read of the bytes of a certificate: the verdict on them, or that they are more than the limit
abbrev pub IsHeardOf : CaseContents → List ℕ → Heard → Type 0
IsHeardOf case file (heard.Whole told) = (length file ≤ CERTIFICATE_LIMIT) × (told ≡ verdict_of case file)
IsHeardOf case file heard.TooLong = CERTIFICATE_LIMIT < length file

-- the same of the certificate of a name on a desk that tells
abbrev pub IsHeard : Told → List ℕ → CaseContents → Heard → Type 0
IsHeard told name case found = MatchOption told (Unit {0}) (λ content. IsSomeAnd (file_of content name) (λ file. IsHeardOf case file found))

-- what was read of holdings: their bytes, where they are given, or that they are over their limit
abbrev pub AreHoldings : Option (List ℕ) → HeldText → Type 0
AreHoldings bytes (holdings.Within found) = (bytes ≡ option_map (λ own. own.items) found) × (are_holdings_long bytes ≡ false)
AreHoldings bytes holdings.TooLong = are_holdings_long bytes ≡ true

abbrev pub AreHoldingsRead : Told → Option (List ℕ) → HeldText → Type 0
AreHoldingsRead told name found =
    MatchOption told (Unit {0}) (λ content. IsSomeAnd (holdings_in content name) (λ bytes. AreHoldings bytes found))

-- holdings that were read keep to their limit
abbrev pub KeepHoldings : HeldText → Type 0
KeepHoldings (holdings.Within found) = IfSome (option_map (λ own. own.items) found) (λ bytes. length bytes ≤ FILE_LIMIT)
KeepHoldings holdings.TooLong = Unit {0}

-- their file isn't there
abbrev pub LackHoldings : Told → Option (List ℕ) → Type 0
LackHoldings told name = MatchOption told (Unit {0}) (λ content. holdings_in content name ≡ None)

-- where savings or rolls are asked for, a case was read of these files
abbrev pub IsKeptFor : Inquiry → InputFiles → CaseContents → Type 0
IsKeptFor inquiry.Check files case = Unit {0}
IsKeptFor inquiry.Savings files case = IsKept (rows_of files.issue) (rows_of files.rates) (rows_of files.prices) case
IsKeptFor inquiry.Roll files case = IsKept (rows_of files.issue) (rows_of files.rates) (rows_of files.prices) case
IsKeptFor (inquiry.AtCap cap) files case = Unit {0}

-- a portfolio that is accepted is permitted and meets the needs, whether the desk tells or not
abbrev pub KeepsRight : CaseContents → Verdict → Type 0
KeepsRight case (verdict.Yes portfolio) = IsPermitted case.book portfolio.plan × Meets case.book portfolio.plan
KeepsRight case verdict.YesNone = Unit {0}
KeepsRight case (verdict.No why) = Unit {0}

-- the same of what was read of a certificate
abbrev pub IsHeardRight : CaseContents → Heard → Type 0
IsHeardRight case (heard.Whole told) = KeepsRight case told
IsHeardRight case heard.TooLong = Unit {0}

-- the certificate of the name is there, and this is the answer to it, by the answer to its bytes
abbrev pub CertificateAnswers : Told → List ℕ → (List ℕ → Answer) → Answer → Type 0
CertificateAnswers told name to_bytes answer =
    MatchOption told (Unit {0}) (λ content. IsSomeAnd (file_of content name) (λ file. answer ≡ to_bytes file))

-- the certificate of the name isn't there
abbrev pub LacksCertificate : Told → List ℕ → Type 0
LacksCertificate told name = MatchOption told (Unit {0}) (λ content. file_of content name ≡ None)

-- the files that are read are there, and this is the answer to them
abbrev pub FilesAnswer : Told → Asking → Answer → Type 0
FilesAnswer told asking answer = MatchOption told (Unit {0}) (λ content. asked_answer content asking ≡ Some answer)

-- a file that is read isn't there
abbrev pub LacksAsked : Told → Asking → Type 0
LacksAsked told asking = MatchOption told (Unit {0}) (λ content. asked_answer content asking ≡ None)
