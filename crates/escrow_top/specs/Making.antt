-- What `make` comes to: the files of the case of a number, and the answer to it. The texts are this project's own.
use Rattle.std.specs.Prelude.{◌≡◌, ◌⊎◌, ℕ, List, [], ◌∷◌, ◌++◌, codes, decimal, Result, Ok, Err, IfOk, length}
use Rattle.escrow_desk.specs.declared.refusal.Refusal.{Refusal}
use Rattle.bound_certificate.specs.declared.certificate.Certificate.{Certificate}
use Rattle.bound_certificate.specs.Versions.{IsCertificateText}
use Rattle.branch_search.specs.Purchases.{certificate_of, certificate_of_none}
use Rattle.branch_search.specs.Search.{IsFound, IsFoundBy, IsNoneFound}
use Rattle.case_file.specs.Case.{CaseContents}
use Rattle.case_maker.specs.Files.{issue_text, prices_text, rates_text}
use Rattle.proof_tree.specs.declared.tree.TreeNode.{TreeNode}
use Rattle.verification_report.specs.Report.{figures_of}
use Rattle.verification_report.specs.Summary.{summary_text, text_line}
use Rattle.certificate_answers.specs.Answer.{Answer, case_of, certificate_answer, refused}
use Rattle.certificate_answers.specs.InputFiles.{InputFiles, three_files}
use Rattle.escrow_top.specs.Effects.{Outcome, Say, Write}
use Rattle.escrow_top.specs.MakeWords.{MadeNames, Making}
use Rattle.certificate_answers.specs.Accepted.{IsAcceptedText}
use Rattle.escrow_top.specs.Structure.{IsEnd, accepted_none, accepted_with, nodes_line, none_within_text}
use Rattle.escrow_top.specs.declared.making.MadeNames.{MadeNames as CodeNames}
use Rattle.escrow_top.specs.declared.making.Making.{Making as CodeMaking}
use Rattle.certificate_answers.specs.declared.status.Status.{Status}
use Rattle.certificate_answers.specs.declared.status.Status.TheVariants as status

-- ---- the words as they were read
abbrev pub made_names_view : CodeNames → MadeNames
made_names_view names = record { issue = names.issue.now; rates = names.rates.now; prices = names.prices.now }

abbrev pub making_view : CodeMaking → Making
making_view making = record { number = making.number; names = made_names_view making.names }

-- ---- the answer
-- the files of the case of a number
abbrev pub made_files : ℕ → InputFiles
made_files number = three_files (issue_text number) (rates_text number) (prices_text number)

-- what is said of a portfolio that is found for the case of a number: the number, the summary, and how many nodes the tree has
abbrev pub made_text : ℕ → CaseContents → List ℕ → ℕ → List TreeNode → List ℕ
made_text number case plan gap nodes =
    text_line (codes "number ") (decimal number) ++ summary_text (figures_of case plan gap) ++ nodes_line nodes

-- a portfolio is found for the case of a number
abbrev pub made_answer : ℕ → CaseContents → List ℕ → ℕ → List TreeNode → Answer
made_answer number case plan gap nodes = record { status = status.Done; text = made_text number case plan gap nodes }

-- there is no rival, as a tree shows
abbrev pub none_answer : List TreeNode → Answer
none_answer nodes = record { status = status.NoneWithinYield; text = none_within_text nodes }

-- a certificate has a text, and `check` gives this answer to each of its texts, of either version
pub record IsAcceptedWith (case : CaseContents) (cert : Certificate) (answer : Answer) : Type 0 where
  pub text : List ℕ
  pub is_text : IsCertificateText (length case.book.needs) cert text
  pub accepted : (bytes : List ℕ) → IsCertificateText (length case.book.needs) cert bytes → certificate_answer case bytes ≡ answer

-- a portfolio is found, with the least gap that its tree supports, and `check` accepts their certificate; this is said of it
pub record IsMadeOf (number : ℕ) (case : CaseContents) (answer : Answer) : Type 0 where
  pub plan : List ℕ
  pub nodes : List TreeNode
  pub gap : ℕ
  pub found : IsFound case plan nodes gap
  pub found_by : IsFoundBy case plan nodes
  pub accepted : IsAcceptedWith case (certificate_of plan nodes gap) (accepted_with case plan gap)
  pub is_answer : answer ≡ made_answer number case plan gap nodes

-- there is no rival, as a tree shows, and `check` accepts its certificate; this is said of it
pub record IsMadeNone (case : CaseContents) (answer : Answer) : Type 0 where
  pub nodes : List TreeNode
  pub none : IsNoneFound case nodes
  pub accepted : IsAcceptedWith case (certificate_of_none nodes) accepted_none
  pub is_answer : answer ≡ none_answer nodes

-- the answer to the case of a number: what was found, or that nothing was; or the files of the number are refused
abbrev pub IsMadeAnswer : ℕ → Result CaseContents Refusal → Answer → Type 0
IsMadeAnswer number (Err refusal) answer = answer ≡ refused refusal
IsMadeAnswer number (Ok case) answer = IsMadeOf number case answer ⊎ IsMadeNone case answer ⊎ IsEnd case answer

-- the same by the number alone
abbrev pub IsAnswerToNumber : ℕ → Answer → Type 0
IsAnswerToNumber number answer = IsMadeAnswer number (case_of (made_files number)) answer

-- there is a certificate that `check` accepts for input files
pub record HasAcceptedText (files : InputFiles) : Type 0 where
  pub cert : List ℕ
  pub is : IsAcceptedText files cert

-- where the files of a number give a case: this holds of it
abbrev pub OfMadeCase : (CaseContents → Type 0) → Making → Type 0
OfMadeCase Holds making = IfOk (case_of (made_files making.number)) Holds

-- ---- what is put out
-- the files of names are written, one after another, and then an answer is said
abbrev pub made_outcome : MadeNames → InputFiles → Answer → Outcome
made_outcome names files answer = record {
  status = answer.status;
  effects = Write names.issue files.issue ∷ Write names.rates files.rates ∷ Write names.prices files.prices ∷ Say answer.text ∷ [];
}

-- the outcome for a number: the three files of its case are written, and then the answer to it is said
abbrev pub IsMadeOutcome : Making → Outcome → Type 0
IsMadeOutcome making outcome =
    (answer : Answer) × IsAnswerToNumber making.number answer × (outcome ≡ made_outcome making.names (made_files making.number) answer)
