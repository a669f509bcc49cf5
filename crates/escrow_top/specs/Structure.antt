-- What `structure` and `structure-held` come to. The texts are this project's own.
use Rattle.std.specs.Prelude.{◌≡◌, ◌⊎◌, ℕ, List, [], ◌++◌, codes, decimal, length, Option, Some, None, Result, Ok, Err, IsSomeAnd, IsTrue, ℤ}
use Rattle.escrow_desk.specs.Content.{Content, Told, file_of}
use Rattle.escrow_desk.specs.declared.refusal.Refusal.{Refusal}
use Rattle.escrow_units.specs.DateText.{day_text}
use Rattle.bound_certificate.specs.Versions.{IsPackedFormOf}
use Rattle.branch_search.specs.Plain.{IsPlainWithin}
use Rattle.branch_search.specs.Purchases.{certificate_of, certificate_of_none}
use Rattle.branch_search.specs.Search.{IsFound, IsFoundBy, IsNoneFound, IsSpent}
use Rattle.branch_search.specs.declared.found.Spent.{Spent}
use Rattle.case_file.specs.Case.{CaseContents}
use Rattle.cash_table.specs.Reach.{AreAllShort, plan_of_most}
use Rattle.proof_tree.specs.declared.tree.TreeNode.{TreeNode}
use Rattle.escrow_units.specs.Digits.{fixed}
use Rattle.offer_book.specs.Book.{BookContents}
use Rattle.offer_book.specs.Portfolio.{IsFirstShort, cost}
use Rattle.verification_report.specs.Report.{figures_of, report_text}
use Rattle.verification_report.specs.Summary.{summary_text, text_line}
use Rattle.certificate_answers.specs.Answer.{Answer, certificate_answer, none_text, refused, searched_of}
use Rattle.escrow_top.specs.Covered.{IsCovered}
use Rattle.escrow_top.specs.Effects.{Outcome, saying, writing}
use Rattle.certificate_answers.specs.Holding.{IsAcceptedTextBeside}
use Rattle.certificate_answers.specs.InputFiles.{FileNames, InputFiles, inputs_of}
use Rattle.certificate_answers.specs.Reading.{AreThere}
use Rattle.escrow_top.specs.Settling.{OfInputs}
use Rattle.certificate_answers.specs.Stopping.{is_unfound}
use Rattle.escrow_top.specs.declared.draft.Draft.{Draft}
use Rattle.escrow_top.specs.declared.draft.Draft.TheVariants as draft
use Rattle.escrow_top.specs.declared.draft.Telling.{Telling}
use Rattle.escrow_top.specs.declared.draft.Telling.TheVariants as telling
use Rattle.certificate_answers.specs.declared.status.Status.{Status}
use Rattle.certificate_answers.specs.declared.status.Status.TheVariants as status

-- by this day all that is on offer falls short
abbrev pub infeasible : ℤ → Answer
infeasible day = record { status = status.Infeasible; text = text_line (codes "infeasible ") (day_text day) }

-- how many nodes a tree has
abbrev pub nodes_line : List TreeNode → List ℕ
nodes_line nodes = text_line (codes "nodes ") (decimal (length nodes))

-- there is no rival, as a tree shows
abbrev pub none_within_text : List TreeNode → List ℕ
none_within_text nodes = text_line (codes "none within yield") [] ++ nodes_line nodes

-- what the best plan costs, if there is one
abbrev pub best_line : BookContents → Option (List ℕ) → List ℕ
best_line book None = text_line (codes "best ") (codes "none")
best_line book (Some plan) = text_line (codes "best ") (fixed 2 (cost book plan))

-- the budget is spent: the nodes of the tree, the bound that it shows, and the best plan
abbrev pub budget_spent : BookContents → Spent → Answer
budget_spent book spent = record {
  status = status.BudgetSpent;
  text = text_line (codes "budget spent") [] ++ nodes_line spent.tree ++ text_line (codes "bound ") (fixed 2 spent.bound.0) ++ best_line book spent.best;
}

-- `check` accepts a certificate, with these figures
abbrev pub accepted_with : CaseContents → List ℕ → ℕ → Answer
accepted_with case plan gap = record { status = status.Done; text = text_line (codes "yes") [] ++ summary_text (figures_of case plan gap) }

-- `check` accepts a certificate without a portfolio
abbrev pub accepted_none : Answer
accepted_none = record { status = status.Done; text = none_text }

-- what is said of a portfolio that was found: its report; beside holdings its summary, since the needs of a report are what these leave
abbrev pub telling_for : Option (List ℕ) → Telling
telling_for None = telling.Report
telling_for (Some holdings) = telling.Summary

-- the text that is said of a portfolio that was found
abbrev pub told_text : Telling → CaseContents → List ℕ → ℕ → List ℕ
told_text telling.Report case plan gap = report_text case plan gap
told_text telling.Summary case plan gap = summary_text (figures_of case plan gap)

-- a text of the certificate of what was found for a case, whose leaves share their prices; `check` accepts it, with these figures
pub record IsFoundText (case : CaseContents) (plan : List ℕ) (nodes : List TreeNode) (gap : ℕ) (cert : List ℕ) : Type 0 where
  pub is_text : IsPackedFormOf (length case.book.needs) (certificate_of plan nodes gap) cert
  pub accepted : certificate_answer case cert ≡ accepted_with case plan gap

-- the texts of a portfolio that was found, with the least gap that its tree supports: its certificate, and what is said of it
pub record AreTexts (tells : Telling) (case : CaseContents) (cert said : List ℕ) : Type 0 where
  pub plan : List ℕ
  pub nodes : List TreeNode
  pub gap : ℕ
  pub found : IsFound case plan nodes gap
  pub found_by : IsFoundBy case plan nodes
  pub is_cert : IsFoundText case plan nodes gap cert
  pub is_said : said ≡ told_text tells case plan gap

-- the texts of a tree which shows that there is no rival: its certificate, which `check` accepts, and how many nodes it has
pub record AreNoneTexts (case : CaseContents) (cert said : List ℕ) : Type 0 where
  pub nodes : List TreeNode
  pub none : IsNoneFound case nodes
  pub is_cert : IsPackedFormOf (length case.book.needs) (certificate_of_none nodes) cert
  pub is_said : said ≡ none_within_text nodes
  pub accepted : certificate_answer case cert ≡ accepted_none

-- no permitted portfolio meets the needs: of all day numbers this is the first on which the most of all lines is short, and by it
-- every permitted portfolio is
pub record IsShortFrom (case : CaseContents) (day : ℤ) : Type 0 where
  pub first : IsFirstShort case.book (plan_of_most case.book) day
  pub all_short : AreAllShort case.book day

-- the needs can't be met, as an answer
pub record IsInfeasible (case : CaseContents) (answer : Answer) : Type 0 where
  pub day : ℤ
  pub short : IsShortFrom case day
  pub is_answer : answer ≡ infeasible day

-- the budget is spent, as an answer: there is a tree with as many nodes as are said, which holds the bound that is said, and no greater
-- one; and what is said of a best plan is so. The budget doesn't cover the case
pub record IsBudgetSpent (case : CaseContents) (answer : Answer) : Type 0 where
  pub spent : Spent
  pub is_spent : IsSpent case spent
  pub uncovered : IsCovered case → ⊥
  pub is_answer : answer ≡ budget_spent case.book spent

-- why no certificate is written for a case, as an answer
abbrev pub IsEnd : CaseContents → Answer → Type 0
IsEnd case answer = IsInfeasible case answer ⊎ IsBudgetSpent case answer

-- what is put out for a case: the texts of what was found, or the answer that nothing was
abbrev pub IsDraftOf : Telling → CaseContents → Draft → Type 0
IsDraftOf tells case (draft.Found texts) = AreTexts tells case texts.cert.items texts.said.items
IsDraftOf tells case (draft.NoneWithinYield texts) = AreNoneTexts case texts.cert.items texts.said.items
IsDraftOf tells case (draft.Said answer) = IsEnd case answer

-- the same of the input files
abbrev pub IsDraft : Telling → Result CaseContents Refusal → Draft → Type 0
IsDraft tells (Err refusal) (draft.Found texts) = ⊥
IsDraft tells (Err refusal) (draft.NoneWithinYield texts) = ⊥
IsDraft tells (Err refusal) (draft.Said answer) = answer ≡ refused refusal
IsDraft tells (Ok case) found = IsDraftOf tells case found

-- the same of the input files of names on a desk that tells
abbrev pub IsDraftFor : Told → FileNames → Draft → Type 0
IsDraftFor None names found = Unit {0}
IsDraftFor (Some content) names found = IsSomeAnd (inputs_of content names) (λ texts. IsDraft (telling_for texts.held) (searched_of texts) found)

-- what is about to be written is accepted for the input files, by `check` or beside holdings by `check-held`
abbrev pub IsAcceptedDraft : InputFiles → Draft → Type 0
IsAcceptedDraft files (draft.Found texts) = IsAcceptedTextBeside files.held files texts.cert.items
IsAcceptedDraft files (draft.NoneWithinYield texts) = IsAcceptedTextBeside files.held files texts.cert.items
IsAcceptedDraft files (draft.Said answer) = Unit {0}

-- the same of the input files of names on a desk that tells
abbrev pub IsAcceptedFor : Told → FileNames → Draft → Type 0
IsAcceptedFor told names (draft.Said answer) = Unit {0}
IsAcceptedFor None names (draft.Found texts) = Unit {0}
IsAcceptedFor None names (draft.NoneWithinYield texts) = Unit {0}
IsAcceptedFor (Some content) names (draft.Found texts) = (files : InputFiles) × AreThere content names files × IsAcceptedTextBeside files.held files texts.cert.items
IsAcceptedFor (Some content) names (draft.NoneWithinYield texts) = (files : InputFiles) × AreThere content names files × IsAcceptedTextBeside files.held files texts.cert.items

-- a portfolio was found
abbrev pub IsFoundDraft : Draft → Type 0
IsFoundDraft (draft.Found texts) = Unit {0}
IsFoundDraft (draft.NoneWithinYield texts) = ⊥
IsFoundDraft (draft.Said answer) = ⊥

-- of a plain case, whose issue allows at least its gap, a portfolio is found
abbrev pub FindsPlain : Result CaseContents Refusal → Draft → Type 0
FindsPlain (Err refusal) found = Unit {0}
FindsPlain (Ok case) found = IsPlainWithin case → IsFoundDraft found

abbrev pub FindsPlainFor : Told → FileNames → Draft → Type 0
FindsPlainFor None names found = Unit {0}
FindsPlainFor (Some content) names found = IsSomeAnd (inputs_of content names) (λ texts. FindsPlain (searched_of texts) found)

-- ---- what is put out
-- the answer of a draft says that nothing was found
abbrev pub IsStructuredDraft : Draft → Type 0
IsStructuredDraft (draft.Found texts) = Unit {0}
IsStructuredDraft (draft.NoneWithinYield texts) = Unit {0}
IsStructuredDraft (draft.Said answer) = IsTrue (is_unfound answer.status)

-- a draft that is put out, with the name of the certificate
abbrev pub draft_outcome : List ℕ → Draft → Outcome
draft_outcome name (draft.Found texts) = writing status.Done name texts.cert.items texts.said.items
draft_outcome name (draft.NoneWithinYield texts) = writing status.NoneWithinYield name texts.cert.items texts.said.items
draft_outcome name (draft.Said answer) = saying answer

-- the outcome for a case: the certificate of what was found is written, or of a tree which shows that there is no rival, and then that is
-- said; or it is said why none is written. Or a file is refused
abbrev pub IsSearchOutcome : List ℕ → Telling → Result CaseContents Refusal → Outcome → Type 0
IsSearchOutcome name tells (Err refusal) outcome = outcome ≡ saying (refused refusal)
IsSearchOutcome name tells (Ok case) outcome =
    ((cert text : List ℕ) × AreTexts tells case cert text × (outcome ≡ writing status.Done name cert text))
    ⊎ ((cert text : List ℕ) × AreNoneTexts case cert text × (outcome ≡ writing status.NoneWithinYield name cert text))
    ⊎ ((answer : Answer) × IsEnd case answer × (outcome ≡ saying answer))

-- the same of the input files of names, where a desk tells
abbrev pub IsStructureOutcome : Told → FileNames → Outcome → Type 0
IsStructureOutcome told names outcome =
    OfInputs (λ files. IsSearchOutcome names.cert (telling_for files.held) (searched_of files) outcome) told names

-- the certificate's file of names now holds bytes that are accepted so for the input files as they were
pub record HoldsAccepted (Accepts : InputFiles → List ℕ → Type 0) (content after : Content) (names : FileNames) : Type 0 where
  pub files : InputFiles
  pub cert : List ℕ
  pub there : AreThere content names files
  pub written : file_of after names.cert ≡ Some cert
  pub is : Accepts files cert

-- the same where a desk tells
abbrev pub WroteAccepted : (InputFiles → List ℕ → Type 0) → Told → Told → FileNames → Type 0
WroteAccepted Accepts None new names = Unit {0}
WroteAccepted Accepts (Some content) None names = ⊥
WroteAccepted Accepts (Some content) (Some after) names = HoldsAccepted Accepts content after names
