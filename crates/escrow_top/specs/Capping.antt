-- What `cap` comes to. The common cap and the texts are this project's own.
use Rattle.std.specs.Prelude.{◌≡◌, ◌≢◌, ◌⊎◌, ℕ, ◌+◌, ◌<◌, List, [], ◌++◌, codes, length, Option, Some, None, Result, Ok, Err, IsSomeAnd, IsTrue}
use Rattle.escrow_desk.specs.Content.{Content, Told}
use Rattle.escrow_desk.specs.declared.refusal.Refusal.{Refusal}
use Rattle.escrow_units.specs.DateText.{day_text}
use Rattle.escrow_units.specs.Digits.{fixed}
use Rattle.escrow_units.specs.declared.amount.Rate.{Rate}
use Rattle.branch_search.specs.Plain.{IsPlainWithin}
use Rattle.branch_search.specs.Search.{IsNoneFound, IsSpent}
use Rattle.cap_finder.specs.Ends.{IsCappedEscrow}
use Rattle.cap_finder.specs.declared.ends.CaseAtZero.{CaseAtZero}
use Rattle.cap_finder.specs.declared.ends.GreatestCap.{GreatestCap}
use Rattle.cap_finder.specs.declared.ends.Obstacle.{Obstacle}
use Rattle.cap_finder.specs.declared.ends.Obstacle.TheVariants as obstacle
use Rattle.cap_finder.specs.declared.ends.Unfound.{Unfound}
use Rattle.case_file.specs.Case.{CaseContents, case_view}
use Rattle.offer_book.specs.Rival.{IsRival}
use Rattle.rate_cap.specs.CaseAt.{IsAtCap, IsTopOf, case_at, slgs_rates}
use Rattle.rate_cap.specs.Search.{IsCapUpTo, zero_cap}
use Rattle.verification_report.specs.Report.{figures_of}
use Rattle.verification_report.specs.Summary.{summary_text, text_line}
use Rattle.verification_report.specs.declared.figures.Figures.{Figures}
use Rattle.certificate_answers.specs.Answer.{Answer, case_of, refused}
use Rattle.escrow_top.specs.Covered.{IsCovered}
use Rattle.escrow_top.specs.Effects.{Outcome, saying, writing}
use Rattle.escrow_top.specs.Settling.{OfInputs}
use Rattle.certificate_answers.specs.InputFiles.{FileNames, inputs_of}
use Rattle.certificate_answers.specs.Stopping.{is_structured}
use Rattle.escrow_top.specs.Structure.{IsFoundText, IsShortFrom, budget_spent, infeasible, none_within_text}
use Rattle.escrow_top.specs.declared.capping.CapDraft.{CapDraft}
use Rattle.escrow_top.specs.declared.capping.CapDraft.TheVariants as draft
use Rattle.certificate_answers.specs.declared.status.Status.{Status}
use Rattle.certificate_answers.specs.declared.status.Status.TheVariants as status

-- ---- texts
-- why no escrow was found at a cap, after the cap
abbrev pub obstacle_line : Obstacle → List ℕ
obstacle_line (obstacle.Short day) = text_line (codes " infeasible ") (day_text day)
obstacle_line (obstacle.NoneWithinYield nodes) = text_line (codes " none within yield") []
obstacle_line (obstacle.BudgetSpent spent) = text_line (codes " budget spent ") (fixed 2 spent.bound.0)

-- what is known of the next hundredth
abbrev pub next_line : Option Unfound → List ℕ
next_line None = text_line (codes "next ") (codes "none")
next_line (Some unfound) = codes "next " ++ fixed 3 unfound.cap.0 ++ obstacle_line unfound.obstacle

-- what is said of a cap: the cap in percent, the summary of an escrow at it, and the next hundredth
abbrev pub cap_words : Rate → Figures → Option Unfound → List ℕ
cap_words cap figures next = text_line (codes "cap ") (fixed 3 cap.0) ++ summary_text figures ++ next_line next

-- the same of the greatest cap that was found
abbrev pub cap_text : GreatestCap → List ℕ
cap_text greatest =
    cap_words greatest.escrow.cap (figures_of (case_view greatest.escrow.case) greatest.escrow.found.plan greatest.escrow.found.gap) greatest.next

-- why no escrow was found for a case, as `structure` says it
abbrev pub obstacle_answer : CaseContents → Obstacle → Answer
obstacle_answer case (obstacle.Short day) = infeasible day
obstacle_answer case (obstacle.NoneWithinYield nodes) = record { status = status.NoneWithinYield; text = none_within_text nodes }
obstacle_answer case (obstacle.BudgetSpent spent) = budget_spent case.book spent

-- no escrow was found, neither at the top nor at cap 0: this is said, and why there was none at cap 0
abbrev pub uncapped : CaseAtZero → Answer
uncapped zero = record {
  status = (obstacle_answer (case_view zero.case) zero.obstacle).status;
  text = text_line (codes "cap ") (codes "none") ++ (obstacle_answer (case_view zero.case) zero.obstacle).text;
}

-- ---- where no escrow is found
-- why, and what it means: no permitted portfolio meets the needs, which shows first on this day; or there is no rival; or the budget is
-- spent, no rival costs less than the bound, and the budget doesn't cover the case
abbrev pub Obstructs : CaseContents → Obstacle → Type 0
Obstructs case (obstacle.Short day) = IsShortFrom case day
Obstructs case (obstacle.NoneWithinYield nodes) = IsNoneFound case nodes × ((rival : List ℕ) → ¬ IsRival case.limit case.book rival)
Obstructs case (obstacle.BudgetSpent spent) = IsSpent case spent × (IsCovered case → ⊥)

-- this stands in the way of an escrow for a case, which isn't plain with a gap that its issue allows
pub record IsObstacle (case : CaseContents) (own : Obstacle) : Type 0 where
  pub obstructs : Obstructs case own
  pub not_plain : IsPlainWithin case → ⊥

-- something does
pub record HasObstacle (case : CaseContents) : Type 0 where
  pub obstacle : Obstacle
  pub is : IsObstacle case obstacle

-- a cap is one hundredth of a percentage point above another, which is below the top, and no escrow was found at it
pub record IsKnownAbove (case : CaseContents) (top cap : Rate) (unfound : Unfound) : Type 0 where
  pub below : cap.0 < top.0
  pub next : unfound.cap.0 ≡ cap.0 + 10
  pub is : IsObstacle (case_at unfound.cap case) unfound.obstacle

-- the next hundredth above a cap: none at the top, and else no escrow was found there
abbrev pub IsNextKnown : CaseContents → Rate → Rate → Option Unfound → Type 0
IsNextKnown case top cap None = cap ≡ top
IsNextKnown case top cap (Some unfound) = IsKnownAbove case top cap unfound

-- ---- what is drawn up
-- the texts of an escrow at a cap up to the top of a case's SLGS rates: its certificate, for the case at that cap, and what is said. Where the cap is below the top, no escrow was found for the case itself
pub record AreCapTexts (case : CaseContents) (cert said : List ℕ) : Type 0 where
  pub top : Rate
  pub is_top : IsTopOf (slgs_rates case.book.lines) top
  pub greatest : GreatestCap
  pub cap : IsCapUpTo top greatest.escrow.cap
  pub escrow : IsCappedEscrow case greatest.escrow
  pub next : IsNextKnown case top greatest.escrow.cap greatest.next
  pub above : greatest.escrow.cap.0 < top.0 → HasObstacle case
  pub is_cert : IsFoundText (case_view greatest.escrow.case) greatest.escrow.found.plan greatest.escrow.found.tree greatest.escrow.found.gap cert
  pub is_said : said ≡ cap_text greatest

-- no escrow was found, neither for the case at cap 0 nor for the case itself, as an answer
pub record IsUncapped (case : CaseContents) (answer : Answer) : Type 0 where
  pub zero : CaseAtZero
  pub at : IsAtCap zero_cap case (case_view zero.case)
  pub is : IsObstacle (case_view zero.case) zero.obstacle
  pub above : HasObstacle case
  pub is_answer : answer ≡ uncapped zero

-- what is put out for a case: the texts of an escrow at a cap, or the answer that there is none
abbrev pub IsCapDraftOf : CaseContents → CapDraft → Type 0
IsCapDraftOf case (draft.Found texts) = AreCapTexts case texts.cert.items texts.said.items
IsCapDraftOf case (draft.Said answer) = IsUncapped case answer

-- the same of the input files
abbrev pub IsCapDraft : Result CaseContents Refusal → CapDraft → Type 0
IsCapDraft (Err refusal) (draft.Found texts) = ⊥
IsCapDraft (Err refusal) (draft.Said answer) = answer ≡ refused refusal
IsCapDraft (Ok case) found = IsCapDraftOf case found

-- the same of the input files of names on a desk that tells
abbrev pub IsCapDraftFor : Told → FileNames → CapDraft → Type 0
IsCapDraftFor None names found = Unit {0}
IsCapDraftFor (Some content) names found = IsSomeAnd (inputs_of content names) (λ texts. IsCapDraft (case_of texts) found)

-- the statuses that `cap` comes to with no certificate
pub record IsUncappedStatus (reached : Status) : Type 0 where
  pub structured : IsTrue (is_structured reached)
  pub undone : reached ≢ status.Done

-- whether the desk tells or not
abbrev pub IsCapEnded : CapDraft → Type 0
IsCapEnded (draft.Found texts) = Unit {0}
IsCapEnded (draft.Said answer) = IsUncappedStatus answer.status

-- ---- what is put out
-- what `cap` drew up, with the name of the certificate
abbrev pub cap_draft_outcome : List ℕ → CapDraft → Outcome
cap_draft_outcome name (draft.Found texts) = writing status.Done name texts.cert.items texts.said.items
cap_draft_outcome name (draft.Said answer) = saying answer

-- the outcome for a case: the certificate of an escrow at a cap is written, and then that is said; or it is said that none was found. Or
-- a file is refused
abbrev pub IsCapSearchOutcome : List ℕ → Result CaseContents Refusal → Outcome → Type 0
IsCapSearchOutcome name (Err refusal) outcome = outcome ≡ saying (refused refusal)
IsCapSearchOutcome name (Ok case) outcome =
    ((cert text : List ℕ) × AreCapTexts case cert text × (outcome ≡ writing status.Done name cert text))
    ⊎ ((answer : Answer) × IsUncapped case answer × (outcome ≡ saying answer))

-- the same of the input files of names, where a desk tells
abbrev pub IsCapOutcome : Told → FileNames → Outcome → Type 0
IsCapOutcome told names outcome = OfInputs (λ files. IsCapSearchOutcome names.cert (case_of files) outcome) told names
