-- What `structure` comes to, by the case of its files.
use Rattle.std.specs.Prelude.{◌≡◌, ◌↔◌, ◌⊎◌, Some, None, Ok, IsSomeAnd, MatchOption}
use Rattle.branch_search.specs.Plain.{IsPlainWithin}
use Rattle.case_file.specs.Case.{CaseContents}
use Rattle.cash_table.specs.Reach.{IsInReach}
use Rattle.escrow_desk.specs.Content.{Told}
use Rattle.certificate_answers.specs.Answer.{case_of, searched_of}
use Rattle.escrow_top.specs.Covered.{IsCovered}
use Rattle.certificate_answers.specs.InputFiles.{FileNames, InputFiles, inputs_of}
use Rattle.certificate_answers.specs.declared.status.Status.{Status}
use Rattle.certificate_answers.specs.declared.status.Status.TheVariants as status

-- where the desk tells: the input files of names that are read are there, and this holds of them
abbrev pub OfInputs : (InputFiles → Type 0) → Told → FileNames → Type 0
OfInputs Holds told names = MatchOption told (Unit {0}) (λ content. IsSomeAnd (inputs_of content names) Holds)

-- where the desk tells, and the input files of names give a case: this holds of it
abbrev pub OfCase : (CaseContents → Type 0) → Told → FileNames → Type 0
OfCase Holds None names = Unit {0}
OfCase Holds (Some content) names = (texts : InputFiles) (case : CaseContents) → inputs_of content names ≡ Some texts → case_of texts ≡ Ok case → Holds case

-- the same where they give the case that is searched
abbrev pub OfSearched : (CaseContents → Type 0) → Told → FileNames → Type 0
OfSearched Holds None names = Unit {0}
OfSearched Holds (Some content) names = (texts : InputFiles) (case : CaseContents) → inputs_of content names ≡ Some texts → searched_of texts ≡ Ok case → Holds case

-- a plain case, whose issue allows at least its gap, comes to a portfolio
abbrev pub SettlesPlain : Status → CaseContents → Type 0
SettlesPlain reached case = IsPlainWithin case → reached ≡ status.Done

-- a case that its budget covers comes to a portfolio, or to a proof that there is no rival
abbrev pub SettlesCovered : Status → CaseContents → Type 0
SettlesCovered reached case = IsCovered case → (reached ≡ status.Done) ⊎ (reached ≡ status.NoneWithinYield)

-- that the needs can't be met is answered where, and only where, no permitted portfolio meets them
abbrev pub SaysReach : Status → CaseContents → Type 0
SaysReach reached case = (reached ≡ status.Infeasible) ↔ (IsInReach case.book → ⊥)
