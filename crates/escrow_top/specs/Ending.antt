-- How a run ends.
use Rattle.std.specs.Prelude.{◌≡◌, ℕ, List, [], ◌∷◌, ◌++◌, Option, Some, None, MatchOption, codes}
use Rattle.escrow_desk.specs.Content.{Told, SaidAll}
use Rattle.verification_report.specs.Summary.{text_line}
use Rattle.certificate_answers.specs.Answer.{Answer, Asking, files_answer}
use Rattle.certificate_answers.specs.InputFiles.{InputFiles, FileNames}
use Rattle.certificate_answers.specs.Meaning.{HoldsOfFiles, OfNamedFiles}
use Rattle.certificate_answers.specs.Reading.{FilesAnswer, LacksAsked, LacksInput}
use Rattle.certificate_answers.specs.declared.inquiry.Inquiry.{Inquiry}
use Rattle.certificate_answers.specs.declared.status.Status.{Status}
use Rattle.certificate_answers.specs.declared.status.Status.TheVariants as status
use Rattle.escrow_top.specs.Capping.{IsCapOutcome}
use Rattle.escrow_top.specs.Command.{Command, Structure, Cap, Ask, Make}
use Rattle.escrow_top.specs.Effects.{Outcome, saying}
use Rattle.escrow_top.specs.Making.{IsMadeOutcome}
use Rattle.escrow_top.specs.Structure.{IsStructureOutcome}

-- ---- by the words
-- where words are this command and the names of three input files and a certificate: this holds of these names
abbrev pub OfNames : List ℕ → (FileNames → Type 0) → List (List ℕ) → Type 0
OfNames command Holds (word ∷ issue ∷ rates ∷ prices ∷ cert ∷ []) =
    word ≡ command → Holds (record { issue = issue; rates = rates; prices = prices; held = None; cert = cert })
OfNames command Holds words = Unit {0}

-- a text was said, and no file changed; where the desk tells, the four files of these names are there, and this holds of their bytes
-- and the text
pub record SaidOfFiles (Holds : InputFiles → List ℕ → List ℕ → Type 0) (told : Told) (names : FileNames) (new : Told) : Type 0 where
  pub text : List ℕ
  pub said : SaidAll told text new
  pub holds : MatchOption told (Unit {0}) (λ content. HoldsOfFiles (λ files cert. Holds files cert text) content names)

-- ---- by the command
-- the words of each command
abbrev pub usage_words : List ℕ
usage_words =
    codes "structure ISSUE RATES PRICES CERT | check ISSUE RATES PRICES CERT | make NUMBER ISSUE RATES PRICES"
    ++ codes " | cap ISSUE RATES PRICES CERT | check-cap RATE ISSUE RATES PRICES CERT | roll ISSUE RATES PRICES CERT"
    ++ codes " | structure-held ISSUE RATES PRICES HELD CERT | check-held ISSUE RATES PRICES HELD CERT"
    ++ codes " | savings ISSUE RATES PRICES CERT"

-- the line that says how the program is used
abbrev pub usage_text : List ℕ
usage_text = text_line (codes "usage: ") usage_words

-- the status `Usage`, and that line
abbrev pub usage_answer : Answer
usage_answer = record { status = status.Usage; text = usage_text }

-- the outcome of what is asked of the files of names, where a desk tells: the answer to it is said
abbrev pub IsAskedOutcome : Told → Asking → Outcome → Type 0
IsAskedOutcome told asking outcome = (answer : Answer) × FilesAnswer told asking answer × (outcome ≡ saying answer)

-- the outcome of a command over what a desk tells; where there is none, it is said how the program is used
abbrev pub IsOutcome : Told → Option Command → Outcome → Type 0
IsOutcome told None = λ outcome. outcome ≡ saying usage_answer
IsOutcome told (Some (Structure names)) = IsStructureOutcome told names
IsOutcome told (Some (Cap names)) = IsCapOutcome told names
IsOutcome told (Some (Ask asking)) = IsAskedOutcome told asking
IsOutcome told (Some (Make making)) = IsMadeOutcome making

-- a file that a command reads isn't there
abbrev pub LacksFile : Told → Option Command → Type 0
LacksFile told None = ⊥
LacksFile told (Some (Structure names)) = LacksInput told names
LacksFile told (Some (Cap names)) = LacksInput told names
LacksFile told (Some (Ask asking)) = LacksAsked told asking
LacksFile told (Some (Make making)) = ⊥

-- `make` reads no file
abbrev pub ReadsNoFile : Command → Status → Type 0
ReadsNoFile (Make making) reached = (reached ≡ status.ReadFault → ⊥) × (reached ≡ status.NoFile → ⊥)
ReadsNoFile command reached = Unit {0}

-- the status and what was said are the answer to the bytes of the four files, by what is asked, and no file changed
abbrev pub IsAnswerTo : Told → Status → Told → Inquiry → InputFiles → List ℕ → Type 0
IsAnswerTo told reached told_new inquiry files cert =
    (reached ≡ (files_answer inquiry files cert).status) × SaidAll told (files_answer inquiry files cert).text told_new

-- where something is asked of four files that are there: the same
abbrev pub AnswersBytes : Told → Command → Status → Told → Type 0
AnswersBytes told (Ask asking) reached new = OfNamedFiles (IsAnswerTo told reached new asking.inquiry) told asking.names
AnswersBytes told command reached new = Unit {0}
