-- What the statuses of each command mean.
use Rattle.std.specs.Prelude.{◌≡◌, ◌⊎◌, IsTrue}
use Rattle.escrow_desk.specs.Content.{Told}
use Rattle.certificate_answers.specs.Accepted.{YesExactly}
use Rattle.certificate_answers.specs.Answer.{Asking}
use Rattle.certificate_answers.specs.Holding.{IsAcceptedTextBeside}
use Rattle.certificate_answers.specs.InputFiles.{FileNames}
use Rattle.certificate_answers.specs.Meaning.{MeansNo, MeansYes, OfNamedFiles}
use Rattle.certificate_answers.specs.Statuses.{is_checked}
use Rattle.certificate_answers.specs.Stopping.{is_structured}
use Rattle.certificate_answers.specs.declared.status.Status.{Status}
use Rattle.certificate_answers.specs.declared.status.Status.TheVariants as status
use Rattle.escrow_top.specs.Capped.{SaysNoCap, WroteCapped}
use Rattle.escrow_top.specs.Command.{Command, Structure, Cap, Ask, Make}
use Rattle.escrow_top.specs.Ending.{SaidOfFiles}
use Rattle.escrow_top.specs.MakeWords.{Making}
use Rattle.escrow_top.specs.Making.{HasAcceptedText, OfMadeCase, made_files}
use Rattle.escrow_top.specs.Settling.{OfCase, OfSearched, SaysReach, SettlesCovered, SettlesPlain}
use Rattle.escrow_top.specs.Structure.{WroteAccepted}

-- a status with which a certificate is found, with a portfolio or without
abbrev pub IsFoundStatus : Status → Type 0
IsFoundStatus reached = (reached ≡ status.Done) ⊎ (reached ≡ status.NoneWithinYield)

-- of `check`, `check-cap`, `check-held`, `savings` and `roll`, by what is asked: they come to these statuses alone; what `Done` and `No`
-- mean of the files and of what was said; and `Done` comes exactly where no reason stands
pub record AskedMeans (told : Told) (asking : Asking) (reached : Status) (new : Told) : Type 0 where
  pub checked : IsTrue (is_checked reached)
  pub yes : reached ≡ status.Done → SaidOfFiles (MeansYes asking.inquiry) told asking.names new
  pub no : reached ≡ status.No → SaidOfFiles (MeansNo asking.inquiry) told asking.names new
  pub exactly : OfNamedFiles (YesExactly reached asking.inquiry) told asking.names

-- of `structure` and `structure-held`: what they wrote is accepted, by `check` or `check-held`; a plain case, and one that the budget
-- covers, is settled; and `Infeasible` comes exactly where no permitted portfolio meets the needs
pub record StructureMeans (told : Told) (names : FileNames) (reached : Status) (new : Told) : Type 0 where
  pub structured : IsTrue (is_structured reached)
  pub wrote : IsFoundStatus reached → WroteAccepted (λ files. IsAcceptedTextBeside files.held files) told new names
  pub plain : OfSearched (SettlesPlain reached) told names
  pub covered : OfSearched (SettlesCovered reached) told names
  pub reach : OfSearched (SaysReach reached) told names

-- of `cap`: with a certificate, by how much the rates are lowered, and why by no less; without one, that nothing was found for the case
-- at cap 0, nor for the case itself, and why
pub record CapMeans (told : Told) (names : FileNames) (reached : Status) (new : Told) : Type 0 where
  pub structured : IsTrue (is_structured reached)
  pub capped : reached ≡ status.Done → WroteCapped told new names
  pub uncapped : OfCase (SaysNoCap reached) told names

-- of `make`: of what was found there is a certificate that `check` accepts for the files of the number; and it answers as `structure`
-- would on these files
pub record MakeMeans (making : Making) (reached : Status) : Type 0 where
  pub structured : IsTrue (is_structured reached)
  pub made : IsFoundStatus reached → HasAcceptedText (made_files making.number)
  pub plain : OfMadeCase (SettlesPlain reached) making
  pub covered : OfMadeCase (SettlesCovered reached) making
  pub reach : OfMadeCase (SaysReach reached) making

-- what the status of a command means, that it came to over what a desk tells, and which left it so
abbrev pub Means : Told → Command → Status → Told → Type 0
Means told (Structure names) reached new = StructureMeans told names reached new
Means told (Cap names) reached new = CapMeans told names reached new
Means told (Ask asking) reached new = AskedMeans told asking reached new
Means told (Make making) reached new = MakeMeans making reached
