-- Runs that were cut off before they had an answer: their status, and their cause in the counts of the desk.
use Rattle.std.specs.Prelude.{◌≡◌, Bool, false, true, Result, MatchResult}
use Rattle.escrow_desk.specs.Content.{Told}
use Rattle.escrow_desk.specs.Counts.{Counts, FileMissed, ReadFailed, WriteFailed}
use Rattle.certificate_answers.specs.declared.stop.Stop.{Stop}
use Rattle.certificate_answers.specs.declared.stop.Stop.TheVariants as stop
use Rattle.certificate_answers.specs.declared.status.Status.{Status}
use Rattle.certificate_answers.specs.declared.status.Status.TheVariants as status

abbrev pub status_of : Stop → Status
status_of stop.ReadFault = status.ReadFault
status_of stop.NoFile = status.NoFile
status_of stop.NoMemory = status.NoMemory

-- what did it to the counts: a read that failed and a file that isn't there have each raised their own alone, and want of
-- memory is no failure of the desk
abbrev pub StoppedAs : Stop → Counts → Counts → Type 0
StoppedAs stop.ReadFault old new = ReadFailed old new
StoppedAs stop.NoFile old new = FileMissed old new
StoppedAs stop.NoMemory old new = new ≡ old

-- what came of a step says of the counts before and after it: only what stopped it changed them
abbrev pub CountsStep : {A : Type 0} → Result A Stop → Counts → Counts → Type 0
CountsStep came old new = MatchResult came (λ _. new ≡ old) (λ why. StoppedAs why old new)

-- the same of a run, by its status. A run that was cut off left the content as it was, but for a write that failed, of
-- which this says nothing; of a run that came to its answer this says that no count changed
abbrev pub EndedAs : Status → Counts → Counts → Told → Told → Type 0
EndedAs status.ReadFault old new told_old told_new = ReadFailed old new × (told_new ≡ told_old)
EndedAs status.WriteFault old new told_old told_new = WriteFailed old new
EndedAs status.NoFile old new told_old told_new = FileMissed old new × (told_new ≡ told_old)
EndedAs status.NoMemory old new told_old told_new = (new ≡ old) × (told_new ≡ told_old)
EndedAs status old new told_old told_new = new ≡ old

-- the run came to its answer: no fault, absent file or want of memory cut it off
abbrev pub is_reached : Status → Bool
is_reached status.ReadFault = false
is_reached status.WriteFault = false
is_reached status.NoFile = false
is_reached status.NoMemory = false
is_reached status = true

-- the statuses of `structure` with which no file is written
abbrev pub is_unfound : Status → Bool
is_unfound status.Refused = true
is_unfound status.Infeasible = true
is_unfound status.BudgetSpent = true
is_unfound status = false

-- the statuses that `structure` comes to
abbrev pub is_structured : Status → Bool
is_structured status.Done = true
is_structured status.NoneWithinYield = true
is_structured status = is_unfound status
