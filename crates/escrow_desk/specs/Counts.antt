-- Counts of failures. A count may be kept in 64 bits, and then stands still at its last value.
use Rattle.std.specs.Prelude.{◌≡◌, ℕ, ◌+◌, ◌-◌, ◌^◌, ◌<◌, ◌≤◌, min, Result, MatchResult}
use Rattle.escrow_desk.specs.declared.desk.DeskError.{DeskError}
use Rattle.escrow_desk.specs.declared.desk.DeskError.TheVariants as read
use Rattle.escrow_desk.specs.declared.desk.Failed.{Failed}
use Rattle.escrow_desk.specs.declared.refusal.ReadRefusal.{ReadRefusal}
use Rattle.escrow_desk.specs.declared.refusal.ReadRefusal.TheVariants as refusal

-- the last value of a count that is kept in 64 bits
abbrev pub last_count : ℕ
last_count = 2 ^ 64 - 1

-- the count rose, or stands at its last value; it didn't fall
abbrev pub Rose : ℕ → ℕ → Type 0
Rose old new = (old ≤ new) × (min (old + 1) last_count ≤ new)

-- the count didn't rise, and doesn't stand at its last value: the opposite of `Rose` for a count that never falls
abbrev pub IsSteady : ℕ → ℕ → Type 0
IsSteady old new = (new ≡ old) × (new < last_count)

-- the three counts of a desk at one time: how often a read failed, how often another call failed, and how often a file
-- that was to be read wasn't there
pub record Counts : Type 0 where
  pub read_faults : ℕ
  pub write_faults : ℕ
  pub absences : ℕ

-- no count rose between two times, and none stands at its last value
pub record AllSteady (old new : Counts) : Type 0 where
  pub read_faults : IsSteady old.read_faults new.read_faults
  pub write_faults : IsSteady old.write_faults new.write_faults
  pub absences : IsSteady old.absences new.absences

-- The ways of failing, each by the counts before and after it.

-- a read failed: the count of those rose, and no other
abbrev pub ReadFailed : Counts → Counts → Type 0
ReadFailed old new = Rose old.read_faults new.read_faults × (new ≡ record old { read_faults = new.read_faults })

-- a call that is no read failed: the count of those rose, and no other
abbrev pub WriteFailed : Counts → Counts → Type 0
WriteFailed old new = Rose old.write_faults new.write_faults × (new ≡ record old { write_faults = new.write_faults })

-- a file that was to be read wasn't there: the count of absences rose, and no other
abbrev pub FileMissed : Counts → Counts → Type 0
FileMissed old new = Rose old.absences new.absences × (new ≡ record old { absences = new.absences })

-- What an answer says of the counts before and after its call: whatever is answered, only a failure changes them.

-- of a read that gave nothing
abbrev pub FailedAs : DeskError → Counts → Counts → Type 0
FailedAs read.Failed old new = ReadFailed old new
FailedAs read.NoFile old new = FileMissed old new

-- of a read
abbrev pub CountsRead : {A : Type 0} → Result A DeskError → Counts → Counts → Type 0
CountsRead answer old new = MatchResult answer (λ _. new ≡ old) (λ error. FailedAs error old new)

-- of another call
abbrev pub CountsWrite : {A : Type 0} → Result A Failed → Counts → Counts → Type 0
CountsWrite answer old new = MatchResult answer (λ _. new ≡ old) (λ _. WriteFailed old new)

-- of a whole file that wasn't read: that it is too long, or that memory ran out, is no failure of the desk
abbrev pub RefusedAs : ReadRefusal → Counts → Counts → Type 0
RefusedAs refusal.Fault old new = ReadFailed old new
RefusedAs refusal.NoFile old new = FileMissed old new
RefusedAs refusal.TooLong old new = new ≡ old
RefusedAs refusal.NoMemory old new = new ≡ old

-- of a reading of a whole file
abbrev pub CountsReadAll : {A : Type 0} → Result A ReadRefusal → Counts → Counts → Type 0
CountsReadAll answer old new = MatchResult answer (λ _. new ≡ old) (λ why. RefusedAs why old new)
