-- A desk in memory: its content, and which of its calls fail.
use Rattle.std.specs.Prelude.{◌≡◌, ℕ, zero, suc, ◌+◌, ◌==◌, nat_lt, List, [], if◌then◌else◌, Bool, false, min, IsTrue, ◌⊎◌}
use Rattle.std.specs.List.{list_any}
use Rattle.escrow_desk.specs.Content.{Content, Files}
use Rattle.escrow_desk.specs.Counts.{Counts, last_count, Rose}

-- whether a call's number is listed
abbrev pub is_listed : List ℕ → ℕ → Bool
is_listed failing number = list_any (λ k. k == number) failing

-- how many of the first n calls are listed
unfoldable pub listed_below : List ℕ → ℕ → ℕ
listed_below failing zero = 0
listed_below failing (suc n) = listed_below failing n + (if is_listed failing n then 1 else 0)

-- a desk in memory as its callers see it: what it holds, the numbers of the calls that fail, how many calls came
-- so far, how many growths found no memory, and the three counts of a desk
pub record MemoryState : Type 0 where
  pub content : Content
  pub failing : List ℕ
  pub calls : ℕ
  pub starved : ℕ
  pub counts : Counts

-- the failures are the growths that found no memory and the calls so far whose number is listed
abbrev pub IsTallied : MemoryState → Type 0
IsTallied desk = desk.counts.read_faults + desk.counts.write_faults ≡ desk.starved + listed_below desk.failing desk.calls

-- whether the next call, after this many calls, is one that is to fail; from the last count on calls have no number
abbrev pub is_next_listed : List ℕ → ℕ → Bool
is_next_listed failing calls = if nat_lt calls last_count then is_listed failing calls else false

-- a call came: it took the next number, and the list of those that fail stays
pub record Calls (old new : MemoryState) : Type 0 where
  pub calls : new.calls ≡ min (old.calls + 1) last_count
  pub failing : new.failing ≡ old.failing

-- a call failed: it is listed, or a growth found no memory
abbrev pub HasCause : MemoryState → MemoryState → Type 0
HasCause old new = IsTrue (is_next_listed old.failing old.calls) ⊎ Rose old.starved new.starved

-- a desk that holds these files, of which no call came yet
abbrev pub new_desk : Files → List ℕ → MemoryState
new_desk files failing = record {
  content = record { files = files; said = [] };
  failing = failing;
  calls = 0;
  starved = 0;
  counts = record { read_faults = 0; write_faults = 0; absences = 0 };
}
