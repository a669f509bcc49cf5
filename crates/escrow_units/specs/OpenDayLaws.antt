-- What the open day of a day is.
use Rattle.std.specs.Prelude.{◌≡◌, false, ℤ, pos, ◌+ℤ◌, ◌≤ℤ◌, All}
use Rattle.escrow_units.specs.OpenDays.{Closings, IsOpenDay, is_closed, no_closings, open_day}

-- it is the least day at or after the day that is open
abbrev pub OpenDaysAreLeast : Type 0
OpenDaysAreLeast = (closed : Closings) (day : ℤ) → IsOpenDay closed day (open_day closed day)

-- and the only one
abbrev pub OpenDaysAreUnique : Type 0
OpenDaysAreUnique =
    (closed : Closings) (day receipt other : ℤ) → IsOpenDay closed day receipt → IsOpenDay closed day other → receipt ≡ other

-- an open day is its own
abbrev pub OpenDaysStay : Type 0
OpenDaysStay = (closed : Closings) (day : ℤ) → is_closed closed day ≡ false → open_day closed day ≡ day

-- and so is each day where none is closed
abbrev pub NoneIsMoved : Type 0
NoneIsMoved = (day : ℤ) → open_day no_closings day ≡ day

-- a later day opens no sooner
abbrev pub OpenDaysKeepOrder : Type 0
OpenDaysKeepOrder = (closed : Closings) (a b : ℤ) → a ≤ℤ b → open_day closed a ≤ℤ open_day closed b

-- a day opens at most three days after the last day that can be closed by the list: a weekend may follow it
abbrev pub OpenDaysAreNear : Type 0
OpenDaysAreNear =
    (closed : Closings) (day last : ℤ) → All (λ other. other ≤ℤ last) closed.days → day ≤ℤ last
    → open_day closed day ≤ℤ (last +ℤ pos 3)
