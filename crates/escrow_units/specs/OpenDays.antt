-- The days on which a receipt comes. A payment of the Treasury that falls on a Saturday, a Sunday or another day on which the
-- Federal Reserve System isn't open is made on the next business day, and earns nothing more (31 CFR 356.30). Which days are
-- closed is given.
use Rattle.std.specs.Prelude.{◌≡◌, ℕ, zero, suc, ◌+◌, ◌*◌, Bool, false, ◌&&◌, ◌||◌, nat_le, if◌then◌else◌, List, [], length, ℤ, pos, ◌+ℤ◌, ◌≤ℤ◌}
use Rattle.std.specs.List.{list_any}
use Rattle.std.specs.Ordering.{int_eq}
use Rattle.jiff_core.specs.Calendar.{weekday_number}

-- which days are closed: whether each Saturday and Sunday is, and a list of days
pub record Closings : Type 0 where
  pub weekends : Bool
  pub days : List ℤ

-- no day is closed
abbrev pub no_closings : Closings
no_closings = record { weekends = false; days = [] }

-- a Saturday or a Sunday: weekdays are counted from Monday, which is 0
abbrev pub is_weekend : ℤ → Bool
is_weekend day = nat_le 5 (weekday_number day)

-- whether a day is closed
abbrev pub is_closed : Closings → ℤ → Bool
is_closed closed day = (closed.weekends && is_weekend day) || list_any (int_eq day) closed.days

-- the first day that is open, from a day on, where no more than so many days in a row are closed
unfoldable pub first_open : Closings → ℕ → ℤ → ℤ
first_open closed zero day = day
first_open closed (suc most) day = if is_closed closed day then first_open closed most (day +ℤ pos 1) else day

-- the open day of a day. A day of the list and the weekend after it are three closed days, and a weekend before them is two
abbrev pub open_day : Closings → ℤ → ℤ
open_day closed day = first_open closed (3 * length closed.days + 2) day

-- what it is: the least day at or after a day that is open
pub record IsOpenDay (closed : Closings) (day receipt : ℤ) : Type 0 where
  pub from : day ≤ℤ receipt
  pub is_open : is_closed closed receipt ≡ false
  pub least : (other : ℤ) → day ≤ℤ other → is_closed closed other ≡ false → receipt ≤ℤ other

-- a day up to 2190-12-31: the days of lists are, and those whose open day is asked
abbrev pub IsBy2190 : ℤ → Type 0
IsBy2190 day = day ≤ℤ pos 80_718
