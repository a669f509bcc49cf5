-- The rolls of a portfolio, one entry after another, and the flows that come of them: what the one are is said by the rules that each
-- obeys, and what the other come to by what is moved from each day. This project's own.
use Rattle.std.specs.Prelude.{ℕ, ◌+◌, ◌-◌, ◌*◌, ◌%◌, min, nat_lt, Bool, not, ◌&&◌, if◌then◌else◌, List, [], ◌∷◌, ◌++◌, Option, Some, None, ℤ, pos, ◌+ℤ◌, int_le}
use Rattle.escrow_units.specs.Calendar.{years_after_of}
use Rattle.escrow_units.specs.OpenDays.{Closings, is_closed}
use Rattle.escrow_units.specs.SlgsTerms.{shortest_term}
use Rattle.escrow_units.specs.declared.security.Flow.{Flow}
use Rattle.escrow_units.specs.declared.security.Terms.{Terms}
use Rattle.day_sums.specs.Summed.{cents_on, summed}
use Rattle.offer_book.specs.Book.{BookContents}
use Rattle.offer_book.specs.Portfolio.{security_flows}
use Rattle.cash_table.specs.Balances.{balances_of}
use Rattle.cash_table.specs.declared.day_balances.Balance.{Balance}
use Rattle.roll_plan.specs.Rolls.{returned, taken}
use Rattle.roll_plan.specs.Steps.{lessened_by}
use Rattle.roll_plan.specs.declared.planning.Roll.{Roll}

-- whether a zero-interest certificate may run from one day to another
abbrev pub is_roll_term : Closings → ℤ → ℤ → Bool
is_roll_term closed from to =
    int_le (from +ℤ pos (shortest_term 0)) to && int_le to (years_after_of from 1) && not (is_closed closed from) && not (is_closed closed to)

-- the most cents that may be subscribed for, of so many: whole steps, and nothing below the minimum
abbrev pub most_subscribed : Terms → ℕ → ℕ
most_subscribed terms free =
    if nat_lt (free - free % (100 * terms.step)) (100 * terms.minimum) then 0 else free - free % (100 * terms.step)

-- the most cents that are rolled from one day to another, of so many: nothing where no certificate runs between them
abbrev pub most_rolled : Closings → Terms → ℤ → ℤ → ℕ → ℕ
most_rolled closed terms from to free = if is_roll_term closed from to then most_subscribed terms free else 0

-- what is rolled from the day of an entry to that of the next, where so many cents come back on it
abbrev pub rolled_on : Closings → Terms → List Flow → ℕ → Balance → Balance → ℕ
rolled_on closed terms flows back entry next = most_rolled closed terms entry.day next.day (min entry.balance.0 (cents_on entry.day flows + back))

-- the roll of so many cents, if there are any
abbrev pub roll_of : Balance → Balance → ℕ → List Roll
roll_of entry next cents = if nat_lt 0 cents then record { day = entry.day; next = next.day; cents = record { 0 = cents } } ∷ [] else []

-- those of an entry, where so many cents come back on it, and of the entries behind it
unfoldable pub rolls_from : Closings → Terms → List Flow → ℕ → Balance → List Balance → List Roll
rolls_from closed terms flows back entry [] = []
rolls_from closed terms flows back entry (next ∷ behind) =
    roll_of entry next (rolled_on closed terms flows back entry next)
    ++ rolls_from closed terms flows (rolled_on closed terms flows back entry next) next behind

-- the rolls of all entries, one after another; nothing comes back on the first
abbrev pub rolls_along : Closings → Terms → List Flow → List Balance → List Roll
rolls_along closed terms flows [] = []
rolls_along closed terms flows (entry ∷ behind) = rolls_from closed terms flows 0 entry behind

-- those of a portfolio, by the denominations of the rate file; none without them
abbrev pub rolls_of : BookContents → List ℕ → Option Terms → List Roll
rolls_of book plan None = []
rolls_of book plan (Some terms) = rolls_along book.days.closed terms (security_flows book plan) (balances_of book plan)

-- what flows become where rolls are made
abbrev pub moved_by : List Flow → List Roll → List Flow
moved_by flows rolls = lessened_by (summed (taken rolls)) (summed (flows ++ returned rolls))
