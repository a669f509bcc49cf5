-- Rollovers: what would lie idle in an escrow is put into zero-interest certificates of indebtedness (31 CFR part 344), which are
-- subscribed for beforehand, from one day on which cash moves to the next. This project's own.
use Rattle.std.specs.Prelude.{◌≡◌, ◌⊎◌, ℕ, ◌+◌, ◌*◌, ◌%◌, ◌≤◌, min, List, [], map, Option, Some, None, ℤ, pos, ◌+ℤ◌, ◌≤ℤ◌, ◌<ℤ◌, All, AllPairs, Any, false}
use Rattle.escrow_units.specs.Calendar.{years_after_of}
use Rattle.escrow_units.specs.OpenDays.{Closings, is_closed}
use Rattle.escrow_units.specs.SlgsTerms.{shortest_term}
use Rattle.escrow_units.specs.declared.security.Flow.{Flow}
use Rattle.escrow_units.specs.declared.security.Terms.{Terms}
use Rattle.day_sums.specs.Summed.{cents_on, on, total_by}
use Rattle.offer_book.specs.Book.{BookContents}
use Rattle.offer_book.specs.Portfolio.{payments, security_flows}
use Rattle.cash_table.specs.Balances.{balances_of}
use Rattle.cash_table.specs.declared.day_balances.Balance.{Balance}
use Rattle.roll_plan.specs.declared.planning.Roll.{Roll}

-- a zero-interest certificate runs from one day to another: at least 15 days and at most a year (31 CFR part 344), and both days are
-- open, so that it is bought on the one and pays on the other
pub record IsRollTerm (closed : Closings) (from to : ℤ) : Type 0 where
  pub least : (from +ℤ pos (shortest_term 0)) ≤ℤ to
  pub most : to ≤ℤ years_after_of from 1
  pub buys : is_closed closed from ≡ false
  pub pays : is_closed closed to ≡ false

-- cents that may be subscribed for: nothing, or whole steps, and no less than the minimum. Terms are in dollars
abbrev pub IsSubscription : Terms → ℕ → Type 0
IsSubscription terms cents = (cents ≡ 0) ⊎ ((100 * terms.minimum ≤ cents) × (cents % (100 * terms.step) ≡ 0))

-- from the day of one entry to that of the next
pub record IsNext (entries : List Balance) (day next : ℤ) : Type 0 where
  pub from : Any (λ entry. entry.day ≡ day) entries
  pub to : Any (λ entry. entry.day ≡ next) entries
  pub later : day <ℤ next
  pub first : All (λ entry. day <ℤ entry.day → next ≤ℤ entry.day) entries

-- a roll may be made from a day to another
abbrev pub MayRoll : Closings → List Balance → ℤ → ℤ → Type 0
MayRoll closed entries day next = IsNext entries day next × IsRollTerm closed day next

-- what rolls take away from their days, and what they bring back
abbrev pub taken : List Roll → List Flow
taken rolls = map (λ roll. on roll.day roll.cents.0) rolls

-- what rolls bring back on their later days
abbrev pub returned : List Roll → List Flow
returned rolls = map (λ roll. on roll.next roll.cents.0) rolls

-- what may be rolled on the day of an entry: what securities pay on it and what comes back from the roll before, and no more than its
-- balance. So opening cash isn't rolled
abbrev pub free_on : List Flow → List Roll → Balance → ℕ
free_on flows rolls entry = min entry.balance.0 (cents_on entry.day flows + cents_on entry.day (returned rolls))

-- what is rolled on a day, of what may be: the most that may be subscribed for, where a roll may be made, and else nothing
pub record IsRolledOn (closed : Closings) (terms : Terms) (entries : List Balance) (day : ℤ) (free cents : ℕ) : Type 0 where
  pub within : cents ≤ free
  pub subscribed : IsSubscription terms cents
  pub most : (next : ℤ) → MayRoll closed entries day next → (other : ℕ) → IsSubscription terms other → other ≤ free → other ≤ cents
  pub none : ((next : ℤ) → MayRoll closed entries day next → ⊥) → cents ≡ 0

-- the rolls of entries and of what securities pay: in order of day, above 0 each, each where one may be made, and on the day of each
-- entry what is rolled on it
pub record AreRolls (closed : Closings) (terms : Terms) (entries : List Balance) (flows : List Flow) (rolls : List Roll) : Type 0 where
  pub rise : AllPairs (λ earlier later. earlier.day <ℤ later.day) rolls
  pub some : All (λ roll. 1 ≤ roll.cents.0) rolls
  pub allowed : All (λ roll. MayRoll closed entries roll.day roll.next) rolls
  pub each : All (λ entry. IsRolledOn closed terms entries entry.day (free_on flows rolls entry) (cents_on entry.day (taken rolls))) entries

-- the rolls of a portfolio, by the denominations of the rate file; none without them
abbrev pub AreRollsOf : BookContents → List ℕ → Option Terms → List Roll → Type 0
AreRollsOf book plan None rolls = rolls ≡ []
AreRollsOf book plan (Some terms) rolls = AreRolls book.days.closed terms (balances_of book plan) (security_flows book plan) rolls

-- with what is rolled away from its days and back on the next ones, opening cash and receipts are at least the needs, up to and on
-- every day
abbrev pub StillMeet : BookContents → List ℕ → List Roll → Type 0
StillMeet book plan rolls = (t : ℤ) → total_by t book.needs + total_by t (taken rolls) ≤ total_by t (payments book plan) + total_by t (returned rolls)
