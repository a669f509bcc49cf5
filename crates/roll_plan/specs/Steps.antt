-- What a rate file states, one step of planning rolls, and one of moving flows.
use Rattle.std.specs.Prelude.{◌≡◌, ℕ, ◌-◌, ◌^◌, ◌≤◌, ◌≤ℤ◌, ◌<ℤ◌, nat_lt, length, All, AllPairs, if◌then◌else◌, List, Option, Some, None, Result, Ok, Err, ℤ}
use Rattle.std.specs.List.{filter_map}
use Rattle.escrow_desk.specs.declared.refusal.Refusal.{Refusal}
use Rattle.escrow_units.specs.Calendar.{IsBaseDay}
use Rattle.escrow_units.specs.Flows.{total}
use Rattle.escrow_units.specs.OpenDays.{Closings}
use Rattle.escrow_units.specs.declared.security.Flow.{Flow}
use Rattle.escrow_units.specs.declared.security.Terms.{Terms}
use Rattle.day_sums.specs.Summed.{cents_on, on}
use Rattle.day_sums.specs.Table.{SpanSums}
use Rattle.cash_table.specs.declared.day_balances.Balance.{Balance}
use Rattle.rate_table.specs.declared.table.RateFile.{RateFile}
use Rattle.roll_plan.specs.Rolls.{IsRollTerm, IsSubscription}

-- the denominations that a rate file states, or its refusal
abbrev pub stated_by : Result RateFile Refusal → Result (Option Terms) Refusal
stated_by (Ok file) = Ok file.terms
stated_by (Err refusal) = Err refusal

-- entries in order of day, at least one, within the span of what is paid, from which half a century of years can be counted, and of at
-- most 10^16 cents each, as is all that is paid
pub record AreInOrder (paid : SpanSums) (entries : List Balance) : Type 0 where
  pub some : 1 ≤ length entries
  pub rise : AllPairs (λ earlier later. earlier.day <ℤ later.day) entries
  pub from : All (λ entry. paid.from ≤ℤ entry.day) entries
  pub to : All (λ entry. entry.day ≤ℤ paid.to) entries
  pub base : All (λ entry. IsBaseDay entry.day) entries
  pub small : All (λ entry. entry.balance.0 ≤ 10 ^ 16) entries
  pub paid_small : total paid.sums ≤ 10 ^ 16

-- the most that is rolled from a day to the next entry's, of what may be
pub record IsMostRolled (closed : Closings) (terms : Terms) (from to : ℤ) (free cents : ℕ) : Type 0 where
  pub within : cents ≤ free
  pub subscribed : IsSubscription terms cents
  pub most : IsRollTerm closed from to → (other : ℕ) → IsSubscription terms other → other ≤ free → other ≤ cents
  pub none : (IsRollTerm closed from to → ⊥) → cents ≡ 0
  pub some : 1 ≤ cents → IsRollTerm closed from to

-- what is left of a flow, less what is taken from its day
abbrev pub left_of : List Flow → Flow → Option Flow
left_of away flow = if nat_lt (cents_on flow.day away) flow.cents.0 then Some (on flow.day (flow.cents.0 - cents_on flow.day away)) else None

-- flows less what is taken from their days; a flow of which nothing is left goes
abbrev pub lessened_by : List Flow → List Flow → List Flow
lessened_by away flows = filter_map (left_of away) flows
