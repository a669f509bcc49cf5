-- The rules that a request for a SLGS time deposit security keeps or breaks (31 CFR part 344).
use Rattle.std.specs.Prelude.{◌≡◌, ℕ, ◌<◌, ◌≤◌, ℤ, pos, ◌+ℤ◌, ◌≤ℤ◌, ◌<ℤ◌, Option, None, Some, Result, Ok, Err, IfSome}
use Rattle.escrow_units.specs.Calendar.{IsSeriesDate, years_after_of}
use Rattle.escrow_units.specs.SlgsTerms.{shortest_term, IsOfKind, IsFirstInterest}
use Rattle.escrow_units.specs.declared.amount.Rate.{Rate}
use Rattle.escrow_units.specs.declared.limits.TheConstants.{FIRST_WAIT}
use Rattle.escrow_units.specs.declared.security.AskedRate.{AskedRate}
use Rattle.escrow_units.specs.declared.security.AskedRate.TheVariants as asked
use Rattle.escrow_units.specs.declared.security.Slgs.{Slgs}
use Rattle.escrow_units.specs.declared.security.SlgsKind.{SlgsKind}
use Rattle.escrow_units.specs.declared.security.SlgsKind.TheVariants as kind
use Rattle.escrow_units.specs.declared.security.StepRule.TheVariants as rule
use Rattle.slgs_rules.specs.declared.fault.RuleFault.{RuleFault}
use Rattle.slgs_rules.specs.declared.fault.RuleFault.TheVariants as fault

-- what is asked for: settlement, maturity, the rate, the first payment date where one is named, and the greatest rate
-- of the daily table at that maturity, where the table has one
pub record Request : Type 0 where
  pub settle : ℤ
  pub maturity : ℤ
  pub rate : AskedRate
  pub first : Option ℤ
  pub most : Option Rate

-- the rate that the security would bear: the one that is named, or the table's greatest
abbrev pub rate_of : AskedRate → Option Rate → Rate
rate_of (asked.At rate) most = rate
rate_of asked.Max (Some most) = most
rate_of asked.Max None = record { 0 = 0 }

-- where the table has no rate, only a security without interest is sold
abbrev pub HasRate : AskedRate → Option Rate → Type 0
HasRate asked (Some most) = Unit {0}
HasRate (asked.At rate) None = rate.0 ≡ 0
HasRate asked.Max None = ⊥

-- no rate above the table's greatest is sold
abbrev pub IsWithinTable : AskedRate → Option Rate → Type 0
IsWithinTable asked most = IfSome most (λ most. (rate_of asked (Some most)).0 ≤ most.0)

-- a first payment date can be named for a note or bond, which runs longer than a year, and not for a certificate
pub record IsNameable (settle maturity first : ℤ) : Type 0 where
  pub longer : years_after_of settle 1 <ℤ maturity
  pub interest : IsFirstInterest settle maturity first

-- what the rule asks that each fault is named for; the greatest length of 40 years is this project's own
abbrev pub Keeps : Request → RuleFault → Type 0
Keeps request fault.NoRate = HasRate request.rate request.most
Keeps request fault.RateAboveTable = IsWithinTable request.rate request.most
Keeps request fault.TooShort = (request.settle +ℤ pos (shortest_term (rate_of request.rate request.most).0)) ≤ℤ request.maturity
Keeps request fault.TooLong = request.maturity ≤ℤ years_after_of request.settle 40
Keeps request fault.FirstDate = IfSome request.first (IsNameable request.settle request.maturity)

-- the order of the rules
abbrev pub place : RuleFault → ℕ
place fault.NoRate = 0
place fault.RateAboveTable = 1
place fault.TooShort = 2
place fault.TooLong = 3
place fault.FirstDate = 4

-- the first rule that a request breaks
pub record IsFirstFault (request : Request) (broken : RuleFault) : Type 0 where
  pub breaks : ¬ (Keeps request broken)
  pub kept_before : (earlier : RuleFault) → place earlier < place broken → Keeps request earlier

-- the earliest date of the series that ends at maturity which is not before a day
pub record IsEarliestFrom (maturity from date : ℤ) : Type 0 where
  pub series : IsSeriesDate maturity rule.SameDay date
  pub late : from ≤ℤ date
  pub earliest : (other : ℤ) → IsSeriesDate maturity rule.SameDay other → from ≤ℤ other → date ≤ℤ other

-- interest is first paid on the day that is named, or else on the earliest date that is at least 30 days after settlement
abbrev pub IsNamedOrEarliest : ℤ → ℤ → Option ℤ → ℤ → Type 0
IsNamedOrEarliest settle maturity (Some named) first = first ≡ named
IsNamedOrEarliest settle maturity None first = IsEarliestFrom maturity (settle +ℤ pos FIRST_WAIT) first

-- the first payment date of each kind: a certificate pays at maturity alone
abbrev pub IsFirstOfKind : SlgsKind → ℤ → ℤ → Option ℤ → ℤ → Type 0
IsFirstOfKind kind.Certificate settle maturity named first = first ≡ maturity
IsFirstOfKind kind.Note settle maturity named first = IsNamedOrEarliest settle maturity named first
IsFirstOfKind kind.Bond settle maturity named first = IsNamedOrEarliest settle maturity named first

-- the security that a request is for, where it keeps every rule
pub record IsSubscription (request : Request) (slgs : Slgs) : Type 0 where
  pub keeps : (rule : RuleFault) → Keeps request rule
  pub settle : slgs.settle ≡ request.settle
  pub maturity : slgs.maturity ≡ request.maturity
  pub rate : slgs.rate ≡ rate_of request.rate request.most
  pub kind : IsOfKind slgs.kind request.settle request.maturity
  pub first : IsFirstOfKind slgs.kind request.settle request.maturity request.first slgs.first

-- what a request is answered
abbrev pub IsAnswer : Request → Result Slgs RuleFault → Type 0
IsAnswer request (Ok slgs) = IsSubscription request slgs
IsAnswer request (Err broken) = IsFirstFault request broken
