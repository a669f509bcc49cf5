-- The security that a request gets, or the first rule that it breaks (31 CFR part 344). The rules are those of TermRules,
-- as tests.
use Rattle.std.specs.Prelude.{◌==◌, nat_le, Bool, true, false, not, ◌&&◌, if◌then◌else◌, List, [], ◌∷◌, find, Option, None, Some, unwrap_or, Result, Ok, Err, ℤ, pos, ◌+ℤ◌, int_le, int_lt}
use Rattle.std.specs.List.{list_any}
use Rattle.std.specs.Ordering.{int_eq}
use Rattle.escrow_units.specs.Calendar.{years_after_of}
use Rattle.escrow_units.specs.Series.{series_of}
use Rattle.escrow_units.specs.SlgsTerms.{shortest_term}
use Rattle.escrow_units.specs.declared.amount.Rate.{Rate}
use Rattle.escrow_units.specs.declared.limits.TheConstants.{FIRST_WAIT}
use Rattle.escrow_units.specs.declared.security.AskedRate.{AskedRate}
use Rattle.escrow_units.specs.declared.security.AskedRate.TheVariants as asked
use Rattle.escrow_units.specs.declared.security.Slgs.{Slgs}
use Rattle.escrow_units.specs.declared.security.SlgsKind.{SlgsKind}
use Rattle.escrow_units.specs.declared.security.SlgsKind.TheVariants as kind
use Rattle.escrow_units.specs.declared.security.StepRule.TheVariants as rule
use Rattle.slgs_rules.specs.TermRules.{Request, rate_of}
use Rattle.slgs_rules.specs.declared.fault.RuleFault.{RuleFault}
use Rattle.slgs_rules.specs.declared.fault.RuleFault.TheVariants as fault

-- whether the table has a rate, or none is asked for
abbrev pub has_rate : AskedRate → Option Rate → Bool
has_rate asked (Some most) = true
has_rate (asked.At rate) None = rate.0 == 0
has_rate asked.Max None = false

-- whether the rate is not above the table's greatest
abbrev pub is_within_table : AskedRate → Option Rate → Bool
is_within_table asked None = true
is_within_table asked (Some most) = nat_le (rate_of asked (Some most)).0 most.0

-- whether a day is a date of the series that ends at maturity
abbrev pub is_series_date : ℤ → ℤ → Bool
is_series_date maturity day = list_any (int_eq day) (series_of maturity rule.SameDay)

-- whether interest may first be paid on a day: a date of the series, at least 30 days and at most one year after settlement
abbrev pub is_first_interest : ℤ → ℤ → ℤ → Bool
is_first_interest settle maturity first =
    is_series_date maturity first && (int_le (settle +ℤ pos FIRST_WAIT) first && int_le first (years_after_of settle 1))

-- whether no first payment date is named, or one that a security of more than a year may have
abbrev pub may_name : ℤ → ℤ → Option ℤ → Bool
may_name settle maturity None = true
may_name settle maturity (Some first) = int_lt (years_after_of settle 1) maturity && is_first_interest settle maturity first

-- whether a request keeps the rule that a fault is named for
abbrev pub keeps : Request → RuleFault → Bool
keeps request fault.NoRate = has_rate request.rate request.most
keeps request fault.RateAboveTable = is_within_table request.rate request.most
keeps request fault.TooShort = int_le (request.settle +ℤ pos (shortest_term (rate_of request.rate request.most).0)) request.maturity
keeps request fault.TooLong = int_le request.maturity (years_after_of request.settle 40)
keeps request fault.FirstDate = may_name request.settle request.maturity request.first

-- the faults, in the order in which their rules are tried
abbrev pub faults : List RuleFault
faults = fault.NoRate ∷ fault.RateAboveTable ∷ fault.TooShort ∷ fault.TooLong ∷ fault.FirstDate ∷ []

-- the first rule that a request breaks, if it breaks one
abbrev pub first_fault : Request → Option RuleFault
first_fault request = find (λ fault. not (keeps request fault)) faults

-- the kind of a security, by its length
abbrev pub kind_of : ℤ → ℤ → SlgsKind
kind_of settle maturity =
    if int_le maturity (years_after_of settle 1) then kind.Certificate else
    (if int_le maturity (years_after_of settle 10) then kind.Note else kind.Bond)

-- the earliest date of the series that ends at maturity which is not before a day
abbrev pub earliest_from : ℤ → ℤ → ℤ
earliest_from maturity from = unwrap_or (find (int_le from) (series_of maturity rule.SameDay)) maturity

-- the first payment date: a certificate's is its maturity; a note or bond has the one that is named, or else the earliest
-- that is at least 30 days after settlement
abbrev pub first_of_kind : SlgsKind → ℤ → ℤ → Option ℤ → ℤ
first_of_kind kind.Certificate settle maturity named = maturity
first_of_kind kind.Note settle maturity named = unwrap_or named (earliest_from maturity (settle +ℤ pos FIRST_WAIT))
first_of_kind kind.Bond settle maturity named = unwrap_or named (earliest_from maturity (settle +ℤ pos FIRST_WAIT))

-- the security that a request is for
abbrev pub security_of : Request → Slgs
security_of request = record {
  settle = request.settle;
  maturity = request.maturity;
  rate = rate_of request.rate request.most;
  kind = kind_of request.settle request.maturity;
  first = first_of_kind (kind_of request.settle request.maturity) request.settle request.maturity request.first;
}

-- a security, unless there is a fault
abbrev pub sold_unless : Option RuleFault → Slgs → Result Slgs RuleFault
sold_unless None slgs = Ok slgs
sold_unless (Some fault) slgs = Err fault

-- what a request is answered: its security, or the first rule that it breaks
unfoldable pub classified : Request → Result Slgs RuleFault
classified request = sold_unless (first_fault request) (security_of request)
