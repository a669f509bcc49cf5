-- What a bond pays on each day, held to maturity or called.
use Rattle.std.proofs.Common.{◌≡◌, ◌∙◌, refl, sym, ap, subst, arith, ℕ, ◌+◌, ◌*◌, List, [], ◌∷◌, ◌++◌, length, Bool, true, false, ℤ, ◌≤ℤ◌, ◌<ℤ◌}
use Rattle.std.specs.Prelude.{◌≢◌, IfSome, Option, Some, None, if◌then◌else◌}
use Rattle.std.specs.Ordering.{int_eq}
use Rattle.std.proofs.lemmas.Int.{ints}
use Rattle.jiff_core.proofs.SignedLemmas.{signed_arith}
use Rattle.std.proofs.lemmas.List.Sums.{sum_by-cons}
use Rattle.escrow_units.specs.Calendar.{IsBaseDay}
use Rattle.escrow_units.specs.CalendarLaws.{DatesAfterAreLater, SeriesStartsAtMaturity, NoYearsPass, PreviousIsLast, SettlementLeadsToBaseDays, YearsPass}
use Rattle.escrow_units.specs.Flows.{total}
use Rattle.escrow_units.specs.Series.{IsLastBy}
use Rattle.escrow_units.specs.declared.security.Flow.{Flow}
use Rattle.escrow_units.specs.declared.security.StepRule.TheVariants as rule
use Rattle.day_sums.specs.Summed.{cents_on, on}
use Rattle.issue_schedule.specs.declared.issue.Bond.{Bond}
use Rattle.issue_schedule.specs.declared.issue.Call.{Call}
use Rattle.issue_schedule.specs.BondLaws.{CalledBondsPayOnce, HeldBondsPayOnce, IsBondDate, IsInterestDay, PaysAsCalled, PaysAsHeld, PeriodsStartBySeries}
use Rattle.issue_schedule.specs.Needs.{accrued, accrued_since, bond_needs, call_price, called_needs, half_coupon, held_needs, interest, interest_dates, period_start}
use Rattle.issue_schedule.proofs.BondFacts.{later-base, later-near}
use Rattle.escrow_units.proofs.FlowFacts.{int_le-not, int_le-test}
use Rattle.issue_schedule.proofs.InterestFacts.{eq-yes, eq-no, here, here-yes, here-no, on-cons, on-append, interest-once, interest-none, total-all_on}
use Rattle.issue_schedule.proofs.NeedFacts.{total-append}

at-maturity : (start : SeriesStartsAtMaturity) (settle maturity : ℤ) → IsBaseDay maturity → settle <ℤ maturity → IsInterestDay settle maturity maturity maturity
at-maturity start settle maturity base after = record {
  after = after;
  by = omega (arith, ints);
  series = record {
    steps = 0;
    few = omega arith;
    back = sym (start maturity rule.SameDay (omega (arith, ints, base.0), omega (arith, ints, base.1)));
  };
}

held-total : (settle : ℤ) (bond : Bond) → total (held_needs settle bond) ≡ bond.principal.0 + length (interest_dates settle bond.maturity bond.maturity) * half_coupon bond
held-total settle bond =
    omega (arith, sum_by-cons (λ (f : Flow). f.cents.0) (on bond.maturity bond.principal.0) (interest settle bond.maturity bond), total-all_on (half_coupon bond) (interest_dates settle bond.maturity bond.maturity))

held-at : (settle : ℤ) (bond : Bond) (day : ℤ) → cents_on day (held_needs settle bond) ≡ here day bond.maturity bond.principal.0 + cents_on day (interest settle bond.maturity bond)
held-at settle bond day = on-cons day (on bond.maturity bond.principal.0) (interest settle bond.maturity bond)

held-pays : (dates : DatesAfterAreLater) (start : SeriesStartsAtMaturity) (settle : ℤ) (bond : Bond) → IsBaseDay bond.maturity → settle <ℤ bond.maturity → PaysAsHeld settle bond (held_needs settle bond)
held-pays dates start settle bond base after =
    let last = at-maturity start settle bond.maturity base after in
    record {
      at_maturity = omega (arith, held-at settle bond bond.maturity, here-yes bond.maturity bond.principal.0, interest-once dates settle bond.maturity bond bond.maturity base last);
      interest = λ day differs is.
          omega (arith, held-at settle bond day, here-no day bond.maturity bond.principal.0 (λ same. differs (sym same)), interest-once dates settle bond.maturity bond day base is);
      nothing_else = λ day other.
          omega (arith, held-at settle bond day, here-no day bond.maturity bond.principal.0 (λ same. other (subst (λ (d : ℤ). IsInterestDay settle bond.maturity bond.maturity d) same last)), interest-none dates settle bond.maturity bond day base other);
      total = held-total settle bond;
    }

held-is : (settle : ℤ) (call : Option Call) (bond : Bond) → IfSome call (λ at. bond.maturity ≤ℤ at.day) → bond_needs settle call bond ≡ held_needs settle bond
held-is settle None bond held = refl
held-is settle (Some call) bond held = rw (int_le-test bond.maturity call.day held) refl

pub held-once : (dates : DatesAfterAreLater) (start : SeriesStartsAtMaturity) (lead : SettlementLeadsToBaseDays) → HeldBondsPayOnce
held-once dates start lead settle call bond settlement is held =
    subst (λ (flows : List Flow). PaysAsHeld settle bond flows) (sym (held-is settle call bond held))
    (held-pays dates start settle bond (later-base lead settle bond.maturity settlement is.maturity) is.maturity.after)

-- accrued interest, by whether the call begins a half-year
accrued-other : (bond : Bond) (at day : ℤ) (none : Bool) → at ≢ day
    → cents_on day (if none then [] else on at (accrued_since bond (period_start bond.maturity at) at) ∷ []) ≡ 0
accrued-other bond at day true differs = refl
accrued-other bond at day false differs =
    omega (arith, on-cons day (on at (accrued_since bond (period_start bond.maturity at) at)) [], here-no day at (accrued_since bond (period_start bond.maturity at) at) differs)

accrued-none : (bond : Bond) (at : ℤ) → period_start bond.maturity at ≡ at → cents_on at (accrued bond at) ≡ 0
accrued-none bond at begins = rw (begins, eq-yes at) refl

accrued-some : (bond : Bond) (at : ℤ) → period_start bond.maturity at ≢ at → cents_on at (accrued bond at) ≡ accrued_since bond (period_start bond.maturity at) at
accrued-some bond at before =
    rw (eq-no (period_start bond.maturity at) at before)
    (omega (arith, on-cons at (on at (accrued_since bond (period_start bond.maturity at) at)) [], here-yes at (accrued_since bond (period_start bond.maturity at) at)))

begins-itself : (maturity day start : ℤ) → IsLastBy maturity rule.SameDay day start → IsBondDate maturity day → start ≡ day
begins-itself maturity day start is dated =
    let most = is.last day dated (omega (arith, ints)) in
    omega (arith, ints, most, is.by)

begins-before : (maturity day start : ℤ) → IsLastBy maturity rule.SameDay day start → ¬ (IsBondDate maturity day) → start ≢ day
begins-before maturity day start is other same = other (subst (λ (d : ℤ). IsBondDate maturity d) same is.series)

called-at : (settle : ℤ) (bond : Bond) (call : Call) (day : ℤ)
    → cents_on day (called_needs settle bond call) ≡ here day call.day (call_price bond call) + (cents_on day (accrued bond call.day) + cents_on day (interest settle call.day bond))
called-at settle bond call day =
    on-cons day (on call.day (call_price bond call)) (accrued bond call.day ++ interest settle call.day bond)
    ∙ ap (λ (n : ℕ). here day call.day (call_price bond call) + n) (on-append day (accrued bond call.day) (interest settle call.day bond))

called-total : (settle : ℤ) (bond : Bond) (call : Call)
    → total (called_needs settle bond call) ≡ call_price bond call + total (accrued bond call.day) + length (interest_dates settle call.day bond.maturity) * half_coupon bond
called-total settle bond call =
    omega (arith, sum_by-cons (λ (f : Flow). f.cents.0) (on call.day (call_price bond call)) (accrued bond call.day ++ interest settle call.day bond), total-append (accrued bond call.day) (interest settle call.day bond), total-all_on (half_coupon bond) (interest_dates settle call.day bond.maturity))

called-pays : (dates : DatesAfterAreLater) (settle : ℤ) (bond : Bond) (call : Call) → IsBaseDay bond.maturity → settle <ℤ call.day
    → IsLastBy bond.maturity rule.SameDay call.day (period_start bond.maturity call.day) → PaysAsCalled settle call bond (called_needs settle bond call)
called-pays dates settle bond call base after begins = record {
  at_call_with_interest = λ dated.
      omega (arith, called-at settle bond call call.day, here-yes call.day (call_price bond call), accrued-none bond call.day (begins-itself bond.maturity call.day (period_start bond.maturity call.day) begins dated), interest-once dates settle call.day bond call.day base (record { after = after; by = omega (arith, ints); series = dated }));
  at_call_with_accrued = λ other.
      omega (arith, called-at settle bond call call.day, here-yes call.day (call_price bond call), accrued-some bond call.day (begins-before bond.maturity call.day (period_start bond.maturity call.day) begins other), interest-none dates settle call.day bond call.day base (λ is. other is.series));
  interest = λ day differs is.
      omega (arith, called-at settle bond call day, here-no day call.day (call_price bond call) (λ same. differs (sym same)), accrued-other bond call.day day (int_eq (period_start bond.maturity call.day) call.day) (λ same. differs (sym same)), interest-once dates settle call.day bond day base is);
  nothing_else = λ day differs other.
      omega (arith, called-at settle bond call day, here-no day call.day (call_price bond call) (λ same. differs (sym same)), accrued-other bond call.day day (int_eq (period_start bond.maturity call.day) call.day) (λ same. differs (sym same)), interest-none dates settle call.day bond day base other);
  total = called-total settle bond call;
}

called-is : (settle : ℤ) (call : Call) (bond : Bond) → call.day <ℤ bond.maturity → bond_needs settle (Some call) bond ≡ called_needs settle bond call
called-is settle call bond before = rw (int_le-not bond.maturity call.day before) refl

pub called-once : (dates : DatesAfterAreLater) (lead : SettlementLeadsToBaseDays) (periods : PeriodsStartBySeries) → CalledBondsPayOnce
called-once dates lead periods settle call bond settlement is calls before =
    subst (λ (flows : List Flow). PaysAsCalled settle call bond flows) (sym (called-is settle call bond before))
    (called-pays dates settle bond call (later-base lead settle bond.maturity settlement is.maturity) calls.day.after
    (periods settle bond.maturity call.day settlement is.maturity (omega (arith, ints, calls.day.after))))

pub period-last : (lead : SettlementLeadsToBaseDays) (pass : YearsPass) (none : NoYearsPass) (previous : PreviousIsLast) → PeriodsStartBySeries
period-last lead pass none previous settle maturity day settlement later from =
    let near = later-near pass none settle maturity settlement later in
    previous maturity rule.SameDay day (later-base lead settle maturity settlement later) (omega (arith, signed_arith, near, from))
