-- Half-coupons on the dates of a series, each once, and what a bond pays on a day.
use Rattle.std.proofs.Common.{◌≡◌, refl, subst, arith, get_or, ℕ, zero, suc, ◌+◌, ◌*◌, ◌<◌, List, [], ◌∷◌, ◌++◌, length, map, true, false, ℤ, ◌<ℤ◌}
use Rattle.std.specs.Prelude.{◌≢◌, AllPairs, int_le, if◌then◌else◌}
use Rattle.std.specs.Ordering.{int_eq}
use Rattle.std.proofs.lemmas.Int.{ints}
use Rattle.std.proofs.lemmas.List.Elements.{All-filter, filter_passes}
use Rattle.std.proofs.lemmas.List.Kept.{AllPairs-filter}
use Rattle.std.proofs.lemmas.List.Sums.{sum_by-append, sum_by-cons}
use Rattle.escrow_units.specs.Calendar.{IsBaseDay, IsSeriesDate}
use Rattle.escrow_units.proofs.FlowFacts.{int_le-test}
use Rattle.escrow_units.proofs.SeriesAround.{Contains-filter}
use Rattle.escrow_units.specs.CalendarLaws.{DatesAfterAreLater}
use Rattle.escrow_units.specs.Series.{dates_after_of}
use Rattle.escrow_units.specs.Flows.{total}
use Rattle.escrow_units.specs.declared.security.Flow.{Flow}
use Rattle.escrow_units.specs.declared.security.StepRule.TheVariants as rule
use Rattle.day_sums.specs.Summed.{cents_on, on}
use Rattle.issue_schedule.specs.declared.issue.Bond.{Bond}
use Rattle.issue_schedule.specs.BondLaws.{IsInterestDay}
use Rattle.issue_schedule.specs.Needs.{half_coupon, interest, interest_dates}

-- so many cents, where days are the same
abbrev pub here : ℤ → ℤ → ℕ → ℕ
here day date cents = if int_eq date day then cents else 0

abbrev pub all_on : ℕ → List ℤ → List Flow
all_on cents dates = map (λ date. on date cents) dates

pub on-cons : (day : ℤ) (flow : Flow) (flows : List Flow) → cents_on day (flow ∷ flows) ≡ here day flow.day flow.cents.0 + cents_on day flows
on-cons day flow flows = sum_by-cons (λ (f : Flow). here day f.day f.cents.0) flow flows

pub on-append : (day : ℤ) (front back : List Flow) → cents_on day (front ++ back) ≡ cents_on day front + cents_on day back
on-append day front back = sum_by-append (λ (f : Flow). here day f.day f.cents.0) front back

pub eq-yes : (a : ℤ) → int_eq a a ≡ true
eq-yes a = grind (arith, ints)

pub eq-no : (a b : ℤ) → a ≢ b → int_eq a b ≡ false
eq-no a b differ = grind (arith, ints)

pub here-yes : (day : ℤ) (cents : ℕ) → here day day cents ≡ cents
here-yes day cents = rw (eq-yes day) refl

pub here-no : (day date : ℤ) (cents : ℕ) → date ≢ day → here day date cents ≡ 0
here-no day date cents differ = rw (eq-no date day differ) refl

-- what the first of some dates adds to a day
abbrev all_on-cons : (day date : ℤ) (cents : ℕ) (dates : List ℤ) → cents_on day (all_on cents (date ∷ dates)) ≡ here day date cents + cents_on day (all_on cents dates)
all_on-cons day date cents dates = on-cons day (on date cents) (all_on cents dates)

-- nothing on a day that is none of them
absent : (day : ℤ) (cents : ℕ) (dates : List ℤ) → ((k : ℕ) → k < length dates → get_or dates k day ≢ day) → cents_on day (all_on cents dates) ≡ 0
absent day cents [] differ = refl
absent day cents (date ∷ dates) differ =
    let first = here-no day date cents (differ 0 (omega arith)) in
    let rest = absent day cents dates (λ k less. differ (suc k) (omega (arith, less))) in
    omega (arith, all_on-cons day date cents dates, first, rest)

-- and once on one of some that rise
present : (day : ℤ) (cents : ℕ) (dates : List ℤ) (k : ℕ) → AllPairs (λ a b. a <ℤ b) dates → k < length dates → get_or dates k day ≡ day
    → cents_on day (all_on cents dates) ≡ cents
present day cents [] k rise less is = absurd (omega arith)
present day cents (date ∷ dates) zero rise less is =
    let first : here day date cents ≡ cents = rw is (here-yes day cents) in
    let rest = absent day cents dates (λ k short same.
    let later : get_or (date ∷ dates) 0 day <ℤ get_or (date ∷ dates) (suc k) day = rise 0 (suc k) day (omega arith) (omega (arith, short)) in
    absurd (omega (arith, ints, later, is, same))) in
    omega (arith, all_on-cons day date cents dates, first, rest)
present day cents (date ∷ dates) (suc k) rise less is =
    let later : get_or (date ∷ dates) 0 day <ℤ get_or (date ∷ dates) (suc k) day = rise 0 (suc k) day (omega arith) (omega (arith, less)) in
    let first = here-no day date cents (λ same. absurd (omega (arith, ints, later, is, same))) in
    let rest = present day cents dates k (λ i j d lt within. rise (suc i) (suc j) d (omega (arith, lt)) (omega (arith, within))) (omega (arith, less)) is in
    omega (arith, all_on-cons day date cents dates, first, rest)

-- a bond pays half its coupon once on a day of interest
pub interest-once : (dates : DatesAfterAreLater) (settle last : ℤ) (bond : Bond) (day : ℤ) → IsBaseDay bond.maturity → IsInterestDay settle last bond.maturity day
    → cents_on day (interest settle last bond) ≡ half_coupon bond
interest-once dates settle last bond day base is =
    let all = dates bond.maturity rule.SameDay settle base in
    let found = Contains-filter (λ date. int_le date last) (dates_after_of bond.maturity rule.SameDay settle) day (all.all day is.series is.after) (int_le-test day last is.by) in
    present day (half_coupon bond) (interest_dates settle last bond.maturity) found.0
    (AllPairs-filter (λ a b. a <ℤ b) (λ date. int_le date last) (dates_after_of bond.maturity rule.SameDay settle) all.rise) found.1 found.2

-- and none on another
pub interest-none : (dates : DatesAfterAreLater) (settle last : ℤ) (bond : Bond) (day : ℤ) → IsBaseDay bond.maturity → ¬ (IsInterestDay settle last bond.maturity day) → cents_on day (interest settle last bond) ≡ 0
interest-none dates settle last bond day base other =
    let all = dates bond.maturity rule.SameDay settle base in
    let after = All-filter (λ date. int_le date last) (λ date. IsSeriesDate bond.maturity rule.SameDay date × (settle <ℤ date)) (dates_after_of bond.maturity rule.SameDay settle) all.series in
    let by = filter_passes (λ date. int_le date last) (dates_after_of bond.maturity rule.SameDay settle) in
    absent day (half_coupon bond) (interest_dates settle last bond.maturity)
    (λ k less same.
    let here = after k day less in
    other (record {
      after = omega (arith, ints, here.1, same);
      by = omega (arith, ints, by k day less, same);
      series = subst (λ (d : ℤ). IsSeriesDate bond.maturity rule.SameDay d) same here.0;
    }))

pub total-all_on : (cents : ℕ) (dates : List ℤ) → total (all_on cents dates) ≡ length dates * cents
total-all_on cents [] = omega arith
total-all_on cents (date ∷ dates) =
    omega (arith, sum_by-cons (λ (f : Flow). f.cents.0) (on date cents) (all_on cents dates), total-all_on cents dates)
