-- Where a bond stands in its series, and its half-coupons date by date.
use Rattle.std.proofs.Common.{◌≡◌, ◌∙◌, refl, sym, ap, arith, ℕ, zero, suc, ◌+◌, ◌-◌, ◌<◌, ◌≤◌, List, [], ◌∷◌, ◌++◌, map, take, length, get_or, Bool, true, false, ℤ, pos, ◌+ℤ◌, ◌≤ℤ◌, inl, inr, append_assoc, if◌then◌else◌, filter}
use Rattle.std.specs.Prelude.{int_le, int_lt, unsigned_abs, ◌&&◌}
use Rattle.std.proofs.lemmas.Int.{ints}
use Rattle.std.proofs.lemmas.List.{map-append, take_all}
use Rattle.std.proofs.lemmas.List.Elements.{filter_more}
use Rattle.std.proofs.lemmas.Bool.{cases_lt, cases_Bool}
use Rattle.jiff_core.proofs.SignedLemmas.{signed_arith}
use Rattle.jiff_core.specs.Calendar.{days_from_civil, day_count, days_of_years, days_of_months}
use Rattle.escrow_units.specs.Calendar.{years_after_of, date_of, IsBaseDay, IsSeriesDate}
use Rattle.escrow_units.specs.CalendarLaws.{YearsPass, NoYearsPass, SettlementLeadsToBaseDays}
use Rattle.escrow_units.specs.Series.{AreDatesAfter, IsLastBy, dates_after_of}
use Rattle.escrow_units.specs.SlgsTerms.{IsSettlement}
use Rattle.escrow_units.specs.declared.security.Flow.{Flow}
use Rattle.escrow_units.specs.declared.security.StepRule.TheVariants as rule
use Rattle.escrow_units.proofs.DateFacts.{pos_abs}
use Rattle.escrow_units.proofs.FlowFacts.{cases_int_le}
use Rattle.day_sums.specs.Summed.{on}
use Rattle.issue_schedule.specs.IssueTerms.{IsLater}
use Rattle.issue_schedule.specs.Needs.{half_coupon, interest}
use Rattle.issue_schedule.specs.declared.issue.Bond.{Bond}

pub later-base : (base : SettlementLeadsToBaseDays) (settle day : ℤ) → IsSettlement settle → IsLater settle day → IsBaseDay day
later-base base settle day settlement later = base settle day settlement (omega (arith, ints, later.after)) later.by

-- a day after settlement is at most 40 years of 366 days later
pub later-near : (pass : YearsPass) (none : NoYearsPass) (settle day : ℤ) → IsSettlement settle → IsLater settle day → day ≤ℤ (settle +ℤ pos 14_640)
later-near pass none settle day settlement later =
    let same = none settle (omega (arith, ints, settlement.0), omega (arith, ints, settlement.1)) in
    let most = (pass settle 0 40 (settlement.0, omega (arith, ints, settlement.1)) (omega arith)).most in
    omega (arith, signed_arith, ints, same, most, later.by)

-- ---- the half-coupons up to a last day, of the first dates

abbrev pub paid : ℤ → ℕ → List ℤ → List Flow
paid last cents dates = map (λ date. on date cents) (filter (λ date. int_le date last) dates)

pub paid-more : (last : ℤ) (cents : ℕ) (dates : List ℤ) (i : ℕ) (d : ℤ) (before flows more : List Flow) → i < length dates
    → flows ≡ before ++ paid last cents (take i dates)
    → more ≡ flows ++ (if int_le (get_or dates i d) last then on (get_or dates i d) cents ∷ [] else [])
    → more ≡ before ++ paid last cents (take (i + 1) dates)
paid-more last cents dates i d before flows more short are is =
    let date = get_or dates i d in
    let front = filter (λ (day : ℤ). int_le day last) (take i dates) in
    is ∙ (ap (λ (fs : List Flow). fs ++ (if int_le date last then on date cents ∷ [] else [])) are
    ∙ (append_assoc before (paid last cents (take i dates)) (if int_le date last then on date cents ∷ [] else [])
    ∙ ap (λ (fs : List Flow). before ++ fs)
    (one last cents date front
    ∙ sym (ap (map (λ (day : ℤ). on day cents)) (filter_more (λ (day : ℤ). int_le day last) dates i d short)))))
  where
    by_test : (b : Bool) (date : ℤ) (cents : ℕ) (front : List ℤ) → map (λ (day : ℤ). on day cents) front ++ (if b then on date cents ∷ [] else []) ≡ map (λ (day : ℤ). on day cents) (front ++ (if b then date ∷ [] else []))
    by_test true date cents front = sym (map-append (λ (day : ℤ). on day cents) front (date ∷ []))
    by_test false date cents front = sym (map-append (λ (day : ℤ). on day cents) front [])

    one : (last : ℤ) (cents : ℕ) (date : ℤ) (front : List ℤ) → map (λ (day : ℤ). on day cents) front ++ (if int_le date last then on date cents ∷ [] else []) ≡ map (λ (day : ℤ). on day cents) (front ++ (if int_le date last then date ∷ [] else []))
    one last cents date front = by_test (int_le date last) date cents front

pub paid-all : (settle last : ℤ) (bond : Bond) (dates : List ℤ) (i : ℕ) (before flows : List Flow) → length dates ≤ i
    → dates ≡ dates_after_of bond.maturity rule.SameDay settle → flows ≡ before ++ paid last (half_coupon bond) (take i dates)
    → flows ≡ before ++ interest settle last bond
paid-all settle last bond dates i before flows all same are =
    are ∙ ap (λ (ds : List ℤ). before ++ paid last (half_coupon bond) ds) (take_all i dates all ∙ same)

-- ---- the last date up to a day, among the first dates after settlement

pub record IsStart (maturity settle previous day start : ℤ) (dates : List ℤ) (i : ℕ) : Type 0 where
  pub series : IsSeriesDate maturity rule.SameDay start
  pub by : start ≤ℤ day
  pub from : previous ≤ℤ start
  pub most : (k : ℕ) (d : ℤ) → k < i → k < length dates → get_or dates k d ≤ℤ day → get_or dates k d ≤ℤ start

pub start-first : (maturity settle previous day : ℤ) (dates : List ℤ) → IsLastBy maturity rule.SameDay settle previous → settle ≤ℤ day
    → IsStart maturity settle previous day previous dates 0
start-first maturity settle previous day dates last from = record {
  series = last.series;
  by = omega (arith, ints, last.by, from);
  from = omega (arith, ints);
  most = λ k d less. absurd (omega arith);
}

pub start-more : (maturity settle previous day start more : ℤ) (dates : List ℤ) (i : ℕ) → IsStart maturity settle previous day start dates i
    → IsSeriesDate maturity rule.SameDay more → more ≤ℤ day → start ≤ℤ more
    → ((d : ℤ) → i < length dates → get_or dates i d ≤ℤ day → get_or dates i d ≤ℤ more)
    → IsStart maturity settle previous day more dates (i + 1)
start-more maturity settle previous day start more dates i is series by later here = record {
  series = series;
  by = by;
  from = omega (arith, ints, is.from, later);
  most = λ k d less short early. elim (cases_lt k i) [
    | inl sooner ↦ omega (arith, ints, is.most k d sooner short early, later)
    | inr last ↦ let same : k ≡ i = omega arith in rw same (here d (rw same at short) (rw same at early))
  ];
}

pub start-end : (maturity settle previous day start : ℤ) (dates : List ℤ) (i : ℕ) → IsStart maturity settle previous day start dates i → length dates ≤ i
    → IsLastBy maturity rule.SameDay settle previous → AreDatesAfter maturity rule.SameDay settle dates → IsLastBy maturity rule.SameDay day start
start-end maturity settle previous day start dates i is all last after = record {
  series = is.series;
  by = is.by;
  last = λ other dated by. elim (cases_int_le other settle) [
    | inl early ↦ omega (arith, ints, last.last other dated early, is.from)
    | inr late ↦
        let found = after.all other dated late in
        let early : get_or dates found.0 other ≤ℤ day = rw found.2 by in
        let most = is.most found.0 other (omega (arith, found.1, all)) found.1 early in
        omega (arith, ints, most, found.2)
  ];
}

-- 40 years after a day lies beyond the half-year that it begins
unfoldable all_near : ℕ → Bool
all_near zero = true
all_near (suc n) = int_le (pos (10_773 + n + 184)) (years_after_of (pos (10_773 + n)) 40) && all_near n

-- each of the last 184 days before 2000
table : all_near 184 ≡ true
unfolding all_near date_of days_from_civil day_count days_of_years days_of_months
table = refl

both : (a b : Bool) → (a && b) ≡ true → (a ≡ true) × (b ≡ true)
both true b e = (refl, e)
both false b e = cc e

all_near-at : (n j : ℕ) → all_near n ≡ true → j < n → int_le (pos (10_773 + j + 184)) (years_after_of (pos (10_773 + j)) 40) ≡ true
unfolding all_near
all_near-at zero j all short = absurd (omega arith)
all_near-at (suc n) j all short =
    elim (cases_lt j n) [
      | inl less ↦ all_near-at n j (both _ _ all).1 less
      | inr more ↦ let same : j ≡ n = omega arith in rw same ((both _ _ all).0)
    ]

near-early : (j : ℕ) → j < 184 → (pos (10_773 + j) +ℤ pos 184) ≤ℤ years_after_of (pos (10_773 + j)) 40
near-early j short = omega (arith, signed_arith, ints, all_near-at 184 j table short)

near-late : (pass : YearsPass) (none : NoYearsPass) (start : ℤ) → IsBaseDay start → (start +ℤ pos 184) ≤ℤ years_after_of start 40
near-late pass none start base =
    let same : years_after_of start 0 ≡ start = none start (omega (arith, ints, base.0), omega (arith, ints, base.1)) in
    let least = (pass start 0 40 base (omega arith)).least in
    omega (arith, signed_arith, ints, same, least)

near-of : (pass : YearsPass) (none : NoYearsPass) (start : ℤ) → pos 10_773 ≤ℤ start → start ≤ℤ pos 80_718 → (start +ℤ pos 184) ≤ℤ years_after_of start 40
near-of pass none start low high =
    elim (cases_Bool (int_lt start (pos 10_957))) [
      | inl early ↦
          let j = unsigned_abs start - 10_773 in
          let whole : start ≡ pos (unsigned_abs start) = pos_abs start (omega (arith, ints, low)) in
          let count : 10_773 ≤ unsigned_abs start = omega (arith, ints, low, whole) in
          let same : unsigned_abs start ≡ 10_773 + j = omega (arith, count) in
          let is : start ≡ pos (10_773 + j) = whole ∙ ap pos same in
          rw is (near-early j (omega (arith, ints, early, whole)))
      | inr late ↦ near-late pass none start (omega (arith, ints, late), high)
    ]

-- the day of a half-year is at most 40 years after the day that begins it
pub start-near : (pass : YearsPass) (none : NoYearsPass) (start day : ℤ) → pos 10_957 ≤ℤ day → day ≤ℤ pos 80_718 → start ≤ℤ day → day ≤ℤ (start +ℤ pos 184) → day ≤ℤ years_after_of start 40
start-near pass none start day low high order recent =
    let beyond = near-of pass none start (omega (arith, signed_arith, ints, low, recent)) (omega (arith, ints, order, high)) in
    omega (arith, ints, recent, beyond)
