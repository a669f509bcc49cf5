-- The dates on which a security pays.
use Rattle.std.proofs.Common.{◌≡◌, ◌∙◌, ℕ, ◌+◌, ◌<◌, ◌≤◌, sym, ap, arith, ℤ, pos, ◌+ℤ◌, ◌≤ℤ◌, int_le, int_lt, Bool, true, false, cond, ◌==◌, length, filter}
use Rattle.std.proofs.lemmas.Int.{ints}
use Rattle.std.proofs.lemmas.List.Elements.{filter_agree}
use Rattle.jiff_core.proofs.SignedLemmas.{signed_arith}
use Rattle.escrow_units.specs.Calendar.{half_back_of, years_after_of, IsBaseDay}
use Rattle.escrow_units.specs.CalendarLaws.{IsHalfYear}
use Rattle.escrow_units.specs.DayNumber.{IsDayNumber}
use Rattle.escrow_units.specs.Series.{dates_after_of, series_of}
use Rattle.escrow_units.specs.SlgsTerms.{IsSettlement, IsSlgs, IsFirstPayment, IsOfKind, shortest_term}
use Rattle.escrow_units.specs.declared.security.Slgs.{Slgs}
use Rattle.escrow_units.specs.declared.security.SlgsKind.{SlgsKind}
use Rattle.escrow_units.specs.declared.security.SlgsKind.TheVariants as kind
use Rattle.escrow_units.specs.declared.security.StepRule.TheVariants as rule
use Rattle.escrow_units.proofs.SeriesFacts.{half_back_of-falls, half_back_of-steps, years_after_of-none}
use Rattle.escrow_units.proofs.FlowFacts.{int_le-not, int_le-test}
use Rattle.escrow_units.proofs.LastDates.{last_dates, fewer-steps, filter-dates, half_back_of-order, half_back_of-reach, half_back_of-zero, half_year-along, length-last_dates, series_from-last}
use Rattle.escrow_units.proofs.YearFacts.{years_after_of-passes, settlement-base}
use Rattle.slgs_interest.specs.PaymentLaws.{IsLatestBefore}
use Rattle.slgs_interest.specs.Payments.{payment_dates, before_first, second_before_first}

pub payment_dates-series : (slgs : Slgs) (s : ℕ) → IsBaseDay slgs.maturity → s ≤ 84 → slgs.first ≡ half_back_of slgs.maturity s rule.SameDay
    → payment_dates slgs ≡ last_dates slgs.maturity rule.SameDay (s + 1)
unfolding payment_dates
payment_dates-series slgs s h few e =
    ap (filter (int_le slgs.first)) (series_from-last slgs.maturity rule.SameDay 84)
    ∙ filter-dates (int_le slgs.first) slgs.maturity rule.SameDay (s + 1) 85 (omega arith)
    (λ j less. int_le-test slgs.first _ (omega (arith, signed_arith, e, half_back_of-order slgs.maturity rule.SameDay j s h (omega arith) few)))
    (λ j from less. int_le-not slgs.first _ (omega (arith, signed_arith, e, half_back_of-falls slgs.maturity rule.SameDay s j h (omega arith) (omega arith))))

-- when a security pays
pub record IsPaid (slgs : Slgs) : Type 0 where
  pub base : IsBaseDay slgs.maturity
  pub order : slgs.settle ≤ℤ slgs.maturity
  pub steps : ℕ
  pub few : steps ≤ 80
  pub first : slgs.first ≡ half_back_of slgs.maturity steps rule.SameDay
  pub dates : payment_dates slgs ≡ last_dates slgs.maturity rule.SameDay (steps + 1)
  pub count : length (payment_dates slgs) ≡ steps + 1
  pub late : (slgs.settle +ℤ pos 15) ≤ℤ slgs.first
  pub early : slgs.first ≤ℤ (slgs.settle +ℤ pos 366)
  pub near : slgs.maturity ≤ℤ (slgs.first +ℤ pos 14_625)
  pub before : IsHalfYear (before_first slgs) slgs.first
  pub second_before : IsHalfYear (second_before_first slgs) (before_first slgs)

-- the first payment date, by its steps from maturity
record IsFirstStep (slgs : Slgs) : Type 0 where
  steps : ℕ
  few : steps ≤ 84
  first : slgs.first ≡ half_back_of slgs.maturity steps rule.SameDay
  late : (slgs.settle +ℤ pos 15) ≤ℤ slgs.first
  early : slgs.first ≤ℤ years_after_of slgs.settle 1

first-step : (slgs : Slgs) → IsBaseDay slgs.maturity → IsSlgs slgs → IsFirstStep slgs
first-step slgs h terms = by_kind slgs.kind terms.kind terms.first
  where
    by_test : (b : Bool) → 15 ≤ cond b 15 30
    by_test true = omega arith
    by_test false = omega arith

    shortest : (rate : ℕ) → 15 ≤ shortest_term rate
    shortest rate = by_test (rate == 0)

    by_kind : (k : SlgsKind) → IsOfKind k slgs.settle slgs.maturity → IsFirstPayment k slgs.settle slgs.maturity slgs.first → IsFirstStep slgs
    by_kind kind.Certificate of_kind e = record {
      steps = 0;
      few = omega arith;
      first = e ∙ sym (half_back_of-zero slgs.maturity rule.SameDay h);
      late = omega (arith, signed_arith, e, terms.least, shortest slgs.rate.0);
      early = omega (arith, signed_arith, e, of_kind);
    }
    by_kind kind.Note of_kind p = record {
      steps = p.series.steps;
      few = p.series.few;
      first = p.series.back;
      late = omega (arith, signed_arith, p.late);
      early = p.early;
    }
    by_kind kind.Bond of_kind p = record {
      steps = p.series.steps;
      few = p.series.few;
      first = p.series.back;
      late = omega (arith, signed_arith, p.late);
      early = p.early;
    }

pub paid : (slgs : Slgs) → IsSettlement slgs.settle → IsSlgs slgs → IsPaid slgs
paid slgs h terms =
    let own : IsDayNumber slgs.settle = (omega (arith, signed_arith, h.0), omega (arith, signed_arith, h.1)) in
    let from : IsBaseDay slgs.settle = (h.0, omega (arith, signed_arith, h.1)) in
    let none = years_after_of-none slgs.settle own in
    let one = years_after_of-passes slgs.settle 0 1 from (omega arith) in
    let forty = years_after_of-passes slgs.settle 0 40 from (omega arith) in
    let order : slgs.settle ≤ℤ slgs.maturity = omega (arith, signed_arith, terms.least) in
    let base = settlement-base slgs.settle slgs.maturity h order terms.most in
    let step = first-step slgs base terms in
    let reach = half_back_of-reach slgs.maturity rule.SameDay step.steps base step.few in
    let few : step.steps ≤ 80 = omega (arith, signed_arith, reach, step.first, step.late, terms.most, forty.most, none) in
    let dates = payment_dates-series slgs step.steps base step.few step.first in
    let count = ap length dates ∙ length-last_dates slgs.maturity rule.SameDay (step.steps + 1) in
    let at = λ (n : ℕ). half_back_of slgs.maturity n rule.SameDay in
    let before = half_back_of-steps slgs.maturity rule.SameDay step.steps base (omega arith) in
    let second_before = half_back_of-steps slgs.maturity rule.SameDay (step.steps + 1) base (omega arith) in
    record {
      base = base;
      order = order;
      steps = step.steps;
      few = few;
      first = step.first;
      dates = dates;
      count = count;
      late = step.late;
      early = omega (arith, signed_arith, step.early, one.most, none);
      near = omega (arith, signed_arith, step.late, terms.most, forty.most, none);
      before = half_year-along _ _ _ _ (ap at count) step.first before;
      second_before = half_year-along _ _ _ _ (ap (λ n. at (n + 1)) count) (ap at count) second_before;
    }

-- the dates not before a day are those after the day before it
int_le-before : (first day date : ℤ) → day +ℤ pos 1 ≡ first → int_lt day date ≡ int_le first date
int_le-before first day date e = grind (arith, ints)

pub dates-from-first : (slgs : Slgs) (day : ℤ) → day +ℤ pos 1 ≡ slgs.first → dates_after_of slgs.maturity rule.SameDay day ≡ payment_dates slgs
unfolding dates_after_of payment_dates
dates-from-first slgs day e =
    filter_agree (int_lt day) (int_le slgs.first) (λ date. int_le-before slgs.first day date e) (series_of slgs.maturity rule.SameDay)

-- a certificate matures on a day from which half-years are counted
pub certificate-base : (settle maturity : ℤ) → IsSettlement settle → settle ≤ℤ maturity → maturity ≤ℤ years_after_of settle 1 → IsBaseDay maturity
certificate-base settle maturity h order term =
    let from : IsBaseDay settle = (h.0, omega (arith, signed_arith, h.1)) in
    let rest = years_after_of-passes settle 1 39 from (omega arith) in
    settlement-base settle maturity h order (omega (arith, signed_arith, term, rest.least))

pub certificate-first : (slgs : Slgs) → IsSlgs slgs → slgs.kind ≡ kind.Certificate → slgs.first ≡ slgs.maturity
certificate-first slgs terms e = at slgs.kind e terms.first
  where
    at : (k : SlgsKind) → k ≡ kind.Certificate → IsFirstPayment k slgs.settle slgs.maturity slgs.first → slgs.first ≡ slgs.maturity
    at kind.Certificate e first = first
    at kind.Note e first = cc e
    at kind.Bond e first = cc e

latest-before : (maturity day date : ℤ) (k : ℕ) → IsBaseDay maturity → k < 84 → day ≡ half_back_of maturity k rule.SameDay
    → date ≡ half_back_of maturity (k + 1) rule.SameDay → IsLatestBefore maturity day date
latest-before maturity day date k h few e f = record {
  series = record { steps = k + 1; few = omega arith; back = f };
  before = omega (arith, signed_arith, e, f, half_back_of-falls maturity rule.SameDay k (k + 1) h (omega arith) (omega arith));
  latest = λ other series less.
      let more = fewer-steps maturity rule.SameDay k series.steps h (omega arith) (omega (arith, signed_arith, e, series.back, less)) in
      omega (arith, signed_arith, f, series.back, half_back_of-order maturity rule.SameDay (k + 1) series.steps h (omega arith) series.few);
}

pub dates-before : (slgs : Slgs) → IsSettlement slgs.settle → IsSlgs slgs
    → IsLatestBefore slgs.maturity slgs.first (before_first slgs) × IsLatestBefore slgs.maturity (before_first slgs) (second_before_first slgs)
dates-before slgs h terms =
    let p = paid slgs h terms in
    let at = λ (n : ℕ). half_back_of slgs.maturity n rule.SameDay in (
      latest-before slgs.maturity slgs.first (before_first slgs) p.steps p.base (omega (arith, p.few)) p.first (ap at p.count),
      latest-before slgs.maturity (before_first slgs) (second_before_first slgs) (p.steps + 1) p.base (omega (arith, p.few)) (ap at p.count) (ap (λ n. at (n + 1)) p.count),
    )
