-- The dates of a series around a day.
use Rattle.std.proofs.Common.{◌≡◌, ◌∙◌, ℕ, ◌+◌, ◌-◌, ◌*◌, ◌<◌, ◌≤◌, zero, suc, refl, sym, ap, arith, ℤ, pos, ◌+ℤ◌, ◌≤ℤ◌, ◌<ℤ◌, int_lt, inl, inr, Bool, true, false, List, [], ◌∷◌, ◌++◌, length, get_or, reverse, filter, subst}
use Rattle.std.specs.Prelude.{Contains}
use Rattle.std.proofs.lemmas.Bool.{cases_lt}
use Rattle.std.proofs.lemmas.List.{reverse-append, length-append}
use Rattle.std.proofs.lemmas.List.Elements.{All-filter, filter_passes}
use Rattle.std.proofs.lemmas.List.Kept.{AllPairs-filter}
use Rattle.jiff_core.proofs.SignedLemmas.{signed_arith}
use Rattle.escrow_units.specs.Calendar.{half_back_of, IsBaseDay, IsSeriesDate}
use Rattle.escrow_units.specs.CalendarLaws.{IsHalfYear}
use Rattle.escrow_units.specs.Series.{AreDatesAfter, IsFirstAfter, IsLastBy, dates_after_of, next_date_of, previous_date_of, series_of}
use Rattle.escrow_units.specs.declared.security.StepRule.{StepRule}
use Rattle.escrow_units.proofs.SeriesFacts.{half_back_of-steps}
use Rattle.escrow_units.proofs.FlowFacts.{cases_int_le, int_lt-is, int_lt-not, int_lt-test}
use Rattle.escrow_units.proofs.LastDates.{last_dates, last_dates-all, last_dates-more, last_dates-rise, filter-dates, half_back_of-order, half_back_of-reach, half_back_of-zero, half_year-along, half_year-before, length-last_dates, series_from-last}

-- a series that ends at most 40 years after a day
pub record IsNear (maturity day : ℤ) : Type 0 where
  pub base : IsBaseDay maturity
  pub most : maturity ≤ℤ (day +ℤ pos 14_640)

-- at most 81 of its dates come after the day
pub few_steps : (maturity : ℤ) (r : StepRule) (day : ℤ) (k : ℕ) → IsNear maturity day → k ≤ 84 → day <ℤ half_back_of maturity k r → k ≤ 80
few_steps maturity r day k near few late =
    omega (arith, signed_arith, near.most, late, half_back_of-reach maturity r k near.base few)

-- so many dates come after the day
pub record HasDates (maturity : ℤ) (r : StepRule) (day : ℤ) (n : ℕ) : Type 0 where
  pub some : 0 < n
  pub few : n ≤ 81
  pub dates : dates_after_of maturity r day ≡ last_dates maturity r n
  pub count : length (dates_after_of maturity r day) ≡ n
  pub previous : previous_date_of maturity r day ≡ half_back_of maturity n r
  pub next : next_date_of maturity r day ≡ half_back_of maturity (n - 1) r

pub has_dates : (maturity : ℤ) (r : StepRule) (day : ℤ) (n : ℕ) → IsNear maturity day → 0 < n → n ≤ 84
    → day <ℤ half_back_of maturity (n - 1) r → half_back_of maturity n r ≤ℤ day → HasDates maturity r day n
unfolding dates_after_of
has_dates maturity r day n near some few late early =
    let steps = few_steps maturity r day (n - 1) near (omega arith) late in
    let dates : dates_after_of maturity r day ≡ last_dates maturity r n =
    ap (filter (int_lt day)) (series_from-last maturity r 84) ∙ filter-dates (int_lt day) maturity r n 85 (omega arith)
    (λ j less. int_lt-test day _ (omega (arith, signed_arith, late, half_back_of-order maturity r j (n - 1) near.base (omega arith) (omega arith))))
    (λ j from less. int_lt-not day _ (omega (arith, signed_arith, early, half_back_of-order maturity r n j near.base from (omega arith)))) in
    let count : length (dates_after_of maturity r day) ≡ n = ap length dates ∙ length-last_dates maturity r n in
    record {
      some = some;
      few = omega arith;
      dates = dates;
      count = count;
      previous = ap (λ (k : ℕ). half_back_of maturity k r) count;
      next = ap (λ (k : ℕ). half_back_of maturity (k - 1) r) count;
    }

-- the date before them is the last up to the day
pub last-by : (maturity : ℤ) (r : StepRule) (day : ℤ) (n : ℕ) → IsNear maturity day → 0 < n → n ≤ 84
    → day <ℤ half_back_of maturity (n - 1) r → half_back_of maturity n r ≤ℤ day → IsLastBy maturity r day (half_back_of maturity n r)
last-by maturity r day n near some few late early = record {
  series = record { steps = n; few = few; back = refl };
  by = early;
  last = λ other on by. elim (cases_lt on.steps n) [
    | inl sooner ↦
        let order = half_back_of-order maturity r on.steps (n - 1) near.base (omega arith) (omega arith) in
        absurd (omega (arith, signed_arith, on.back, order, late, by))
    | inr later ↦ rw on.back (half_back_of-order maturity r n on.steps near.base later on.few)
  ];
}

-- and the first of them is the first after the day
pub first-after : (maturity : ℤ) (r : StepRule) (day : ℤ) (n : ℕ) → IsNear maturity day → 0 < n → n ≤ 84
    → day <ℤ half_back_of maturity (n - 1) r → half_back_of maturity n r ≤ℤ day → IsFirstAfter maturity r day (half_back_of maturity (n - 1) r)
first-after maturity r day n near some few late early = record {
  series = record { steps = n - 1; few = omega arith; back = refl };
  after = late;
  first = λ other on after. elim (cases_lt on.steps n) [
    | inl sooner ↦ rw on.back (half_back_of-order maturity r on.steps (n - 1) near.base (omega arith) (omega arith))
    | inr later ↦
        let order = half_back_of-order maturity r n on.steps near.base later on.few in
        absurd (omega (arith, signed_arith, on.back, order, early, after))
  ];
}

-- the walk from maturity back to the last date up to the day
pub record IsWalk (maturity : ℤ) (r : StepRule) (day date next : ℤ) (dates : List ℤ) : Type 0 where
  pub few : length dates ≤ 81
  pub at : date ≡ half_back_of maturity (length dates) r
  pub before : next ≡ half_back_of maturity (length dates - 1) r
  pub walked : reverse dates ≡ last_dates maturity r (length dates)
  pub late : day <ℤ next

pub walk-start : (maturity : ℤ) (r : StepRule) (day : ℤ) (dates : List ℤ) → IsNear maturity day → day <ℤ maturity → dates ≡ [] → IsWalk maturity r day maturity maturity dates
unfolding last_dates
walk-start maturity r day dates near before e = rw e (record {
  few = omega arith;
  at = sym (half_back_of-zero maturity r near.base);
  before = sym (half_back_of-zero maturity r near.base);
  walked = refl;
  late = before;
})

pub walk-more : (maturity : ℤ) (r : StepRule) (day date next back : ℤ) (dates more : List ℤ) → IsNear maturity day → IsWalk maturity r day date next dates → day <ℤ date
    → back ≡ half_back_of maturity (length more) r → more ≡ dates ++ date ∷ [] → IsWalk maturity r day back date more
walk-more maturity r day date next back dates more near walk late f g =
    let steps = few_steps maturity r day (length dates) near (omega (arith, walk.few)) (omega (arith, signed_arith, late, walk.at)) in
    let long : length more ≡ length dates + 1 = rw g (simp length-append (omega arith)) in
    let less : length more - 1 ≡ length dates = omega arith in
    record {
      few = omega arith;
      at = f;
      before = rw less walk.at;
      walked = ap reverse g
          ∙ (reverse-append dates (date ∷ [])
          ∙ (ap (λ ds. date ∷ ds) walk.walked
          ∙ (ap (λ d. d ∷ last_dates maturity r (length dates)) walk.at
          ∙ last_dates-more maturity r (length dates) (length more) long)));
      late = late;
    }

-- where it ends, all dates were found
pub record IsWalked (maturity : ℤ) (r : StepRule) (day date next : ℤ) (dates : List ℤ) : Type 0 where
  pub previous : date ≡ previous_date_of maturity r day
  pub following : next ≡ next_date_of maturity r day
  pub all : reverse dates ≡ dates_after_of maturity r day
  pub last : IsLastBy maturity r day date
  pub first : IsFirstAfter maturity r day next
  pub half_year : IsHalfYear date next

last-along : (maturity : ℤ) (r : StepRule) (day a b : ℤ) → a ≡ b → IsLastBy maturity r day b → IsLastBy maturity r day a
last-along maturity r day a b e h = rw e h

first-along : (maturity : ℤ) (r : StepRule) (day a b : ℤ) → a ≡ b → IsFirstAfter maturity r day b → IsFirstAfter maturity r day a
first-along maturity r day a b e h = rw e h

some-date : (maturity : ℤ) (r : StepRule) (day date next : ℤ) (n : ℕ) → date ≡ half_back_of maturity n r → next ≡ half_back_of maturity (n - 1) r
    → day <ℤ next → date ≤ℤ day → 0 < n
some-date maturity r day date next zero e f late early = let same : date ≡ next = e ∙ sym f in absurd (omega (arith, signed_arith, same, late, early))
some-date maturity r day date next (suc k) e f late early = omega arith

pub walk-end : (maturity : ℤ) (r : StepRule) (day date next : ℤ) (dates : List ℤ) → IsNear maturity day → IsWalk maturity r day date next dates → date ≤ℤ day
    → IsWalked maturity r day date next dates
walk-end maturity r day date next dates near walk early =
    let some = some-date maturity r day date next (length dates) walk.at walk.before walk.late early in
    let late : day <ℤ half_back_of maturity (length dates - 1) r = omega (arith, signed_arith, walk.late, walk.before) in
    let by : half_back_of maturity (length dates) r ≤ℤ day = omega (arith, signed_arith, early, walk.at) in
    let p = has_dates maturity r day (length dates) near some (omega (arith, walk.few)) late by in
    record {
      previous = walk.at ∙ sym p.previous;
      following = walk.before ∙ sym p.next;
      all = walk.walked ∙ sym p.dates;
      last = last-along maturity r day date _ walk.at (last-by maturity r day (length dates) near some (omega (arith, walk.few)) late by);
      first = first-along maturity r day next _ walk.before (first-after maturity r day (length dates) near some (omega (arith, walk.few)) late by);
      half_year = half_year-along date next _ _ walk.at walk.before (half_year-before maturity r (length dates) near.base some (omega (arith, walk.few)));
    }

-- two dates of the series that are next to each other; the later one comes after the day
pub record IsBeside (maturity : ℤ) (r : StepRule) (day : ℤ) (steps : ℕ) (previous next : ℤ) : Type 0 where
  pub few : steps ≤ 80
  pub before : previous ≡ half_back_of maturity (steps + 1) r
  pub at : next ≡ half_back_of maturity steps r
  pub late : day <ℤ next

-- k half-years have at most 184 days each
half_back_of-span : (maturity : ℤ) (r : StepRule) (k : ℕ) → IsBaseDay maturity → k ≤ 84 → maturity ≤ℤ (half_back_of maturity k r +ℤ pos (184 * k))
half_back_of-span maturity r zero h few = omega (arith, signed_arith, half_back_of-zero maturity r h)
half_back_of-span maturity r (suc k) h few =
    let more : k + 1 ≡ suc k = omega arith in
    let step = rw more at (half_back_of-steps maturity r k h (omega arith)) in
    omega (arith, signed_arith, step.most, half_back_of-span maturity r k h (omega arith))

-- so that so many surely lead to a date after the day
pub beside-start : (maturity : ℤ) (r : StepRule) (day previous next : ℤ) (days steps : ℕ) → IsNear maturity day → day +ℤ pos days ≡ maturity → 184 * steps < days
    → previous ≡ half_back_of maturity (steps + 1) r → next ≡ half_back_of maturity steps r → IsBeside maturity r day steps previous next
beside-start maturity r day previous next days steps near same short before at =
    let few : steps ≤ 79 = omega (arith, signed_arith, near.most) in
    let late : day <ℤ next = omega (arith, signed_arith, at, half_back_of-span maturity r steps near.base (omega arith)) in
    record { few = omega arith; before = before; at = at; late = late }

pub beside-more : (maturity : ℤ) (r : StepRule) (day previous next : ℤ) (steps : ℕ) → IsNear maturity day → IsBeside maturity r day steps previous next
    → day <ℤ previous → steps + 1 ≤ 80
beside-more maturity r day previous next steps near beside late =
    few_steps maturity r day (steps + 1) near (omega (arith, beside.few)) (omega (arith, signed_arith, late, beside.before))

-- where the earlier one doesn't, they are the dates next to the day
pub record AreBeside (maturity : ℤ) (r : StepRule) (day previous next : ℤ) : Type 0 where
  pub earlier : previous ≡ previous_date_of maturity r day
  pub following : next ≡ next_date_of maturity r day
  pub last : IsLastBy maturity r day previous
  pub first : IsFirstAfter maturity r day next
  pub half_year : IsHalfYear previous next

pub beside-end : (maturity : ℤ) (r : StepRule) (day : ℤ) (steps : ℕ) (previous next : ℤ) → IsNear maturity day → IsBeside maturity r day steps previous next
    → previous ≤ℤ day → AreBeside maturity r day previous next
beside-end maturity r day steps previous next near beside early =
    let less : steps + 1 - 1 ≡ steps = omega arith in
    let at : next ≡ half_back_of maturity (steps + 1 - 1) r = rw less beside.at in
    let late : day <ℤ half_back_of maturity (steps + 1 - 1) r = omega (arith, signed_arith, beside.late, at) in
    let by : half_back_of maturity (steps + 1) r ≤ℤ day = omega (arith, signed_arith, early, beside.before) in
    let p = has_dates maturity r day (steps + 1) near (omega arith) (omega (arith, beside.few)) late by in
    record {
      earlier = beside.before ∙ sym p.previous;
      following = at ∙ sym p.next;
      last = last-along maturity r day previous _ beside.before (last-by maturity r day (steps + 1) near (omega arith) (omega (arith, beside.few)) late by);
      first = first-along maturity r day next _ at (first-after maturity r day (steps + 1) near (omega arith) (omega (arith, beside.few)) late by);
      half_year = half_year-along previous next _ _ beside.before at (half_year-before maturity r (steps + 1) near.base (omega arith) (omega (arith, beside.few)));
    }

-- how many dates come after a day
pub record AreCounted (maturity : ℤ) (r : StepRule) (day : ℤ) : Type 0 where
  pub count : ℕ
  pub has : HasDates maturity r day count
  pub last : IsLastBy maturity r day (previous_date_of maturity r day)

counted-by : (maturity : ℤ) (r : StepRule) (day : ℤ) (k : ℕ) → IsNear maturity day → k ≤ 84 → half_back_of maturity k r ≤ℤ day → day <ℤ maturity
    → AreCounted maturity r day
counted-by maturity r day zero near few early before =
    absurd (omega (arith, signed_arith, half_back_of-zero maturity r near.base, early, before))
counted-by maturity r day (suc k) near few early before =
    let less : suc k - 1 ≡ k = omega arith in
    elim (cases_int_le (half_back_of maturity k r) day) [
      | inl sooner ↦ counted-by maturity r day k near (omega arith) sooner before
      | inr late ↦
          let here : day <ℤ half_back_of maturity (suc k - 1) r = rw less late in
          let has = has_dates maturity r day (suc k) near (omega arith) few here early in
          record { count = suc k; has = has; last = last-along maturity r day _ _ has.previous (last-by maturity r day (suc k) near (omega arith) few here early) }
    ]

pub counted : (maturity : ℤ) (r : StepRule) (day : ℤ) → IsNear maturity day → day <ℤ maturity → AreCounted maturity r day
counted maturity r day near before =
    counted-by maturity r day 84 near (omega arith) (omega (arith, signed_arith, half_back_of-reach maturity r 84 near.base (omega arith), near.most)) before

-- no date comes after maturity
none-after : (maturity : ℤ) (r : StepRule) (day : ℤ) → IsBaseDay maturity → maturity ≤ℤ day → dates_after_of maturity r day ≡ []
unfolding dates_after_of last_dates
none-after maturity r day base late =
    ap (filter (int_lt day)) (series_from-last maturity r 84) ∙ filter-dates (int_lt day) maturity r 0 85 (omega arith)
    (λ j none. absurd (omega (arith, none)))
    (λ j from less. int_lt-not day _ (omega (arith, signed_arith, late, half_back_of-order maturity r 0 j base (omega arith) (omega arith), half_back_of-zero maturity r base)))

last-of-all : (maturity : ℤ) (r : StepRule) (day : ℤ) → IsBaseDay maturity → maturity ≤ℤ day → IsLastBy maturity r day (previous_date_of maturity r day)
last-of-all maturity r day base late =
    let same : previous_date_of maturity r day ≡ half_back_of maturity 0 r = ap (λ (dates : List ℤ). half_back_of maturity (length dates) r) (none-after maturity r day base late) in
    last-along maturity r day _ _ same (record {
      series = record { steps = 0; few = omega arith; back = refl };
      by = omega (arith, signed_arith, late, half_back_of-zero maturity r base);
      last = λ other on by. rw on.back (half_back_of-order maturity r 0 on.steps base (omega arith) on.few);
    })

pub previous-is-last : (maturity : ℤ) (r : StepRule) (day : ℤ) → IsBaseDay maturity → maturity ≤ℤ (day +ℤ pos 14_640)
    → IsLastBy maturity r day (previous_date_of maturity r day)
previous-is-last maturity r day base most =
    elim (cases_int_le maturity day) [
      | inl late ↦ last-of-all maturity r day base late
      | inr before ↦ (counted maturity r day (record { base = base; most = most }) before).last
    ]

-- two last dates are one
pub last-unique : (maturity : ℤ) (r : StepRule) (day a b : ℤ) → IsLastBy maturity r day a → IsLastBy maturity r day b → a ≡ b
last-unique maturity r day a b p q = omega (arith, signed_arith, p.last b q.series q.by, q.last a p.series p.by)

-- and begin a half-year
pub last-recent : (maturity : ℤ) (r : StepRule) (day a : ℤ) → IsBaseDay maturity → day <ℤ maturity → IsLastBy maturity r day a → day ≤ℤ (a +ℤ pos 184)
last-recent maturity r day a base before p = at p.series.steps p.series.few p.series.back
  where
    at : (k : ℕ) → k ≤ 84 → a ≡ half_back_of maturity k r → day ≤ℤ (a +ℤ pos 184)
    at zero few e = absurd (omega (arith, signed_arith, e, half_back_of-zero maturity r base, before, p.by))
    at (suc k) few e =
        let more : k + 1 ≡ suc k = omega arith in
        let step = rw more at (half_back_of-steps maturity r k base (omega arith)) in
        elim (cases_int_le (half_back_of maturity k r) day) [
          | inl by ↦
              let sooner = p.last (half_back_of maturity k r) (record { steps = k; few = omega arith; back = refl }) by in
              absurd (omega (arith, signed_arith, e, step.least, sooner))
          | inr late ↦ omega (arith, signed_arith, e, step.most, late)
        ]

-- ---- the dates after a day, each once

contains-later : (x y : ℤ) (xs : List ℤ) → Contains xs y → Contains (x ∷ xs) y
contains-later x y xs c = (suc c.0, omega (arith, c.1), c.2)

contains-kept : (p : ℤ → Bool) (x y : ℤ) (xs : List ℤ) (b : Bool) → p x ≡ b → Contains (filter p xs) y → Contains (filter p (x ∷ xs)) y
contains-kept p x y xs true e c = rw e (contains-later x y (filter p xs) c)
contains-kept p x y xs false e c = rw e c

contains-first : (p : ℤ → Bool) (x : ℤ) (xs : List ℤ) → p x ≡ true → Contains (filter p (x ∷ xs)) x
contains-first p x xs e = rw e (0, omega arith, refl)

-- a filter keeps what passes
pub Contains-filter : (p : ℤ → Bool) (xs : List ℤ) (y : ℤ) → Contains xs y → p y ≡ true → Contains (filter p xs) y
Contains-filter p [] y c is = absurd (omega (arith, c.1))
Contains-filter p (x ∷ xs) y c is = at c.0 c.1 c.2 (λ later. Contains-filter p xs y later is)
  where
    at : (k : ℕ) → k < length (x ∷ xs) → get_or (x ∷ xs) k y ≡ y → (Contains xs y → Contains (filter p xs) y) → Contains (filter p (x ∷ xs)) y
    at zero less e rest = subst (λ (z : ℤ). Contains (filter p (x ∷ xs)) z) e (contains-first p x xs (rw e is))
    at (suc k) less e rest = contains-kept p x y xs (p x) refl (rest (k, omega (arith, less), e))

contains-date : (maturity : ℤ) (r : StepRule) (s n : ℕ) → s < n → Contains (last_dates maturity r n) (half_back_of maturity s r)
unfolding last_dates
contains-date maturity r s zero less = absurd (omega arith)
contains-date maturity r s (suc k) less =
    elim (cases_lt s k) [
      | inl sooner ↦ contains-later (half_back_of maturity k r) (half_back_of maturity s r) (last_dates maturity r k) (contains-date maturity r s k sooner)
      | inr same ↦
          let e : k ≡ s = omega arith in
          (0, omega arith, ap (λ (j : ℕ). half_back_of maturity j r) e)
    ]

pub dates-after-are-later : (maturity : ℤ) (r : StepRule) (day : ℤ) → IsBaseDay maturity → AreDatesAfter maturity r day (dates_after_of maturity r day)
unfolding dates_after_of
dates-after-are-later maturity r day base =
    let all : series_of maturity r ≡ last_dates maturity r 85 = series_from-last maturity r 84 in
    let dated = All-filter (int_lt day) (IsSeriesDate maturity r) (last_dates maturity r 85)
    (last_dates-all (IsSeriesDate maturity r) maturity r 85 (λ j less. record { steps = j; few = omega arith; back = refl })) in
    let passes = filter_passes (int_lt day) (last_dates maturity r 85) in
    rw all (record {
      series = λ k d less. (dated k d less, int_lt-is day _ (passes k d less));
      all = λ date on late.
          subst (Contains (filter (int_lt day) (last_dates maturity r 85))) (sym on.back)
          (Contains-filter (int_lt day) (last_dates maturity r 85) (half_back_of maturity on.steps r) (contains-date maturity r on.steps 85 (omega (arith, on.few))) (rw on.back at (int_lt-test day date late)));
      rise = AllPairs-filter (λ a b. a <ℤ b) (int_lt day) (last_dates maturity r 85) (last_dates-rise maturity r 85 base (omega arith));
    })
