-- The dates of a series, in order.
use Rattle.std.proofs.Common.{◌≡◌, ◌∙◌, ℕ, ◌+◌, ◌-◌, ◌*◌, ◌<◌, ◌≤◌, zero, suc, refl, sym, ap, arith, ℤ, pos, ◌+ℤ◌, ◌≤ℤ◌, ◌<ℤ◌, inl, inr, Bool, true, false, cond, List, [], ◌∷◌, ◌++◌, length, reverse, take, drop, All, AllPairs, filter}
use Rattle.std.proofs.lemmas.List.{length-reverse, take-append-le, take_all}
use Rattle.std.proofs.lemmas.Bool.{cases_lt}
use Rattle.std.proofs.lemmas.List.Elements.{All-cons, All-nil}
use Rattle.std.proofs.lemmas.List.Kept.{AllPairs-cons}
use Rattle.jiff_core.proofs.SignedLemmas.{signed_arith}
use Rattle.escrow_units.specs.Calendar.{half_back_of, IsBaseDay}
use Rattle.escrow_units.specs.CalendarLaws.{IsHalfYear}
use Rattle.escrow_units.specs.DayNumber.{IsDayNumber}
use Rattle.escrow_units.specs.Series.{series_from}
use Rattle.escrow_units.specs.declared.security.StepRule.{StepRule}
use Rattle.escrow_units.proofs.SeriesFacts.{half_back_of-start, half_back_of-falls, half_back_of-steps}

pub base-day : (n : ℤ) → IsBaseDay n → IsDayNumber n
base-day n h = (omega (arith, signed_arith, h.0), omega (arith, signed_arith, h.1))

pub half_back_of-zero : (maturity : ℤ) (r : StepRule) → IsBaseDay maturity → half_back_of maturity 0 r ≡ maturity
half_back_of-zero maturity r h = half_back_of-start maturity r (base-day maturity h)

-- a later step leads to no later date
pub half_back_of-order : (maturity : ℤ) (r : StepRule) (j k : ℕ) → IsBaseDay maturity → j ≤ k → k ≤ 84
    → half_back_of maturity k r ≤ℤ half_back_of maturity j r
half_back_of-order maturity r j k h le few =
    elim (cases_lt j k) [
      | inl later ↦ omega (arith, signed_arith, half_back_of-falls maturity r j k h later few)
      | inr same ↦ let e : k ≡ j = omega arith in rw e (omega (arith, signed_arith))
    ]

-- a later date has fewer steps
pub fewer-steps : (maturity : ℤ) (r : StepRule) (j k : ℕ) → IsBaseDay maturity → j ≤ 84
    → half_back_of maturity k r <ℤ half_back_of maturity j r → j < k
fewer-steps maturity r j k h few less =
    elim (cases_lt j k) [
      | inl later ↦ later
      | inr sooner ↦ absurd (omega (arith, signed_arith, less, half_back_of-order maturity r k j h sooner few))
    ]

-- k half-years have at least 181 days each
pub half_back_of-reach : (maturity : ℤ) (r : StepRule) (k : ℕ) → IsBaseDay maturity → k ≤ 84
    → (half_back_of maturity k r +ℤ pos (181 * k)) ≤ℤ maturity
half_back_of-reach maturity r zero h few = omega (arith, signed_arith, half_back_of-zero maturity r h)
half_back_of-reach maturity r (suc k) h few =
    let more : k + 1 ≡ suc k = omega arith in
    let step = rw more at (half_back_of-steps maturity r k h (omega arith)) in
    omega (arith, signed_arith, step.least, half_back_of-reach maturity r k h (omega arith))

-- the half-year up to a date
pub half_year-before : (maturity : ℤ) (r : StepRule) (n : ℕ) → IsBaseDay maturity → 0 < n → n ≤ 84 → IsHalfYear (half_back_of maturity n r) (half_back_of maturity (n - 1) r)
half_year-before maturity r zero h some few = absurd (omega arith)
half_year-before maturity r (suc k) h some few =
    let more : k + 1 ≡ suc k = omega arith in
    let less : suc k - 1 ≡ k = omega arith in
    rw less (rw more at (half_back_of-steps maturity r k h (omega arith)))

pub half_year-along : (a b c d : ℤ) → a ≡ c → b ≡ d → IsHalfYear c d → IsHalfYear a b
half_year-along a b c d e f h = rw (e, f) h

-- the last so many dates of a series, in order
unfoldable pub last_dates : ℤ → StepRule → ℕ → List ℤ
last_dates maturity r zero = []
last_dates maturity r (suc k) = half_back_of maturity k r ∷ last_dates maturity r k

pub series_from-last : (maturity : ℤ) (r : StepRule) (k : ℕ) → series_from maturity r k ≡ last_dates maturity r (suc k)
unfolding series_from last_dates
series_from-last maturity r zero = refl
series_from-last maturity r (suc k) =
    let more : k + 1 ≡ suc k = omega arith in
    rw more (ap (λ dates. half_back_of maturity (suc k) r ∷ dates) (series_from-last maturity r k))

pub last_dates-more : (maturity : ℤ) (r : StepRule) (n m : ℕ) → m ≡ n + 1 → half_back_of maturity n r ∷ last_dates maturity r n ≡ last_dates maturity r m
unfolding last_dates
last_dates-more maturity r n m e = let more : m ≡ suc n = omega arith in rw more refl

pub length-last_dates : (maturity : ℤ) (r : StepRule) (n : ℕ) → length (last_dates maturity r n) ≡ n
unfolding last_dates
length-last_dates maturity r zero = refl
length-last_dates maturity r (suc k) = omega (arith, length-last_dates maturity r k)

-- what holds of each of them
pub last_dates-all : (P : ℤ → Type 0) (maturity : ℤ) (r : StepRule) (n : ℕ) → ((j : ℕ) → j < n → P (half_back_of maturity j r)) → All P (last_dates maturity r n)
unfolding last_dates
last_dates-all P maturity r zero each = All-nil P
last_dates-all P maturity r (suc k) each =
    All-cons P (half_back_of maturity k r) (last_dates maturity r k) (each k (omega arith)) (last_dates-all P maturity r k (λ j less. each j (omega arith)))

-- they rise
pub last_dates-rise : (maturity : ℤ) (r : StepRule) (n : ℕ) → IsBaseDay maturity → n ≤ 85 → AllPairs (λ a b. a <ℤ b) (last_dates maturity r n)
unfolding last_dates
last_dates-rise maturity r zero h few = λ i j d lt within. absurd (omega arith)
last_dates-rise maturity r (suc k) h few =
    AllPairs-cons (λ a b. a <ℤ b) (half_back_of maturity k r) (last_dates maturity r k)
    (last_dates-all (λ date. half_back_of maturity k r <ℤ date) maturity r k (λ j less. half_back_of-falls maturity r j k h less (omega arith)))
    (last_dates-rise maturity r k h (omega arith))

-- the dates before maturity
unfoldable pub dates_before : ℤ → StepRule → ℕ → List ℤ
dates_before maturity r zero = []
dates_before maturity r (suc k) = half_back_of maturity (suc k) r ∷ dates_before maturity r k

last_dates-last_of : (maturity : ℤ) (r : StepRule) (k : ℕ) → IsBaseDay maturity → last_dates maturity r (suc k) ≡ dates_before maturity r k ++ maturity ∷ []
unfolding last_dates dates_before
last_dates-last_of maturity r zero h = ap (λ d. d ∷ []) (half_back_of-zero maturity r h)
last_dates-last_of maturity r (suc k) h = ap (λ ds. half_back_of maturity (suc k) r ∷ ds) (last_dates-last_of maturity r k h)

pub last_dates-last : (maturity : ℤ) (r : StepRule) (n : ℕ) → IsBaseDay maturity → 0 < n → last_dates maturity r n ≡ dates_before maturity r (n - 1) ++ maturity ∷ []
last_dates-last maturity r n h some =
    let more : n ≡ suc (n - 1) = omega arith in
    ap (last_dates maturity r) more ∙ last_dates-last_of maturity r (n - 1) h

cons_cond : (t : Bool) (d : ℤ) (ds es : List ℤ) → t ≡ true → ds ≡ es → cond t (d ∷ ds) ds ≡ d ∷ es
cons_cond t d ds es e f = rw (e, f) refl

skip_cond : (t : Bool) (d : ℤ) (ds es : List ℤ) → t ≡ false → ds ≡ es → cond t (d ∷ ds) ds ≡ es
skip_cond t d ds es e f = rw (e, f) refl

-- a test that the last n dates of a series meet, and no date before them, keeps those
pub filter-dates : (test : ℤ → Bool) (maturity : ℤ) (r : StepRule) (n m : ℕ) → n ≤ m → ((j : ℕ) → j < n → test (half_back_of maturity j r) ≡ true)
    → ((j : ℕ) → n ≤ j → j < m → test (half_back_of maturity j r) ≡ false) → filter test (last_dates maturity r m) ≡ last_dates maturity r n
unfolding last_dates
filter-dates test maturity r n zero le kept dropped = let none : n ≡ 0 = omega arith in rw none refl
filter-dates test maturity r n (suc k) le kept dropped =
    elim (cases_lt n (suc k)) [
      | inl more ↦
          skip_cond (test (half_back_of maturity k r)) _ _ _ (dropped k (omega arith) (omega arith))
          (filter-dates test maturity r n k (omega arith) kept (λ j from less. dropped j from (omega arith)))
      | inr same ↦
          let e : n ≡ suc k = omega arith in
          cons_cond (test (half_back_of maturity k r)) _ _ _ (kept k (omega arith))
          (filter-dates test maturity r k k (omega arith) (λ j less. kept j (omega arith)) (λ j from less. absurd (omega arith)))
          ∙ sym (ap (last_dates maturity r) e)
    ]

-- what is left of a list that was filled with its items in the other order
pub refill-reverse : (n : ℕ) (xs ys : List ℤ) → n ≡ length xs → ys ≡ reverse xs → take n (ys ++ drop (length ys) xs) ≡ reverse xs
refill-reverse n xs ys e f =
    let long : length ys ≡ n = ap length f ∙ (length-reverse xs ∙ sym e) in
    let le : n ≤ length ys = omega arith in
    rw take-append-le (take_all n ys (omega arith) ∙ f)
