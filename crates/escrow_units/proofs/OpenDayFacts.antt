-- The open day of a day: there is exactly one.
use Rattle.std.proofs.Common.{◌⊎◌, get_or, ◌≡◌, ℕ, zero, suc, ◌+◌, ◌-◌, ◌*◌, ◌<◌, ◌≤◌, refl, sym, arith, inl, inr, Bool, true, false, ◌&&◌, if◌then◌else◌, nat_le, List, [], ◌∷◌, length, ℤ, pos, ◌+ℤ◌, ◌≤ℤ◌, ◌<ℤ◌, int_le}
use Rattle.std.specs.Prelude.{All}
use Rattle.std.specs.List.{list_any}
use Rattle.std.specs.Ordering.{int_eq}
use Rattle.std.proofs.lemmas.Int.{ints}
use Rattle.std.proofs.lemmas.Bool.{and_parts, and_right, both_ways, cases_eq, cases_lt, le-leb, leb-true, lt-leb, or_cases, or_from}
use Rattle.std.proofs.lemmas.List.Folds.{list_any_none}
use Rattle.jiff_core.specs.Calendar.{weekday_number}
use Rattle.jiff_core.proofs.CalendarLemmas.{weekday_number-add, weekday_number_bound}
use Rattle.jiff_core.proofs.SignedLemmas.{signed_arith}
use Rattle.escrow_units.specs.OpenDays.{Closings, no_closings, is_weekend, is_closed, first_open, open_day, IsOpenDay}
use Rattle.escrow_units.proofs.FlowFacts.{cases_int_le, days_between_of-whole, int_le-not, int_le-test}
use Rattle.escrow_units.specs.Series.{days_between_of}

abbrev one-or-none : Bool → ℕ
one-or-none true = 1
one-or-none false = 0

-- how many days of a list are not before a day
abbrev count-from : List ℤ → ℤ → ℕ
count-from [] day = 0
count-from (x ∷ xs) day = one-or-none (int_le day x) + count-from xs day

test-fewer : (s t : Bool) → (s ≡ true → t ≡ true) → one-or-none s ≤ one-or-none t
test-fewer true true h = omega arith
test-fewer true false h = let no : false ≡ true = h refl in cc
test-fewer false t h = omega arith

count-fewer : (xs : List ℤ) (day : ℤ) → count-from xs (day +ℤ pos 1) ≤ count-from xs day
count-fewer [] day = omega arith
count-fewer (x ∷ xs) day =
    join _ _ _ _ (test-fewer (int_le (day +ℤ pos 1) x) (int_le day x) (λ e. later e)) (count-fewer xs day)
  where
    later : int_le (day +ℤ pos 1) x ≡ true → int_le day x ≡ true
    later e = grind (arith, ints)

    join : (a b c d : ℕ) → a ≤ b → c ≤ d → a + c ≤ b + d
    join a b c d p q = omega arith

-- a day that is found is no longer counted from the next day on
same-day : (a b : ℤ) → int_eq a b ≡ true → a ≡ b
same-day a b e = grind (arith, ints)

count-found : (xs : List ℤ) (day : ℤ) → list_any (int_eq day) xs ≡ true → count-from xs (day +ℤ pos 1) < count-from xs day
count-found [] day e = cc
count-found (x ∷ xs) day e = at (int_eq day x) refl (λ rest. count-found xs day rest)
  where
    here : int_eq day x ≡ true → one-or-none (int_le (day +ℤ pos 1) x) + 1 ≤ one-or-none (int_le day x)
    here is =
        let same = same-day day x is in
        rw (int_le-not (day +ℤ pos 1) x (omega (arith, signed_arith, same)), int_le-test day x (omega (arith, signed_arith, same))) (omega arith)

    fewer : one-or-none (int_le (day +ℤ pos 1) x) ≤ one-or-none (int_le day x)
    fewer = test-fewer (int_le (day +ℤ pos 1) x) (int_le day x) (λ f. grind (arith, ints))

    at : (t : Bool) → int_eq day x ≡ t → (list_any (int_eq day) xs ≡ true → count-from xs (day +ℤ pos 1) < count-from xs day)
        → count-from (x ∷ xs) (day +ℤ pos 1) < count-from (x ∷ xs) day
    at true is later = omega (arith, here is, count-fewer xs day)
    at false is later = omega (arith, fewer, later (rw is at e))

count-most : (xs : List ℤ) (day : ℤ) → count-from xs day ≤ length xs
count-most [] day = omega arith
count-most (x ∷ xs) day = omega (arith, most (int_le day x), count-most xs day)
  where
    most : (t : Bool) → one-or-none t ≤ 1
    most true = omega arith
    most false = omega arith

-- how many days of the weekend are left, from a weekday on, which is counted from Monday
abbrev weekend-left : ℕ → ℕ
weekend-left weekday = if nat_le 5 weekday then 7 - weekday else 0

-- no more than so many days from a day on are closed
abbrev closed-at-most : Closings → ℤ → ℕ
closed-at-most closed day = 3 * count-from closed.days day + weekend-left (weekday_number day)

-- what a closed day is
record IsCause (closed : Closings) (day : ℤ) : Type 0 where
  cause : (5 ≤ weekday_number day) ⊎ (list_any (int_eq day) closed.days ≡ true)

closed-by : (closed : Closings) (day : ℤ) → is_closed closed day ≡ true → IsCause closed day
closed-by closed day e =
    elim (or_cases (closed.weekends && is_weekend day) (list_any (int_eq day) closed.days) e) [
      | inl weekend ↦ record { cause = inl (leb-true 5 (weekday_number day) (and_parts closed.weekends (is_weekend day) weekend).1) }
      | inr listed ↦ record { cause = inr listed }
    ]

left-most : (weekday : ℕ) → weekend-left weekday ≤ 2
left-most weekday = at (nat_le 5 weekday) refl
  where
    at : (t : Bool) → nat_le 5 weekday ≡ t → (if t then 7 - weekday else 0) ≤ 2
    at true e = let more = leb-true 5 weekday e in omega arith
    at false e = omega arith

left-weekend : (weekday : ℕ) → 5 ≤ weekday → weekend-left weekday ≡ 7 - weekday
left-weekend weekday h = rw (le-leb 5 weekday h) refl

left-week : (weekday : ℕ) → weekday < 5 → weekend-left weekday ≡ 0
left-week weekday h = rw (lt-leb 5 weekday h) refl

left-next : (day : ℤ) → 5 ≤ weekday_number day → weekend-left (weekday_number (day +ℤ pos 1)) < weekend-left (weekday_number day)
left-next day late =
    let bound = weekday_number_bound day in
    let moved = weekday_number-add day (day +ℤ pos 1) 1 refl in
    elim (cases_eq (weekday_number day) 5) [
      | inl saturday ↦
          let next : weekday_number (day +ℤ pos 1) ≡ 6 = omega arith in
          omega (arith, left-weekend (weekday_number day) late, left-weekend (weekday_number (day +ℤ pos 1)) (omega arith))
      | inr other ↦
          let next : weekday_number (day +ℤ pos 1) ≡ 0 = omega arith in
          omega (arith, left-weekend (weekday_number day) late, left-week (weekday_number (day +ℤ pos 1)) (omega arith))
    ]

-- after a closed day there are fewer
closed-fewer : (closed : Closings) (day : ℤ) → is_closed closed day ≡ true → closed-at-most closed (day +ℤ pos 1) < closed-at-most closed day
closed-fewer closed day e =
    elim (closed-by closed day e).cause [
      | inl weekend ↦ omega (arith, count-fewer closed.days day, left-next day weekend)
      | inr listed ↦ omega (arith, count-found closed.days day listed, left-most (weekday_number (day +ℤ pos 1)))
    ]

-- the day is closed, or is open
first-at : (closed : Closings) (most : ℕ) (day : ℤ) → is_closed closed day ≡ false → first_open closed most day ≡ day
unfolding first_open
first-at closed zero day e = refl
first-at closed (suc most) day e = rw e refl

first-next : (closed : Closings) (most : ℕ) (day : ℤ) → is_closed closed day ≡ true → first_open closed (suc most) day ≡ first_open closed most (day +ℤ pos 1)
unfolding first_open
first-next closed most day e = rw e refl

pub open-at : (closed : Closings) (day : ℤ) → is_closed closed day ≡ false → IsOpenDay closed day day
open-at closed day e = record { from = omega (arith, signed_arith); is_open = e; least = λ other from is. from }

-- what is the open day of the day after a closed one is that one's
pub open-past : (closed : Closings) (day receipt : ℤ) → is_closed closed day ≡ true → IsOpenDay closed (day +ℤ pos 1) receipt → IsOpenDay closed day receipt
open-past closed day receipt e h = record {
  from = omega (arith, signed_arith, h.from);
  is_open = h.is_open;
  least = λ other from is. elim (cases_int_le other day) [
    | inl by ↦ let same : other ≡ day = omega (arith, signed_arith) in absurd (both_ways _ (rw same at is) e)
    | inr later ↦ h.least other (omega (arith, signed_arith, later)) is
  ];
}

first-is-open : (closed : Closings) (most : ℕ) (day : ℤ) → closed-at-most closed day ≤ most → IsOpenDay closed day (first_open closed most day)
first-is-open closed zero day few = at (is_closed closed day) refl
  where
    at : (t : Bool) → is_closed closed day ≡ t → IsOpenDay closed day (first_open closed zero day)
    at true e = absurd (omega (arith, few, closed-fewer closed day e))
    at false e = rw (first-at closed zero day e) (open-at closed day e)
first-is-open closed (suc most) day few = at (is_closed closed day) refl (λ fewer. first-is-open closed most (day +ℤ pos 1) fewer)
  where
    at : (t : Bool) → is_closed closed day ≡ t
        → (closed-at-most closed (day +ℤ pos 1) ≤ most → IsOpenDay closed (day +ℤ pos 1) (first_open closed most (day +ℤ pos 1)))
        → IsOpenDay closed day (first_open closed (suc most) day)
    at true e next = rw (first-next closed most day e) (open-past closed day _ e (next (omega (arith, few, closed-fewer closed day e))))
    at false e next = rw (first-at closed (suc most) day e) (open-at closed day e)

pub open_day-least : (closed : Closings) (day : ℤ) → IsOpenDay closed day (open_day closed day)
open_day-least closed day =
    first-is-open closed (3 * length closed.days + 2) day (omega (arith, count-most closed.days day, left-most (weekday_number day)))

pub open_day-unique : (closed : Closings) (day receipt other : ℤ) → IsOpenDay closed day receipt → IsOpenDay closed day other → receipt ≡ other
open_day-unique closed day receipt other p q =
    omega (arith, signed_arith, p.least other q.from q.is_open, q.least receipt p.from p.is_open)

pub open_day-stays : (closed : Closings) (day : ℤ) → is_closed closed day ≡ false → open_day closed day ≡ day
open_day-stays closed day e = first-at closed _ day e

pub none-is-moved : (day : ℤ) → open_day no_closings day ≡ day
none-is-moved day = open_day-stays no_closings day refl

pub open_day-order : (closed : Closings) (a b : ℤ) → a ≤ℤ b → open_day closed a ≤ℤ open_day closed b
open_day-order closed a b le =
    let p = open_day-least closed a in
    let q = open_day-least closed b in
    p.least (open_day closed b) (omega (arith, signed_arith, le, q.from)) q.is_open

not-listed : (days : List ℤ) (last day : ℤ) → All (λ other. other ≤ℤ last) days → last <ℤ day → list_any (int_eq day) days ≡ false
not-listed days last day by late =
    list_any_none (int_eq day) days (λ k d lt. other-day day (get_or days k d) (omega (arith, signed_arith, by k d lt, late)))
  where
    other-day : (a b : ℤ) → b <ℤ a → int_eq a b ≡ false
    other-day a b less = grind (arith, ints)

-- after the last day of the list weekends alone are closed
open-weekday : (closed : Closings) (last day : ℤ) → All (λ other. other ≤ℤ last) closed.days → last <ℤ day → weekday_number day < 5 → is_closed closed day ≡ false
open-weekday closed last day by late early =
    or_from (closed.weekends && is_weekend day) (list_any (int_eq day) closed.days)
    (and_right closed.weekends (is_weekend day) (lt-leb 5 (weekday_number day) early)) (not-listed closed.days last day by late)

pub open_day-near : (closed : Closings) (day last : ℤ) → All (λ other. other ≤ℤ last) closed.days → day ≤ℤ last → open_day closed day ≤ℤ (last +ℤ pos 3)
open_day-near closed day last by le =
    let p = open_day-least closed day in
    let bound = weekday_number_bound last in
    let first = weekday_number-add last (last +ℤ pos 1) 1 refl in
    let third = weekday_number-add last (last +ℤ pos 3) 3 refl in
    elim (cases_lt (weekday_number (last +ℤ pos 1)) 5) [
      | inl early ↦
          let by_then = p.least (last +ℤ pos 1) (omega (arith, signed_arith)) (open-weekday closed last (last +ℤ pos 1) by (omega (arith, signed_arith)) early) in
          omega (arith, signed_arith, by_then)
      | inr late ↦
          let by_then = p.least (last +ℤ pos 3) (omega (arith, signed_arith)) (open-weekday closed last (last +ℤ pos 3) by (omega (arith, signed_arith)) (omega arith)) in
          omega (arith, signed_arith, by_then)
    ]

-- what passes over closed days only
pub open-over : (closed : Closings) (day past receipt : ℤ) → day ≤ℤ past → ((other : ℤ) → day ≤ℤ other → other <ℤ past → is_closed closed other ≡ true)
    → IsOpenDay closed past receipt → IsOpenDay closed day receipt
open-over closed day past receipt le between h = record {
  from = omega (arith, signed_arith, le, h.from);
  is_open = h.is_open;
  least = λ other from is. elim (cases_int_le past other) [
    | inl later ↦ h.least other later is
    | inr sooner ↦ absurd (both_ways _ is (between other from sooner))
  ];
}

-- the Monday after a weekend, and the days up to it
pub monday-after : (day next : ℤ) → 5 ≤ weekday_number day → next ≡ day +ℤ pos (7 - weekday_number day) → weekday_number next ≡ 0
monday-after day next late e =
    omega (arith, weekday_number_bound day, weekday_number-add day next (7 - weekday_number day) e, late)

pub weekend-between : (day other : ℤ) → 5 ≤ weekday_number day → day ≤ℤ other → other <ℤ (day +ℤ pos (7 - weekday_number day)) → is_weekend other ≡ true
weekend-between day other late from before =
    let whole = days_between_of-whole day other from in
    let moved = weekday_number-add day other (days_between_of day other) (sym whole) in
    let bound = weekday_number_bound day in
    let few : days_between_of day other < 7 - weekday_number day = omega (arith, signed_arith, whole, before) in
    le-leb 5 (weekday_number other) (omega (arith, moved, bound, few, late))
