-- The table of open days: what is found in it, and how it is filled.
use Rattle.std.proofs.Common.{◌≡◌, ◌∙◌, ℕ, ◌+◌, ◌-◌, ◌<◌, ◌≤◌, refl, ap, subst, arith, inl, inr, Bool, true, false, ◌&&◌, List, ◌++◌, length, get_or, set, take, ℤ, pos, ◌+ℤ◌, ◌-ℤ◌, ◌≤ℤ◌, ◌<ℤ◌}
use Rattle.std.specs.Prelude.{IsSorted}
use Rattle.std.specs.List.{list_any}
use Rattle.std.specs.List.Sorted.{IsNonDecreasingBy, IsPartitionPoint}
use Rattle.std.specs.Ordering.{int_cmp, int_eq, is_lt, ordering_index}
use Rattle.std.specs.declared.cmp.Ordering.TheVariants.{Less, Greater}
use Rattle.std.proofs.lemmas.Bool.{cases_lt, or_from, or_left, or_right}
use Rattle.std.specs.Cmp.{int_ranks}
use Rattle.std.proofs.lemmas.Cmp.{int_cmp_total}
use Rattle.std.proofs.lemmas.Int.{ints}
use Rattle.std.proofs.lemmas.List.{get_or_default, get_or-set_other, get_or-set_same, take_all, take-append-le}
use Rattle.std.proofs.lemmas.List.Folds.{list_any_at, list_any_none}
use Rattle.std.proofs.lemmas.List.Sorted.{list_any-IsPermutation, ranks_by, searchable_from_sorted, sorted_far}
use Rattle.jiff_core.specs.Calendar.{weekday_number}
use Rattle.jiff_core.proofs.CalendarLemmas.{weekday_number_bound}
use Rattle.jiff_core.proofs.SignedLemmas.{signed_arith}
use Rattle.escrow_units.specs.OpenDays.{Closings, IsOpenDay, is_closed, is_weekend}
use Rattle.escrow_units.specs.OpenTable.{AreInOrder, OpenFrom}
use Rattle.escrow_units.proofs.FlowFacts.{cases_int_le}
use Rattle.escrow_units.proofs.OpenDayFacts.{open-at, open-over, open-past}

-- the first day past a weekend, by the weekday
pub past-is : (day next weekday : ℤ) → weekday ≡ pos (weekday_number day) → pos 5 ≤ℤ weekday → next ≡ (day +ℤ pos 7) -ℤ weekday
    → (5 ≤ weekday_number day) × (next ≡ day +ℤ pos (7 - weekday_number day))
past-is day next weekday is late e =
    let bound = weekday_number_bound day in
    let more : 5 ≤ weekday_number day = omega (arith, signed_arith, is, late) in
    (more, omega (arith, signed_arith, is, e, bound))

-- the days in order don't fall
rise-far : (ordered : List ℤ) (i j : ℕ) (d : ℤ) → IsSorted int_cmp ordered → i ≤ j → j < length ordered → get_or ordered i d ≤ℤ get_or ordered j d
rise-far ordered i j d rise le within =
    at (get_or ordered i d) (get_or ordered j d) (sorted_far (λ x y. is_lt (int_cmp x y)) (ranks_by int_cmp_total (λ (x : ℤ). x)) ordered rise i j d le within)
  where
    at : (a b : ℤ) → is_lt (int_cmp b a) ≡ false → a ≤ℤ b
    at a b e = elim (cases_int_le a b) [
      | inl le ↦ le
      | inr less ↦ let no : is_lt (int_cmp b a) ≡ true = grind (arith, ints) in cc
    ]

-- a day of the list is closed
equal-day : (a b : ℤ) → a ≡ b → int_eq a b ≡ true
equal-day a b e = grind (arith, ints)

listed : (closed : Closings) (ordered : List ℤ) (place : ℕ) (d day : ℤ) → AreInOrder closed ordered → place < length ordered
    → day ≡ get_or ordered place d → is_closed closed day ≡ true
listed closed ordered place d day order within at =
    or_right (closed.weekends && is_weekend day) (list_any (int_eq day) closed.days)
    (list_any-IsPermutation (int_eq day) closed.days ordered order.same
    ∙ list_any_at (int_eq day) ordered place d within (equal-day day (get_or ordered place d) at))

-- a day that is not among them is open, unless a weekend closes it
less-other : (a b : ℤ) → int_cmp b a ≡ Less → int_eq a b ≡ false
less-other a b e = let less : b <ℤ a = rw e at (int_ranks b a) in grind (arith, ints)

greater-other : (a b : ℤ) → int_cmp b a ≡ Greater → int_eq a b ≡ false
greater-other a b e = let less : a <ℤ b = rw e at (int_ranks b a) in grind (arith, ints)

pub not-among : (closed : Closings) (ordered : List ℤ) (day : ℤ) (place : ℕ) → AreInOrder closed ordered
    → (IsNonDecreasingBy (λ (y : ℤ). ordering_index (int_cmp y day)) ordered → IsPartitionPoint (λ (y : ℤ). int_cmp y day ≡ Less) (λ (y : ℤ). int_cmp y day ≡ Greater) ordered place)
    → list_any (int_eq day) closed.days ≡ false
not-among closed ordered day place order found =
    list_any-IsPermutation (int_eq day) closed.days ordered order.same
    ∙ list_any_none (int_eq day) ordered (λ k d within. each k d within)
  where
    around : IsPartitionPoint (λ (y : ℤ). int_cmp y day ≡ Less) (λ (y : ℤ). int_cmp y day ≡ Greater) ordered place
    around = found (searchable_from_sorted int_cmp_total (λ (x : ℤ). x) ordered day order.rise)

    each : (k : ℕ) (d : ℤ) → k < length ordered → int_eq day (get_or ordered k d) ≡ false
    each k d within = elim (cases_lt k place) [
      | inl before ↦ less-other day (get_or ordered k d) (around.0 k d (omega arith) before)
      | inr after ↦ greater-other day (get_or ordered k d) (around.1 k d after within)
    ]

-- the first day past a weekend, where a weekend closes all before it
pub record IsPast (weekends : Bool) (day past : ℤ) : Type 0 where
  pub from : day ≤ℤ past
  pub opens : (weekends && is_weekend past) ≡ false
  pub between : (other : ℤ) → day ≤ℤ other → other <ℤ past → (weekends && is_weekend other) ≡ true

weekend-closed : (closed : Closings) (weekends : Bool) (day past other : ℤ) → closed.weekends ≡ weekends → IsPast weekends day past
    → day ≤ℤ other → other <ℤ past → is_closed closed other ≡ true
weekend-closed closed weekends day past other e h from before =
    or_left (closed.weekends && is_weekend other) (list_any (int_eq other) closed.days)
    (rw e (h.between other from before))

-- a day that is found has its open day beside it
pub open-found : (closed : Closings) (weekends : Bool) (ordered opens : List ℤ) (day past e : ℤ) (place : ℕ) → closed.weekends ≡ weekends
    → AreInOrder closed ordered → OpenFrom closed ordered opens day → IsPast weekends day past → place < length ordered
    → get_or ordered place past ≡ past → IsOpenDay closed day (get_or opens place e)
open-found closed weekends ordered opens day past e place same order all h within at =
    open-over closed day past (get_or opens place e) h.from (λ other from before. weekend-closed closed weekends day past other same h from before)
    (rw at at (all place past e within (rw at h.from)))

-- and one that isn't found is its own
pub open-unlisted : (closed : Closings) (weekends : Bool) (day past : ℤ) → closed.weekends ≡ weekends → IsPast weekends day past
    → list_any (int_eq past) closed.days ≡ false → IsOpenDay closed day past
open-unlisted closed weekends day past same h none =
    open-over closed day past past h.from (λ other from before. weekend-closed closed weekends day past other same h from before)
    (open-at closed past (or_from (closed.weekends && is_weekend past) (list_any (int_eq past) closed.days) (rw same h.opens) none))

-- the open days of the days from a place on are known
abbrev pub KnownFrom : Closings → List ℤ → List ℤ → ℕ → Type 0
KnownFrom closed ordered opens place =
    (k : ℕ) (d e : ℤ) → place ≤ k → k < length ordered → IsOpenDay closed (get_or ordered k d) (get_or opens k e)

-- so are those of the days that come after a day before that place
known-after : (closed : Closings) (ordered opens : List ℤ) (place : ℕ) (d next : ℤ) → AreInOrder closed ordered → place < length ordered
    → next ≡ get_or ordered place d +ℤ pos 1 → KnownFrom closed ordered opens (place + 1) → OpenFrom closed ordered opens next
known-after closed ordered opens place d next order within at known = λ k a e inside from.
    elim (cases_lt place k) [
      | inl later ↦ known k a e (omega arith) inside
      | inr sooner ↦
          let far = rise-far ordered k place a order.rise sooner within in
          let same : get_or ordered place a ≡ get_or ordered place d = get_or_default ordered place a d within in
          absurd (omega (arith, signed_arith, far, from, at, same))
    ]

-- one place more is filled
pub put-more : (closed : Closings) (ordered opens : List ℤ) (place : ℕ) (d next receipt : ℤ) → AreInOrder closed ordered → place < length ordered
    → length opens ≡ length ordered → next ≡ get_or ordered place d +ℤ pos 1 → KnownFrom closed ordered opens (place + 1)
    → (OpenFrom closed ordered opens next → IsOpenDay closed next receipt) → KnownFrom closed ordered (set opens place receipt) place
put-more closed ordered opens place d next receipt order within count at known found = λ k a e from inside.
    elim (cases_lt place k) [
      | inl later ↦ rw (get_or-set_other opens place k receipt e (λ same. absurd (omega (arith, later, same)))) (known k a e (omega arith) inside)
      | inr here ↦
          let same : k ≡ place = omega arith in
          let day = get_or ordered place a in
          let opened = open-past closed day receipt (listed closed ordered place a day order within refl)
          (subst (λ (z : ℤ). IsOpenDay closed z receipt) (at ∙ ap (λ (z : ℤ). z +ℤ pos 1) (get_or_default ordered place d a within)) (found (known-after closed ordered opens place d next order within at known))) in
          rw same (rw (get_or-set_same opens place receipt e (omega (arith, within, count))) opened)
    ]

-- a list that was lent whole is given back whole
pub given-back : (n : ℕ) (xs ys : List ℤ) → length xs ≡ n → take n (xs ++ ys) ≡ xs
given-back n xs ys e = take-append-le n xs ys (omega arith) ∙ take_all n xs (omega arith)
