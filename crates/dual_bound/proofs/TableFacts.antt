-- The table of days, as days are put into it.
use Rattle.std.proofs.Common.{◌≡◌, ◌∙◌, ℕ, ◌<◌, ◌≤◌, ◌==◌, List, [], ◌∷◌, ◌++◌, All, get_or, length, refl, sym, ap, subst, arith, ℤ, pos, ◌+ℤ◌, Bool, true, false, if◌then◌else◌, Some, None, Result, Ok, Err, OnOk, length-append}
use Rattle.std.proofs.lemmas.Bool.Decides.{nat_tests}
use Rattle.std.proofs.lemmas.List.{get_or_append_left}
use Rattle.std.proofs.lemmas.List.Elements.{All-push}
use Rattle.std.proofs.Math.Seq.{get_or-append_seam}
use Rattle.escrow_units.specs.Flows.{index360_of}
use Rattle.fixed_powers.specs.DiscountPowers.{low, one}
use Rattle.offer_book.specs.Book.{BookContents}
use Rattle.dual_bound.specs.Columns.{Extends, IsDayTable, IsPricedDay}
use Rattle.dual_bound.specs.declared.day_table.DayTable.{DayTable}
use Rattle.dual_bound.specs.declared.worth.PricedDay.{PricedDay}

-- what follows where a call succeeds
pub on-ok : {X Y P Q : Type 0} (r : Result X Y) → OnOk r P → (P → Q) → OnOk r Q
on-ok (Ok x) p f = f p
on-ok (Err e) p f = p

pub on-ok-both : {X Y P Q S : Type 0} (r : Result X Y) → OnOk r P → OnOk r Q → (P → Q → S) → OnOk r S
on-ok-both (Ok x) p q f = f p q
on-ok-both (Err e) p q f = p

-- a day more
pub extended : (days : List PricedDay) (day : PricedDay) (more : List PricedDay) → more ≡ days ++ day ∷ [] → Extends days more
extended days day more is = (
  omega (arith, ap length is, length-append days (day ∷ [])),
  λ place d few. ap (λ xs. get_or xs place d) is ∙ get_or_append_left days (day ∷ []) d place few,
)

pub pushed : (n : ℕ) (book : BookContents) (old new : DayTable) (day : PricedDay) → IsDayTable n book old → day.power ≤ one → new.days.items ≡ old.days.items ++ day ∷ []
    → new.places.items ≡ old.places.items → IsDayTable n book new
pushed n book old new day h within is same = record {
  powers = subst (All (λ priced. priced.power ≤ one)) (sym is) (All-push (λ (p : PricedDay). p.power ≤ one) old.days.items day h.powers within);
  known = λ after place d e.
      let was = h.known after place d (ap (λ xs. get_or xs after None) (sym same) ∙ e) in
      let more = extended old.days.items day new.days.items is in
      (omega (arith, was.0, more.0), subst (IsPricedDay book (book.days.settle +ℤ pos after) (low n (index360_of book.days.settle (book.days.settle +ℤ pos after)))) (sym (more.1 place d was.0)) was.1);
}

-- the place of a day that is so many days after settlement is kept
pub kept : (n : ℕ) (book : BookContents) (old new : DayTable) (after place : ℕ) → IsDayTable n book old → new.days.items ≡ old.days.items
    → ((other : ℕ) → get_or new.places.items other None ≡ (if other == after then Some place else get_or old.places.items other None))
    → place < length old.days.items
    → ((d : PricedDay) → IsPricedDay book (book.days.settle +ℤ pos after) (low n (index360_of book.days.settle (book.days.settle +ℤ pos after))) (get_or old.days.items place d))
    → IsDayTable n book new
kept n book old new after place h same places there priced = record {
  powers = subst (All (λ p. p.power ≤ one)) (sym same) h.powers;
  known = λ other k d e. at other k d (other == after) refl (sym (places other) ∙ e);
}
  where
    moved : (other k : ℕ) (d : PricedDay) → (k < length old.days.items)
        × IsPricedDay book (book.days.settle +ℤ pos other) (low n (index360_of book.days.settle (book.days.settle +ℤ pos other))) (get_or old.days.items k d)
        → (k < length new.days.items) × IsPricedDay book (book.days.settle +ℤ pos other) (low n (index360_of book.days.settle (book.days.settle +ℤ pos other))) (get_or new.days.items k d)
    moved other k d h = (
      omega (arith, h.0, ap length same),
      subst (IsPricedDay book (book.days.settle +ℤ pos other) (low n (index360_of book.days.settle (book.days.settle +ℤ pos other)))) (ap (λ xs. get_or xs k d) (sym same)) h.1,
    )

    own : (other k : ℕ) (d : PricedDay) → other ≡ after → place ≡ k → (k < length old.days.items)
        × IsPricedDay book (book.days.settle +ℤ pos other) (low n (index360_of book.days.settle (book.days.settle +ℤ pos other))) (get_or old.days.items k d)
    own other k d o p = rw (o, ← p) (there, priced d)

    at : (other k : ℕ) (d : PricedDay) (t : Bool) → (other == after) ≡ t → (if t then Some place else get_or old.places.items other None) ≡ Some k
        → (k < length new.days.items) × IsPricedDay book (book.days.settle +ℤ pos other) (low n (index360_of book.days.settle (book.days.settle +ℤ pos other))) (get_or new.days.items k d)
    at other k d true test e = moved other k d (own other k d (grind (arith, nat_tests)) (cc))
    at other k d false test e = moved other k d (h.known other k d e)

-- a day that is there
pub known-day : (n : ℕ) (book : BookContents) (table : DayTable) (after place : ℕ) (day : ℤ) → IsDayTable n book table → book.days.settle +ℤ pos after ≡ day
    → get_or table.places.items after None ≡ Some place
    → (place < length table.days.items) × ((d : PricedDay) → IsPricedDay book day (low n (index360_of book.days.settle day)) (get_or table.days.items place d))
known-day n book table after place day h on e = (
  (h.known after place (record { need = 0; power = 0 }) e).0,
  λ d. subst (λ z. IsPricedDay book z (low n (index360_of book.days.settle z)) (get_or table.days.items place d)) on (h.known after place d e).1,
)

-- a day that is put
pub put-day : (n : ℕ) (book : BookContents) (old mid new : DayTable) (priced : PricedDay) (after place : ℕ) (day : ℤ) → IsDayTable n book old → book.days.settle +ℤ pos after ≡ day
    → IsPricedDay book day (low n (index360_of book.days.settle day)) priced → priced.power ≤ one → place ≡ length old.days.items
    → mid.days.items ≡ old.days.items ++ priced ∷ [] → mid.places.items ≡ old.places.items → new.days.items ≡ mid.days.items
    → ((other : ℕ) → get_or new.places.items other None ≡ (if other == after then Some place else get_or mid.places.items other None))
    → IsDayTable n book new
put-day n book old mid new priced after place day h on is within at days places same put =
    kept n book mid new after place (pushed n book old mid priced h within days places) same put
    (omega (arith, at, ap length days, length-append old.days.items (priced ∷ [])))
    (λ d. subst (λ z. IsPricedDay book z (low n (index360_of book.days.settle z)) (get_or mid.days.items place d)) (sym on) (subst (IsPricedDay book day (low n (index360_of book.days.settle day))) (sym (last d)) is))
  where
    last : (d : PricedDay) → get_or mid.days.items place d ≡ priced
    last d = (λ i. get_or (days i) (at i) d) ∙ get_or-append_seam old.days.items priced [] d
