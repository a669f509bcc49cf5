-- A column, as the payments of its line are put into it.
use Rattle.std.proofs.Common.{◌≡◌, ◌∙◌, ℕ, ◌+◌, ◌<◌, ◌≤◌, List, [], ◌∷◌, ◌++◌, All, cond, get_or, length, take, refl, sym, ap, subst, arith, ◌≤ℤ◌, Bool, true, false, length-append, append-nil}
use Rattle.std.specs.List.{AllZip, filter}
use Rattle.std.proofs.lemmas.List.{take_all}
use Rattle.std.proofs.lemmas.List.Elements.{All-filter, All-push, filter_more}
use Rattle.escrow_units.specs.Calendar.{years_after_of}
use Rattle.escrow_units.specs.SlgsTerms.{IsSettlement}
use Rattle.offer_book.specs.Book.{BookContents, IsLine}
use Rattle.offer_book.specs.Schedule.{kind_rate, schedule_of}
use Rattle.offer_book.specs.declared.line.Line.{Line}
use Rattle.offer_book.specs.declared.line.LineKind.{LineKind}
use Rattle.payment_schedule.specs.declared.schedule.ScheduledPayment.{ScheduledPayment}
use Rattle.dual_bound.specs.Columns.{Extends, HasHead, IsColumn, IsOther, IsPlace, IsSmallColumn, IsSmallOther, KeepsHead, is_other, is_regular, other_by, paying, pays_at}
use Rattle.dual_bound.specs.declared.column.Column.{Column}
use Rattle.dual_bound.specs.declared.column.OtherPayment.{OtherPayment}
use Rattle.dual_bound.specs.declared.worth.PricedDay.{PricedDay}
use Rattle.dual_bound.proofs.FormFacts.{schedule-within}
use Rattle.offer_book.specs.declared.payment_days.PaymentDays.{PaymentDays}

-- pairs, one more
pub zip-push : {A B : Type 0} (R : A → B → Type 0) (xs : List A) (ys : List B) (x : A) (y : B) → AllZip R xs ys → R x y → AllZip R (xs ++ x ∷ []) (ys ++ y ∷ [])
zip-push R [] [] x y h r = (r, tt)
zip-push R [] (z ∷ ys) x y h r = absurd h
zip-push R (z ∷ xs) [] x y h r = absurd h
zip-push R (a ∷ xs) (b ∷ ys) x y h r = (h.0, zip-push R xs ys x y h.1 r)

pub zip-weaker : {A B : Type 0} (R S : A → B → Type 0) (xs : List A) (ys : List B) → ((x : A) (y : B) → R x y → S x y) → AllZip R xs ys → AllZip S xs ys
zip-weaker R S [] [] f h = tt
zip-weaker R S [] (y ∷ ys) f h = absurd h
zip-weaker R S (x ∷ xs) [] f h = absurd h
zip-weaker R S (x ∷ xs) (y ∷ ys) f h = (f x y h.0, zip-weaker R S xs ys f h.1)

-- of those that pass a test, one more
pub shared-more : {A B : Type 0} (R : A → B → Type 0) (p : A → Bool) (xs : List A) (i : ℕ) (x : A) (ys : List B) (y : B) → i < length xs → x ≡ get_or xs i x
    → AllZip R (filter p (take i xs)) ys → R x y → AllZip R (filter p (take (i + 1) xs)) (ys ++ cond (p x) (y ∷ []) [])
shared-more R p xs i x ys y few is h r =
    subst (λ zs. AllZip R zs (ys ++ cond (p x) (y ∷ []) [])) (sym (filter_more p xs i x few ∙ ap (λ z. filter p (take i xs) ++ cond (p z) (z ∷ []) []) (sym is))) (at (p x))
  where
    at : (t : Bool) → AllZip R (filter p (take i xs) ++ cond t (x ∷ []) []) (ys ++ cond t (y ∷ []) [])
    at true = zip-push R (filter p (take i xs)) ys x y h r
    at false = subst (λ zs. AllZip R zs (ys ++ [])) (sym (append-nil (filter p (take i xs)))) (subst (AllZip R (filter p (take i xs))) (sym (append-nil ys)) h)

-- days stay where they are
place-stays : (n : ℕ) (book : BookContents) (kind : LineKind) (days more : List PricedDay) → Extends days more → (payment : ScheduledPayment) (place : ℕ)
    → IsPlace n book kind days payment place → IsPlace n book kind more payment place
place-stays n book kind days more e payment place h = record {
  there = omega (arith, h.there, e.0);
  priced = λ d. rw (e.1 place d h.there) (h.priced d);
}

other-stays : (n : ℕ) (book : BookContents) (line : Line) (days more : List PricedDay) → Extends days more → (payment : ScheduledPayment) (other : OtherPayment)
    → IsOther n book line days payment other → IsOther n book line more payment other
other-stays n book line days more e payment other h = record {
  same = h.same;
  coefficients = h.coefficients;
  place = place-stays n book line.kind days more e payment other.place h.place;
}

pub column-stays : (n : ℕ) (book : BookContents) (days more : List PricedDay) → Extends days more → (line : Line) (column : Column) → IsColumn n book days line column → IsColumn n book more line column
column-stays n book days more e line column h = record {
  costs = h.costs;
  accrued = h.accrued;
  regular = h.regular;
  places = zip-weaker (IsPlace n book line.kind days) (IsPlace n book line.kind more) (filter is_regular (paying book.days line)) column.places.items (place-stays n book line.kind days more e) h.places;
  others = zip-weaker (IsOther n book line days) (IsOther n book line more) (filter is_other (paying book.days line)) column.others.items (other-stays n book line days more e) h.others;
}

pub extends-same : (days : List PricedDay) → Extends days days
extends-same days = (omega arith, λ place d few. refl)

pub extends-on : (first second third : List PricedDay) → Extends first second → Extends second third → Extends first third
extends-on first second third a b = (omega (arith, a.0, b.0), λ place d few. b.1 place d (omega (arith, few, a.0)) ∙ a.1 place d few)

-- a column so far
pub record IsSoFar (n : ℕ) (book : BookContents) (days : List PricedDay) (line : Line) (schedule : List ScheduledPayment) (i : ℕ) (column : Column) : Type 0 where
  pub places : AllZip (IsPlace n book line.kind days) (filter is_regular (take i schedule)) column.places.items
  pub others : AllZip (IsOther n book line days) (filter is_other (take i schedule)) column.others.items
  pub small : All IsSmallOther column.others.items
  pub few : length column.places.items ≤ i
  pub few_others : length column.others.items ≤ i

cond-short : {A : Type 0} (t : Bool) (x : A) → length (cond t (x ∷ []) []) ≤ 1
cond-short true x = omega arith
cond-short false x = omega arith

cond-all : (P : OtherPayment → Type 0) (t : Bool) (xs : List OtherPayment) (x : OtherPayment) → All P xs → P x → All P (xs ++ cond t (x ∷ []) [])
cond-all P true xs x h p = All-push P xs x h p
cond-all P false xs x h p = subst (All P) (sym (append-nil xs)) h

pub one-more : (n : ℕ) (book : BookContents) (days more : List PricedDay) (line : Line) (schedule : List ScheduledPayment) (i : ℕ) (payment : ScheduledPayment) (place : ℕ) (old new : Column)
    → i < length schedule → payment ≡ get_or schedule i payment → Extends days more → IsSoFar n book days line schedule i old → IsPlace n book line.kind more payment place
    → new.places.items ≡ old.places.items ++ cond (is_regular payment) (place ∷ []) []
    → new.others.items ≡ old.others.items ++ cond (is_other payment) (other_by line payment place ∷ []) []
    → IsSmallOther (other_by line payment place)
    → IsSoFar n book more line schedule (i + 1) new
one-more n book days more line schedule i payment place old new few is e h at places others small = record {
  places = subst (AllZip (IsPlace n book line.kind more) (filter is_regular (take (i + 1) schedule))) (sym places)
      (shared-more (IsPlace n book line.kind more) is_regular schedule i payment old.places.items place few is
      (zip-weaker (IsPlace n book line.kind days) (IsPlace n book line.kind more) (filter is_regular (take i schedule)) old.places.items (place-stays n book line.kind days more e) h.places) at);
  others = subst (AllZip (IsOther n book line more) (filter is_other (take (i + 1) schedule))) (sym others)
      (shared-more (IsOther n book line more) is_other schedule i payment old.others.items (other_by line payment place) few is
      (zip-weaker (IsOther n book line days) (IsOther n book line more) (filter is_other (take i schedule)) old.others.items (other-stays n book line days more e) h.others)
      (record { same = refl; coefficients = refl; place = at }));
  small = subst (All IsSmallOther) (sym others) (cond-all IsSmallOther (is_other payment) old.others.items (other_by line payment place) h.small small);
  few = omega (arith, ap length places, length-append old.places.items (cond (is_regular payment) (place ∷ []) []), cond-short (is_regular payment) place, h.few);
  few_others = omega (arith, ap length others, length-append old.others.items (cond (is_other payment) (other_by line payment place ∷ []) []), cond-short (is_other payment) (other_by line payment place), h.few_others);
}

-- the payments of a line that pay fall within forty years
pub paying-within : (days : PaymentDays) (line : Line) → IsSettlement days.settle → IsLine days line → All (λ payment. (days.settle ≤ℤ payment.day) × (payment.day ≤ℤ years_after_of days.settle 40)) (paying days line)
paying-within days line h is =
    All-filter (pays_at (kind_rate line.kind)) (λ payment. (days.settle ≤ℤ payment.day) × (payment.day ≤ℤ years_after_of days.settle 40)) (schedule_of days line) (schedule-within days line h is)

-- all that a column has, and its size
pub made : (n : ℕ) (book : BookContents) (days : List PricedDay) (line : Line) (schedule : List ScheduledPayment) (i : ℕ) (start column : Column) → schedule ≡ paying book.days line
    → length schedule ≤ i → HasHead book.days.settle line start → KeepsHead start column → IsSoFar n book days line schedule i column → IsColumn n book days line column
made n book days line schedule i start column is all head keeps h = record {
  costs = head.costs ∙ (λ j. record { low = sym keeps.cost_low j; high = sym keeps.cost_high j; slack = sym keeps.cost_slack j });
  accrued = keeps.accrued ∙ head.accrued;
  regular = keeps.regular ∙ head.regular;
  places = subst (λ xs. AllZip (IsPlace n book line.kind days) (filter is_regular xs) column.places.items) (take_all i schedule all ∙ is) h.places;
  others = subst (λ xs. AllZip (IsOther n book line days) (filter is_other xs) column.others.items) (take_all i schedule all ∙ is) h.others;
}

pub made-small : (n : ℕ) (book : BookContents) (days : List PricedDay) (line : Line) (schedule : List ScheduledPayment) (i : ℕ) (start column : Column)
    → i ≤ 84 → HasHead book.days.settle line start → KeepsHead start column → IsSoFar n book days line schedule i column → IsSmallColumn column
made-small n book days line schedule i start column few head keeps h = record {
  head = record {
    cost_low = omega (arith, keeps.cost_low, head.small.cost_low);
    cost_high = omega (arith, keeps.cost_high, head.small.cost_high);
    cost_slack = omega (arith, keeps.cost_slack, head.small.cost_slack);
    accrued = rw keeps.accrued head.small.accrued;
    regular = rw keeps.regular head.small.regular;
  };
  others = h.small;
  few = omega (arith, h.few, few);
  few_others = omega (arith, h.few_others, few);
}

pub keeps-same : (column : Column) → KeepsHead column column
keeps-same column = record { cost_low = refl; cost_high = refl; cost_slack = refl; accrued = refl; regular = refl }

pub keeps-on : (first second third : Column) → KeepsHead first second → KeepsHead second third → KeepsHead first third
keeps-on first second third a b = record {
  cost_low = b.cost_low ∙ a.cost_low;
  cost_high = b.cost_high ∙ a.cost_high;
  cost_slack = b.cost_slack ∙ a.cost_slack;
  accrued = b.accrued ∙ a.accrued;
  regular = b.regular ∙ a.regular;
}
