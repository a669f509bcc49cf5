-- One more day of a list, each of whose days is also in a set.
use Rattle.std.proofs.Common.{◌≡◌, ◌∙◌, refl, sym, Bool, true, false, ◌||◌, cond, List, [], ◌∷◌, ◌++◌, ℤ}
use Rattle.std.specs.BTreeSet.{BTreeSet, contains, IsEmpty, IsUnchanged, Updates}
use Rattle.std.specs.List.{list_any}
use Rattle.std.specs.Ordering.{int_cmp, int_eq}
use Rattle.std.proofs.lemmas.Bool.{cond-false, cond-true, or_from, or_left, or_right}
use Rattle.std.proofs.lemmas.Bool.Decides.{Decides-int_eq}
use Rattle.std.proofs.lemmas.List.Folds.{list_any-append}
use Rattle.issue_schedule.specs.DistinctDays.{IsSetOf}

same-back : (a b : ℤ) → int_eq a b ≡ true → int_eq b a ≡ true
same-back a b e = (Decides-int_eq b a).1 (sym ((Decides-int_eq a b).0 e))

other-back : (a b : ℤ) → int_eq a b ≡ false → int_eq b a ≡ false
other-back a b e = at (int_eq b a) refl
  where
    at : (t : Bool) → int_eq b a ≡ t → int_eq b a ≡ false
    at false f = f
    at true f = let back = same-back b a f in cc

or-none : (a b : Bool) → b ≡ false → (a || b) ≡ a
or-none true b e = refl
or-none false b e = e

pub set-push : (days : List ℤ) (m n : BTreeSet ℤ) (day : ℤ) → IsSetOf days m → Updates int_cmp m n day true → IsSetOf (days ++ day ∷ []) n
set-push days m n day set updates = λ q. updates.0 q ∙ (at q (int_eq day q) refl ∙ sym (list_any-append (int_eq q) days (day ∷ [])))
  where
    at : (q : ℤ) (t : Bool) → int_eq day q ≡ t → cond (int_eq day q) true (contains int_cmp m q) ≡ (list_any (int_eq q) days || list_any (int_eq q) (day ∷ []))
    at q true e =
        cond-true (int_eq day q) true (contains int_cmp m q) e
        ∙ sym (or_right (list_any (int_eq q) days) (list_any (int_eq q) (day ∷ [])) (or_left (int_eq q day) false (same-back day q e)))
    at q false e =
        cond-false (int_eq day q) true (contains int_cmp m q) e
        ∙ (set q ∙ sym (or-none (list_any (int_eq q) days) (list_any (int_eq q) (day ∷ [])) (or_from (int_eq q day) false (other-back day q e) refl)))

pub set-none : (m : BTreeSet ℤ) → IsEmpty m → IsSetOf [] m
set-none m empty = λ q. rw empty refl

pub set-unchanged : (days : List ℤ) (m n : BTreeSet ℤ) → IsSetOf days m → IsUnchanged m n → IsSetOf days n
set-unchanged days m n set same = λ q. rw same (set q)
