-- The test of permitted units, and the first line that fails it.
use Rattle.std.proofs.Common.{◌↔◌, cond, is_some, IsNone, nat_lt, Option, subst, ◌≡◌, ℕ, ◌+◌, ◌<◌, ◌≤◌, Bool, true, false, not, Some, None, List, [], ◌∷◌, length, get_or, refl, sym, ap, ◌∙◌, inl, inr, arith}
use Rattle.std.specs.List.{position, position_or_len, zip}
use Rattle.std.proofs.lemmas.Bool.{lt-ltb, le-ltb, cases_lt}
use Rattle.std.proofs.lemmas.Bool.Decides.{nat_tests}
use Rattle.std.proofs.lemmas.List.{get_or_default, get_or_read}
use Rattle.std.proofs.lemmas.List.Sums.{position_or_len_is, fails_before_first}
use Rattle.std.proofs.lemmas.Slice.Zip.{length-zip, get_or-zip}
use Rattle.offer_book.specs.declared.line.Line.{Line}
use Rattle.offer_book.specs.Book.{BookContents}
use Rattle.offer_book.specs.Portfolio.{IsPermittedUnits, IsPermitted, permits}
use Rattle.cash_table.specs.First.{first_unpermitted_of}

pub permitted_from_test : (line : Line) (units : ℕ) → permits line units ≡ true → IsPermittedUnits line units
permitted_from_test line units passes = grind (arith, nat_tests)

pub test_from_permitted : (line : Line) (units : ℕ) → IsPermittedUnits line units → permits line units ≡ true
test_from_permitted line units permitted = grind (arith, nat_tests)

pub position_at : {X : Type 0} (p : X → Bool) (xs : List X) (i : ℕ) (d : X) → i < length xs → ((k : ℕ) → k < i → p (get_or xs k d) ≡ false) → p (get_or xs i d) ≡ true → position p xs ≡ Some i
position_at p xs i d within before here =
    let at = position_or_len_is p xs i d (omega arith) before (λ _. here) in
    let test = lt-ltb i (length xs) within in
    rw (at, test) refl

pub position_none : {X : Type 0} (p : X → Bool) (xs : List X) → ((k : ℕ) (d : X) → k < length xs → p (get_or xs k d) ≡ false) → position p xs ≡ None
position_none p [] fails = refl
position_none p (x ∷ xs) fails =
    let at = position_or_len_is p (x ∷ xs) (length (x ∷ xs)) x (omega arith) (λ k h. fails k x h) (λ h. absurd (omega (arith, h))) in
    let test = le-ltb (length (x ∷ xs)) (length (x ∷ xs)) (omega arith) in
    rw (at, test) refl

abbrev FailsAt : Line × ℕ → Bool
FailsAt p = not (permits p.0 p.1)

-- each line before place i passes
abbrev pub PassBelow : List Line → List ℕ → ℕ → Type 0
PassBelow lines plan i = (k : ℕ) (d : Line) → k < i → permits (get_or lines k d) (get_or plan k 0) ≡ true

pub first_fails : (lines : List Line) (plan : List ℕ) (i : ℕ) (line : Line) → length plan ≡ length lines → i < length lines → line ≡ get_or lines i line → permits line (get_or plan i 0) ≡ false → PassBelow lines plan i → position (λ p. not (permits p.0 p.1)) (zip lines plan) ≡ Some i
first_fails lines plan i line same within at fails before =
    position_at FailsAt (zip lines plan) i (line, 0) (omega (arith, length-zip lines plan))
    (λ k h. ap FailsAt (get_or-zip lines plan k (line, 0) (omega arith) (omega arith)) ∙ ap not (before k line h))
    (ap FailsAt (get_or-zip lines plan i (line, 0) (omega arith) (omega arith)) ∙ ap (λ x. not (permits x (get_or plan i 0))) (sym at) ∙ ap not fails)

pub none_fails : (lines : List Line) (plan : List ℕ) → length plan ≡ length lines → PassBelow lines plan (length lines) → position (λ p. not (permits p.0 p.1)) (zip lines plan) ≡ None
none_fails lines plan same passes =
    position_none FailsAt (zip lines plan)
    (λ k d h.
    let within : k < length lines = omega (arith, length-zip lines plan) in
    let units = get_or_default plan k d.1 0 (omega arith) in
    ap FailsAt (get_or-zip lines plan k d within (omega arith)) ∙ ap (λ u. not (permits (get_or lines k d.0) u)) units ∙ ap not (passes k d.0 within))

pub permitted_from_tests : (book : BookContents) (plan : List ℕ) → length plan ≡ length book.lines → PassBelow book.lines plan (length book.lines) → IsPermitted book plan
permitted_from_tests book plan same passes = record {
  same_length = same;
  units = λ k d h.
      let within : k < length book.lines = omega (arith, length-zip book.lines plan) in
      let units = get_or_default plan k d.1 0 (omega arith) in
      let at = get_or-zip book.lines plan k d within (omega arith) in
      permitted_from_test (get_or (zip book.lines plan) k d).0 (get_or (zip book.lines plan) k d).1
      (ap (λ p. permits p.0 p.1) at ∙ ap (permits (get_or book.lines k d.0)) units ∙ passes k d.0 within);
}

-- a permitted portfolio passes at each line
pub passes_from_permitted : (book : BookContents) (plan : List ℕ) (i : ℕ) (line : Line) → IsPermitted book plan → i < length book.lines → line ≡ get_or book.lines i line → permits line (get_or plan i 0) ≡ true
passes_from_permitted book plan i line permitted within at =
    let same = permitted.same_length in
    let pair = get_or-zip book.lines plan i (line, 0) within (omega arith) in
    let here = permitted.units i (line, 0) (omega (arith, length-zip book.lines plan)) in
    ap (λ x. permits x (get_or plan i 0)) at ∙ sym (ap (λ p. permits p.0 p.1) pair) ∙ test_from_permitted (get_or (zip book.lines plan) i (line, 0)).0 (get_or (zip book.lines plan) i (line, 0)).1 here

pub pass_more : (lines : List Line) (plan : List ℕ) (i : ℕ) (line : Line) → i < length lines → line ≡ get_or lines i line → permits line (get_or plan i 0) ≡ true → PassBelow lines plan i → PassBelow lines plan (i + 1)
pass_more lines plan i line within at passes before = λ k d h.
    elim (cases_lt k i) [
      | inl less ↦ before k d less
      | inr more ↦ (let here : k ≡ i = omega arith in
          let read = get_or_read lines i line within at d in
          ap (λ n. permits (get_or lines n d) (get_or plan n 0)) here ∙ ap (λ x. permits x (get_or plan i 0)) (sym read) ∙ passes)
    ]

-- no element passes where none is found
pub position_fails : {X : Type 0} (p : X → Bool) (xs : List X) → position p xs ≡ None → (k : ℕ) (d : X) → k < length xs → p (get_or xs k d) ≡ false
position_fails p xs none k d within =
    fails_before_first p xs k d (at_end (nat_lt (position_or_len p xs) (length xs)) refl none)
  where
    at_end : (b : Bool) → nat_lt (position_or_len p xs) (length xs) ≡ b → cond b (Some (position_or_len p xs)) None ≡ None → k < position_or_len p xs
    at_end true test found = cc
    at_end false test found =
        let past : length xs ≤ position_or_len p xs = grind (arith, nat_tests) in
        omega arith

none_found : {X : Type 0} (found : Option X) → IsNone found → found ≡ None
none_found None h = refl
none_found (Some x) h = cc

passed_all : (book : BookContents) (plan : List ℕ) → length plan ≡ length book.lines → first_unpermitted_of book plan ≡ None → PassBelow book.lines plan (length book.lines)
passed_all book plan same none = λ k d within.
    let fails = position_fails FailsAt (zip book.lines plan) none k (d, 0) (omega (arith, length-zip book.lines plan)) in
    let pair = get_or-zip book.lines plan k (d, 0) within (omega arith) in
    not_false (permits (get_or book.lines k d) (get_or plan k 0)) (sym (ap FailsAt pair) ∙ fails)
  where
    not_false : (b : Bool) → not b ≡ false → b ≡ true
    not_false true h = refl
    not_false false h = cc

-- no line is the first that isn't permitted exactly where the portfolio is permitted
pub first_unpermitted_is : (book : BookContents) (plan : List ℕ) → length plan ≡ length book.lines → IsNone (first_unpermitted_of book plan) ↔ IsPermitted book plan
first_unpermitted_is book plan same = (
  (λ none. permitted_from_tests book plan same (passed_all book plan same (none_found (first_unpermitted_of book plan) none))),
  (λ permitted. ap is_some (none_fails book.lines plan same (λ k d within.
      let line = get_or book.lines k d in
      passes_from_permitted book plan k line permitted within (get_or_default book.lines k d line within)))),
)

pub found_none : (book : BookContents) (plan : List ℕ) (found : Option ℕ) → length plan ≡ length book.lines → found ≡ first_unpermitted_of book plan → IsNone found ↔ IsPermitted book plan
found_none book plan found same is =
    let P : Option ℕ → Type 0 = λ o. IsNone o ↔ IsPermitted book plan in
    subst P (sym is) (first_unpermitted_is book plan same)
