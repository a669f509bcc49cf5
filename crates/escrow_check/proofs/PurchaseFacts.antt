-- What buys buy: a permitted plan, which no other is.
use Rattle.std.proofs.Common.{◌≡◌, ◌≢◌, ◌∙◌, ◌⊎◌, ℕ, suc, zero, ◌+◌, ◌<◌, ◌≤◌, Bool, true, false, not, cond, nat_lt, Some, None, List, [], ◌∷◌, length, get_or, replicate, slice_set, refl, sym, ap, subst, inl, inr, arith, ext_get_or, AllPairs}
use Rattle.std.specs.Prelude.{All, slice_get}
use Rattle.std.specs.List.{fold}
use Rattle.std.proofs.lemmas.Bool.{and_parts, cases_lt, ltb-true, ltb-false, lt-ltb}
use Rattle.std.proofs.lemmas.Bool.Decides.{nat_tests}
use Rattle.std.proofs.lemmas.List.{get_or_default, get_or-set_same, get_or-set_other, get_or-replicate, length-set, length-replicate}
use Rattle.std.proofs.lemmas.List.Elements.{All-nil, All-cons, All-head, All-tail, All-weaker}
use Rattle.std.proofs.lemmas.Option.{get_or_from_slice_get, slice_get-get_or}
use Rattle.offer_book.specs.declared.line.Line.{Line}
use Rattle.offer_book.specs.Book.{BookContents}
use Rattle.offer_book.specs.CaseBook.{cash_line}
use Rattle.offer_book.specs.Portfolio.{IsPermitted, permits}
use Rattle.cash_table.proofs.PermitFacts.{PassBelow, passes_from_permitted, permitted_from_test, permitted_from_tests, test_from_permitted}
use Rattle.bound_certificate.specs.declared.certificate.Buy.{Buy}
use Rattle.escrow_check.specs.Acceptance.{is_offered, first_not_offered, plan_of}
use Rattle.escrow_check.specs.Meaning.{Bought, IsOffered}

-- 0 units of every line
pub zero_permitted : (book : BookContents) → IsPermitted book (replicate (length book.lines) 0)
zero_permitted book =
    permitted_from_tests book (replicate (length book.lines) 0) (length-replicate (length book.lines) 0)
    (λ k d h. ap (permits (get_or book.lines k d)) (get_or-replicate (length book.lines) k 0 0 h) ∙ refl)

put_passes : (book : BookContents) (plan : List ℕ) (line units : ℕ) → IsPermitted book plan → line < length book.lines → permits (get_or book.lines line (cash_line 0)) units ≡ true → PassBelow book.lines (slice_set plan line units) (length book.lines)
put_passes book plan line units permitted within passes = λ k d h.
    elim (cases_lt k line) [
      | inl less ↦ other k d h (λ e. absurd (omega (arith, e, less)))
      | inr more ↦ elim (cases_lt line k) [
        | inl less ↦ other k d h (λ e. absurd (omega (arith, e, less)))
        | inr same ↦ here k d (omega arith)
      ]
    ]
  where
    other : (k : ℕ) (d : Line) → k < length book.lines → k ≢ line → permits (get_or book.lines k d) (get_or (slice_set plan line units) k 0) ≡ true
    other k d h apart =
        ap (permits (get_or book.lines k d)) (get_or-set_other plan line k units 0 apart)
        ∙ passes_from_permitted book plan k (get_or book.lines k d) permitted h (get_or_default book.lines k d (get_or book.lines k d) h)

    here : (k : ℕ) (d : Line) → k ≡ line → permits (get_or book.lines k d) (get_or (slice_set plan line units) k 0) ≡ true
    here k d e =
        let same = permitted.same_length in
        ap (λ (n : ℕ). permits (get_or book.lines n d) (get_or (slice_set plan line units) n 0)) e
        ∙ ap (permits (get_or book.lines line d)) (get_or-set_same plan line units 0 (omega arith))
        ∙ ap (λ (l : Line). permits l units) (get_or_default book.lines line d (cash_line 0) within) ∙ passes

-- a buy that is offered, put in place
pub put_permitted : (book : BookContents) (plan : List ℕ) (buy : Buy) → IsPermitted book plan → is_offered book.lines buy ≡ true → IsPermitted book (slice_set plan buy.line buy.units)
put_permitted book plan buy permitted offered =
    let parts = and_parts (nat_lt buy.line (length book.lines)) (permits (get_or book.lines buy.line (cash_line 0)) buy.units) offered in
    let test = parts.0 in
    permitted_from_tests book (slice_set plan buy.line buy.units) (length-set plan buy.line buy.units ∙ permitted.same_length)
    (put_passes book plan buy.line buy.units permitted (grind (arith, nat_tests)) parts.1)

abbrev put : List ℕ → Buy → List ℕ
put plan buy = slice_set plan buy.line buy.units

puts_permitted : (book : BookContents) (plan : List ℕ) (buys : List Buy) → IsPermitted book plan → first_not_offered book.lines buys ≡ None → IsPermitted book (fold put plan buys)
puts_permitted book plan [] permitted none = permitted
puts_permitted book plan (buy ∷ buys) permitted none =
    by_test (is_offered book.lines buy) refl none (λ offered rest. puts_permitted book (put plan buy) buys (put_permitted book plan buy permitted offered) rest)
  where
    by_test : (b : Bool) → is_offered book.lines buy ≡ b → cond (not b) (Some buy) (first_not_offered book.lines buys) ≡ None → (is_offered book.lines buy ≡ true → first_not_offered book.lines buys ≡ None → IsPermitted book (fold put (put plan buy) buys)) → IsPermitted book (fold put (put plan buy) buys)
    by_test true offered none rest = rest offered none
    by_test false offered none rest = absurd (cc)

-- the portfolio of buys that are all offered
pub plan_permitted : (book : BookContents) (buys : List Buy) → first_not_offered book.lines buys ≡ None → IsPermitted book (plan_of book buys)
plan_permitted book buys none = puts_permitted book (replicate (length book.lines) 0) buys (zero_permitted book) none

-- the lines of buys rise, from this one on
abbrev pub RiseFrom : ℕ → List Buy → Type 0
RiseFrom from [] = Unit {0}
RiseFrom from (buy ∷ buys) = (from ≤ buy.line) × RiseFrom (buy.line + 1) buys

-- lines that rise in pairs rise one after another
pub rise-pairs : (buys : List Buy) → AllPairs (λ earlier later. earlier.line < later.line) buys → (from : ℕ) → All (λ buy. from ≤ buy.line) buys → RiseFrom from buys
rise-pairs [] pairs from least = tt
rise-pairs (buy ∷ buys) pairs from least = (
  All-head (λ (p : Buy). from ≤ p.line) buy buys least,
  rise-pairs buys (λ i j d less few. pairs (suc i) (suc j) d (omega arith) (omega arith)) (buy.line + 1)
      (λ k d few. (let later = pairs 0 (suc k) d (omega arith) (omega arith) in omega (arith, later))),
)

rise-above : (from : ℕ) (buys : List Buy) → RiseFrom from buys → All (λ buy. from ≤ buy.line) buys
rise-above from [] rises = All-nil (λ buy. from ≤ buy.line)
rise-above from (buy ∷ buys) rises =
    All-cons (λ p. from ≤ p.line) buy buys rises.0
    (All-weaker (λ (p : Buy). buy.line + 1 ≤ p.line) (λ (p : Buy). from ≤ p.line) (λ p above. omega (arith, above, rises.0)) buys (rise-above (buy.line + 1) buys rises.1))

-- the test of an offered buy
pub offered-from_test : (lines : List Line) (buy : Buy) → is_offered lines buy ≡ true → IsOffered lines buy
offered-from_test lines buy passes =
    let parts = and_parts (nat_lt buy.line (length lines)) (permits (get_or lines buy.line (cash_line 0)) buy.units) passes in
    let within = ltb-true buy.line (length lines) parts.0 in
    record {
      line = get_or lines buy.line (cash_line 0);
      on_offer = slice_get-get_or lines buy.line (cash_line 0) within;
      permitted = permitted_from_test (get_or lines buy.line (cash_line 0)) buy.units parts.1;
    }

within-lines : (lines : List Line) (i : ℕ) (line : Line) → slice_get lines i ≡ Some line → i < length lines
within-lines [] i line is = absurd (cc)
within-lines (first ∷ lines) zero line is = omega arith
within-lines (first ∷ lines) (suc i) line is = omega (arith, within-lines lines i line is)

pub test-from_offered : (lines : List Line) (buy : Buy) → IsOffered lines buy → is_offered lines buy ≡ true
test-from_offered lines buy offered =
    let within = lt-ltb buy.line (length lines) (within-lines lines buy.line offered.line offered.on_offer) in
    let at = get_or_from_slice_get lines buy.line offered.line (cash_line 0) offered.on_offer in
    rw (within, at) (test_from_permitted offered.line buy.units offered.permitted)

pub not-offered : (lines : List Line) (buy : Buy) → is_offered lines buy ≡ false → ¬ (IsOffered lines buy)
not-offered lines buy fails offered = let passes = test-from_offered lines buy offered in absurd (cc)

pub all-offered : (lines : List Line) (buys : List Buy) → All (λ buy. is_offered lines buy ≡ true) buys → All (IsOffered lines) buys
all-offered lines buys all = All-weaker (λ buy. is_offered lines buy ≡ true) (IsOffered lines) (λ buy passes. offered-from_test lines buy passes) buys all

-- no buy fails the test
pub none-fails : (lines : List Line) (buys : List Buy) → first_not_offered lines buys ≡ None → All (λ buy. is_offered lines buy ≡ true) buys
none-fails lines [] none = All-nil (λ buy. is_offered lines buy ≡ true)
none-fails lines (buy ∷ buys) none =
    by_test (is_offered lines buy) refl none (λ rest. none-fails lines buys rest)
  where
    by_test : (b : Bool) → is_offered lines buy ≡ b → cond (not b) (Some buy) (first_not_offered lines buys) ≡ None → (first_not_offered lines buys ≡ None → All (λ p. is_offered lines p ≡ true) buys) → All (λ p. is_offered lines p ≡ true) (buy ∷ buys)
    by_test true offered rest others = All-cons (λ p. is_offered lines p ≡ true) buy buys offered (others rest)
    by_test false offered rest others = absurd (cc)

pub none-found : (lines : List Line) (buys : List Buy) → All (IsOffered lines) buys → first_not_offered lines buys ≡ None
none-found lines [] all = refl
none-found lines (buy ∷ buys) all =
    let passes = test-from_offered lines buy (All-head (IsOffered lines) buy buys all) in
    rw passes (none-found lines buys (All-tail (IsOffered lines) buy buys all))

length-puts : (plan : List ℕ) (buys : List Buy) → length (fold put plan buys) ≡ length plan
length-puts plan [] = refl
length-puts plan (buy ∷ buys) = length-puts (put plan buy) buys ∙ length-set plan buy.line buy.units

-- a line that no buy names keeps its units
kept : (plan : List ℕ) (buys : List Buy) (k : ℕ) → All (λ buy. buy.line ≢ k) buys → get_or (fold put plan buys) k 0 ≡ get_or plan k 0
kept plan [] k others = refl
kept plan (buy ∷ buys) k others =
    let apart = All-head (λ (p : Buy). p.line ≢ k) buy buys others in
    kept (put plan buy) buys k (All-tail (λ (p : Buy). p.line ≢ k) buy buys others)
    ∙ get_or-set_other plan buy.line k buy.units 0 (λ same. apart (sym same))

-- and one that is named has the units of its buy
bought : (plan : List ℕ) (buys : List Buy) (from : ℕ) → RiseFrom from buys → All (λ buy. buy.line < length plan) buys
    → All (λ buy. slice_get (fold put plan buys) buy.line ≡ Some buy.units) buys
bought plan [] from rises within = All-nil (λ buy. slice_get plan buy.line ≡ Some buy.units)
bought plan (buy ∷ buys) from rises within =
    let here = All-head (λ (p : Buy). p.line < length plan) buy buys within in
    let later : All (λ (p : Buy). p.line ≢ buy.line) buys =
    All-weaker (λ (p : Buy). buy.line + 1 ≤ p.line) (λ (p : Buy). p.line ≢ buy.line) (λ p above same. absurd (omega (arith, above, same))) buys (rise-above (buy.line + 1) buys rises.1) in
    let units = kept (put plan buy) buys buy.line later ∙ get_or-set_same plan buy.line buy.units 0 here in
    let long = length-puts (put plan buy) buys ∙ length-set plan buy.line buy.units in
    All-cons (λ p. slice_get (fold put plan (buy ∷ buys)) p.line ≡ Some p.units) buy buys
    (slice_get-get_or (fold put (put plan buy) buys) buy.line 0 (omega (arith, here, long)) ∙ ap Some units)
    (bought (put plan buy) buys (buy.line + 1) rises.1
    (All-weaker (λ (p : Buy). p.line < length plan) (λ (p : Buy). p.line < length (put plan buy)) (λ p short. omega (arith, short, length-set plan buy.line buy.units)) buys
    (All-tail (λ (p : Buy). p.line < length plan) buy buys within)))

-- the plan of buys that are all offered, whose lines rise
pub plan-buys : (book : BookContents) (buys : List Buy) → RiseFrom 0 buys → first_not_offered book.lines buys ≡ None → Bought book buys (plan_of book buys)
plan-buys book buys rises none =
    let zeros = replicate (length book.lines) 0 in
    let offered = all-offered book.lines buys (none-fails book.lines buys none) in
    let long = length-puts zeros buys ∙ length-replicate {A = ℕ} (length book.lines) 0 in
    record {
      offered = offered;
      lines = long;
      bought = bought zeros buys 0 rises
          (All-weaker (IsOffered book.lines) (λ (p : Buy). p.line < length zeros)
          (λ p is. omega (arith, within-lines book.lines p.line is.line is.on_offer, length-replicate {A = ℕ} (length book.lines) 0)) buys offered);
      nothing_else = λ line within others.
          slice_get-get_or (plan_of book buys) line 0 within
          ∙ ap Some (kept zeros buys line others ∙ get_or-replicate (length book.lines) line 0 0 (omega (arith, within, long)));
    }

-- a buy names a line, or none does
record Names (line : ℕ) (buys : List Buy) : Type 0 where
  units : ℕ
  each : (plan : List ℕ) → All (λ buy. slice_get plan buy.line ≡ Some buy.units) buys → slice_get plan line ≡ Some units

named : (line : ℕ) (buys : List Buy) → All (λ buy. buy.line ≢ line) buys ⊎ Names line buys
named line [] = inl (All-nil (λ (p : Buy). p.line ≢ line))
named line (buy ∷ buys) = by_rest (named line buys)
  where
    there : buy.line ≡ line → Names line (buy ∷ buys)
    there same = record {
      units = buy.units;
      each = λ plan all. subst (λ k. slice_get plan k ≡ Some buy.units) same (All-head (λ (p : Buy). slice_get plan p.line ≡ Some p.units) buy buys all);
    }

    by_first : All (λ p. p.line ≢ line) buys → (test : Bool) → nat_lt buy.line line ≡ test → (other : Bool) → nat_lt line buy.line ≡ other → All (λ p. p.line ≢ line) (buy ∷ buys) ⊎ Names line (buy ∷ buys)
    by_first others true less other at =
        let lower = ltb-true buy.line line less in
        inl (All-cons (λ (p : Buy). p.line ≢ line) buy buys (λ same. absurd (omega (arith, lower, same))) others)
    by_first others false less true at =
        let higher = ltb-true line buy.line at in
        inl (All-cons (λ (p : Buy). p.line ≢ line) buy buys (λ same. absurd (omega (arith, higher, same))) others)
    by_first others false less false at =
        let upper = ltb-false buy.line line less in
        let lower = ltb-false line buy.line at in
        inr (there (omega (arith, upper, lower)))

    by_rest : All (λ p. p.line ≢ line) buys ⊎ Names line buys → All (λ p. p.line ≢ line) (buy ∷ buys) ⊎ Names line (buy ∷ buys)
    by_rest (inl others) = by_first others (nat_lt buy.line line) refl (nat_lt line buy.line) refl
    by_rest (inr found) = inr (record { units = found.units; each = λ plan all. found.each plan (All-tail (λ (p : Buy). slice_get plan p.line ≡ Some p.units) buy buys all) })

same-at : (book : BookContents) (buys : List Buy) (a b : List ℕ) (line : ℕ) → Bought book buys a → Bought book buys b → line < length a → slice_get a line ≡ slice_get b line
same-at book buys a b line first second within = by_name (named line buys)
  where
    by_name : All (λ p. p.line ≢ line) buys ⊎ Names line buys → slice_get a line ≡ slice_get b line
    by_name (inl others) = first.nothing_else line within others ∙ sym (second.nothing_else line (omega (arith, within, first.lines, second.lines)) others)
    by_name (inr found) = found.each a first.bought ∙ sym (found.each b second.bought)

-- no two plans buy the same
pub one-plan : (book : BookContents) (buys : List Buy) (a b : List ℕ) → Bought book buys a → Bought book buys b → a ≡ b
one-plan book buys a b first second =
    let long : length a ≡ length b = first.lines ∙ sym second.lines in
    ext_get_or 0 a b long (λ k short.
    let some : Some (get_or a k 0) ≡ Some (get_or b k 0) = sym (slice_get-get_or a k 0 short) ∙ same-at book buys a b k first second short ∙ slice_get-get_or b k 0 (omega (arith, short, long)) in
    cc)
