-- The purchases of a plan are what the plan buys.
use Rattle.std.proofs.Common.{◌≡◌, ◌≢◌, ◌∙◌, ℕ, suc, zero, ◌+◌, ◌-◌, ◌<◌, ◌≤◌, Bool, true, false, nat_lt, if◌then◌else◌, Some, List, [], ◌∷◌, length, get_or, refl, sym, ap, subst, arith, AllPairs}
use Rattle.std.specs.Prelude.{All, slice_get}
use Rattle.std.proofs.lemmas.Bool.{ltb-true, ltb-false}
use Rattle.std.proofs.lemmas.List.{get_or_default}
use Rattle.std.proofs.lemmas.List.Elements.{All-nil, All-cons, All-head, All-tail, All-weaker, All-get_or}
use Rattle.std.proofs.lemmas.List.Kept.{AllPairs-cons}
use Rattle.std.proofs.lemmas.Option.{slice_get-get_or}
use Rattle.bound_certificate.specs.declared.certificate.Buy.{Buy}
use Rattle.cash_table.proofs.PermitFacts.{passes_from_permitted, permitted_from_test}
use Rattle.offer_book.specs.Book.{BookContents, IsBook, IsLine}
use Rattle.offer_book.specs.CaseBook.{cash_line}
use Rattle.offer_book.specs.Portfolio.{IsPermitted, IsPermittedUnits}
use Rattle.bound_certificate.specs.Certificate.{AreBuys, IsBuy}
use Rattle.bound_certificate.specs.declared.limits.TheConstants.{MOST_PACKED_BUYS}
use Rattle.cash_table.proofs.CostFacts.{permitted_few}
use Rattle.cash_table.proofs.PaymentFacts.{count_lines}
use Rattle.dual_bound.proofs.Soundness.{all-lines}
use Rattle.offer_book.specs.declared.line.Line.{Line}
use Rattle.search_tree.proofs.EndFacts.{most-small}
use Rattle.escrow_check.proofs.PurchaseFacts.{none-found, one-plan, plan-buys, rise-pairs}
use Rattle.escrow_check.specs.Acceptance.{plan_of}
use Rattle.escrow_check.specs.Meaning.{Bought, IsOffered}
use Rattle.branch_search.specs.Purchases.{purchases_from, purchases_of}

-- a purchase is of a plan whose first line has a number
pub record IsOfPlan (line : ℕ) (plan : List ℕ) (buy : Buy) : Type 0 where
  pub from : line ≤ buy.line
  pub within : buy.line < line + length plan
  pub units : buy.units ≡ get_or plan (buy.line - line) 0
  pub some : 0 < buy.units

later : (line units : ℕ) (plan : List ℕ) (buy : Buy) → IsOfPlan (line + 1) plan buy → IsOfPlan line (units ∷ plan) buy
later line units plan buy is =
    let place : buy.line - line ≡ suc (buy.line - (line + 1)) = omega (arith, is.from) in
    record {
      from = omega (arith, is.from);
      within = omega (arith, is.within);
      units = is.units ∙ sym (ap (λ n. get_or (units ∷ plan) n 0) place);
      some = is.some;
    }

here : (line units : ℕ) (plan : List ℕ) → 0 < units → IsOfPlan line (units ∷ plan) (record { line = line; units = units })
here line units plan some =
    let place : line - line ≡ 0 = omega arith in
    record {
      from = omega arith;
      within = omega arith;
      units = sym (ap (λ n. get_or (units ∷ plan) n 0) place);
      some = some;
    }

-- each purchase is of the plan
pub all-of_plan : (line : ℕ) (plan : List ℕ) → All (IsOfPlan line plan) (purchases_from line plan)
all-of_plan line [] = All-nil (IsOfPlan line [])
all-of_plan line (units ∷ plan) =
    by (nat_lt 0 units) refl (All-weaker (IsOfPlan (line + 1) plan) (IsOfPlan line (units ∷ plan)) (later line units plan) (purchases_from (line + 1) plan) (all-of_plan (line + 1) plan))
  where
    rest : List Buy
    rest = purchases_from (line + 1) plan

    by : (test : Bool) → nat_lt 0 units ≡ test → All (IsOfPlan line (units ∷ plan)) rest
        → All (IsOfPlan line (units ∷ plan)) (if test then record { line = line; units = units } ∷ rest else rest)
    by true some others = All-cons (IsOfPlan line (units ∷ plan)) (record { line = line; units = units }) rest (here line units plan (ltb-true 0 units some)) others
    by false some others = others

-- they are no more than its lines
pub purchases-few : (line : ℕ) (plan : List ℕ) → length (purchases_from line plan) ≤ length plan
purchases-few line [] = omega arith
purchases-few line (units ∷ plan) = by (nat_lt 0 units) (purchases-few (line + 1) plan)
  where
    rest : List Buy
    rest = purchases_from (line + 1) plan

    by : (test : Bool) → length rest ≤ length plan → length (if test then record { line = line; units = units } ∷ rest else rest) ≤ length (units ∷ plan)
    by true few = omega (arith, few)
    by false few = omega (arith, few)

abbrev Rises : Buy → Buy → Type 0
Rises earlier later = earlier.line < later.line

-- their lines rise
pub purchases-rise : (line : ℕ) (plan : List ℕ) → AllPairs (λ earlier later. earlier.line < later.line) (purchases_from line plan)
purchases-rise line [] = λ i j d less few. absurd (omega (arith, less, few))
purchases-rise line (units ∷ plan) = by (nat_lt 0 units) (purchases-rise (line + 1) plan)
  where
    rest : List Buy
    rest = purchases_from (line + 1) plan

    first : Buy
    first = record { line = line; units = units }

    by : (test : Bool) → AllPairs Rises rest → AllPairs Rises (if test then first ∷ rest else rest)
    by true rising =
        AllPairs-cons Rises first rest
        (All-weaker (IsOfPlan (line + 1) plan) (Rises first) (λ buy is. omega (arith, is.from)) rest (all-of_plan (line + 1) plan)) rising
    by false rising = rising

-- a line that none names has 0 units
pub unnamed-none : (line : ℕ) (plan : List ℕ) (k : ℕ) → k < length plan → All (λ buy. buy.line ≢ line + k) (purchases_from line plan) → get_or plan k 0 ≡ 0
unnamed-none line [] k within others = absurd (omega (arith, within))
unnamed-none line (units ∷ plan) zero within others = by (nat_lt 0 units) refl others
  where
    rest : List Buy
    rest = purchases_from (line + 1) plan

    by : (test : Bool) → nat_lt 0 units ≡ test → All (λ buy. buy.line ≢ line + 0) (if test then record { line = line; units = units } ∷ rest else rest) → units ≡ 0
    by true some apart = absurd (All-head (λ (buy : Buy). buy.line ≢ line + 0) (record { line = line; units = units }) rest apart (omega arith))
    by false some apart = omega (arith, ltb-false 0 units some)
unnamed-none line (units ∷ plan) (suc k) within others =
    unnamed-none (line + 1) plan k (omega (arith, within))
    (All-weaker (λ (buy : Buy). buy.line ≢ line + suc k) (λ (buy : Buy). buy.line ≢ line + 1 + k) (λ buy apart same. apart (omega (arith, same))) rest (by (nat_lt 0 units) others))
  where
    rest : List Buy
    rest = purchases_from (line + 1) plan

    by : (test : Bool) → All (λ buy. buy.line ≢ line + suc k) (if test then record { line = line; units = units } ∷ rest else rest) → All (λ buy. buy.line ≢ line + suc k) rest
    by true all = All-tail (λ (buy : Buy). buy.line ≢ line + suc k) (record { line = line; units = units }) rest all
    by false all = all

-- ---- the purchases of a permitted plan
permitted-at : (book : BookContents) (plan : List ℕ) (k : ℕ) → IsPermitted book plan → k < length book.lines → IsPermittedUnits (get_or book.lines k (cash_line 0)) (get_or plan k 0)
permitted-at book plan k permitted within =
    permitted_from_test (get_or book.lines k (cash_line 0)) (get_or plan k 0) (passes_from_permitted book plan k (get_or book.lines k (cash_line 0)) permitted within (get_or_default book.lines k (cash_line 0) (get_or book.lines k (cash_line 0)) within))

units-at : (plan : List ℕ) (buy : Buy) → IsOfPlan 0 plan buy → buy.units ≡ get_or plan buy.line 0
units-at plan buy is =
    let place : buy.line - 0 ≡ buy.line = omega arith in
    is.units ∙ ap (λ n. get_or plan n 0) place

offered-at : (book : BookContents) (plan : List ℕ) → IsPermitted book plan → (buy : Buy) → IsOfPlan 0 plan buy → IsOffered book.lines buy
offered-at book plan permitted buy is =
    let within : buy.line < length book.lines = omega (arith, is.within, permitted.same_length) in
    record {
      line = get_or book.lines buy.line (cash_line 0);
      on_offer = slice_get-get_or book.lines buy.line (cash_line 0) within;
      permitted = subst (IsPermittedUnits (get_or book.lines buy.line (cash_line 0))) (sym (units-at plan buy is)) (permitted-at book plan buy.line permitted within);
    }

pub all-offered : (book : BookContents) (plan : List ℕ) → IsPermitted book plan → All (IsOffered book.lines) (purchases_of plan)
all-offered book plan permitted =
    All-weaker (IsOfPlan 0 plan) (IsOffered book.lines) (offered-at book plan permitted) (purchases_of plan) (all-of_plan 0 plan)

-- a permitted plan buys just these
pub plan-bought : (book : BookContents) (plan : List ℕ) → IsPermitted book plan → Bought book (purchases_of plan) plan
plan-bought book plan permitted = record {
  offered = all-offered book plan permitted;
  lines = permitted.same_length;
  bought = All-weaker (IsOfPlan 0 plan) (λ (buy : Buy). slice_get plan buy.line ≡ Some buy.units)
      (λ buy is. slice_get-get_or plan buy.line 0 (omega (arith, is.within)) ∙ ap Some (sym (units-at plan buy is))) (purchases_of plan) (all-of_plan 0 plan);
  nothing_else = λ line within others. slice_get-get_or plan line 0 within ∙ ap Some (unnamed-none 0 plan line within
      (All-weaker (λ (buy : Buy). buy.line ≢ line) (λ (buy : Buy). buy.line ≢ 0 + line) (λ buy apart same. apart (omega (arith, same))) (purchases_of plan) others));
}

-- so they make it
pub plan-again : (book : BookContents) (plan : List ℕ) → IsPermitted book plan → plan_of book (purchases_of plan) ≡ plan
plan-again book plan permitted =
    let rises = rise-pairs (purchases_of plan) (purchases-rise 0 plan) 0 (λ k d few. omega arith) in
    let none = none-found book.lines (purchases_of plan) (all-offered book plan permitted) in
    one-plan book (purchases_of plan) (plan_of book (purchases_of plan)) plan (plan-buys book (purchases_of plan) rises none) (plan-bought book plan permitted)

-- ---- their sizes
-- purchases of a permitted plan of a book are those of a certificate
pub plan-buys_well : (book : BookContents) (plan : List ℕ) → IsBook book → IsPermitted book plan → AreBuys MOST_PACKED_BUYS (purchases_of plan)
plan-buys_well book plan limits permitted =
    let few = count_lines book.days book.lines limits.lines in
    record {
      few = omega (arith, purchases-few 0 plan, permitted.same_length, few);
      range = All-weaker (IsOfPlan 0 plan) IsBuy (range few) (purchases_of plan) (all-of_plan 0 plan);
      rising = purchases-rise 0 plan;
    }
  where
    range : length book.lines ≤ 513 → (buy : Buy) → IsOfPlan 0 plan buy → IsBuy buy
    range few buy is =
        let within : buy.line < length book.lines = omega (arith, is.within, permitted.same_length) in
        let line : Line = get_or book.lines buy.line (cash_line 0) in
        let small = most-small book.days line (All-get_or (IsLine book.days) book.lines buy.line (cash_line 0) within (all-lines book.days book.lines limits.lines)) in
        let units = permitted_few line (get_or plan buy.line 0) (permitted-at book plan buy.line permitted within) in
        (omega (arith, within, few), omega (arith, is.some), omega (arith, units-at plan buy is, units, small))
