-- The issue that the rows of ISSUE say is the one that is read of them.
use Rattle.std.proofs.Common.{◌≡◌, ◌∙◌, ◌⊎◌, inl, inr, append_assoc, ℕ, ◌+◌, ◌<◌, ◌≤◌, refl, sym, ap, subst, arith, Bool, true, false, if◌then◌else◌, List, [], ◌∷◌, ◌++◌, length, get_or, ℤ, Option, Some, None, Result, Ok, Err}
use Rattle.std.specs.Prelude.{◌≢◌, nat_eq, ◌==◌, ◌||◌, ◌&&◌, nat_le, AllPairs, IsTrue, nat_lt, int_lt, int_le, is_some, codes, pos, option_to_list}
use Rattle.std.specs.List.{AllZip, enumerate_from, filter, list_any}
use Rattle.std.specs.Ordering.{int_eq}
use Rattle.std.proofs.lemmas.Bool.Decides.{nat_tests}
use Rattle.std.proofs.lemmas.Bool.Decides.{Decides-int_eq}
use Rattle.std.proofs.lemmas.List.Folds.{list_any_at, list_any_none}
use Rattle.std.proofs.lemmas.List.Quantifiers.{all_pairs_push}
use Rattle.std.proofs.lemmas.List.Elements.{All-nil, All-cons, All-head, All-tail}
use Rattle.std.proofs.lemmas.List.{get_or_append_left}
use Rattle.std.proofs.lemmas.List.{length-append}
use Rattle.escrow_desk.specs.declared.refusal.FileKind.TheVariants as file
use Rattle.escrow_desk.specs.declared.refusal.Refusal.{Refusal}
use Rattle.escrow_desk.specs.declared.refusal.RefusalKind.{RefusalKind}
use Rattle.escrow_desk.specs.declared.refusal.RefusalKind.TheVariants as kind
use Rattle.escrow_units.specs.Calendar.{years_after_of}
use Rattle.escrow_units.specs.NumberText.{cents_of, count_of, yield_of}
use Rattle.escrow_units.specs.declared.amount.Cents.{Cents}
use Rattle.std.proofs.lemmas.Bool.{le-leb, le-ltb}
use Rattle.escrow_units.specs.declared.amount.YieldUnits.{YieldUnits}
use Rattle.escrow_units.specs.declared.security.Flow.{Flow}
use Rattle.escrow_units.specs.Flows.{total}
use Rattle.escrow_units.specs.declared.limits.TheConstants.{AMOUNT_LIMIT, MOST_NEED_DATES}
use Rattle.issue_schedule.specs.IssueTerms.{need_dates, needs_total}
use Rattle.issue_schedule.specs.declared.issue.Issue.{Issue}
use Rattle.issue_schedule.specs.declared.issue.Restricted.{Restricted}
use Rattle.issue_schedule.specs.declared.issue.Restricted.TheVariants.{Given, Computed}
use Rattle.row_fields.specs.RowForm.{Row, ◌>>=◌, answer_of_row, field_of, is_word, with_rows}
use Rattle.issue_schedule.specs.IssueForm.{bare_read, bond_row_of, settle_row_of, restricted_of, budget_row_of, call_row_of, cents_row_of, closed_row_of, draft_of, finished_of, first_settle_of, flow_row_of, issue_of, is_within_limit_of, issue_row_of, issue_with_of, price_row_of, weekends_row_of, with_read_row, with_row, with_weekends, within_limits_of, yield_row_of}
use Rattle.certificate_answers.specs.SaidIssue.{AreIssueRows, IsIssueOf, IssuesAreSaid, IsRestrictedBy, SaysBond, SaysCall, SaysClosed, SaysNeed, SaysPay, SaysSettle, issue_words}
use Rattle.certificate_answers.specs.SaidRows.{BeginWith, Say, SaysField, SaysOnce}
use Rattle.certificate_answers.proofs.SaidRowFacts.{Column, all-said, bound-ok, by-word, column-of, made-bound, no-answer, none-added, ok-is, once, row-ok, same-list, taken, test-not, test-ok, untaken, width-is, width-ok}
use Rattle.certificate_answers.proofs.SaidIssueFields.{bond-says, budget-says, call-says, cents-says, closed-says, need-says, pay-says, says-bond, says-budget, says-call, says-cents, says-closed, says-need, says-pay, says-settle, says-yield, settle-says, yield-says}

-- what was read of an issue file so far, and what its price is: only its own crate names these types
abbrev type_of : {A : Type 0} → A → Type 0
type_of {A} a = A

abbrev ok_type : {T E : Type 0} → Result T E → Type 0
ok_type {T} answer = T

abbrev Draft : Type 0
Draft = type_of (bare_read (pos 0))

abbrev Price : Type 0
Price = ok_type (price_row_of 0 [])

-- ---- what rows add
-- whether a word has stood once
abbrev marks : Bool → List Bool
marks false = []
marks true = true ∷ []

abbrev SaysPrice : ℕ → Row → Price → Type 0
SaysPrice number row price = (number ≡ price.row) × SaysField cents_of row price.cents × (1 ≤ price.cents.0)

abbrev SaysWeekends : Row → Bool → Type 0
SaysWeekends row closed = (length row ≡ 1) × (closed ≡ true)

abbrev Distinct : List ℤ → Type 0
Distinct days = AllPairs (λ a b. a ≢ b) days

-- the restricted yield stands alone
abbrev IsAlone : Draft → Type 0
IsAlone read = (read.restricted ≡ None) ⊎ ((read.price ≡ None) × (read.pays ≡ []))

abbrev IsKnown : ℕ × Row → Type 0
IsKnown row = IsTrue (list_any (λ word. is_word word (field_of row.1 0)) issue_words)

-- rows add to what was read, word by word
abbrev Added : List (ℕ × Row) → Draft → Draft → Type 0
Added rows before after =
    BeginWith issue_words rows × (after.settle ≡ before.settle)
    × Column (codes "bond") (λ _. SaysBond before.settle) rows before.bonds after.bonds
    × Column (codes "call") (λ _. SaysCall before.settle) rows (option_to_list before.call) (option_to_list after.call)
    × Column (codes "need") (λ _. SaysNeed before.settle) rows before.direct after.direct
    × Column (codes "pay") (λ _. SaysPay before.settle) rows before.pays after.pays
    × Column (codes "restricted") (λ _. SaysField yield_of) rows (option_to_list before.restricted) (option_to_list after.restricted)
    × Column (codes "price") SaysPrice rows (option_to_list before.price) (option_to_list after.price)
    × Column (codes "cash") (λ _. SaysField cents_of) rows (option_to_list before.cash) (option_to_list after.cash)
    × Column (codes "allowance") (λ _. SaysField cents_of) rows (option_to_list before.allowance) (option_to_list after.allowance)
    × Column (codes "budget") (λ _. SaysField count_of) rows (option_to_list before.budget) (option_to_list after.budget)
    × Column (codes "weekends") (λ _. SaysWeekends) rows (marks before.weekends) (marks after.weekends)
    × Column (codes "closed") (λ _. SaysClosed before.settle) rows before.closed after.closed
    × (Distinct before.closed → Distinct after.closed) × (IsAlone before → IsAlone after)

-- ---- one row more
no-some : {T : Type 0} (found : Option T) → is_some found ≡ false → found ≡ None
no-some None e = refl
no-some (Some value) e = absurd (cc)

no-item : {T : Type 0} (items : List T) → nat_lt 0 (length items) ≡ false → items ≡ []
no-item [] e = refl
no-item (item ∷ items) e = absurd (grind (arith, nat_tests))

or-none : (a b : Bool) → (a || b) ≡ false → (a ≡ false) × (b ≡ false)
or-none false b e = (refl, e)
or-none true b e = absurd (cc)

distinct-push : (days : List ℤ) (day : ℤ) → list_any (int_eq day) days ≡ false → Distinct days → Distinct (days ++ day ∷ [])
distinct-push days day e apart = all_pairs_push (λ a b. a ≢ b) days day apart (λ k d less same. other k d less same)
  where
    other : (k : ℕ) (d : ℤ) → k < length days → get_or days k d ≡ day → ⊥
    other k d less same =
        let there : list_any (int_eq day) days ≡ true = list_any_at (int_eq day) days k d less ((Decides-int_eq day (get_or days k d)).1 (sym same)) in
        let clash = sym there ∙ e in cc

once-marked : (marked : Bool) → marked ≡ false → true ∷ [] ≡ marks marked ++ true ∷ []
once-marked false e = refl
once-marked true e = absurd (cc)

price-says : (number : ℕ) (row : Row) (price : Price) → price_row_of number row ≡ Ok price → SaysPrice number row price
price-says number row price e =
    let read = bound-ok (cents_row_of row) (λ cents. if cents.0 == 0 then Err kind.OutOfRange else Ok (record { row = number; cents = cents })) price e in
    let tested = test-not (read.first.0 == 0) (Ok (record { row = number; cents = read.first })) kind.OutOfRange price read.rest in
    let made = ok-is RefusalKind (record { row = number; cents = read.first }) price tested.1 in
    let least : 1 ≤ read.first.0 = grind (arith, nat_tests) in
    subst (SaysPrice number row) made (refl, cents-says row read.first read.is, least)

bond-step : (before : Draft) (number : ℕ) (fields : Row) (rows : List (ℕ × Row)) (more after : Draft) → with_row before number (codes "bond" ∷ fields) ≡ Ok more → Added rows more after
    → Added ((number, codes "bond" ∷ fields) ∷ rows) before after
bond-step before number fields rows more after e added =
    let row = codes "bond" ∷ fields in
    let read = made-bound (bond_row_of (years_after_of before.settle 40) row) _ (with_read_row before) more e in
    let order = test-not (int_le read.first.maturity before.settle) (Ok (record before { bonds = before.bonds ++ read.first ∷ [] })) kind.DateOrder more read.rest in
    let made = ok-is RefusalKind (record before { bonds = before.bonds ++ read.first ∷ [] }) more order.1 in
    subst (λ (m : Draft). Added rows m after → Added ((number, row) ∷ rows) before after) made
    (λ h. (
      All-cons IsKnown (number, row) rows refl h.0,
      h.1,
      taken (codes "bond") (λ _. SaysBond before.settle) number row rows read.first before.bonds after.bonds refl (bond-says before.settle row read.first read.is order.0) h.2,
      h.3,
      h.4,
      h.5,
      h.6,
      h.7,
      h.8,
      h.9,
      h.10,
      h.11,
      h.12,
      h.13,
      h.14,
    )) added

call-step : (before : Draft) (number : ℕ) (fields : Row) (rows : List (ℕ × Row)) (more after : Draft) → with_row before number (codes "call" ∷ fields) ≡ Ok more → Added rows more after
    → Added ((number, codes "call" ∷ fields) ∷ rows) before after
call-step before number fields rows more after e added =
    let row = codes "call" ∷ fields in
    let read = made-bound (call_row_of (years_after_of before.settle 40) row) _ (with_read_row before) more e in
    let none = test-not (is_some before.call) (if int_le read.first.day before.settle then Err kind.DateOrder else Ok (record before { call = Some read.first })) kind.Repeated more read.rest in
    let order = test-not (int_le read.first.day before.settle) (Ok (record before { call = Some read.first })) kind.DateOrder more none.1 in
    let made = ok-is RefusalKind (record before { call = Some read.first }) more order.1 in
    subst (λ (m : Draft). Added rows m after → Added ((number, row) ∷ rows) before after) made
    (λ h. (
      All-cons IsKnown (number, row) rows refl h.0,
      h.1,
      h.2,
      taken (codes "call") (λ _. SaysCall before.settle) number row rows read.first (option_to_list before.call) (option_to_list after.call) refl (call-says before.settle row read.first read.is order.0) (subst (λ own. Column (codes "call") (λ _. SaysCall before.settle) rows own (option_to_list after.call)) (sym (once before.call read.first none.0)) h.3),
      h.4,
      h.5,
      h.6,
      h.7,
      h.8,
      h.9,
      h.10,
      h.11,
      h.12,
      h.13,
      h.14,
    )) added

need-step : (before : Draft) (number : ℕ) (fields : Row) (rows : List (ℕ × Row)) (more after : Draft) → with_row before number (codes "need" ∷ fields) ≡ Ok more → Added rows more after
    → Added ((number, codes "need" ∷ fields) ∷ rows) before after
need-step before number fields rows more after e added =
    let row = codes "need" ∷ fields in
    let read = made-bound (flow_row_of (years_after_of before.settle 40) row) _ (with_read_row before) more e in
    let order = test-not (int_lt read.first.day before.settle) (Ok (record before { direct = before.direct ++ read.first ∷ [] })) kind.DateOrder more read.rest in
    let made = ok-is RefusalKind (record before { direct = before.direct ++ read.first ∷ [] }) more order.1 in
    subst (λ (m : Draft). Added rows m after → Added ((number, row) ∷ rows) before after) made
    (λ h. (
      All-cons IsKnown (number, row) rows refl h.0,
      h.1,
      h.2,
      h.3,
      taken (codes "need") (λ _. SaysNeed before.settle) number row rows read.first before.direct after.direct refl (need-says before.settle row read.first read.is order.0) h.4,
      h.5,
      h.6,
      h.7,
      h.8,
      h.9,
      h.10,
      h.11,
      h.12,
      h.13,
      h.14,
    )) added

pay-step : (before : Draft) (number : ℕ) (fields : Row) (rows : List (ℕ × Row)) (more after : Draft) → with_row before number (codes "pay" ∷ fields) ≡ Ok more → Added rows more after
    → Added ((number, codes "pay" ∷ fields) ∷ rows) before after
pay-step before number fields rows more after e added =
    let row = codes "pay" ∷ fields in
    let read = made-bound (flow_row_of (years_after_of before.settle 40) row) _ (with_read_row before) more e in
    let none = test-not (is_some before.restricted) (if int_le read.first.day before.settle then Err kind.DateOrder else Ok (record before { pays = before.pays ++ read.first ∷ [] })) kind.Repeated more read.rest in
    let order = test-not (int_le read.first.day before.settle) (Ok (record before { pays = before.pays ++ read.first ∷ [] })) kind.DateOrder more none.1 in
    let made = ok-is RefusalKind (record before { pays = before.pays ++ read.first ∷ [] }) more order.1 in
    subst (λ (m : Draft). Added rows m after → Added ((number, row) ∷ rows) before after) made
    (λ h. (
      All-cons IsKnown (number, row) rows refl h.0,
      h.1,
      h.2,
      h.3,
      h.4,
      taken (codes "pay") (λ _. SaysPay before.settle) number row rows read.first before.pays after.pays refl (pay-says before.settle row read.first read.is order.0) h.5,
      h.6,
      h.7,
      h.8,
      h.9,
      h.10,
      h.11,
      h.12,
      h.13,
      (λ _. h.14 (inl (no-some before.restricted none.0))),
    )) added

restricted-step : (before : Draft) (number : ℕ) (fields : Row) (rows : List (ℕ × Row)) (more after : Draft) → with_row before number (codes "restricted" ∷ fields) ≡ Ok more → Added rows more after
    → Added ((number, codes "restricted" ∷ fields) ∷ rows) before after
restricted-step before number fields rows more after e added =
    let row = codes "restricted" ∷ fields in
    let read = made-bound (yield_row_of row) _ (with_read_row before) more e in
    let none = test-not (is_some before.restricted || is_some before.price || nat_lt 0 (length before.pays)) (Ok (record before { restricted = Some read.first })) kind.Repeated more read.rest in
    let two = or-none (is_some before.restricted || is_some before.price) (nat_lt 0 (length before.pays)) none.0 in
    let one = or-none (is_some before.restricted) (is_some before.price) two.0 in
    let made = ok-is RefusalKind (record before { restricted = Some read.first }) more none.1 in
    subst (λ (m : Draft). Added rows m after → Added ((number, row) ∷ rows) before after) made
    (λ h. (
      All-cons IsKnown (number, row) rows refl h.0,
      h.1,
      h.2,
      h.3,
      h.4,
      h.5,
      taken (codes "restricted") (λ _. SaysField yield_of) number row rows read.first (option_to_list before.restricted) (option_to_list after.restricted) refl (yield-says row read.first read.is) (subst (λ own. Column (codes "restricted") (λ _. SaysField yield_of) rows own (option_to_list after.restricted)) (sym (once before.restricted read.first one.0)) h.6),
      h.7,
      h.8,
      h.9,
      h.10,
      h.11,
      h.12,
      h.13,
      (λ _. h.14 (inr (no-some before.price one.1, no-item before.pays two.1))),
    )) added

price-step : (before : Draft) (number : ℕ) (fields : Row) (rows : List (ℕ × Row)) (more after : Draft) → with_row before number (codes "price" ∷ fields) ≡ Ok more → Added rows more after
    → Added ((number, codes "price" ∷ fields) ∷ rows) before after
price-step before number fields rows more after e added =
    let row = codes "price" ∷ fields in
    let read = made-bound (price_row_of number row) _ (with_read_row before) more e in
    let none = test-not (is_some before.price || is_some before.restricted) (Ok (record before { price = Some read.first })) kind.Repeated more read.rest in
    let two = or-none (is_some before.price) (is_some before.restricted) none.0 in
    let made = ok-is RefusalKind (record before { price = Some read.first }) more none.1 in
    subst (λ (m : Draft). Added rows m after → Added ((number, row) ∷ rows) before after) made
    (λ h. (
      All-cons IsKnown (number, row) rows refl h.0,
      h.1,
      h.2,
      h.3,
      h.4,
      h.5,
      h.6,
      taken (codes "price") SaysPrice number row rows read.first (option_to_list before.price) (option_to_list after.price) refl (price-says number row read.first read.is) (subst (λ own. Column (codes "price") SaysPrice rows own (option_to_list after.price)) (sym (once before.price read.first two.0)) h.7),
      h.8,
      h.9,
      h.10,
      h.11,
      h.12,
      h.13,
      (λ _. h.14 (inl (no-some before.restricted two.1))),
    )) added

cash-step : (before : Draft) (number : ℕ) (fields : Row) (rows : List (ℕ × Row)) (more after : Draft) → with_row before number (codes "cash" ∷ fields) ≡ Ok more → Added rows more after
    → Added ((number, codes "cash" ∷ fields) ∷ rows) before after
cash-step before number fields rows more after e added =
    let row = codes "cash" ∷ fields in
    let read = made-bound (cents_row_of row) _ (with_read_row before) more e in
    let none = test-not (is_some before.cash) (Ok (record before { cash = Some read.first })) kind.Repeated more read.rest in
    let made = ok-is RefusalKind (record before { cash = Some read.first }) more none.1 in
    subst (λ (m : Draft). Added rows m after → Added ((number, row) ∷ rows) before after) made
    (λ h. (
      All-cons IsKnown (number, row) rows refl h.0,
      h.1,
      h.2,
      h.3,
      h.4,
      h.5,
      h.6,
      h.7,
      taken (codes "cash") (λ _. SaysField cents_of) number row rows read.first (option_to_list before.cash) (option_to_list after.cash) refl (cents-says row read.first read.is) (subst (λ own. Column (codes "cash") (λ _. SaysField cents_of) rows own (option_to_list after.cash)) (sym (once before.cash read.first none.0)) h.8),
      h.9,
      h.10,
      h.11,
      h.12,
      h.13,
      h.14,
    )) added

allowance-step : (before : Draft) (number : ℕ) (fields : Row) (rows : List (ℕ × Row)) (more after : Draft) → with_row before number (codes "allowance" ∷ fields) ≡ Ok more → Added rows more after
    → Added ((number, codes "allowance" ∷ fields) ∷ rows) before after
allowance-step before number fields rows more after e added =
    let row = codes "allowance" ∷ fields in
    let read = made-bound (cents_row_of row) _ (with_read_row before) more e in
    let none = test-not (is_some before.allowance) (Ok (record before { allowance = Some read.first })) kind.Repeated more read.rest in
    let made = ok-is RefusalKind (record before { allowance = Some read.first }) more none.1 in
    subst (λ (m : Draft). Added rows m after → Added ((number, row) ∷ rows) before after) made
    (λ h. (
      All-cons IsKnown (number, row) rows refl h.0,
      h.1,
      h.2,
      h.3,
      h.4,
      h.5,
      h.6,
      h.7,
      h.8,
      taken (codes "allowance") (λ _. SaysField cents_of) number row rows read.first (option_to_list before.allowance) (option_to_list after.allowance) refl (cents-says row read.first read.is) (subst (λ own. Column (codes "allowance") (λ _. SaysField cents_of) rows own (option_to_list after.allowance)) (sym (once before.allowance read.first none.0)) h.9),
      h.10,
      h.11,
      h.12,
      h.13,
      h.14,
    )) added

budget-step : (before : Draft) (number : ℕ) (fields : Row) (rows : List (ℕ × Row)) (more after : Draft) → with_row before number (codes "budget" ∷ fields) ≡ Ok more → Added rows more after
    → Added ((number, codes "budget" ∷ fields) ∷ rows) before after
budget-step before number fields rows more after e added =
    let row = codes "budget" ∷ fields in
    let read = made-bound (budget_row_of row) _ (with_read_row before) more e in
    let none = test-not (is_some before.budget) (Ok (record before { budget = Some read.first })) kind.Repeated more read.rest in
    let made = ok-is RefusalKind (record before { budget = Some read.first }) more none.1 in
    subst (λ (m : Draft). Added rows m after → Added ((number, row) ∷ rows) before after) made
    (λ h. (
      All-cons IsKnown (number, row) rows refl h.0,
      h.1,
      h.2,
      h.3,
      h.4,
      h.5,
      h.6,
      h.7,
      h.8,
      h.9,
      taken (codes "budget") (λ _. SaysField count_of) number row rows read.first (option_to_list before.budget) (option_to_list after.budget) refl (budget-says row read.first read.is) (subst (λ own. Column (codes "budget") (λ _. SaysField count_of) rows own (option_to_list after.budget)) (sym (once before.budget read.first none.0)) h.10),
      h.11,
      h.12,
      h.13,
      h.14,
    )) added

weekends-step : (before : Draft) (number : ℕ) (fields : Row) (rows : List (ℕ × Row)) (more after : Draft) → with_row before number (codes "weekends" ∷ fields) ≡ Ok more → Added rows more after
    → Added ((number, codes "weekends" ∷ fields) ∷ rows) before after
weekends-step before number fields rows more after e added =
    let row = codes "weekends" ∷ fields in
    let read = bound-ok (weekends_row_of row) (with_read_row before) more e in
    let wide = width-ok 1 row _ read.first read.is in
    let rest : with_weekends before ≡ Ok more = ap (λ (answer : Result _ RefusalKind). answer >>= with_read_row before) wide.1 ∙ read.rest in
    let none = test-not (before.weekends) (Ok (record before { weekends = true })) kind.Repeated more rest in
    let made = ok-is RefusalKind (record before { weekends = true }) more none.1 in
    subst (λ (m : Draft). Added rows m after → Added ((number, row) ∷ rows) before after) made
    (λ h. (
      All-cons IsKnown (number, row) rows refl h.0,
      h.1,
      h.2,
      h.3,
      h.4,
      h.5,
      h.6,
      h.7,
      h.8,
      h.9,
      h.10,
      taken (codes "weekends") (λ _. SaysWeekends) number row rows true (marks before.weekends) (marks after.weekends) refl (wide.0, refl) (subst (λ own. Column (codes "weekends") (λ _. SaysWeekends) rows own (marks after.weekends)) (once-marked before.weekends none.0) h.11),
      h.12,
      h.13,
      h.14,
    )) added

closed-step : (before : Draft) (number : ℕ) (fields : Row) (rows : List (ℕ × Row)) (more after : Draft) → with_row before number (codes "closed" ∷ fields) ≡ Ok more → Added rows more after
    → Added ((number, codes "closed" ∷ fields) ∷ rows) before after
closed-step before number fields rows more after e added =
    let row = codes "closed" ∷ fields in
    let read = made-bound (closed_row_of (years_after_of before.settle 40) row) _ (with_read_row before) more e in
    let order = test-not (int_le read.first before.settle) (if list_any (int_eq read.first) before.closed then Err kind.Repeated else Ok (record before { closed = before.closed ++ read.first ∷ [] })) kind.DateOrder more read.rest in
    let apart = test-not (list_any (int_eq read.first) before.closed) (Ok (record before { closed = before.closed ++ read.first ∷ [] })) kind.Repeated more order.1 in
    let made = ok-is RefusalKind (record before { closed = before.closed ++ read.first ∷ [] }) more apart.1 in
    subst (λ (m : Draft). Added rows m after → Added ((number, row) ∷ rows) before after) made
    (λ h. (
      All-cons IsKnown (number, row) rows refl h.0,
      h.1,
      h.2,
      h.3,
      h.4,
      h.5,
      h.6,
      h.7,
      h.8,
      h.9,
      h.10,
      h.11,
      taken (codes "closed") (λ _. SaysClosed before.settle) number row rows read.first before.closed after.closed refl (closed-says before.settle row read.first read.is order.0) h.12,
      (λ apart_before. h.13 (distinct-push before.closed read.first apart.0 apart_before)),
      h.14,
    )) added

-- ---- all the rows
-- of a row with this word
abbrev IsAdded : Draft → ℕ → Row → List (ℕ × Row) → Draft → Draft → List ℕ → Type 0
IsAdded before number fields rows more after word = with_row before number (word ∷ fields) ≡ Ok more → Added rows more after → Added ((number, word ∷ fields) ∷ rows) before after

row-step : (before : Draft) (number : ℕ) (w : List ℕ) (fields : Row) (rows : List (ℕ × Row)) (more after : Draft) → with_row before number (w ∷ fields) ≡ Ok more → Added rows more after
    → Added ((number, w ∷ fields) ∷ rows) before after
row-step before number w fields rows more after =
    by-word (codes "settle") w (IsAdded before number fields rows more after)
    (λ e added. absurd (let read = made-bound (settle_row_of (codes "settle" ∷ fields)) _ (with_read_row before) more e in cc (read.rest)))
    (λ w0. by-word (codes "call") w (IsAdded before number fields rows more after) (call-step before number fields rows more after)
    (λ w1. by-word (codes "bond") w (IsAdded before number fields rows more after) (bond-step before number fields rows more after)
    (λ w2. by-word (codes "need") w (IsAdded before number fields rows more after) (need-step before number fields rows more after)
    (λ w3. by-word (codes "cash") w (IsAdded before number fields rows more after) (cash-step before number fields rows more after)
    (λ w4. by-word (codes "restricted") w (IsAdded before number fields rows more after) (restricted-step before number fields rows more after)
    (λ w5. by-word (codes "price") w (IsAdded before number fields rows more after) (price-step before number fields rows more after)
    (λ w6. by-word (codes "pay") w (IsAdded before number fields rows more after) (pay-step before number fields rows more after)
    (λ w7. by-word (codes "allowance") w (IsAdded before number fields rows more after) (allowance-step before number fields rows more after)
    (λ w8. by-word (codes "budget") w (IsAdded before number fields rows more after) (budget-step before number fields rows more after)
    (λ w9. by-word (codes "weekends") w (IsAdded before number fields rows more after) (weekends-step before number fields rows more after)
    (λ wa. by-word (codes "closed") w (IsAdded before number fields rows more after) (closed-step before number fields rows more after)
    (λ wb e added.
    let unknown : issue_row_of (years_after_of before.settle 40) number (w ∷ fields) ≡ Err kind.UnknownRow = rw (w0, w1, w2, w3, w4, w5, w6, w7, w8, w9, wa, wb) refl in
    absurd (no-answer (issue_row_of (years_after_of before.settle 40) number (w ∷ fields)) kind.UnknownRow (with_read_row before) more unknown e)))))))))))))

nothing-added : (same : Draft) → Added [] same same
nothing-added same = (
  All-nil IsKnown,
  refl,
  none-added (codes "bond") (λ _. SaysBond same.settle) same.bonds,
  none-added (codes "call") (λ _. SaysCall same.settle) (option_to_list same.call),
  none-added (codes "need") (λ _. SaysNeed same.settle) same.direct,
  none-added (codes "pay") (λ _. SaysPay same.settle) same.pays,
  none-added (codes "restricted") (λ _. SaysField yield_of) (option_to_list same.restricted),
  none-added (codes "price") SaysPrice (option_to_list same.price),
  none-added (codes "cash") (λ _. SaysField cents_of) (option_to_list same.cash),
  none-added (codes "allowance") (λ _. SaysField cents_of) (option_to_list same.allowance),
  none-added (codes "budget") (λ _. SaysField count_of) (option_to_list same.budget),
  none-added (codes "weekends") (λ _. SaysWeekends) (marks same.weekends),
  none-added (codes "closed") (λ _. SaysClosed same.settle) same.closed,
  (λ apart. apart),
  (λ alone. alone),
)

rows-add : (before : Draft) (number : ℕ) (rows : List Row) (after : Draft) → with_rows file.Issue with_row before number rows ≡ Ok after → Added (enumerate_from number rows) before after
rows-add before number [] after e = subst (Added [] before) (ok-is Refusal before after e) (nothing-added before)
rows-add before number ([] ∷ rows) after e =
    let one = bound-ok (answer_of_row file.Issue number (with_row before number [])) (λ more. with_rows file.Issue with_row more (number + 1) rows) after e in
    let read = row-ok file.Issue number (with_row before number []) one.first one.is in
    absurd (cc (read))
rows-add before number ((w ∷ fields) ∷ rows) after e =
    let one = bound-ok (answer_of_row file.Issue number (with_row before number (w ∷ fields))) (λ more. with_rows file.Issue with_row more (number + 1) rows) after e in
    let read = row-ok file.Issue number (with_row before number (w ∷ fields)) one.first one.is in
    row-step before number w fields (enumerate_from (number + 1) rows) one.first after read (rows-add one.first (number + 1) rows after one.rest)

-- ---- the issue
-- a row of a price, by its cents
price-cents : (rows : List (ℕ × Row)) (price : Price) → AllZip (λ row own. SaysPrice row.0 row.1 own) rows (price ∷ [])
    → AllZip (λ row cents. (row.0 ≡ price.row) × SaysField cents_of row.1 cents) rows (price.cents ∷ []) × (1 ≤ price.cents.0)
price-cents [] price says = absurd says
price-cents (row ∷ []) price says = (((says.0.0, says.0.1), tt), says.0.2)
price-cents (row ∷ other ∷ rows) price says = absurd says.1

-- no row says anything
no-rows : {T U : Type 0} (A : ℕ × Row → T → Type 0) (B : ℕ × Row → U → Type 0) (rows : List (ℕ × Row)) → AllZip A rows [] → AllZip B rows []
no-rows A B [] none = tt
no-rows A B (row ∷ rows) none = absurd none

restricted-by : (rows : List (ℕ × Row)) (after : Draft) (found : Option YieldUnits) (price : Option Price) (pays : List Flow) (restricted : Restricted)
    → Say (codes "restricted") (λ _. SaysField yield_of) rows (option_to_list found) → Say (codes "price") SaysPrice rows (option_to_list price)
    → ((found ≡ None) ⊎ ((price ≡ None) × (pays ≡ []))) → restricted_of found price pays ≡ Ok restricted → IsRestrictedBy rows pays restricted
restricted-by rows after (Some units) price pays restricted yields prices (inl none) e = absurd (cc)
restricted-by rows after (Some units) None pays restricted yields prices (inr none) e =
    subst (IsRestrictedBy rows pays) (ok-is RefusalKind (Given units) restricted e)
    (yields, no-rows (λ row own. SaysPrice row.0 row.1 own) (λ row own. SaysField cents_of row.1 own) (filter (λ row. is_word (codes "price") (field_of row.1 0)) rows) prices, none.1)
restricted-by rows after (Some units) (Some price) pays restricted yields prices (inr none) e = absurd (let clash = none.0 in cc)
restricted-by rows after None None pays restricted yields prices alone e = absurd (cc)
restricted-by rows after None (Some price) [] restricted yields prices alone e = absurd (cc)
restricted-by rows after None (Some price) (pay ∷ pays) restricted yields prices alone e =
    let cents = price-cents (filter (λ row. is_word (codes "price") (field_of row.1 0)) rows) price prices in
    subst (IsRestrictedBy rows (pay ∷ pays)) (ok-is RefusalKind (Computed price.row price.cents) restricted e) (yields, cents.0, cents.1, omega arith)

marked-once : (rows : List (ℕ × Row)) (marked : Bool) → Say (codes "weekends") (λ _. SaysWeekends) rows (marks marked) → SaysOnce (codes "weekends") (λ _. SaysWeekends) rows false marked
marked-once rows true says = (Some true, says, refl)
marked-once rows false says = (None, says, refl)

-- the limits of the whole file
pub record KeepsLimits (issue : Issue) : Type 0 where
  pub small : needs_total issue ≤ AMOUNT_LIMIT
  pub small_pays : total issue.pays ≤ AMOUNT_LIMIT
  pub few : need_dates issue ≤ MOST_NEED_DATES
  pub few_closed : length issue.closed.days ≤ 1_000

within-both : (a b m : ℕ) → (nat_le a m && nat_le b m) ≡ true → (a ≤ m) × (b ≤ m)
within-both a b m e = at (nat_le a m) (nat_le b m) refl refl e
  where
    at : (s t : Bool) → nat_le a m ≡ s → nat_le b m ≡ t → (s && t) ≡ true → (a ≤ m) × (b ≤ m)
    at true true first second both = (grind (arith, nat_tests), grind (arith, nat_tests))
    at true false first second both = absurd (cc)
    at false t first second both = absurd (cc)

few-both : (a b m n : ℕ) → (nat_lt m a || nat_lt n b) ≡ false → (a ≤ m) × (b ≤ n)
few-both a b m n e = let two = or-none (nat_lt m a) (nat_lt n b) e in (at-most m a two.0, at-most n b two.1)
  where
    at-most : (m a : ℕ) → nat_lt m a ≡ false → a ≤ m
    at-most m a h = grind (arith, nat_tests)

limits-kept : (issue own : Issue) → within_limits_of issue ≡ Ok own → (issue ≡ own) × KeepsLimits issue
limits-kept issue own e =
    let many = nat_lt MOST_NEED_DATES (need_dates issue) || nat_lt 1000 (length issue.closed.days) in
    let small = test-ok (is_within_limit_of issue) (if many then Err kind.TooManyDates else Ok issue) kind.NeedsTooLarge own e in
    let few = test-not many (Ok issue) kind.TooManyDates own small.1 in
    let amounts = within-both (needs_total issue) (total issue.pays) AMOUNT_LIMIT small.0 in
    let counts = few-both (need_dates issue) (length issue.closed.days) MOST_NEED_DATES 1000 few.0 in
    (ok-is RefusalKind issue own few.1, record { small = amounts.0; small_pays = amounts.1; few = counts.0; few_closed = counts.1 })

none-distinct : Distinct []
none-distinct i j d less more = absurd (omega (arith, more))

issue-rows : (rows : List (ℕ × Row)) (read : Draft) (restricted : Restricted) → Added rows (bare_read read.settle) read → restricted_of read.restricted read.price read.pays ≡ Ok restricted
    → KeepsLimits (issue_with_of read restricted) → AreIssueRows rows (issue_with_of read restricted)
issue-rows rows read restricted h e keeps = record {
  known = h.0;
  bonds = all-said (codes "bond") (λ _. SaysBond read.settle) rows read.bonds h.2;
  call = all-said (codes "call") (λ _. SaysCall read.settle) rows (option_to_list read.call) h.3;
  direct = all-said (codes "need") (λ _. SaysNeed read.settle) rows read.direct h.4;
  pays = all-said (codes "pay") (λ _. SaysPay read.settle) rows read.pays h.5;
  restricted =
      restricted-by rows read read.restricted read.price read.pays restricted
      (all-said (codes "restricted") (λ _. SaysField yield_of) rows (option_to_list read.restricted) h.6)
      (all-said (codes "price") SaysPrice rows (option_to_list read.price) h.7) (h.14 (inl refl)) e;
  cash = (read.cash, all-said (codes "cash") (λ _. SaysField cents_of) rows (option_to_list read.cash) h.8, refl);
  allowance = (read.allowance, all-said (codes "allowance") (λ _. SaysField cents_of) rows (option_to_list read.allowance) h.9, refl);
  budget = (read.budget, all-said (codes "budget") (λ _. SaysField count_of) rows (option_to_list read.budget) h.10, refl);
  weekends = marked-once rows read.weekends (all-said (codes "weekends") (λ _. SaysWeekends) rows (marks read.weekends) h.11);
  closed = all-said (codes "closed") (λ _. SaysClosed read.settle) rows read.closed h.12;
  closed_once = h.13 none-distinct;
  small = keeps.small;
  small_pays = keeps.small_pays;
  few = keeps.few;
  few_closed = keeps.few_closed;
}

abbrev IsDraftOf : List Row → Draft → Type 0
IsDraftOf [] read = ⊥
IsDraftOf (first ∷ rows) read = SaysSettle first read.settle × Added (enumerate_from 2 rows) (bare_read read.settle) read

draft-said : (rows : List Row) (read : Draft) → draft_of rows ≡ Ok read → IsDraftOf rows read
unfolding draft_of
draft-said [] read e = absurd (cc)
draft-said (first ∷ rows) read e =
    let settle = bound-ok (answer_of_row file.Issue 1 (first_settle_of first)) (λ settle. with_rows file.Issue with_row (bare_read settle) 2 rows) read e in
    let added = rows-add (bare_read settle.first) 2 rows read settle.rest in
    subst (λ (day : ℤ). SaysSettle first day × Added (enumerate_from 2 rows) (bare_read day) read) (sym added.1)
    (settle-says first settle.first (row-ok file.Issue 1 (first_settle_of first) settle.first settle.is), added)

issue-drafted : (rows : List Row) (read : Draft) (issue : Issue) → IsDraftOf rows read → finished_of read ≡ Ok issue → IsIssueOf rows issue
issue-drafted [] read issue drafted e = absurd drafted
issue-drafted (first ∷ rows) read issue drafted e =
    let restricted = bound-ok (restricted_of read.restricted read.price read.pays) (λ own. within_limits_of (issue_with_of read own)) issue e in
    let kept = limits-kept (issue_with_of read restricted.first) issue restricted.rest in
    subst (λ (own : Issue). SaysSettle first own.settle × AreIssueRows (enumerate_from 2 rows) own) kept.0
    (drafted.0, issue-rows (enumerate_from 2 rows) read restricted.first drafted.1 restricted.is kept.1)

pub issue-said : (rows : List Row) (issue : Issue) → issue_of rows ≡ Ok issue → IsIssueOf rows issue
unfolding issue_of
issue-said rows issue e =
    let read = bound-ok (draft_of rows) (λ read. answer_of_row file.Issue 0 (finished_of read)) issue e in
    issue-drafted rows read.first issue (draft-said rows read.first read.is) (row-ok file.Issue 0 (finished_of read.first) issue read.rest)

-- ---- back: what rows say is what is read of them
record IsNext (before : Draft) (number : ℕ) (row : Row) (rows : List (ℕ × Row)) (after : Draft) : Type 0 where
  more : Draft
  is : with_row before number row ≡ Ok more
  rest : Added rows more after

-- a value that stands once
once-back : {T : Type 0} (before after : Option T) (value : T) (said : List T) → option_to_list after ≡ (option_to_list before ++ value ∷ []) ++ said → (is_some before ≡ false) × (is_some after ≡ true)
once-back None None value said e = absurd (cc)
once-back None (Some own) value said e = (refl, refl)
once-back (Some other) None value said e = absurd (cc)
once-back (Some other) (Some own) value said e = absurd (cc)

marked-back : (before after : Bool) (value : Bool) (said : List Bool) → marks after ≡ (marks before ++ value ∷ []) ++ said → before ≡ false
marked-back false after value said e = refl
marked-back true true value said e = absurd (cc)
marked-back true false value said e = absurd (cc)

none-back : {T : Type 0} (before after : Option T) (said : List T) → after ≡ None → option_to_list after ≡ option_to_list before ++ said → is_some before ≡ false
none-back None after said none e = refl
none-back (Some other) None said none e = absurd (cc)
none-back (Some other) (Some own) said none e = absurd (cc)

empty-back : {T : Type 0} (before after said : List T) → after ≡ [] → after ≡ before ++ said → nat_lt 0 (length before) ≡ false
empty-back [] after said none e = refl
empty-back (item ∷ before) [] said none e = absurd (cc)
empty-back (item ∷ before) (own ∷ after) said none e = absurd (cc)

some-none : {T : Type 0} (found : Option T) → is_some found ≡ true → found ≡ None → ⊥
some-none None is none = cc
some-none (Some own) is none = cc

more-none : {T : Type 0} (before : List T) (value : T) (said after : List T) → after ≡ (before ++ value ∷ []) ++ said → after ≡ [] → ⊥
more-none [] value said after e none = let clash = sym none ∙ e in cc
more-none (item ∷ before) value said after e none = let clash = sym none ∙ e in cc

-- days that are closed once
at-length : (days : List ℤ) (day : ℤ) (said : List ℤ) (d : ℤ) → get_or (days ++ day ∷ said) (length days) d ≡ day
at-length [] day said d = refl
at-length (other ∷ days) day said d = at-length days day said d

distinct-not : (days : List ℤ) (day : ℤ) (said after : List ℤ) → after ≡ (days ++ day ∷ []) ++ said → Distinct after → list_any (int_eq day) days ≡ false
distinct-not days day said after e apart = list_any_none (int_eq day) days (λ k d less. other k d less (int_eq day (get_or days k d)) refl)
  where
    all : Distinct (days ++ day ∷ said)
    all = subst Distinct (e ∙ append_assoc days (day ∷ []) said) apart

    clash : (k : ℕ) (d : ℤ) → k < length days → day ≡ get_or days k d → ⊥
    clash k d less same =
        all k (length days) d less (simp length-append (omega arith))
        (get_or_append_left days (day ∷ said) d k less ∙ (sym same ∙ sym (at-length days day said d)))

    other : (k : ℕ) (d : ℤ) → k < length days → (t : Bool) → int_eq day (get_or days k d) ≡ t → int_eq day (get_or days k d) ≡ false
    other k d less true is = absurd (clash k d less ((Decides-int_eq day (get_or days k d)).0 is))
    other k d less false is = is

says-price : (number : ℕ) (row : Row) (price : Price) → SaysPrice number row price → price_row_of number row ≡ Ok price
says-price number row price says =
    let some : nat_eq price.cents.0 0 ≡ false = least price.cents.0 says.2 in
    rw (says-cents row price.cents says.1, some) (ap (λ own. Ok own) (λ i. record { row = says.0 i; cents = price.cents }))
  where
    least : (n : ℕ) → 1 ≤ n → nat_eq n 0 ≡ false
    least n h = grind (arith, nat_tests)

bond-back : (before : Draft) (number : ℕ) (fields : Row) (rows : List (ℕ × Row)) (after : Draft) → Added ((number, codes "bond" ∷ fields) ∷ rows) before after → Distinct after.closed → IsAlone after
    → IsNext before number (codes "bond" ∷ fields) rows after
bond-back before number fields rows after h apart alone =
    let row = codes "bond" ∷ fields in
    let found = untaken (codes "bond") (λ _. SaysBond before.settle) number row rows before.bonds after.bonds refl h.2 in
    let read = says-bond before.settle row found.0 found.1 in
    record {
      more = record before { bonds = before.bonds ++ found.0 ∷ [] };
      is = rw (read.0, read.1) refl;
      rest = (
        All-tail IsKnown (number, row) rows h.0,
        h.1,
        found.2,
        h.3,
        h.4,
        h.5,
        h.6,
        h.7,
        h.8,
        h.9,
        h.10,
        h.11,
        h.12,
        (λ _. apart),
        (λ _. alone),
      );
    }

call-back : (before : Draft) (number : ℕ) (fields : Row) (rows : List (ℕ × Row)) (after : Draft) → Added ((number, codes "call" ∷ fields) ∷ rows) before after → Distinct after.closed → IsAlone after
    → IsNext before number (codes "call" ∷ fields) rows after
call-back before number fields rows after h apart alone =
    let row = codes "call" ∷ fields in
    let found = untaken (codes "call") (λ _. SaysCall before.settle) number row rows (option_to_list before.call) (option_to_list after.call) refl h.3 in
    let read = says-call before.settle row found.0 found.1 in
    let single = once-back before.call after.call found.0 found.2.0 found.2.2 in
    record {
      more = record before { call = Some found.0 };
      is = rw (read.0, single.0, read.1) refl;
      rest = (
        All-tail IsKnown (number, row) rows h.0,
        h.1,
        h.2,
        subst (λ own. Column (codes "call") (λ _. SaysCall before.settle) rows own (option_to_list after.call)) (once before.call found.0 single.0) found.2,
        h.4,
        h.5,
        h.6,
        h.7,
        h.8,
        h.9,
        h.10,
        h.11,
        h.12,
        (λ _. apart),
        (λ _. alone),
      );
    }

need-back : (before : Draft) (number : ℕ) (fields : Row) (rows : List (ℕ × Row)) (after : Draft) → Added ((number, codes "need" ∷ fields) ∷ rows) before after → Distinct after.closed → IsAlone after
    → IsNext before number (codes "need" ∷ fields) rows after
need-back before number fields rows after h apart alone =
    let row = codes "need" ∷ fields in
    let found = untaken (codes "need") (λ _. SaysNeed before.settle) number row rows before.direct after.direct refl h.4 in
    let read = says-need before.settle row found.0 found.1 in
    record {
      more = record before { direct = before.direct ++ found.0 ∷ [] };
      is = rw (read.0, read.1) refl;
      rest = (
        All-tail IsKnown (number, row) rows h.0,
        h.1,
        h.2,
        h.3,
        found.2,
        h.5,
        h.6,
        h.7,
        h.8,
        h.9,
        h.10,
        h.11,
        h.12,
        (λ _. apart),
        (λ _. alone),
      );
    }

pay-back : (before : Draft) (number : ℕ) (fields : Row) (rows : List (ℕ × Row)) (after : Draft) → Added ((number, codes "pay" ∷ fields) ∷ rows) before after → Distinct after.closed → IsAlone after
    → IsNext before number (codes "pay" ∷ fields) rows after
pay-back before number fields rows after h apart alone =
    let row = codes "pay" ∷ fields in
    let found = untaken (codes "pay") (λ _. SaysPay before.settle) number row rows before.pays after.pays refl h.5 in
    let read = says-pay before.settle row found.0 found.1 in
    let other : after.restricted ≡ None = elim alone [ inl none ↦ none | inr none ↦ absurd (more-none before.pays found.0 found.2.0 after.pays found.2.2 none.1) ] in
    let restricted = none-back before.restricted after.restricted h.6.0 other h.6.2 in
    record {
      more = record before { pays = before.pays ++ found.0 ∷ [] };
      is = rw (read.0, restricted, read.1) refl;
      rest = (
        All-tail IsKnown (number, row) rows h.0,
        h.1,
        h.2,
        h.3,
        h.4,
        found.2,
        h.6,
        h.7,
        h.8,
        h.9,
        h.10,
        h.11,
        h.12,
        (λ _. apart),
        (λ _. alone),
      );
    }

restricted-back : (before : Draft) (number : ℕ) (fields : Row) (rows : List (ℕ × Row)) (after : Draft) → Added ((number, codes "restricted" ∷ fields) ∷ rows) before after → Distinct after.closed → IsAlone after
    → IsNext before number (codes "restricted" ∷ fields) rows after
restricted-back before number fields rows after h apart alone =
    let row = codes "restricted" ∷ fields in
    let found = untaken (codes "restricted") (λ _. SaysField yield_of) number row rows (option_to_list before.restricted) (option_to_list after.restricted) refl h.6 in
    let read = says-yield row found.0 found.1 in
    let single = once-back before.restricted after.restricted found.0 found.2.0 found.2.2 in
    let others : (after.price ≡ None) × (after.pays ≡ []) = elim alone [ inl none ↦ absurd (some-none after.restricted single.1 none) | inr none ↦ none ] in
    let price = none-back before.price after.price h.7.0 others.0 h.7.2 in
    let pays = empty-back before.pays after.pays h.5.0 others.1 h.5.2 in
    record {
      more = record before { restricted = Some found.0 };
      is = rw (read, single.0, price, pays) refl;
      rest = (
        All-tail IsKnown (number, row) rows h.0,
        h.1,
        h.2,
        h.3,
        h.4,
        h.5,
        subst (λ own. Column (codes "restricted") (λ _. SaysField yield_of) rows own (option_to_list after.restricted)) (once before.restricted found.0 single.0) found.2,
        h.7,
        h.8,
        h.9,
        h.10,
        h.11,
        h.12,
        (λ _. apart),
        (λ _. alone),
      );
    }

price-back : (before : Draft) (number : ℕ) (fields : Row) (rows : List (ℕ × Row)) (after : Draft) → Added ((number, codes "price" ∷ fields) ∷ rows) before after → Distinct after.closed → IsAlone after
    → IsNext before number (codes "price" ∷ fields) rows after
price-back before number fields rows after h apart alone =
    let row = codes "price" ∷ fields in
    let found = untaken (codes "price") SaysPrice number row rows (option_to_list before.price) (option_to_list after.price) refl h.7 in
    let read = says-price number row found.0 found.1 in
    let single = once-back before.price after.price found.0 found.2.0 found.2.2 in
    let other : after.restricted ≡ None = elim alone [ inl none ↦ none | inr none ↦ absurd (some-none after.price single.1 none.0) ] in
    let restricted = none-back before.restricted after.restricted h.6.0 other h.6.2 in
    record {
      more = record before { price = Some found.0 };
      is = rw (read, single.0, restricted) refl;
      rest = (
        All-tail IsKnown (number, row) rows h.0,
        h.1,
        h.2,
        h.3,
        h.4,
        h.5,
        h.6,
        subst (λ own. Column (codes "price") SaysPrice rows own (option_to_list after.price)) (once before.price found.0 single.0) found.2,
        h.8,
        h.9,
        h.10,
        h.11,
        h.12,
        (λ _. apart),
        (λ _. alone),
      );
    }

cash-back : (before : Draft) (number : ℕ) (fields : Row) (rows : List (ℕ × Row)) (after : Draft) → Added ((number, codes "cash" ∷ fields) ∷ rows) before after → Distinct after.closed → IsAlone after
    → IsNext before number (codes "cash" ∷ fields) rows after
cash-back before number fields rows after h apart alone =
    let row = codes "cash" ∷ fields in
    let found = untaken (codes "cash") (λ _. SaysField cents_of) number row rows (option_to_list before.cash) (option_to_list after.cash) refl h.8 in
    let read = says-cents row found.0 found.1 in
    let single = once-back before.cash after.cash found.0 found.2.0 found.2.2 in
    record {
      more = record before { cash = Some found.0 };
      is = rw (read, single.0) refl;
      rest = (
        All-tail IsKnown (number, row) rows h.0,
        h.1,
        h.2,
        h.3,
        h.4,
        h.5,
        h.6,
        h.7,
        subst (λ own. Column (codes "cash") (λ _. SaysField cents_of) rows own (option_to_list after.cash)) (once before.cash found.0 single.0) found.2,
        h.9,
        h.10,
        h.11,
        h.12,
        (λ _. apart),
        (λ _. alone),
      );
    }

allowance-back : (before : Draft) (number : ℕ) (fields : Row) (rows : List (ℕ × Row)) (after : Draft) → Added ((number, codes "allowance" ∷ fields) ∷ rows) before after → Distinct after.closed → IsAlone after
    → IsNext before number (codes "allowance" ∷ fields) rows after
allowance-back before number fields rows after h apart alone =
    let row = codes "allowance" ∷ fields in
    let found = untaken (codes "allowance") (λ _. SaysField cents_of) number row rows (option_to_list before.allowance) (option_to_list after.allowance) refl h.9 in
    let read = says-cents row found.0 found.1 in
    let single = once-back before.allowance after.allowance found.0 found.2.0 found.2.2 in
    record {
      more = record before { allowance = Some found.0 };
      is = rw (read, single.0) refl;
      rest = (
        All-tail IsKnown (number, row) rows h.0,
        h.1,
        h.2,
        h.3,
        h.4,
        h.5,
        h.6,
        h.7,
        h.8,
        subst (λ own. Column (codes "allowance") (λ _. SaysField cents_of) rows own (option_to_list after.allowance)) (once before.allowance found.0 single.0) found.2,
        h.10,
        h.11,
        h.12,
        (λ _. apart),
        (λ _. alone),
      );
    }

budget-back : (before : Draft) (number : ℕ) (fields : Row) (rows : List (ℕ × Row)) (after : Draft) → Added ((number, codes "budget" ∷ fields) ∷ rows) before after → Distinct after.closed → IsAlone after
    → IsNext before number (codes "budget" ∷ fields) rows after
budget-back before number fields rows after h apart alone =
    let row = codes "budget" ∷ fields in
    let found = untaken (codes "budget") (λ _. SaysField count_of) number row rows (option_to_list before.budget) (option_to_list after.budget) refl h.10 in
    let read = says-budget row found.0 found.1 in
    let single = once-back before.budget after.budget found.0 found.2.0 found.2.2 in
    record {
      more = record before { budget = Some found.0 };
      is = rw (read, single.0) refl;
      rest = (
        All-tail IsKnown (number, row) rows h.0,
        h.1,
        h.2,
        h.3,
        h.4,
        h.5,
        h.6,
        h.7,
        h.8,
        h.9,
        subst (λ own. Column (codes "budget") (λ _. SaysField count_of) rows own (option_to_list after.budget)) (once before.budget found.0 single.0) found.2,
        h.11,
        h.12,
        (λ _. apart),
        (λ _. alone),
      );
    }

weekends-back : (before : Draft) (number : ℕ) (fields : Row) (rows : List (ℕ × Row)) (after : Draft) → Added ((number, codes "weekends" ∷ fields) ∷ rows) before after → Distinct after.closed → IsAlone after
    → IsNext before number (codes "weekends" ∷ fields) rows after
weekends-back before number fields rows after h apart alone =
    let row = codes "weekends" ∷ fields in
    let found = untaken (codes "weekends") (λ _. SaysWeekends) number row rows (marks before.weekends) (marks after.weekends) refl h.11 in
    let read : weekends_row_of row ≡ weekends_row_of (codes "weekends" ∷ []) = width-is 1 row _ found.1.0 in
    let none : before.weekends ≡ false = marked-back before.weekends after.weekends found.0 found.2.0 found.2.2 in
    record {
      more = record before { weekends = true };
      is = rw (read, none) refl;
      rest = (
        All-tail IsKnown (number, row) rows h.0,
        h.1,
        h.2,
        h.3,
        h.4,
        h.5,
        h.6,
        h.7,
        h.8,
        h.9,
        h.10,
        subst (λ own. Column (codes "weekends") (λ _. SaysWeekends) rows own (marks after.weekends)) (sym (once-marked before.weekends none) ∙ refl) (subst (λ own. Column (codes "weekends") (λ _. SaysWeekends) rows (marks before.weekends ++ own ∷ []) (marks after.weekends)) found.1.1 found.2),
        h.12,
        (λ _. apart),
        (λ _. alone),
      );
    }

closed-back : (before : Draft) (number : ℕ) (fields : Row) (rows : List (ℕ × Row)) (after : Draft) → Added ((number, codes "closed" ∷ fields) ∷ rows) before after → Distinct after.closed → IsAlone after
    → IsNext before number (codes "closed" ∷ fields) rows after
closed-back before number fields rows after h apart alone =
    let row = codes "closed" ∷ fields in
    let found = untaken (codes "closed") (λ _. SaysClosed before.settle) number row rows before.closed after.closed refl h.12 in
    let read = says-closed before.settle row found.0 found.1 in
    let new = distinct-not before.closed found.0 found.2.0 after.closed found.2.2 apart in
    record {
      more = record before { closed = before.closed ++ found.0 ∷ [] };
      is = rw (read.0, read.1, new) refl;
      rest = (
        All-tail IsKnown (number, row) rows h.0,
        h.1,
        h.2,
        h.3,
        h.4,
        h.5,
        h.6,
        h.7,
        h.8,
        h.9,
        h.10,
        h.11,
        found.2,
        (λ _. apart),
        (λ _. alone),
      );
    }

-- of a row with this word
abbrev IsBack : Draft → ℕ → Row → List (ℕ × Row) → Draft → List ℕ → Type 0
IsBack before number fields rows after word =
    Added ((number, word ∷ fields) ∷ rows) before after → Distinct after.closed → IsAlone after → IsNext before number (word ∷ fields) rows after

row-back : (before : Draft) (number : ℕ) (w : List ℕ) (fields : Row) (rows : List (ℕ × Row)) (after : Draft) → IsBack before number fields rows after w
row-back before number w fields rows after =
    by-word (codes "call") w (IsBack before number fields rows after) (call-back before number fields rows after)
    (λ wa. by-word (codes "bond") w (IsBack before number fields rows after) (bond-back before number fields rows after)
    (λ wb. by-word (codes "need") w (IsBack before number fields rows after) (need-back before number fields rows after)
    (λ wc. by-word (codes "cash") w (IsBack before number fields rows after) (cash-back before number fields rows after)
    (λ wd. by-word (codes "restricted") w (IsBack before number fields rows after) (restricted-back before number fields rows after)
    (λ we. by-word (codes "price") w (IsBack before number fields rows after) (price-back before number fields rows after)
    (λ wf. by-word (codes "pay") w (IsBack before number fields rows after) (pay-back before number fields rows after)
    (λ wg. by-word (codes "allowance") w (IsBack before number fields rows after) (allowance-back before number fields rows after)
    (λ wh. by-word (codes "budget") w (IsBack before number fields rows after) (budget-back before number fields rows after)
    (λ wi. by-word (codes "weekends") w (IsBack before number fields rows after) (weekends-back before number fields rows after)
    (λ wj. by-word (codes "closed") w (IsBack before number fields rows after) (closed-back before number fields rows after)
    (λ wk h apart alone.
    let known : IsKnown (number, w ∷ fields) = All-head IsKnown (number, w ∷ fields) rows h.0 in
    let none : list_any (λ word. is_word word w) issue_words ≡ false = rw (wa, wb, wc, wd, we, wf, wg, wh, wi, wj, wk) refl in
    absurd (let clash : false ≡ true = sym none ∙ known in cc))))))))))))

-- ---- all the rows, back
same-option : {T : Type 0} (before after : Option T) → option_to_list before ≡ option_to_list after → before ≡ after
same-option None None e = refl
same-option None (Some own) e = absurd (cc)
same-option (Some own) None e = absurd (cc)
same-option (Some own) (Some other) e = let same : own ≡ other = cc in ap (λ value. Some value) same

same-mark : (before after : Bool) → marks before ≡ marks after → before ≡ after
same-mark true true e = refl
same-mark false false e = refl
same-mark true false e = absurd (cc)
same-mark false true e = absurd (cc)

same-draft : (before after : Draft) → Added [] before after → before ≡ after
same-draft before after h =
    let same_bonds : before.bonds ≡ after.bonds = same-list (codes "bond") (λ _. SaysBond before.settle) before.bonds after.bonds h.2 in
    let same_call : before.call ≡ after.call = same-option before.call after.call (same-list (codes "call") (λ _. SaysCall before.settle) (option_to_list before.call) (option_to_list after.call) h.3) in
    let same_direct : before.direct ≡ after.direct = same-list (codes "need") (λ _. SaysNeed before.settle) before.direct after.direct h.4 in
    let same_pays : before.pays ≡ after.pays = same-list (codes "pay") (λ _. SaysPay before.settle) before.pays after.pays h.5 in
    let same_restricted : before.restricted ≡ after.restricted = same-option before.restricted after.restricted (same-list (codes "restricted") (λ _. SaysField yield_of) (option_to_list before.restricted) (option_to_list after.restricted) h.6) in
    let same_price : before.price ≡ after.price = same-option before.price after.price (same-list (codes "price") SaysPrice (option_to_list before.price) (option_to_list after.price) h.7) in
    let same_cash : before.cash ≡ after.cash = same-option before.cash after.cash (same-list (codes "cash") (λ _. SaysField cents_of) (option_to_list before.cash) (option_to_list after.cash) h.8) in
    let same_allowance : before.allowance ≡ after.allowance = same-option before.allowance after.allowance (same-list (codes "allowance") (λ _. SaysField cents_of) (option_to_list before.allowance) (option_to_list after.allowance) h.9) in
    let same_budget : before.budget ≡ after.budget = same-option before.budget after.budget (same-list (codes "budget") (λ _. SaysField count_of) (option_to_list before.budget) (option_to_list after.budget) h.10) in
    let same_weekends : before.weekends ≡ after.weekends = same-mark before.weekends after.weekends (same-list (codes "weekends") (λ _. SaysWeekends) (marks before.weekends) (marks after.weekends) h.11) in
    let same_closed : before.closed ≡ after.closed = same-list (codes "closed") (λ _. SaysClosed before.settle) before.closed after.closed h.12 in
    λ i. record before { settle = sym h.1 i; bonds = same_bonds i; call = same_call i; direct = same_direct i; pays = same_pays i; restricted = same_restricted i; price = same_price i; cash = same_cash i; allowance = same_allowance i; budget = same_budget i; weekends = same_weekends i; closed = same_closed i }

rows-back : (before : Draft) (number : ℕ) (rows : List Row) (after : Draft) → Added (enumerate_from number rows) before after → Distinct after.closed → IsAlone after
    → with_rows file.Issue with_row before number rows ≡ Ok after
rows-back before number [] after h apart alone = ap (λ own. Ok own) (same-draft before after h)
rows-back before number ([] ∷ rows) after h apart alone =
    absurd (let known : IsKnown (number, []) = All-head IsKnown (number, []) (enumerate_from (number + 1) rows) h.0 in let clash : false ≡ true = known in cc)
rows-back before number ((w ∷ fields) ∷ rows) after h apart alone =
    let next = row-back before number w fields (enumerate_from (number + 1) rows) after h apart alone in
    ap (λ (answer : Result Draft RefusalKind). answer_of_row file.Issue number answer >>= (λ more. with_rows file.Issue with_row more (number + 1) rows)) next.is
    ∙ rows-back next.more (number + 1) rows after next.rest apart alone

-- ---- the issue, back
-- what is read where a restricted yield stands
record IsRestrictedRead (rows : List (ℕ × Row)) (pays : List Flow) (restricted : Restricted) : Type 0 where
  found : Option YieldUnits
  price : Option Price
  yields : Say (codes "restricted") (λ _. SaysField yield_of) rows (option_to_list found)
  prices : Say (codes "price") SaysPrice rows (option_to_list price)
  alone : (found ≡ None) ⊎ ((price ≡ None) × (pays ≡ []))
  is : restricted_of found price pays ≡ Ok restricted

cents-price : (rows : List (ℕ × Row)) (number : ℕ) (price : Cents) → AllZip (λ row cents. (row.0 ≡ number) × SaysField cents_of row.1 cents) rows (price ∷ []) → 1 ≤ price.0
    → AllZip (λ row own. SaysPrice row.0 row.1 own) rows (record { row = number; cents = price } ∷ [])
cents-price [] number price says least = absurd says
cents-price (row ∷ []) number price says least = ((says.0.0, says.0.1, least), tt)
cents-price (row ∷ other ∷ rows) number price says least = absurd says.1

computed-is : (number : ℕ) (price : Cents) (pays : List Flow) → 1 ≤ length pays → restricted_of None (Some (record { row = number; cents = price })) pays ≡ Ok (Computed number price)
computed-is number price [] some = absurd (omega (arith, some))
computed-is number price (pay ∷ pays) some = refl

restricted-read : (rows : List (ℕ × Row)) (pays : List Flow) (restricted : Restricted) → IsRestrictedBy rows pays restricted → IsRestrictedRead rows pays restricted
restricted-read rows pays (Given units) by = record {
  found = Some units;
  price = None;
  yields = by.0;
  prices = no-rows (λ row own. SaysField cents_of row.1 own) (λ row own. SaysPrice row.0 row.1 own) (filter (λ row. is_word (codes "price") (field_of row.1 0)) rows) by.1;
  alone = inr (refl, by.2);
  is = refl;
}
restricted-read rows pays (Computed number price) by = record {
  found = None;
  price = Some (record { row = number; cents = price });
  yields = by.0;
  prices = cents-price (filter (λ row. is_word (codes "price") (field_of row.1 0)) rows) number price by.1 by.2;
  alone = inl refl;
  is = computed-is number price pays by.3;
}

marked-rows : (rows : List (ℕ × Row)) (marked : Bool) → SaysOnce (codes "weekends") (λ _. SaysWeekends) rows false marked → Say (codes "weekends") (λ _. SaysWeekends) rows (marks marked)
marked-rows rows marked (None, says, is) = subst (λ own. Say (codes "weekends") (λ _. SaysWeekends) rows (marks own)) (sym is) says
marked-rows rows marked (Some own, says, is) = by (filter (λ row. is_word (codes "weekends") (field_of row.1 0)) rows) says
  where
    by : (named : List (ℕ × Row)) → AllZip (λ row value. SaysWeekends row.1 value) named (own ∷ []) → AllZip (λ row value. SaysWeekends row.1 value) named (marks marked)
    by [] says = absurd says
    by (row ∷ []) says = subst (λ m. AllZip (λ row value. SaysWeekends row.1 value) (row ∷ []) (marks m)) (sym (is ∙ says.0.1)) ((says.0.0, refl), tt)
    by (row ∷ other ∷ named) says = absurd says.1

limits-ok : (issue : Issue) → KeepsLimits issue → within_limits_of issue ≡ Ok issue
limits-ok issue keeps =
    rw (
      le-leb (needs_total issue) AMOUNT_LIMIT keeps.small,
      le-leb (total issue.pays) AMOUNT_LIMIT keeps.small_pays,
      le-ltb MOST_NEED_DATES (need_dates issue) keeps.few,
      le-ltb 1000 (length issue.closed.days) keeps.few_closed,
    ) refl

-- what is read of such rows
record IsReadAs (rows : List Row) (issue : Issue) : Type 0 where
  read : Draft
  is : draft_of rows ≡ Ok read
  finished : finished_of read ≡ Ok issue

read-as : (first : Row) (rows : List Row) (issue : Issue) → SaysSettle first issue.settle → AreIssueRows (enumerate_from 2 rows) issue → IsReadAs (first ∷ rows) issue
unfolding draft_of
read-as first rows issue settle says =
    let own = restricted-read (enumerate_from 2 rows) issue.pays issue.restricted says.restricted in
    let before = bare_read issue.settle in
    let after : Draft = record before {
      call = issue.call;
      bonds = issue.bonds;
      direct = issue.direct;
      cash = says.cash.0;
      restricted = own.found;
      price = own.price;
      pays = issue.pays;
      allowance = says.allowance.0;
      budget = says.budget.0;
      weekends = issue.closed.weekends;
      closed = issue.closed.days;
    } in
    let added : Added (enumerate_from 2 rows) before after = (
      says.known,
      refl,
      column-of (codes "bond") (λ _. SaysBond issue.settle) (enumerate_from 2 rows) issue.bonds says.bonds,
      column-of (codes "call") (λ _. SaysCall issue.settle) (enumerate_from 2 rows) (option_to_list issue.call) says.call,
      column-of (codes "need") (λ _. SaysNeed issue.settle) (enumerate_from 2 rows) issue.direct says.direct,
      column-of (codes "pay") (λ _. SaysPay issue.settle) (enumerate_from 2 rows) issue.pays says.pays,
      column-of (codes "restricted") (λ _. SaysField yield_of) (enumerate_from 2 rows) (option_to_list own.found) own.yields,
      column-of (codes "price") SaysPrice (enumerate_from 2 rows) (option_to_list own.price) own.prices,
      column-of (codes "cash") (λ _. SaysField cents_of) (enumerate_from 2 rows) (option_to_list says.cash.0) says.cash.1,
      column-of (codes "allowance") (λ _. SaysField cents_of) (enumerate_from 2 rows) (option_to_list says.allowance.0) says.allowance.1,
      column-of (codes "budget") (λ _. SaysField count_of) (enumerate_from 2 rows) (option_to_list says.budget.0) says.budget.1,
      column-of (codes "weekends") (λ _. SaysWeekends) (enumerate_from 2 rows) (marks issue.closed.weekends) (marked-rows (enumerate_from 2 rows) issue.closed.weekends says.weekends),
      column-of (codes "closed") (λ _. SaysClosed issue.settle) (enumerate_from 2 rows) issue.closed.days says.closed,
      (λ _. says.closed_once),
      (λ _. own.alone),
    ) in
    let made : issue_with_of after issue.restricted ≡ issue =
    λ i. record issue { cash = sym says.cash.2 i; allowance = sym says.allowance.2 i; budget = sym says.budget.2 i } in
    record {
      read = after;
      is = rw (says-settle first issue.settle settle) (rows-back before 2 rows after added says.closed_once own.alone);
      finished =
          ap (λ (answer : Result Restricted RefusalKind). answer >>= (λ restricted. within_limits_of (issue_with_of after restricted))) own.is
          ∙ (ap within_limits_of made ∙ limits-ok issue (record { small = says.small; small_pays = says.small_pays; few = says.few; few_closed = says.few_closed }));
    }

pub said-issue : (rows : List Row) (issue : Issue) → IsIssueOf rows issue → issue_of rows ≡ Ok issue
unfolding issue_of
said-issue [] issue says = absurd says
said-issue (first ∷ rows) issue says =
    let own = read-as first rows issue says.0 says.1 in
    rw (own.is, own.finished) refl

-- the reader gives just the issue that the rows say
pub issues-said : IssuesAreSaid
issues-said rows issue = (issue-said rows issue, said-issue rows issue)
