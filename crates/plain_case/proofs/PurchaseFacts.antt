-- What an own offer costs and pays, at the bootstrapped prices.
use Rattle.std.proofs.Common.{◌≡◌, ◌∙◌, ℕ, ◌+◌, ◌-◌, ◌<◌, ◌≤◌, List, length, get_or, set, refl, sym, ap, inl, inr, arith}
use Rattle.std.proofs.lemmas.Bool.{cases_lt}
use Rattle.std.proofs.lemmas.List.{get_or-set_same, length-set, set-get_or, set-set}
use Rattle.escrow_units.specs.declared.security.Flow.{Flow}
use Rattle.offer_book.specs.Book.{BookContents}
use Rattle.offer_book.specs.CaseBook.{cash_line}
use Rattle.offer_book.specs.Portfolio.{IsPermitted, IsPermittedUnits, line_cost, line_payments, payments}
use Rattle.offer_book.specs.declared.line.Line.{Line}
use Rattle.offer_book.proofs.LineFacts.{line_cost-none, line_payments-none}
use Rattle.cash_table.proofs.ZipFacts.{sum_by-zero}
use Rattle.backward_build.specs.OwnOffer.{line_at, need_at}
use Rattle.backward_build.specs.PlanLaws.{IsJustPaidFor}
use Rattle.backward_build.specs.Span.{paid_in, span_of}
use Rattle.backward_build.proofs.CoverFacts.{span_cents}
use Rattle.backward_build.proofs.PlanFacts.{bought_counts, span_counts}
use Rattle.backward_build.proofs.UnitFacts.{permitted-at}

-- ---- what is paid in the span of a need date
abbrev pub received : BookContents → List ℕ → ℕ → ℕ
received book plan place = paid_in (span_of book.needs place) (payments book plan)

abbrev pub own_paid : BookContents → ℕ → ℕ → ℕ → ℕ
own_paid book place number units = paid_in (span_of book.needs place) (line_payments book.days (line_at book.lines number) units)

-- with so many units of one line
paid-with : (book : BookContents) (plan : List ℕ) (place number units : ℕ) → length plan ≡ length book.lines → number < length book.lines
    → received book (set plan number units) place ≡ received book (set plan number 0) place + own_paid book place number units
paid-with book plan place number units same within =
    let count : length (set plan number 0) ≡ length book.lines = length-set plan number 0 ∙ same in
    let none : get_or (set plan number 0) number 0 ≡ 0 = get_or-set_same plan number 0 0 (omega (arith, within, same)) in
    ap (λ (p : List ℕ). received book p place) (sym (set-set plan number 0 units))
    ∙ bought_counts (span_cents (span_of book.needs place)) book.days book.lines (set plan number 0) number units (span_counts (span_of book.needs place)) count within none

-- with fewer units of the own offer no more than the need is paid for, and what it has more costs no more than the least purchase
-- and one step
pub record IsFewer (book : BookContents) (plan : List ℕ) (place number : ℕ) : Type 0 where
  pub fewer : ℕ
  pub more : ℕ
  pub parts : get_or plan number 0 ≡ fewer + more
  pub little : line_cost (line_at book.lines number) more ≤ line_cost (line_at book.lines number) (line_at book.lines number).least + line_cost (line_at book.lines number) 1
  pub short : received book plan place + own_paid book place number fewer ≤ (need_at book.needs place).cents.0 + own_paid book place number (get_or plan number 0)

nothing-paid : (book : BookContents) (place number : ℕ) → own_paid book place number 0 ≡ 0
nothing-paid book place number =
    let nothing = line_payments-none book.days (line_at book.lines number) 0 refl in
    sum_by-zero (span_cents (span_of book.needs place)) (line_payments book.days (line_at book.lines number) 0) (λ k d lt. span_counts (span_of book.needs place) (get_or (line_payments book.days (line_at book.lines number) 0) k d) (nothing k d lt))

pub fewer-bought : (book : BookContents) (plan : List ℕ) (place : ℕ) (just : IsJustPaidFor book plan place) → IsPermitted book plan → just.number < length book.lines → 1 ≤ (line_at book.lines just.number).least
    → received book (set plan just.number 0) place ≤ (need_at book.needs place).cents.0 → IsFewer book plan place just.number
fewer-bought book plan place just permitted within some residual = elim allowed_units [
  | inl none ↦ from_none units (omega arith) (omega (arith, line_cost-none line units none))
  | inr bought ↦ elim (cases_lt line.least units) [
    | inl less ↦
        (let allowed : IsPermittedUnits line (units - 1) = inr (omega (arith, less), omega (arith, bought.1)) in
        let fewer : received book (set plan number (units - 1)) place < need.cents.0 = elim (cases_lt (received book (set plan number (units - 1)) place) need.cents.0) [
          | inl short ↦ short
          | inr paid ↦ absurd (just.fewest (units - 1) allowed (omega (arith, less, some)) paid)
        ] in
        record {
          fewer = units - 1;
          more = 1;
          parts = omega (arith, less, some);
          little = omega arith;
          short = omega (arith, whole, fewer, paid-with book plan place number (units - 1) permitted.same_length within);
        })
    | inr at_most ↦ from_none units (omega arith) (let same : units ≡ line.least = omega (arith, bought.0, at_most) in omega (arith, ap (line_cost line) same))
  ]
]
  where
    number : ℕ
    number = just.number

    line : Line
    line = line_at book.lines number

    need : Flow
    need = need_at book.needs place

    units : ℕ
    units = get_or plan number 0

    allowed_units : IsPermittedUnits line units
    allowed_units = permitted-at book plan number within permitted (cash_line 0)

    whole : received book plan place ≡ received book (set plan number 0) place + own_paid book place number units
    whole = ap (λ (p : List ℕ). received book p place) (sym (set-get_or plan number 0)) ∙ paid-with book plan place number units permitted.same_length within

    from_none : (more : ℕ) → units ≡ 0 + more → line_cost line more ≤ line_cost line line.least + line_cost line 1 → IsFewer book plan place number
    from_none more parts little = record {
      fewer = 0;
      more = more;
      parts = parts;
      little = little;
      short = omega (arith, whole, residual, nothing-paid book place number);
    }
