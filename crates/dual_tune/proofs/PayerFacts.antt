-- The lines that pay for a need date, as they are put.
use Rattle.std.proofs.Common.{◌≡◌, ◌∙◌, ℕ, ◌+◌, ◌<◌, ◌≤◌, List, get_or, length, set, sym, ap, subst, arith, inl, inr}
use Rattle.std.specs.Prelude.{All}
use Rattle.std.specs.List.{Contains}
use Rattle.std.proofs.lemmas.Bool.{cases_eq, cases_lt}
use Rattle.std.proofs.lemmas.Grind.{get_or-set_at}
use Rattle.std.proofs.lemmas.List.{get_or-set_other, get_or_default}
use Rattle.offer_book.specs.Book.{BookContents}
use Rattle.offer_book.specs.Schedule.{schedule_of}
use Rattle.offer_book.specs.declared.line.Line.{Line}
use Rattle.payment_schedule.specs.declared.schedule.ScheduledPayment.{ScheduledPayment}
use Rattle.dual_tune.specs.Payers.{ArePayers, IsAside, IsElsewhere, IsRisingTo, Serves}
use Rattle.dual_tune.specs.declared.payers.Payers.{Payers}

-- what lists have of lines stays where one list gets more
pub put-kept : (by_date : List Payers) (place : ℕ) (old new : Payers) → place < length by_date → old ≡ get_or by_date place old
    → ((other : ℕ) → Contains old.lines.items other → Contains new.lines.items other)
    → (date : ℕ) (e : Payers) (other : ℕ) → date < length by_date → Contains (get_or by_date date e).lines.items other → Contains (get_or (set by_date place new) date e).lines.items other
put-kept by_date place old new few is kept date e other lt has =
    elim (cases_eq date place) [
      | inl at ↦
          let own : get_or by_date date e ≡ old = ap (λ k. get_or by_date k e) at ∙ get_or_default by_date place e old few ∙ sym is in
          subst (λ (p : Payers). Contains p.lines.items other) (sym (get_or-set_at by_date place date new e at few)) (kept other (subst (λ (p : Payers). Contains p.lines.items other) own has))
      | inr apart ↦ subst (λ (p : Payers). Contains p.lines.items other) (sym (get_or-set_other by_date place date new e apart)) has
    ]

-- a line is put for the first so many of its payments
pub record AreAdded (book : BookContents) (line place : ℕ) (schedule : List ScheduledPayment) (paid : ℕ) (lines : List ℕ) : Type 0 where
  pub rising : IsRisingTo line lines
  pub others : (other : ℕ) (d : Line) → other < line → (Contains lines other → ⊥) → IsAside book.days book.needs place (get_or book.lines other d)
  pub own : (Contains lines line → ⊥) → (k : ℕ) (d : ScheduledPayment) → k < paid → IsElsewhere book.needs place (get_or schedule k d).day

pub added-none : (book : BookContents) (line place : ℕ) (schedule : List ScheduledPayment) (lines : List ℕ) → ArePayers book line place lines → AreAdded book line place schedule 0 lines
added-none book line place schedule lines h = record {
  rising = record { rising = h.rising; within = λ k d lt. omega (arith, h.there k d lt) };
  others = h.others;
  own = λ none k d lt. absurd (omega arith);
}

pub added-more : (book : BookContents) (line place : ℕ) (schedule : List ScheduledPayment) (paid at : ℕ) (old new : List ℕ) → AreAdded book line place schedule paid old
    → IsRisingTo line new → ((other : ℕ) → Contains old other → Contains new other) → (at ≡ place → Contains new line)
    → ((d : ScheduledPayment) → Serves book.needs (get_or schedule paid d).day at)
    → AreAdded book line place schedule (paid + 1) new
added-more book line place schedule paid at old new h rising kept there serves = record {
  rising = rising;
  others = λ other d lt none. h.others other d lt (λ c. none (kept other c));
  own = λ none k d lt.
      elim (cases_lt k paid) [
        | inl before ↦ h.own (λ c. none (kept line c)) k d before
        | inr from ↦
            let is : paid ≡ k = omega (arith, lt, from) in
            subst (λ j. IsElsewhere book.needs place (get_or schedule j d).day) is (at, (λ e. none (there e)), serves d)
      ];
}

pub added-all : (book : BookContents) (line place : ℕ) (schedule : List ScheduledPayment) (paid : ℕ) (lines : List ℕ) → AreAdded book line place schedule paid lines → length schedule ≤ paid
    → ((d : Line) → schedule ≡ schedule_of book.days (get_or book.lines line d)) → ArePayers book (line + 1) place lines
added-all book line place schedule paid lines h all scheduled = record {
  rising = h.rising.rising;
  there = λ k d lt. omega (arith, h.rising.within k d lt);
  others = λ other d lt none.
      elim (cases_lt other line) [
        | inl before ↦ h.others other d before none
        | inr from ↦
            let is : line ≡ other = omega (arith, lt, from) in
            subst (λ j. IsAside book.days book.needs place (get_or book.lines j d)) is
            (subst (All (λ payment. IsElsewhere book.needs place payment.day)) (scheduled d) (λ k e few. h.own (λ c. none (subst (Contains lines) is c)) k e (omega (arith, few, all))))
      ];
}
