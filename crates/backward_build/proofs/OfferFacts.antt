-- Own offers: which line is the first that ends on a day.
use Rattle.std.proofs.Common.{◌≡◌, ◌∙◌, ℕ, zero, suc, ◌+◌, ◌*◌, ◌<◌, ◌≤◌, false, true, List, [], ◌∷◌, ◌++◌, Some, None, length, get_or, refl, sym, ap, subst, inl, inr, arith, ℤ}
use Rattle.std.proofs.lemmas.Bool.{cases_lt}
use Rattle.std.proofs.lemmas.Bool.Decides.{Decides-int_eq}
use Rattle.std.proofs.lemmas.List.{get_or_read}
use Rattle.std.proofs.lemmas.List.Elements.{All-get_or}
use Rattle.std.proofs.lemmas.List.Quantifiers.{position-Some}
use Rattle.escrow_units.specs.declared.security.Flow.{Flow}
use Rattle.escrow_units.specs.declared.security.StepRule.TheVariants as rule
use Rattle.escrow_units.proofs.SeriesAround.{counted}
use Rattle.slgs_interest.proofs.PaymentFacts.{payments-end as slgs_end}
use Rattle.market_notes.proofs.FlowFacts.{payments-end as note_end}
use Rattle.market_notes.proofs.SeriesFacts.{term}
use Rattle.escrow_units.specs.OpenDays.{IsBy2190, open_day}
use Rattle.escrow_units.specs.Flows.{EndsOn}
use Rattle.escrow_units.specs.SlgsTerms.{IsSettlement}
use Rattle.offer_book.specs.Book.{AreLines, BookContents, IsLine, IsSecurity, IsSecurityLine}
use Rattle.offer_book.specs.CaseBook.{cash_line}
use Rattle.offer_book.specs.declared.line.Line.{Line}
use Rattle.offer_book.specs.declared.line.LineKind.{LineKind}
use Rattle.offer_book.specs.declared.line.LineKind.TheVariants.{Cash, Market, Security}
use Rattle.offer_book.specs.declared.payment_days.PaymentDays.{PaymentDays}
use Rattle.offer_book.proofs.LineFacts.{is_paid, kind_flows}
use Rattle.cash_table.proofs.PermitFacts.{position_at, position_none}
use Rattle.backward_build.specs.OwnOffer.{ends_on, line_at, need_at, own_offer_of}
use Rattle.backward_build.specs.OwnOfferLaws.{LinesEndByTheirPayments}

-- what a book gives at a place is what the definitions read there
pub need_read : (needs : List Flow) (place : ℕ) (need : Flow) → place < length needs → need ≡ get_or needs place need → need ≡ need_at needs place
need_read needs place need within at = get_or_read needs place need within at _

pub line_read : (lines : List Line) (number : ℕ) (line : Line) → number < length lines → line ≡ get_or lines number line → line ≡ line_at lines number
line_read lines number line within at = get_or_read lines number line within at _

-- no line below a number ends on a day
abbrev pub FailBelow : PaymentDays → ℤ → List Line → ℕ → Type 0
FailBelow days day lines n = (k : ℕ) (d : Line) → k < n → ends_on days day (get_or lines k d).kind ≡ false

pub fail_more : (days : PaymentDays) (day : ℤ) (lines : List Line) (n : ℕ) (line : Line) → n < length lines → line ≡ get_or lines n line → ends_on days day line.kind ≡ false → FailBelow days day lines n
    → FailBelow days day lines (n + 1)
fail_more days day lines n line within at fails before = λ k d h.
    elim (cases_lt k n) [
      | inl less ↦ before k d less
      | inr more ↦ (let here : k ≡ n = omega arith in
          let read = get_or_read lines n line within at d in
          ap (λ j. ends_on days day (get_or lines j d).kind) here ∙ ap (λ (l : Line). ends_on days day l.kind) (sym read) ∙ fails)
    ]

pub own_found : (book : BookContents) (day : ℤ) (number : ℕ) (line : Line) → number < length book.lines → line ≡ get_or book.lines number line → FailBelow book.days day book.lines number
    → ends_on book.days day line.kind ≡ true → own_offer_of book day ≡ Some number
own_found book day number line within at before here =
    position_at (λ (l : Line). ends_on book.days day l.kind) book.lines number line within (λ k h. before k line h) (ap (λ (l : Line). ends_on book.days day l.kind) (sym at) ∙ here)

pub own_none : (book : BookContents) (day : ℤ) (n : ℕ) → length book.lines ≤ n → FailBelow book.days day book.lines n → own_offer_of book day ≡ None
own_none book day n all before = position_none (λ (l : Line). ends_on book.days day l.kind) book.lines (λ k d h. before k d (omega arith))

-- an own offer is a line that ends on the day
pub record IsOwn (book : BookContents) (day : ℤ) (number : ℕ) : Type 0 where
  pub within : number < length book.lines
  pub due : ends_on book.days day (line_at book.lines number).kind ≡ true

pub own_is : (book : BookContents) (day : ℤ) (number : ℕ) → own_offer_of book day ≡ Some number → IsOwn book day number
own_is book day number e =
    let told = position-Some (λ (l : Line). ends_on book.days day l.kind) book.lines number (cash_line 0) e in
    record { within = told.0; due = told.1 }

cash_stays : (days : PaymentDays) (kind : LineKind) (day : ℤ) → kind ≡ Cash → ends_on days day kind ≡ true → ⊥
cash_stays days kind day is due = absurd (different (sym (ap (ends_on days day) is) ∙ due))
  where
    different : false ≡ true → ⊥
    different h = cc

-- so it is one of securities
pub security_at : (days : PaymentDays) (day : ℤ) (lines : List Line) (number : ℕ) (d : Line) → AreLines days lines → number < length lines → ends_on days day (get_or lines number d).kind ≡ true → IsSecurityLine days (get_or lines number d)
security_at days day [] number d lines within due = absurd lines
security_at days day (cash ∷ securities) zero d lines within due = absurd (cash_stays days cash.kind day lines.0.kind due)
security_at days day (cash ∷ securities) (suc number) d lines within due = All-get_or (IsSecurityLine days) securities number d (omega arith) lines.1

pub own_security : (book : BookContents) (day : ℤ) (number : ℕ) → AreLines book.days book.lines → own_offer_of book day ≡ Some number → IsSecurityLine book.days (line_at book.lines number)
own_security book day number kept e =
    let own = own_is book day number e in
    security_at book.days day book.lines number (cash_line 0) kept own.within own.due

-- ---- a line ends by its payments
-- amounts end on one day
last_day : List Flow → ℤ → ℤ
last_day [] day = day
last_day (flow ∷ flows) day = last_day flows flow.day

last_day-seam : (before : List Flow) (last : Flow) (day : ℤ) → last_day (before ++ last ∷ []) day ≡ last.day
unfolding last_day
last_day-seam [] last day = refl
last_day-seam (flow ∷ before) last day = last_day-seam before last flow.day

day_once : (flows : List Flow) (a b : ℤ) → EndsOn a flows → EndsOn b flows → a ≡ b
day_once flows a b first second =
    sym (ap (λ (fs : List Flow). last_day fs a) first.order ∙ last_day-seam first.before first.last a ∙ first.falls)
    ∙ ap (λ (fs : List Flow). last_day fs a) second.order ∙ last_day-seam second.before second.last a ∙ second.falls

-- the open day of a maturity, on which the last payment falls
pub kind_end : (days : PaymentDays) (kind : LineKind) (amount : ℕ) (day : ℤ) → IsSettlement days.settle → IsSecurity days kind → ends_on days day kind ≡ true → EndsOn day (kind_flows days kind amount)
kind_end days Cash amount day h security due = absurd security
kind_end days (Security slgs) amount day h security due =
    let at = (Decides-int_eq (open_day days.closed slgs.maturity) day).0 due in
    subst (λ (d : ℤ). EndsOn d (kind_flows days (Security slgs) amount)) at (slgs_end slgs days.closed amount (is_paid days slgs h security))
kind_end days (Market note) amount day h security due =
    let at = (Decides-int_eq (open_day days.closed note.maturity) day).0 due in
    let t = term note security.1 in
    let p = counted note.maturity rule.MonthEnd note.settle t security.1.after in
    subst (λ (d : ℤ). EndsOn d (kind_flows days (Market note) amount)) at (note_end note days.closed amount p.count t p.has)

kind_ends : (days : PaymentDays) (kind : LineKind) (amount : ℕ) (day : ℤ) → IsSettlement days.settle → IsSecurity days kind → EndsOn day (kind_flows days kind amount) → ends_on days day kind ≡ true
kind_ends days Cash amount day h security ends = absurd security
kind_ends days (Security slgs) amount day h security ends =
    let own = kind_end days (Security slgs) amount (open_day days.closed slgs.maturity) h security ((Decides-int_eq (open_day days.closed slgs.maturity) (open_day days.closed slgs.maturity)).1 refl) in
    (Decides-int_eq (open_day days.closed slgs.maturity) day).1 (day_once (kind_flows days (Security slgs) amount) (open_day days.closed slgs.maturity) day own ends)
kind_ends days (Market note) amount day h security ends =
    let own = kind_end days (Market note) amount (open_day days.closed note.maturity) h security ((Decides-int_eq (open_day days.closed note.maturity) (open_day days.closed note.maturity)).1 refl) in
    (Decides-int_eq (open_day days.closed note.maturity) day).1 (day_once (kind_flows days (Market note) amount) (open_day days.closed note.maturity) day own ends)

pub ends_by_payments : LinesEndByTheirPayments
ends_by_payments days line units day h security =
    (λ due. kind_end days line.kind (line.step * units) day h security.security due, λ ends. kind_ends days line.kind (line.step * units) day h security.security ends)
