-- The earliest date of a series, and the one answer to a request.
use Rattle.std.proofs.Common.{◌≡◌, ◌∙◌, ℕ, ◌+◌, zero, suc, refl, sym, ap, arith, ℤ, pos, ◌+ℤ◌, ◌≤ℤ◌, ◌<ℤ◌, inl, inr, ◌⊎◌, Option, None, Some, IfSome, Result, Ok, Err}
use Rattle.std.proofs.lemmas.Bool.{cases_lt}
use Rattle.std.proofs.lemmas.Int.{by_lt_z}
use Rattle.jiff_core.proofs.SignedLemmas.{signed_arith}
use Rattle.escrow_units.specs.Calendar.{half_back_of, years_after_of, IsBaseDay, IsSeriesDate}
use Rattle.escrow_units.specs.DayNumber.{IsDayNumber}
use Rattle.escrow_units.specs.SlgsTerms.{IsSettlement, IsSlgs, IsOfKind, IsFirstInterest, IsFirstPayment}
use Rattle.escrow_units.specs.declared.security.Slgs.{Slgs}
use Rattle.escrow_units.specs.declared.security.SlgsKind.{SlgsKind}
use Rattle.escrow_units.specs.declared.security.SlgsKind.TheVariants as kind
use Rattle.escrow_units.specs.declared.security.StepRule.TheVariants as rule
use Rattle.escrow_units.proofs.LastDates.{base-day, half_back_of-reach}
use Rattle.escrow_units.proofs.SeriesFacts.{half_back_of-steps, years_after_of-none}
use Rattle.escrow_units.proofs.YearFacts.{years_after_of-passes, settlement-base, kinds-exclusive}
use Rattle.slgs_rules.specs.TermRules.{Request, IsAnswer, IsSubscription, IsFirstFault, IsEarliestFrom, IsNamedOrEarliest, IsFirstOfKind, IsNameable, place}
use Rattle.slgs_rules.specs.declared.fault.RuleFault.{RuleFault}
use Rattle.slgs_rules.specs.declared.fault.RuleFault.TheVariants as fault

-- the days that are counted from settlement
pub record IsSpan (settle : ℤ) : Type 0 where
  pub base : IsBaseDay settle
  pub day : IsDayNumber settle
  pub year_least : (settle +ℤ pos 365) ≤ℤ years_after_of settle 1
  pub year_most : years_after_of settle 1 ≤ℤ (settle +ℤ pos 366)
  pub ten_least : (settle +ℤ pos 3650) ≤ℤ years_after_of settle 10
  pub ten_more : years_after_of settle 1 <ℤ years_after_of settle 10
  pub forty_least : years_after_of settle 10 <ℤ years_after_of settle 40
  pub forty_most : years_after_of settle 40 ≤ℤ (settle +ℤ pos 14640)

pub span : (settle : ℤ) → IsSettlement settle → IsSpan settle
span settle h =
    let base : IsBaseDay settle = (h.0, omega (arith, signed_arith, h.1)) in
    let own = base-day settle base in
    let none = years_after_of-none settle own in
    let one = years_after_of-passes settle 0 1 base (omega arith) in
    let ten = years_after_of-passes settle 0 10 base (omega arith) in
    let forty = years_after_of-passes settle 0 40 base (omega arith) in
    let between = years_after_of-passes settle 1 9 base (omega arith) in
    let rest = years_after_of-passes settle 10 30 base (omega arith) in
    record {
      base = base;
      day = own;
      year_least = omega (arith, signed_arith, one.least, none);
      year_most = omega (arith, signed_arith, one.most, none);
      ten_least = omega (arith, signed_arith, ten.least, none);
      ten_more = omega (arith, signed_arith, between.least);
      forty_least = omega (arith, signed_arith, rest.least);
      forty_most = omega (arith, signed_arith, forty.most, none);
    }

-- two earliest dates are one
pub earliest-unique : (maturity from a b : ℤ) → IsEarliestFrom maturity from a → IsEarliestFrom maturity from b → a ≡ b
earliest-unique maturity from a b p q =
    omega (arith, signed_arith, p.earliest b q.series q.late, q.earliest a p.series p.late)

-- a date of the series is the earliest from itself
pub earliest-self : (maturity day date : ℤ) → IsEarliestFrom maturity day date → IsSeriesDate maturity rule.SameDay day → date ≡ day
earliest-self maturity day date p series =
    omega (arith, signed_arith, p.late, p.earliest day series (omega (arith, signed_arith)))

-- half-years are counted from the maturity of a note or bond
pub maturity-base : (settle maturity : ℤ) → IsSettlement settle → years_after_of settle 1 <ℤ maturity → maturity ≤ℤ years_after_of settle 40 → IsBaseDay maturity
maturity-base settle maturity h longer most =
    settlement-base settle maturity h (omega (arith, signed_arith, (span settle h).year_least)) most

-- a day of the first year is a first payment date where it is a date of the series
pub interest-date : (settle maturity first date : ℤ) → (settle +ℤ pos 30) ≤ℤ first → first ≤ℤ years_after_of settle 1
    → IsEarliestFrom maturity first date → date ≡ first → IsFirstInterest settle maturity first
interest-date settle maturity first date late early p e =
    record { series = record { steps = p.series.steps; few = p.series.few; back = sym e ∙ p.series.back }; late = late; early = early }

-- the earliest date 30 days after settlement is within one year of it
pub earliest-early : (settle maturity first : ℤ) → IsSettlement settle → years_after_of settle 1 <ℤ maturity → maturity ≤ℤ years_after_of settle 40
    → IsEarliestFrom maturity (settle +ℤ pos 30) first → first ≤ℤ years_after_of settle 1
earliest-early settle maturity first h longer most e =
    let years = span settle h in
    let base = settlement-base settle maturity h (omega (arith, signed_arith, years.year_least)) most in
    let reach = half_back_of-reach maturity rule.SameDay e.series.steps base e.series.few in
    elim (cases_lt e.series.steps 84) [
      | inl few ↦
          let step = half_back_of-steps maturity rule.SameDay e.series.steps base few in
          by_lt_z (half_back_of maturity (e.series.steps + 1) rule.SameDay) (settle +ℤ pos 30)
          (λ before. omega (arith, signed_arith, years.year_least, step.most, e.series.back, before))
          (λ after.
          let next : IsSeriesDate maturity rule.SameDay (half_back_of maturity (e.series.steps + 1) rule.SameDay) =
          record { steps = e.series.steps + 1; few = omega arith; back = refl } in
          absurd (omega (arith, signed_arith, step.least, e.series.back, e.earliest _ next after)))
      | inr last ↦
          let all : e.series.steps ≡ 84 = omega (arith, e.series.few) in
          omega (arith, signed_arith, years.year_least, years.forty_most, e.series.back, reach, all)
    ]

-- so it is a first payment date of a note or bond
pub earliest-interest : (settle maturity first : ℤ) → IsSettlement settle → years_after_of settle 1 <ℤ maturity → maturity ≤ℤ years_after_of settle 40
    → IsEarliestFrom maturity (settle +ℤ pos 30) first → IsFirstInterest settle maturity first
earliest-interest settle maturity first h longer most e =
    record { series = e.series; late = e.late; early = earliest-early settle maturity first h longer most e }

-- the fault at a place
fault_at : ℕ → RuleFault
fault_at zero = fault.NoRate
fault_at (suc zero) = fault.RateAboveTable
fault_at (suc (suc zero)) = fault.TooShort
fault_at (suc (suc (suc zero))) = fault.TooLong
fault_at (suc (suc (suc (suc k)))) = fault.FirstDate

fault_at-place : (f : RuleFault) → fault_at (place f) ≡ f
unfolding fault_at
fault_at-place fault.NoRate = refl
fault_at-place fault.RateAboveTable = refl
fault_at-place fault.TooShort = refl
fault_at-place fault.TooLong = refl
fault_at-place fault.FirstDate = refl

-- faults at one place are one
pub same_place : (f g : RuleFault) → place f ≡ place g → f ≡ g
same_place f g same = sym (fault_at-place f) ∙ (ap fault_at same ∙ fault_at-place g)

fault-unique : (request : Request) (f g : RuleFault) → IsFirstFault request f → IsFirstFault request g → f ≡ g
fault-unique request f g p q =
    elim (cases_lt (place f) (place g)) [
      | inl before ↦ absurd (p.breaks (q.kept_before f before))
      | inr after ↦ elim (cases_lt (place g) (place f)) [
        | inl before ↦ absurd (q.breaks (p.kept_before g before))
        | inr not_after ↦
            same_place f g (omega arith)
      ]
    ]

named-unique : (settle maturity : ℤ) (named : Option ℤ) (a b : ℤ) → IsNamedOrEarliest settle maturity named a → IsNamedOrEarliest settle maturity named b → a ≡ b
named-unique settle maturity (Some day) a b p q = p ∙ sym q
named-unique settle maturity None a b p q = earliest-unique maturity (settle +ℤ pos 30) a b p q

first-unique : (k j : SlgsKind) (settle maturity : ℤ) (named : Option ℤ) (a b : ℤ) → k ≡ j
    → IsFirstOfKind k settle maturity named a → IsFirstOfKind j settle maturity named b → a ≡ b
first-unique k j settle maturity named a b e p q = at k settle maturity named a b p (rw (← e) at q)
  where
    at : (k : SlgsKind) (settle maturity : ℤ) (named : Option ℤ) (a b : ℤ)
        → IsFirstOfKind k settle maturity named a → IsFirstOfKind k settle maturity named b → a ≡ b
    at kind.Certificate settle maturity named a b p q = p ∙ sym q
    at kind.Note settle maturity named a b p q = named-unique settle maturity named a b p q
    at kind.Bond settle maturity named a b p q = named-unique settle maturity named a b p q

same_slgs : (s t : Slgs) → s.settle ≡ t.settle → s.maturity ≡ t.maturity → s.rate ≡ t.rate → s.kind ≡ t.kind → s.first ≡ t.first → s ≡ t
same_slgs s t a b c d e = λ i. record { settle = a i; maturity = b i; rate = c i; kind = d i; first = e i }

subscription-unique : (request : Request) (s t : Slgs) → IsSettlement request.settle → IsSubscription request s → IsSubscription request t → s ≡ t
subscription-unique request s t h p q =
    let kinds = kinds-exclusive request.settle request.maturity s.kind t.kind h p.kind q.kind in
    same_slgs s t (p.settle ∙ sym q.settle) (p.maturity ∙ sym q.maturity) (p.rate ∙ sym q.rate) kinds
    (first-unique s.kind t.kind request.settle request.maturity request.first s.first t.first kinds p.first q.first)

-- a request has one answer
pub answer-unique : (request : Request) (a b : Result Slgs RuleFault) → IsSettlement request.settle → IsAnswer request a → IsAnswer request b → a ≡ b
answer-unique request (Ok s) (Ok t) h p q = ap (λ x. Ok x) (subscription-unique request s t h p q)
answer-unique request (Ok s) (Err g) h p q = absurd (q.breaks (p.keeps g))
answer-unique request (Err f) (Ok t) h p q = absurd (p.breaks (q.keeps f))
answer-unique request (Err f) (Err g) h p q = ap (λ x. Err x) (fault-unique request f g p q)

-- the first payment date is one of the kind
interest-first : (settle maturity : ℤ) (named : Option ℤ) (first : ℤ) → IsSettlement settle → years_after_of settle 1 <ℤ maturity
    → maturity ≤ℤ years_after_of settle 40 → IfSome named (IsNameable settle maturity) → IsNamedOrEarliest settle maturity named first
    → IsFirstInterest settle maturity first
interest-first settle maturity (Some day) first h longer most kept e = rw e kept.interest
interest-first settle maturity None first h longer most kept e = earliest-interest settle maturity first h longer most e

pub payment-first : (k : SlgsKind) (settle maturity : ℤ) (named : Option ℤ) (first : ℤ) → IsSettlement settle → IsOfKind k settle maturity
    → maturity ≤ℤ years_after_of settle 40 → IfSome named (IsNameable settle maturity) → IsFirstOfKind k settle maturity named first
    → IsFirstPayment k settle maturity first
payment-first kind.Certificate settle maturity named first h of_kind most kept e = e
payment-first kind.Note settle maturity named first h of_kind most kept e = interest-first settle maturity named first h of_kind.0 most kept e
payment-first kind.Bond settle maturity named first h of_kind most kept e =
    interest-first settle maturity named first h (omega (arith, signed_arith, of_kind, (span settle h).ten_more)) most kept e

-- the security of a request keeps the terms
pub subscription-terms : (request : Request) (slgs : Slgs) → IsSettlement request.settle → IsSubscription request slgs → IsSlgs slgs
subscription-terms request slgs h p = record {
  least = rw (p.settle, p.maturity, p.rate) (p.keeps fault.TooShort);
  most = rw (p.settle, p.maturity) (p.keeps fault.TooLong);
  kind = rw (p.settle, p.maturity) p.kind;
  first = rw (p.settle, p.maturity) (payment-first slgs.kind request.settle request.maturity request.first slgs.first h p.kind (p.keeps fault.TooLong) (p.keeps fault.FirstDate) p.first);
}

-- a note or bond runs longer than a year
pub longer-than-year : (k : SlgsKind) (settle maturity : ℤ) → IsSettlement settle → (k ≡ kind.Note) ⊎ (k ≡ kind.Bond)
    → IsOfKind k settle maturity → years_after_of settle 1 <ℤ maturity
longer-than-year k settle maturity h (inl e) of_kind = (rw e at of_kind).0
longer-than-year k settle maturity h (inr e) of_kind = omega (arith, signed_arith, rw e at of_kind, (span settle h).ten_more)
