-- What the definition by tests gives is the answer of the rules.
use Rattle.std.proofs.Common.{◌≡◌, ℕ, ◌+◌, ◌≤◌, ◌<◌, zero, suc, refl, sym, arith, ℤ, pos, ◌+ℤ◌, ◌≤ℤ◌, ◌<ℤ◌, inl, inr, Option, None, Some, IfSome, Bool, true, false, not, Result}
use Rattle.std.proofs.lemmas.Bool.{cases_Bool, cases_lt, eqb-true, leb-true}
use Rattle.std.proofs.lemmas.Bool.Decides.{Decides-int_eq, Decides-and, not_from_Decides}
use Rattle.std.proofs.lemmas.Int.{ints}
use Rattle.std.specs.Prelude.{Decides, MatchOption, find, unwrap_or, int_le, int_lt}
use Rattle.std.specs.List.{list_any}
use Rattle.std.specs.Ordering.{int_eq}
use Rattle.jiff_core.proofs.SignedLemmas.{signed_arith}
use Rattle.escrow_units.specs.Calendar.{half_back_of, years_after_of, IsBaseDay, IsSeriesDate}
use Rattle.escrow_units.specs.Series.{series_from}
use Rattle.escrow_units.specs.SlgsTerms.{IsSettlement, IsOfKind, IsFirstInterest, shortest_term}
use Rattle.escrow_units.specs.declared.amount.Rate.{Rate}
use Rattle.escrow_units.specs.declared.security.AskedRate.{AskedRate}
use Rattle.escrow_units.specs.declared.security.AskedRate.TheVariants as asked
use Rattle.escrow_units.specs.declared.security.Slgs.{Slgs}
use Rattle.escrow_units.specs.declared.security.SlgsKind.{SlgsKind}
use Rattle.escrow_units.specs.declared.security.SlgsKind.TheVariants as kind
use Rattle.escrow_units.specs.declared.security.StepRule.TheVariants as rule
use Rattle.escrow_units.proofs.LastDates.{half_back_of-order, half_back_of-zero}
use Rattle.slgs_rules.specs.Classification.{classified, earliest_from, faults, first_fault, first_of_kind, has_rate, is_first_interest, is_series_date, is_within_table, keeps, kind_of, may_name, security_of, sold_unless}
use Rattle.slgs_rules.specs.TermRules.{Request, HasRate, IsAnswer, IsEarliestFrom, IsFirstOfKind, IsNameable, IsNamedOrEarliest, IsWithinTable, Keeps, place, rate_of}
use Rattle.slgs_rules.specs.declared.fault.RuleFault.{RuleFault}
use Rattle.slgs_rules.specs.declared.fault.RuleFault.TheVariants as fault
use Rattle.slgs_rules.proofs.RuleFacts.{maturity-base, same_place, span, answer-unique}

int_le-tells : (a b : ℤ) → Decides (int_le a b) (a ≤ℤ b)
int_le-tells a b = (λ t. grind (arith, ints), λ h. grind (arith, ints))

int_lt-tells : (a b : ℤ) → Decides (int_lt a b) (a <ℤ b)
int_lt-tells a b = (λ t. grind (arith, ints), λ h. grind (arith, ints))

-- a day is among the dates of the series from so many half-years before maturity on
record IsAmong (maturity : ℤ) (most : ℕ) (day : ℤ) : Type 0 where
  steps : ℕ
  few : steps ≤ most
  back : day ≡ half_back_of maturity steps rule.SameDay

among : (maturity day : ℤ) (k : ℕ) → list_any (int_eq day) (series_from maturity rule.SameDay k) ≡ true → IsAmong maturity k day
unfolding series_from
among maturity day zero test =
    elim (cases_Bool (int_eq day (half_back_of maturity 0 rule.SameDay))) [
      | inl same ↦ record { steps = 0; few = omega arith; back = (Decides-int_eq day (half_back_of maturity 0 rule.SameDay)).0 same }
      | inr other ↦ absurd (cc (rw other at test))
    ]
among maturity day (suc k) test =
    elim (cases_Bool (int_eq day (half_back_of maturity (k + 1) rule.SameDay))) [
      | inl same ↦ record { steps = k + 1; few = omega arith; back = (Decides-int_eq day (half_back_of maturity (k + 1) rule.SameDay)).0 same }
      | inr other ↦
          let later = among maturity day k (rw other at test) in
          record { steps = later.steps; few = omega (arith, later.few); back = later.back }
    ]

listed : (maturity day : ℤ) (k : ℕ) → IsAmong maturity k day → list_any (int_eq day) (series_from maturity rule.SameDay k) ≡ true
unfolding series_from
listed maturity day zero is =
    let none : is.steps ≡ 0 = omega (arith, is.few) in
    rw ((Decides-int_eq day (half_back_of maturity 0 rule.SameDay)).1 (rw none at is.back)) refl
listed maturity day (suc k) is =
    elim (cases_Bool (int_eq day (half_back_of maturity (k + 1) rule.SameDay))) [
      | inl same ↦ rw same refl
      | inr other ↦ elim (cases_lt is.steps (k + 1)) [
        | inl fewer ↦ rw other (listed maturity day k (record { steps = is.steps; few = omega arith; back = is.back }))
        | inr not_fewer ↦
            let all : is.steps ≡ k + 1 = omega (arith, is.few) in
            rw ((Decides-int_eq day (half_back_of maturity (k + 1) rule.SameDay)).1 (rw all at is.back)) refl
      ]
    ]

series-tells : (maturity day : ℤ) → Decides (is_series_date maturity day) (IsSeriesDate maturity rule.SameDay day)
series-tells maturity day = (
  λ test. let is = among maturity day 84 test in record { steps = is.steps; few = is.few; back = is.back },
  λ is. listed maturity day 84 (record { steps = is.steps; few = is.few; back = is.back }),
)

-- a date is the earliest of these dates that is not before a day
record IsEarliestAmong (maturity from : ℤ) (most : ℕ) (date : ℤ) : Type 0 where
  among : IsAmong maturity most date
  late : from ≤ℤ date
  earliest : (steps : ℕ) → steps ≤ most → from ≤ℤ half_back_of maturity steps rule.SameDay → date ≤ℤ half_back_of maturity steps rule.SameDay

found : (maturity from : ℤ) (k : ℕ) → IsBaseDay maturity → k ≤ 84 → from ≤ℤ maturity
    → IsEarliestAmong maturity from k (unwrap_or (find (int_le from) (series_from maturity rule.SameDay k)) maturity)
unfolding series_from
found maturity from zero base few late =
    let start = half_back_of-zero maturity rule.SameDay base in
    rw (start, (int_le-tells from maturity).1 late) (record {
      among = record { steps = 0; few = omega arith; back = sym start };
      late = late;
      earliest = λ steps none from_date. let e : steps ≡ 0 = omega arith in rw e (omega (arith, signed_arith, start));
    })
found maturity from (suc k) base few late =
    elim (cases_Bool (int_le from (half_back_of maturity (k + 1) rule.SameDay))) [
      | inl here ↦ rw here (record {
        among = record { steps = k + 1; few = omega arith; back = refl };
        late = (int_le-tells from (half_back_of maturity (k + 1) rule.SameDay)).0 here;
        earliest = λ steps fewer from_date. half_back_of-order maturity rule.SameDay steps (k + 1) base (omega arith) (omega arith);
      })
      | inr before ↦
          let later = found maturity from k base (omega arith) late in
          rw before (record {
            among = record { steps = later.among.steps; few = omega (arith, later.among.few); back = later.among.back };
            late = later.late;
            earliest = λ steps fewer from_date. elim (cases_lt steps (k + 1)) [
              | inl less ↦ later.earliest steps (omega arith) from_date
              | inr last ↦
                  let all : steps ≡ k + 1 = omega arith in
                  absurd (not_from_Decides _ (int_le-tells from (half_back_of maturity (k + 1) rule.SameDay)) before (rw all at from_date))
            ];
          })
    ]

earliest-found : (maturity from : ℤ) → IsBaseDay maturity → from ≤ℤ maturity → IsEarliestFrom maturity from (earliest_from maturity from)
earliest-found maturity from base late =
    let is = found maturity from 84 base (omega arith) late in
    record {
      series = record { steps = is.among.steps; few = is.among.few; back = is.among.back };
      late = is.late;
      earliest = λ other series from_other. rw series.back (is.earliest series.steps series.few (rw series.back at from_other));
    }

-- each test tells whether its rule is kept
has_rate-tells : (asked : AskedRate) (most : Option Rate) → Decides (has_rate asked most) (HasRate asked most)
has_rate-tells asked (Some most) = (λ test. tt, λ kept. refl)
has_rate-tells (asked.At rate) None = (λ test. eqb-true rate.0 0 test, λ kept. grind arith)
has_rate-tells asked.Max None = (λ test. cc, λ kept. absurd kept)

within-tells : (asked : AskedRate) (most : Option Rate) → Decides (is_within_table asked most) (IsWithinTable asked most)
within-tells asked None = (λ test. tt, λ kept. refl)
within-tells asked (Some most) = (λ test. leb-true _ _ test, λ kept. grind arith)

interest-tells : (settle maturity first : ℤ) → Decides (is_first_interest settle maturity first) (IsFirstInterest settle maturity first)
interest-tells settle maturity first =
    let bounds = Decides-and _ _ (int_le-tells (settle +ℤ pos 30) first) (int_le-tells first (years_after_of settle 1)) in
    let parts = Decides-and _ _ (series-tells maturity first) bounds in (
      λ test. let is = parts.0 test in record { series = is.0; late = is.1.0; early = is.1.1 },
      λ is. parts.1 (is.series, (is.late, is.early)),
    )

name-tells : (settle maturity : ℤ) (named : Option ℤ) → Decides (may_name settle maturity named) (IfSome named (IsNameable settle maturity))
name-tells settle maturity None = (λ test. tt, λ kept. refl)
name-tells settle maturity (Some first) =
    let parts = Decides-and _ _ (int_lt-tells (years_after_of settle 1) maturity) (interest-tells settle maturity first) in (
      λ test. let is = parts.0 test in record { longer = is.0; interest = is.1 },
      λ is. parts.1 (is.longer, is.interest),
    )

keeps-tells : (request : Request) (fault : RuleFault) → Decides (keeps request fault) (Keeps request fault)
keeps-tells request fault.NoRate = has_rate-tells request.rate request.most
keeps-tells request fault.RateAboveTable = within-tells request.rate request.most
keeps-tells request fault.TooShort = int_le-tells (request.settle +ℤ pos (shortest_term (rate_of request.rate request.most).0)) request.maturity
keeps-tells request fault.TooLong = int_le-tells request.maturity (years_after_of request.settle 40)
keeps-tells request fault.FirstDate = name-tells request.settle request.maturity request.first

-- a test passes at each fault, or a fault is the first at which it doesn't
abbrev Passes : (RuleFault → Bool) → Option RuleFault → Type 0
Passes test answer =
    MatchOption answer ((fault : RuleFault) → test fault ≡ true)
    (λ first. (test first ≡ false) × ((earlier : RuleFault) → place earlier < place first → test earlier ≡ true))

one_more : (test : RuleFault → Bool) (this : RuleFault) → ((earlier : RuleFault) → place earlier < place this → test earlier ≡ true) → test this ≡ true
    → (earlier : RuleFault) → place earlier < suc (place this) → test earlier ≡ true
one_more test this before passes earlier h =
    elim (cases_lt (place earlier) (place this)) [
      | inl less ↦ before earlier less
      | inr not_less ↦ rw (same_place earlier this (omega arith)) passes
    ]

place-below : (fault : RuleFault) → place fault < 5
place-below fault.NoRate = omega arith
place-below fault.RateAboveTable = omega arith
place-below fault.TooShort = omega arith
place-below fault.TooLong = omega arith
place-below fault.FirstDate = omega arith

first-found : (test : RuleFault → Bool) → Passes test (find (λ fault. not (test fault)) faults)
first-found test =
    let none : (earlier : RuleFault) → place earlier < 0 → test earlier ≡ true = λ earlier h. absurd (omega arith) in
    elim (cases_Bool (test fault.NoRate)) [
      | inr fails ↦ rw fails (fails, none)
      | inl passes ↦
          let one = one_more test fault.NoRate none passes in
          rw passes (elim (cases_Bool (test fault.RateAboveTable)) [
            | inr fails ↦ rw fails (fails, one)
            | inl passes ↦
                let two = one_more test fault.RateAboveTable one passes in
                rw passes (elim (cases_Bool (test fault.TooShort)) [
                  | inr fails ↦ rw fails (fails, two)
                  | inl passes ↦
                      let three = one_more test fault.TooShort two passes in
                      rw passes (elim (cases_Bool (test fault.TooLong)) [
                        | inr fails ↦ rw fails (fails, three)
                        | inl passes ↦
                            let four = one_more test fault.TooLong three passes in
                            rw passes (elim (cases_Bool (test fault.FirstDate)) [
                              | inr fails ↦ rw fails (fails, four)
                              | inl passes ↦ rw passes (λ each. one_more test fault.FirstDate four passes each (place-below each))
                            ])
                      ])
                ])
          ])
    ]

kind-fits : (settle maturity : ℤ) → IsOfKind (kind_of settle maturity) settle maturity
kind-fits settle maturity =
    elim (cases_Bool (int_le maturity (years_after_of settle 1))) [
      | inl within ↦ rw within ((int_le-tells maturity (years_after_of settle 1)).0 within)
      | inr longer ↦ elim (cases_Bool (int_le maturity (years_after_of settle 10))) [
        | inl within ↦ rw (longer, within) (after maturity (years_after_of settle 1) longer, (int_le-tells maturity (years_after_of settle 10)).0 within)
        | inr more ↦ rw (longer, more) (after maturity (years_after_of settle 10) more)
      ]
    ]
  where
    after : (a b : ℤ) → int_le a b ≡ false → b <ℤ a
    after a b test = grind (arith, ints)

-- the day of first interest of a security of more than a year
interest-found : (settle maturity : ℤ) (named : Option ℤ) → IsSettlement settle → years_after_of settle 1 <ℤ maturity → maturity ≤ℤ years_after_of settle 40
    → IsNamedOrEarliest settle maturity named (unwrap_or named (earliest_from maturity (settle +ℤ pos 30)))
interest-found settle maturity (Some first) h longer most = refl
interest-found settle maturity None h longer most =
    earliest-found maturity (settle +ℤ pos 30) (maturity-base settle maturity h longer most) (omega (arith, signed_arith, longer, (span settle h).year_least))

payment-found : (k : SlgsKind) (settle maturity : ℤ) (named : Option ℤ) → IsSettlement settle → IsOfKind k settle maturity → maturity ≤ℤ years_after_of settle 40
    → IsFirstOfKind k settle maturity named (first_of_kind k settle maturity named)
payment-found kind.Certificate settle maturity named h of_kind most = refl
payment-found kind.Note settle maturity named h of_kind most = interest-found settle maturity named h of_kind.0 most
payment-found kind.Bond settle maturity named h of_kind most =
    interest-found settle maturity named h (omega (arith, signed_arith, of_kind, (span settle h).ten_more)) most

sold-answer : (request : Request) (broken : Option RuleFault) → IsSettlement request.settle → Passes (keeps request) broken
    → IsAnswer request (sold_unless broken (security_of request))
sold-answer request None h passes =
    let kept : (rule : RuleFault) → Keeps request rule = λ rule. (keeps-tells request rule).0 (passes rule) in
    let of_kind = kind-fits request.settle request.maturity in
    record {
      keeps = kept;
      settle = refl;
      maturity = refl;
      rate = refl;
      kind = of_kind;
      first = payment-found (kind_of request.settle request.maturity) request.settle request.maturity request.first h of_kind (kept fault.TooLong);
    }
sold-answer request (Some broken) h passes = record {
  breaks = not_from_Decides (keeps request broken) (keeps-tells request broken) passes.0;
  kept_before = λ earlier before. (keeps-tells request earlier).0 (passes.1 earlier before);
}

pub classified-answer : (request : Request) → IsSettlement request.settle → IsAnswer request (classified request)
unfolding classified
classified-answer request h = sold-answer request (first_fault request) h (first-found (keeps request))

-- so it is the one answer
pub classified-only : (request : Request) (answer : Result Slgs RuleFault) → IsSettlement request.settle → IsAnswer request answer → answer ≡ classified request
classified-only request answer h is = answer-unique request answer (classified request) h is (classified-answer request h)
