-- The plan that is built is a backward plan.
use Rattle.std.proofs.Common.{◌≡◌, ◌≢◌, ◌∙◌, ℕ, zero, suc, ◌+◌, ◌-◌, ◌*◌, ◌<◌, ◌≤◌, Bool, false, true, cond, if◌then◌else◌, List, [], ◌∷◌, Option, Some, None, Result, Ok, Err, length, get_or, set, replicate, refl, sym, ap, subst, inl, inr, arith, ℤ, ◌≤ℤ◌, ◌<ℤ◌, pos, ◌&&◌, int_le, nat_le}
use Rattle.std.specs.List.{All, find, range_with_len}
use Rattle.std.proofs.lemmas.Bool.{cases_lt}
use Rattle.std.proofs.lemmas.Bool.Decides.{Decides-int_eq, nat_tests}
use Rattle.std.proofs.lemmas.Int.{ints}
use Rattle.std.proofs.lemmas.List.{get_or-replicate, get_or-set_other, get_or-set_same, length-replicate, length-set, set-set}
use Rattle.escrow_units.specs.Flows.{Rise}
use Rattle.escrow_units.specs.OpenDays.{open_day}
use Rattle.escrow_units.specs.SlgsTerms.{IsSettlement}
use Rattle.escrow_units.specs.declared.security.Flow.{Flow}
use Rattle.escrow_units.proofs.FlowFacts.{int_lt-not}
use Rattle.slgs_interest.proofs.PaymentFacts.{payments-within}
use Rattle.market_notes.proofs.FlowFacts.{payments-term}
use Rattle.market_notes.proofs.SeriesFacts.{term}
use Rattle.offer_book.specs.Book.{BookContents, IsBook, IsSecurity, IsSecurityLine}
use Rattle.offer_book.specs.Portfolio.{IsPermitted, IsPermittedUnits, line_payments, payments}
use Rattle.offer_book.specs.declared.line.Line.{Line}
use Rattle.offer_book.specs.declared.line.LineKind.{LineKind}
use Rattle.offer_book.specs.declared.line.LineKind.TheVariants.{Cash, Market, Security}
use Rattle.offer_book.proofs.LineFacts.{is_paid, kind_flows}
use Rattle.cash_table.proofs.ZipFacts.{sum_by-zero}
use Rattle.backward_build.specs.BackwardPlan.{and_date, bought, latest_without_offer, or_without_offer, plan_of_last, put_or_over, residual_of, with_date}
use Rattle.backward_build.specs.OwnOffer.{ends_on, line_at, need_at, own_offer_of}
use Rattle.backward_build.specs.PlanLaws.{BuiltIsBackward, IsBackwardPlan, IsJustPaidFor, IsOwnOfferAt, IsPaidFor}
use Rattle.backward_build.specs.Residual.{covers, fewest_of}
use Rattle.backward_build.specs.Span.{paid_in, span_of}
use Rattle.backward_build.specs.declared.backward.BuildEnd.{BuildEnd}
use Rattle.backward_build.specs.declared.residual.Residual.{Residual}
use Rattle.backward_build.proofs.CoverFacts.{covers_from, span_cents}
use Rattle.backward_build.proofs.FairFacts.{some_is}
use Rattle.backward_build.proofs.OfferFacts.{IsOwn, own_is, own_security}
use Rattle.backward_build.proofs.PlanFacts.{bought_counts, different_days, ends_once, permitted_set, permitted_zero, span_counts}
use Rattle.offer_book.specs.declared.payment_days.PaymentDays.{PaymentDays}

abbrev no_flow : Flow
no_flow = record { day = pos 0; cents = record { 0 = 0 } }

-- ---- the fewest units
record IsFewestIn (p : ℕ → Bool) (a n units : ℕ) : Type 0 where
  from : a ≤ units
  to : units < a + n
  passes : p units ≡ true
  before : (fewer : ℕ) → a ≤ fewer → fewer < units → p fewer ≡ false

range_tells : (p : ℕ → Bool) (a n units : ℕ) → find p (range_with_len a n) ≡ Some units → IsFewestIn p a n units
range_tells p a zero units found = absurd (different found)
  where
    different : ◌≡◌ {A = Option ℕ} None (Some units) → ⊥
    different h = cc
range_tells p a (suc n) units found = at (p a) refl (λ same. range_tells p (a + 1) n units same) found
  where
    at : (t : Bool) → p a ≡ t → (find p (range_with_len (a + 1) n) ≡ Some units → IsFewestIn p (a + 1) n units) → cond t (Some a) (find p (range_with_len (a + 1) n)) ≡ Some units → IsFewestIn p a (suc n) units
    at true test later same =
        let here : a ≡ units = some_is a units same in
        record { from = omega arith; to = omega arith; passes = ap p (sym here) ∙ test; before = λ fewer h k. absurd (omega arith) }
    at false test later same =
        let rest = later same in
        record {
          from = omega (arith, rest.from);
          to = omega (arith, rest.to);
          passes = rest.passes;
          before = λ fewer h k. elim (cases_lt a fewer) [
            | inl less ↦ rest.before fewer (omega arith) k
            | inr more ↦ (let here : fewer ≡ a = omega arith in ap p here ∙ test)
          ];
        }

record IsFewest (days : PaymentDays) (residual : Residual) (line : Line) (units : ℕ) : Type 0 where
  permitted : IsPermittedUnits line units
  enough : covers days residual line units ≡ true
  fewer : (few : ℕ) → IsPermittedUnits line few → few < units → covers days residual line few ≡ false

fewest_tells : (days : PaymentDays) (residual : Residual) (line : Line) (units : ℕ) → fewest_of days residual line ≡ Some units → IsFewest days residual line units
unfolding fewest_of
fewest_tells days residual line units found = at (covers days residual line 0) refl found
  where
    at : (t : Bool) → covers days residual line 0 ≡ t → cond t (Some 0) (find (covers days residual line) (range_with_len line.least (line.most + 1 - line.least))) ≡ Some units → IsFewest days residual line units
    at true test same =
        let here : 0 ≡ units = some_is 0 units same in
        record { permitted = inl (sym here); enough = ap (covers days residual line) (sym here) ∙ test; fewer = λ few allowed less. absurd (omega arith) }
    at false test same =
        let rest = range_tells (covers days residual line) line.least (line.most + 1 - line.least) units same in
        record {
          permitted = inr (rest.from, omega (arith, rest.from, rest.to));
          enough = rest.passes;
          fewer = λ few allowed less. elim allowed [ inl none ↦ ap (covers days residual line) none ∙ test | inr some ↦ rest.before few some.0 less ];
        }

-- ---- a line pays by the open day of its maturity
kind_by : (days : PaymentDays) (kind : LineKind) (amount : ℕ) (day : ℤ) → IsSettlement days.settle → IsSecurity days kind → ends_on days day kind ≡ true → All (λ flow. flow.day ≤ℤ day) (kind_flows days kind amount)
kind_by days Cash amount day h security due = absurd security
kind_by days (Security slgs) amount day h security due =
    let at : open_day days.closed slgs.maturity ≡ day = (Decides-int_eq (open_day days.closed slgs.maturity) day).0 due in
    subst (λ (m : ℤ). All (λ flow. flow.day ≤ℤ m) (kind_flows days (Security slgs) amount)) at (λ k d within. (payments-within slgs days.closed amount (is_paid days slgs h security) k d within).1)
kind_by days (Market note) amount day h security due =
    let at : open_day days.closed note.maturity ≡ day = (Decides-int_eq (open_day days.closed note.maturity) day).0 due in
    subst (λ (m : ℤ). All (λ flow. flow.day ≤ℤ m) (kind_flows days (Market note) amount)) at (λ k d within. (payments-term note days.closed amount (term note security.1) k d within).1)

-- so it pays nothing in the span of a later need date
nothing_later : (days : PaymentDays) (needs : List Flow) (place later : ℕ) (line : Line) (units : ℕ) → IsSettlement days.settle → Rise needs → place < later → later < length needs → IsSecurityLine days line
    → ends_on days (need_at needs place).day line.kind ≡ true → paid_in (span_of needs later) (line_payments days line units) ≡ 0
nothing_later days needs place zero line units h rising order within security due = absurd (omega arith)
nothing_later days needs place (suc before) line units h rising order within security due =
    let by = kind_by days line.kind (line.step * units) (need_at needs place).day h security.security due in
    sum_by-zero (span_cents (span_of needs (suc before))) (line_payments days line units) (λ k d inside. none (get_or (line_payments days line units) k d) (by k d inside))
  where
    earlier : (need_at needs place).day ≤ℤ (need_at needs before).day
    earlier = elim (cases_lt place before) [
      | inl less ↦ (let lt : (need_at needs place).day <ℤ (need_at needs before).day = rising place before no_flow less (omega arith) in omega (arith, ints))
      | inr same ↦ (let here : place ≡ before = omega arith in
          let read = ap (λ j. (need_at needs j).day) here in
          omega (arith, ints))
    ]

    none : (flow : Flow) → flow.day ≤ℤ (need_at needs place).day → span_cents (span_of needs (suc before)) flow ≡ 0
    none flow due_by =
        let given = earlier in
        let at_most : flow.day ≤ℤ (need_at needs before).day = omega (arith, ints) in
        ap (λ (t : Bool). if t && int_le flow.day (need_at needs (suc before)).day then flow.cents.0 else 0) (int_lt-not (need_at needs before).day flow.day at_most)

-- ---- writes to different places
set_apart : (xs : List ℕ) (i j a b : ℕ) → i ≢ j → set (set xs i a) j b ≡ set (set xs j b) i a
set_apart [] i j a b apart = refl
set_apart (x ∷ xs) zero zero a b apart = absurd (apart refl)
set_apart (x ∷ xs) zero (suc j) a b apart = refl
set_apart (x ∷ xs) (suc i) zero a b apart = refl
set_apart (x ∷ xs) (suc i) (suc j) a b apart = ap (λ (rest : List ℕ). x ∷ rest) (set_apart xs i j a b (λ same. apart (ap suc same)))

-- ---- the plan so far
record IsSoFar (book : BookContents) (place : ℕ) (plan : List ℕ) : Type 0 where
  permitted : IsPermitted book plan
  needs : (k : ℕ) → place ≤ k → k < length book.needs → IsJustPaidFor book plan k
  others : (number : ℕ) → ((k : ℕ) → place ≤ k → k < length book.needs → IsOwnOfferAt book k number → ⊥) → number < length book.lines → get_or plan number 0 ≡ 0

-- own offers of different dates are different lines
own_apart : (book : BookContents) (k place number other : ℕ) → Rise book.needs → k < place → place < length book.needs → IsOwnOfferAt book k number → IsOwnOfferAt book place other → number ≢ other
own_apart book k place number other rising order within first second same =
    let at_k = own_is book (need_at book.needs k).day number first in
    let at_place = own_is book (need_at book.needs place).day other second in
    different_days book.needs k place rising order within
    (ends_once book.days (line_at book.lines number).kind (need_at book.needs k).day (need_at book.needs place).day at_k.due (ap (λ n. ends_on book.days (need_at book.needs place).day (line_at book.lines n).kind) same ∙ at_place.due))

-- what one purchase more pays in a span
paid_with : (book : BookContents) (plan : List ℕ) (k number units : ℕ) → length plan ≡ length book.lines → number < length book.lines → get_or plan number 0 ≡ 0
    → paid_in (span_of book.needs k) (payments book (set plan number units)) ≡ paid_in (span_of book.needs k) (payments book plan) + paid_in (span_of book.needs k) (line_payments book.days (line_at book.lines number) units)
paid_with book plan k number units same within none = bought_counts (span_cents (span_of book.needs k)) book.days book.lines plan number units (span_counts (span_of book.needs k)) same within none

covers_not : (days : PaymentDays) (residual : Residual) (line : Line) (units : ℕ) → covers days residual line units ≡ false → residual.cents.0 ≤ paid_in residual.span (line_payments days line units) → ⊥
covers_not days residual line units fails within = clash residual.cents.0 (paid_in residual.span (line_payments days line units)) fails within
  where
    clash : (a b : ℕ) → nat_le a b ≡ false → a ≤ b → ⊥
    clash a b h k = grind (arith, nat_tests)

so_far_next : (book : BookContents) (place : ℕ) (plan : List ℕ) (number units : ℕ) → IsBook book → place < length book.needs → IsSoFar book (place + 1) plan → IsOwnOfferAt book place number
    → fewest_of book.days (residual_of book plan place) (line_at book.lines number) ≡ Some units → IsSoFar book place (set plan number units)
so_far_next book place plan number units limits within had own found = record {
  permitted = record {
    same_length = length-set plan number units ∙ had.permitted.same_length;
    units = permitted_set book.lines plan number units is.within had.permitted.units few.permitted;
  };
  needs = λ k from inside. elim (cases_lt place k) [
    | inl later ↦ kept k later inside
    | inr here ↦ (let at : place ≡ k = omega arith in subst (IsJustPaidFor book (set plan number units)) at this)
  ];
  others = λ other apart inside.
      let differ : other ≢ number = λ same. apart place (omega arith) within (own ∙ ap Some (sym same)) in
      get_or-set_other plan number other units 0 differ ∙ had.others other (λ k from there. apart k (omega arith) there) inside;
}
  where
    rising : Rise book.needs
    rising = limits.needs.rising

    is : IsOwn book (need_at book.needs place).day number
    is = own_is book (need_at book.needs place).day number own

    few : IsFewest book.days (residual_of book plan place) (line_at book.lines number) units
    few = fewest_tells book.days (residual_of book plan place) (line_at book.lines number) units found

    none : get_or plan number 0 ≡ 0
    none = had.others number (λ k from there later. own_apart book place k number number rising (omega arith) there own later refl) is.within

    security : IsSecurityLine book.days (line_at book.lines number)
    security = own_security book (need_at book.needs place).day number limits.lines own

    this : IsJustPaidFor book (set plan number units) place
    this = record {
      number = number;
      own = own;
      paid = omega (arith, paid_with book plan place number units had.permitted.same_length is.within none, covers_from book.days (residual_of book plan place) (line_at book.lines number) units few.enough);
      fewest = λ fewer allowed less paid.
          let bought : get_or (set plan number units) number 0 ≡ units = get_or-set_same plan number units 0 (omega (arith, is.within, had.permitted.same_length)) in
          let paid_less : IsPaidFor book (set plan number fewer) place = subst (λ (p : List ℕ). IsPaidFor book p place) (set-set plan number units fewer) paid in
          covers_not book.days (residual_of book plan place) (line_at book.lines number) fewer (few.fewer fewer allowed (omega (arith, less, bought)))
          (omega (arith, paid_less, paid_with book plan place number fewer had.permitted.same_length is.within none));
    }

    kept : (k : ℕ) → place < k → k < length book.needs → IsJustPaidFor book (set plan number units) k
    kept k later inside =
        let before = had.needs k (omega arith) inside in
        let apart : number ≢ before.number = own_apart book place k number before.number rising later inside own before.own in
        let nothing = nothing_later book.days book.needs place k (line_at book.lines number) units limits.settlement rising later inside security is.due in
        record {
          number = before.number;
          own = before.own;
          paid = omega (arith, before.paid, nothing, paid_with book plan k number units had.permitted.same_length is.within none);
          fewest = λ fewer allowed less paid.
              let other = get_or-set_other plan number before.number units 0 (λ same. apart (sym same)) in
              let turned = subst (λ (p : List ℕ). IsPaidFor book p k) (set_apart plan number before.number units fewer apart) paid in
              let still = get_or-set_other plan before.number number fewer 0 apart ∙ none in
              let long = length-set plan before.number fewer ∙ had.permitted.same_length in
              before.fewest fewer allowed (omega (arith, less, other))
              (omega (arith, turned, nothing, paid_with book (set plan before.number fewer) k number units long is.within still));
        }

-- ---- what the definition tells
record IsBought (book : BookContents) (place : ℕ) (plan after : List ℕ) : Type 0 where
  number : ℕ
  units : ℕ
  own : IsOwnOfferAt book place number
  few : fewest_of book.days (residual_of book plan place) (line_at book.lines number) ≡ Some units
  put : set plan number units ≡ after

ok_is : (xs ys : List ℕ) → ◌≡◌ {A = Result (List ℕ) BuildEnd} (Ok xs) (Ok ys) → xs ≡ ys
ok_is xs ys same = ap read same
  where
    read : Result (List ℕ) BuildEnd → List ℕ
    read (Ok zs) = zs
    read (Err fault) = xs

bought_tells : (book : BookContents) (place : ℕ) (plan after : List ℕ) → with_date book place plan ≡ Ok after → IsBought book place plan after
bought_tells book place plan after done = by_own (own_offer_of book (need_at book.needs place).day) refl done
  where
    err : (fault : BuildEnd) → ◌≡◌ {A = Result (List ℕ) BuildEnd} (Err fault) (Ok after) → ⊥
    err fault h = cc

    by_few : (number : ℕ) (units : Option ℕ) → IsOwnOfferAt book place number → fewest_of book.days (residual_of book plan place) (line_at book.lines number) ≡ units → put_or_over plan number units ≡ Ok after → IsBought book place plan after
    by_few number None own few put = absurd (err _ put)
    by_few number (Some units) own few put = record { number = number; units = units; own = own; few = few; put = ok_is (set plan number units) after put }

    by_own : (own : Option ℕ) → own_offer_of book (need_at book.needs place).day ≡ own → bought book place plan own ≡ Ok after → IsBought book place plan after
    by_own None own done = absurd (err _ done)
    by_own (Some number) own done = by_few number (fewest_of book.days (residual_of book plan place) (line_at book.lines number)) own refl done

so_far : (book : BookContents) (dates : ℕ) (plan : List ℕ) → IsBook book → dates ≤ length book.needs → plan_of_last book dates ≡ Ok plan → IsSoFar book (length book.needs - dates) plan
unfolding plan_of_last
so_far book zero plan limits within built =
    let start = ok_is (replicate (length book.lines) 0) plan built in
    subst (IsSoFar book (length book.needs - 0)) start (record {
      permitted = record { same_length = length-replicate (length book.lines) 0; units = permitted_zero book.lines };
      needs = λ k from inside. absurd (omega arith);
      others = λ number apart inside. get_or-replicate (length book.lines) number 0 0 inside;
    })
so_far book (suc dates) plan limits within built = by_rest (plan_of_last book dates) refl (λ before was. so_far book dates before limits (omega arith) was) built
  where
    err : (fault : BuildEnd) → ◌≡◌ {A = Result (List ℕ) BuildEnd} (Err fault) (Ok plan) → ⊥
    err fault h = cc

    by_rest : (rest : Result (List ℕ) BuildEnd) → plan_of_last book dates ≡ rest → ((before : List ℕ) → plan_of_last book dates ≡ Ok before → IsSoFar book (length book.needs - dates) before) → and_date book (length book.needs - suc dates) rest ≡ Ok plan → IsSoFar book (length book.needs - suc dates) plan
    by_rest (Err fault) was earlier built = absurd (err fault built)
    by_rest (Ok before) was earlier built =
        let place : length book.needs - dates ≡ length book.needs - suc dates + 1 = omega arith in
        let had = subst (λ (p : ℕ). IsSoFar book p before) place (earlier before was) in
        let told = bought_tells book (length book.needs - suc dates) before plan built in
        subst (IsSoFar book (length book.needs - suc dates)) told.put (so_far_next book (length book.needs - suc dates) before told.number told.units limits (omega arith) had told.own told.few)

pub built_backward : BuiltIsBackward
built_backward book plan limits built = by_latest (latest_without_offer book) built
  where
    err : (fault : BuildEnd) → ◌≡◌ {A = Result (List ℕ) BuildEnd} (Err fault) (Ok plan) → ⊥
    err fault h = cc

    by_latest : (latest : Option ℤ) → or_without_offer book latest ≡ Ok plan → IsBackwardPlan book plan
    by_latest (Some day) built = absurd (err _ built)
    by_latest None built =
        let none : length book.needs - length book.needs ≡ 0 = omega arith in
        let all = subst (λ (p : ℕ). IsSoFar book p plan) none (so_far book (length book.needs) plan limits (omega arith) built) in
        record {
          permitted = all.permitted;
          needs = λ place inside. all.needs place (omega arith) inside;
          others = λ number apart inside. all.others number (λ k from there. apart k there) inside;
        }
