-- The backward plan, one purchase after another.
use Rattle.std.proofs.Common.{◌≡◌, ◌≢◌, ◌∙◌, ℕ, zero, suc, ◌+◌, ◌-◌, ◌<◌, ◌≤◌, Bool, false, true, is_none, List, [], ◌∷◌, Some, None, Ok, Err, map, reverse, length, take, get_or, set, replicate, refl, sym, ap, inl, inr, arith, ℤ, ◌<ℤ◌, int_le, pos}
use Rattle.std.specs.List.{All, flat_map, sum, sum_by, zip}
use Rattle.std.proofs.lemmas.Bool.{cases_lt}
use Rattle.std.proofs.lemmas.Bool.Decides.{Decides-int_eq}
use Rattle.std.proofs.lemmas.Int.{ints}
use Rattle.std.proofs.lemmas.List.{get_or-map, get_or-replicate, get_or-reverse, get_or-set_other, length-map, length-replicate, length-reverse, length-set}
use Rattle.std.proofs.lemmas.List.Elements.{All-cons, All-head, All-nil, All-tail}
use Rattle.std.proofs.lemmas.List.Sums.{sum_by-append, sum_by-cons, sum_by_more}
use Rattle.escrow_units.specs.Flows.{Rise, total}
use Rattle.escrow_units.specs.OpenDays.{open_day}
use Rattle.escrow_units.specs.declared.security.Flow.{Flow}
use Rattle.day_sums.specs.Summed.{total_by}
use Rattle.day_sums.proofs.SumFacts.{counted-zero}
use Rattle.offer_book.specs.Book.{BookContents}
use Rattle.offer_book.specs.Portfolio.{IsPermittedUnits, Meets, line_payments, payments}
use Rattle.offer_book.specs.declared.line.Line.{Line}
use Rattle.offer_book.specs.declared.line.LineKind.{LineKind}
use Rattle.offer_book.specs.declared.line.LineKind.TheVariants.{Cash, Market, Security}
use Rattle.offer_book.proofs.LineFacts.{line_payments-none}
use Rattle.cash_table.specs.Receipts.{AreReceipts, cents_by}
use Rattle.cash_table.proofs.CostFacts.{PairIsPermitted}
use Rattle.cash_table.proofs.DayFacts.{find_at, find_none, met_on_every_day, total_by_need}
use Rattle.cash_table.proofs.PaymentFacts.{pair_payments}
use Rattle.cash_table.proofs.ZipFacts.{sum_by-zero}
use Rattle.backward_build.specs.BackwardPlan.{IsUnderWay, and_date, bought, latest_without_offer, plan_of_last, put_or_over, residual_of, with_date}
use Rattle.backward_build.specs.OwnOffer.{ends_on, line_at, need_at, own_offer_of}
use Rattle.backward_build.specs.Residual.{covers, fewest_of}
use Rattle.backward_build.specs.Span.{falls_in, paid_in, span_of}
use Rattle.backward_build.specs.declared.backward.BuildEnd.{BuildEnd}
use Rattle.backward_build.specs.declared.residual.Residual.{Residual}
use Rattle.backward_build.specs.declared.span.Span.{Span}
use Rattle.backward_build.proofs.CoverFacts.{covers_from, span_cents}
use Rattle.backward_build.proofs.SpanFacts.{received_in}
use Rattle.offer_book.specs.declared.payment_days.PaymentDays.{PaymentDays}

-- ---- sums over the payments of a plan in which one line is bought
abbrev pub paid_by : (Flow → ℕ) → PaymentDays → List Line → List ℕ → ℕ
paid_by count days lines plan = sum_by count (flat_map (pair_payments days) (zip lines plan))

-- what counts of a payment is nothing where nothing is paid
abbrev pub CountsCents : (Flow → ℕ) → Type 0
CountsCents count = (flow : Flow) → flow.cents.0 ≡ 0 → count flow ≡ 0

none_counts : (count : Flow → ℕ) (days : PaymentDays) (line : Line) (units : ℕ) → CountsCents count → units ≡ 0 → sum_by count (pair_payments days (line, units)) ≡ 0
none_counts count days line units counts none =
    let nothing = line_payments-none days line units none in
    sum_by-zero count (pair_payments days (line, units)) (λ k d lt. counts (get_or (pair_payments days (line, units)) k d) (nothing k d lt))

pub bought_counts : (count : Flow → ℕ) (days : PaymentDays) (lines : List Line) (plan : List ℕ) (number units : ℕ) → CountsCents count → length plan ≡ length lines → number < length lines → get_or plan number 0 ≡ 0
    → paid_by count days lines (set plan number units) ≡ paid_by count days lines plan + sum_by count (line_payments days (line_at lines number) units)
bought_counts count days [] plan number units counts same within none = absurd (omega arith)
bought_counts count days (line ∷ lines) [] number units counts same within none = absurd (omega arith)
bought_counts count days (line ∷ lines) (had ∷ plan) zero units counts same within none =
    omega (
      arith,
      sum_by-append count (pair_payments days (line, units)) (flat_map (pair_payments days) (zip lines plan)),
      sum_by-append count (pair_payments days (line, had)) (flat_map (pair_payments days) (zip lines plan)),
      none_counts count days line had counts none,
    )
bought_counts count days (line ∷ lines) (had ∷ plan) (suc number) units counts same within none =
    omega (
      arith,
      sum_by-append count (pair_payments days (line, had)) (flat_map (pair_payments days) (zip lines (set plan number units))),
      sum_by-append count (pair_payments days (line, had)) (flat_map (pair_payments days) (zip lines plan)),
      bought_counts count days lines plan number units counts (omega arith) (omega arith) none,
    )

zero_counts : (count : Flow → ℕ) (days : PaymentDays) (lines : List Line) → CountsCents count → paid_by count days lines (replicate (length lines) 0) ≡ 0
zero_counts count days [] counts = refl
zero_counts count days (line ∷ lines) counts =
    omega (
      arith,
      sum_by-append count (pair_payments days (line, 0)) (flat_map (pair_payments days) (zip lines (replicate (length lines) 0))),
      none_counts count days line 0 counts refl,
      zero_counts count days lines counts,
    )

by_counts : (t : ℤ) → CountsCents (cents_by t)
by_counts t flow none = counted-zero (int_le flow.day t) flow.cents.0 none

pub span_counts : (span : Span) → CountsCents (span_cents span)
span_counts span flow none = counted-zero (falls_in span flow.day) flow.cents.0 none

abbrev no_flow : Flow
no_flow = record { day = pos 0; cents = record { 0 = 0 } }

abbrev pub flow_cents : Flow → ℕ
flow_cents flow = flow.cents.0

-- ---- what stays permitted
pub permitted_set : (lines : List Line) (plan : List ℕ) (number units : ℕ) → number < length lines → All PairIsPermitted (zip lines plan) → IsPermittedUnits (line_at lines number) units → All PairIsPermitted (zip lines (set plan number units))
permitted_set [] plan number units within all here = absurd (omega arith)
permitted_set (line ∷ lines) [] number units within all here = all
permitted_set (line ∷ lines) (had ∷ plan) zero units within all here =
    All-cons PairIsPermitted (line, units) (zip lines plan) here (All-tail PairIsPermitted (line, had) (zip lines plan) all)
permitted_set (line ∷ lines) (had ∷ plan) (suc number) units within all here =
    All-cons PairIsPermitted (line, had) (zip lines (set plan number units)) (All-head PairIsPermitted (line, had) (zip lines plan) all)
    (permitted_set lines plan number units (omega arith) (All-tail PairIsPermitted (line, had) (zip lines plan) all) here)

pub permitted_zero : (lines : List Line) → All PairIsPermitted (zip lines (replicate (length lines) 0))
permitted_zero [] = All-nil PairIsPermitted
permitted_zero (line ∷ lines) = All-cons PairIsPermitted (line, 0) (zip lines (replicate (length lines) 0)) (inl refl) (permitted_zero lines)

-- ---- a line ends once
pub ends_once : (days : PaymentDays) (kind : LineKind) (a b : ℤ) → ends_on days a kind ≡ true → ends_on days b kind ≡ true → a ≡ b
ends_once days Cash a b first second = absurd (different first)
  where
    different : false ≡ true → ⊥
    different h = cc
ends_once days (Security slgs) a b first second = sym ((Decides-int_eq (open_day days.closed slgs.maturity) a).0 first) ∙ (Decides-int_eq (open_day days.closed slgs.maturity) b).0 second
ends_once days (Market note) a b first second = sym ((Decides-int_eq (open_day days.closed note.maturity) a).0 first) ∙ (Decides-int_eq (open_day days.closed note.maturity) b).0 second

pub different_days : (needs : List Flow) (k place : ℕ) → Rise needs → k < place → place < length needs → (need_at needs k).day ≡ (need_at needs place).day → ⊥
different_days needs k place rising order within same =
    let later : (need_at needs k).day <ℤ (need_at needs place).day = rising k place no_flow order within in
    omega (arith, ints)

-- ---- one purchase
pub record IsPurchase (book : BookContents) (place : ℕ) (plan : List ℕ) (number units : ℕ) : Type 0 where
  pub within : place < length book.needs
  pub rising : Rise book.needs
  pub own : number < length book.lines
  pub due : ends_on book.days (need_at book.needs place).day (line_at book.lines number).kind ≡ true
  pub permitted : IsPermittedUnits (line_at book.lines number) units
  pub enough : covers book.days (residual_of book plan place) (line_at book.lines number) units ≡ true

not_yet : (book : BookContents) (place : ℕ) (plan received : List ℕ) (number units : ℕ) → IsUnderWay book (place + 1) plan received → IsPurchase book place plan number units → get_or plan number 0 ≡ 0
not_yet book place plan received number units state p = state.unbought place number (omega arith) p.within p.own p.due

pub plan_pays : (count : Flow → ℕ) (book : BookContents) (place : ℕ) (plan received : List ℕ) (number units : ℕ) → CountsCents count → IsUnderWay book (place + 1) plan received → IsPurchase book place plan number units
    → sum_by count (payments book (set plan number units)) ≡ sum_by count (payments book plan) + sum_by count (line_payments book.days (line_at book.lines number) units)
plan_pays count book place plan received number units counts state p =
    bought_counts count book.days book.lines plan number units counts state.permitted.same_length p.own (not_yet book place plan received number units state p)

-- what `add_receipts` tells
pub record AreAdded (book : BookContents) (pays : List Flow) (old new : List ℕ) : Type 0 where
  pub room : length book.needs ≤ length new
  pub by_day : (k : ℕ) (d : Flow) → k < length book.needs → sum (take (k + 1) new) ≡ sum (take (k + 1) old) + total_by (get_or book.needs k d).day pays
  pub whole : sum new ≤ sum old + total pays

receipts_next : (book : BookContents) (place : ℕ) (plan received new : List ℕ) (number units : ℕ) → IsUnderWay book (place + 1) plan received → IsPurchase book place plan number units
    → AreAdded book (line_payments book.days (line_at book.lines number) units) received new → AreReceipts book.needs (payments book (set plan number units)) new
receipts_next book place plan received new number units state p added = λ k d within.
    let t = (get_or book.needs k d).day in
    omega (
      arith,
      added.by_day k d within,
      state.receipts k d within,
      plan_pays (cents_by t) book place plan received number units (by_counts t) state p,
    )

covered_next : (book : BookContents) (place : ℕ) (plan received new : List ℕ) (number units : ℕ) → length book.needs ≤ length received → IsUnderWay book (place + 1) plan received → IsPurchase book place plan number units
    → AreAdded book (line_payments book.days (line_at book.lines number) units) received new → (k : ℕ) → place ≤ k → k < length book.needs → (need_at book.needs k).cents.0 ≤ get_or new k 0
covered_next book place plan received new number units room state p added k from within =
    let span = span_of book.needs k in
    let now = received_in book.needs (payments book (set plan number units)) new k p.rising (receipts_next book place plan received new number units state p added) within (omega (arith, added.room)) in
    let before = received_in book.needs (payments book plan) received k p.rising state.receipts within (omega arith) in
    let more = plan_pays (span_cents span) book place plan received number units (span_counts span) state p in
    elim (cases_lt place k) [
      | inl less ↦ omega (arith, now, before, more, state.covered k (omega arith) within)
      | inr same ↦ (let here : k ≡ place = omega arith in
          let enough = covers_from book.days (residual_of book plan place) (line_at book.lines number) units p.enough in
          let paid = ap (λ j. paid_in (span_of book.needs j) (payments book plan)) here in
          let own = ap (λ j. paid_in (span_of book.needs j) (line_payments book.days (line_at book.lines number) units)) here in
          omega (arith, now, more, enough, paid, own, ap (λ j. (need_at book.needs j).cents.0) here))
    ]

unbought_next : (book : BookContents) (place : ℕ) (plan received : List ℕ) (number units : ℕ) → IsUnderWay book (place + 1) plan received → IsPurchase book place plan number units
    → (k other : ℕ) → k < place → k < length book.needs → other < length book.lines → ends_on book.days (need_at book.needs k).day (line_at book.lines other).kind ≡ true → get_or (set plan number units) other 0 ≡ 0
unbought_next book place plan received number units state p k other before within here due =
    let apart : other ≢ number = λ same.
    different_days book.needs k place p.rising before p.within
    (ends_once book.days (line_at book.lines other).kind (need_at book.needs k).day (need_at book.needs place).day due
    (ap (λ n. ends_on book.days (need_at book.needs place).day (line_at book.lines n).kind) same ∙ p.due)) in
    get_or-set_other plan number other units 0 apart ∙ state.unbought k other (omega arith) within here due

pub under_way_next : (book : BookContents) (place : ℕ) (plan received new : List ℕ) (number units : ℕ) → length book.needs ≤ length received → IsUnderWay book (place + 1) plan received → IsPurchase book place plan number units
    → AreAdded book (line_payments book.days (line_at book.lines number) units) received new → IsUnderWay book place (set plan number units) new
under_way_next book place plan received new number units room state p added = record {
  permitted = record {
    same_length = length-set plan number units ∙ state.permitted.same_length;
    units = permitted_set book.lines plan number units p.own state.permitted.units p.permitted;
  };
  receipts = receipts_next book place plan received new number units state p added;
  little = omega (arith, added.whole, state.little, plan_pays flow_cents book place plan received number units (λ flow none. none) state p);
  covered = covered_next book place plan received new number units room state p added;
  unbought = unbought_next book place plan received number units state p;
}

-- what is left by the receipts is the residual
pub left_is : (book : BookContents) (place : ℕ) (plan received : List ℕ) (at : ℕ) (left : Residual) → Rise book.needs → place < length book.needs → length book.needs ≤ length received → IsUnderWay book (place + 1) plan received → at ≡ place
    → left ≡ record { span = span_of book.needs place; cents = record { 0 = (need_at book.needs place).cents.0 - get_or received at 0 } } → left ≡ residual_of book plan place
left_is book place plan received at left rising within room state same is =
    let paid = ap (λ k. get_or received k 0) same ∙ received_in book.needs (payments book plan) received place rising state.receipts within (omega arith) in
    is ∙ ap (λ (n : ℕ). record { span = span_of book.needs place; cents = record { 0 = (need_at book.needs place).cents.0 - n } }) paid

-- the start: nothing is bought
sum-zeros : (n k : ℕ) → sum (take k (replicate n 0)) ≡ 0
sum-zeros n k = sum_by-zero (λ (x : ℕ). x) (take k (replicate n 0)) (zeros n k)
  where
    zeros : (n k : ℕ) → All (λ (x : ℕ). x ≡ 0) (take k (replicate n 0))
    zeros zero zero = All-nil (λ (x : ℕ). x ≡ 0)
    zeros zero (suc k) = All-nil (λ (x : ℕ). x ≡ 0)
    zeros (suc n) zero = All-nil (λ (x : ℕ). x ≡ 0)
    zeros (suc n) (suc k) = All-cons (λ (x : ℕ). x ≡ 0) 0 (take k (replicate n 0)) refl (zeros n k)

sum-all_zeros : (n : ℕ) → sum (replicate n 0) ≡ 0
sum-all_zeros zero = refl
sum-all_zeros (suc n) = omega (arith, sum_by-cons (λ (x : ℕ). x) 0 (replicate n 0), sum-all_zeros n)

pub under_way_start : (book : BookContents) (n : ℕ) → IsUnderWay book (length book.needs) (replicate (length book.lines) 0) (replicate n 0)
under_way_start book n = record {
  permitted = record { same_length = length-replicate (length book.lines) 0; units = permitted_zero book.lines };
  receipts = λ k d within. sum-zeros n (k + 1) ∙ sym (zero_counts (cents_by (get_or book.needs k d).day) book.days book.lines (by_counts (get_or book.needs k d).day));
  little = omega (arith, sum-all_zeros n);
  covered = λ k from within. absurd (omega arith);
  unbought = λ k number before within here due. get_or-replicate (length book.lines) number 0 0 here;
}

-- at the end each need is covered in its span, and so every day's needs are met
sum_up : (needs : List Flow) (received : List ℕ) (k : ℕ) → length needs ≤ length received → ((j : ℕ) → j < length needs → (need_at needs j).cents.0 ≤ get_or received j 0) → k ≤ length needs
    → total (take k needs) ≤ sum (take k received)
sum_up needs received zero room covered within = omega (arith, nothing needs)
  where
    nothing : (fs : List Flow) → total (take 0 fs) ≡ 0
    nothing [] = refl
    nothing (f ∷ fs) = refl
sum_up needs received (suc k) room covered within =
    let next : suc k ≡ k + 1 = omega arith in
    let needed = ap (λ n. total (take n needs)) next ∙ sum_by_more flow_cents needs k no_flow (omega arith) in
    let got = ap (λ n. sum (take n received)) next ∙ sum_by_more (λ (x : ℕ). x) received k 0 (omega arith) in
    omega (arith, needed, got, covered k (omega arith), sum_up needs received k room covered (omega arith))

pub meets_at_end : (book : BookContents) (plan received : List ℕ) → Rise book.needs → length book.needs ≤ length received → IsUnderWay book 0 plan received → Meets book plan
meets_at_end book plan received rising room state = λ t.
    met_on_every_day book.needs (payments book plan) t
    (λ k d within due.
    let up = sum_up book.needs received (k + 1) room (λ j h. state.covered j (omega arith) h) (omega arith) in
    omega (arith, up, total_by_need book.needs k d rising within, state.receipts k d within))

-- ---- the plan by definition
pub with_own : (book : BookContents) (place : ℕ) (plan : List ℕ) (number units : ℕ) → own_offer_of book (need_at book.needs place).day ≡ Some number
    → fewest_of book.days (residual_of book plan place) (line_at book.lines number) ≡ Some units → with_date book place plan ≡ Ok (set plan number units)
with_own book place plan number units own few = ap (bought book place plan) own ∙ ap (put_or_over plan number) few

start_of_last : (book : BookContents) → plan_of_last book 0 ≡ Ok (replicate (length book.lines) 0)
unfolding plan_of_last
start_of_last book = refl

pub last_start : (book : BookContents) (plan : List ℕ) → plan ≡ replicate (length book.lines) 0 → plan_of_last book 0 ≡ Ok plan
last_start book plan none = start_of_last book ∙ ap Ok (sym none)

pub last_next : (book : BookContents) (dates : ℕ) (plan : List ℕ) → plan_of_last book dates ≡ Ok plan → plan_of_last book (dates + 1) ≡ with_date book (length book.needs - 1 - dates) plan
unfolding plan_of_last
last_next book dates plan had =
    let next : dates + 1 ≡ suc dates = omega arith in
    let place : length book.needs - suc dates ≡ length book.needs - 1 - dates = omega arith in
    ap (plan_of_last book) next ∙ ap (and_date book (length book.needs - suc dates)) had ∙ ap (λ (k : ℕ). with_date book k plan) place

err_on : (book : BookContents) (dates more : ℕ) (fault : BuildEnd) → plan_of_last book dates ≡ Err fault → plan_of_last book (more + dates) ≡ Err fault
unfolding plan_of_last
err_on book dates zero fault had = let start : 0 + dates ≡ dates = omega arith in ap (plan_of_last book) start ∙ had
err_on book dates (suc more) fault had =
    let next : suc more + dates ≡ suc (more + dates) = omega arith in
    ap (plan_of_last book) next ∙ ap (and_date book (length book.needs - suc (more + dates))) (err_on book dates more fault had)

pub last_stop : (book : BookContents) (dates : ℕ) (plan : List ℕ) (fault : BuildEnd) → dates < length book.needs → plan_of_last book dates ≡ Ok plan → with_date book (length book.needs - 1 - dates) plan ≡ Err fault
    → plan_of_last book (length book.needs) ≡ Err fault
last_stop book dates plan fault within had stopped =
    let whole : length book.needs - (dates + 1) + (dates + 1) ≡ length book.needs = omega arith in
    ap (plan_of_last book) (sym whole) ∙ err_on book (dates + 1) (length book.needs - (dates + 1)) fault (last_next book dates plan had ∙ stopped)

-- ---- the latest need date without an own offer
abbrev pub lacks_offer : BookContents → ℤ → Bool
lacks_offer book day = is_none (own_offer_of book day)

abbrev pub days_back : List Flow → List ℤ
days_back needs = reverse (map (λ need. need.day) needs)

-- each of the last so many need dates has an own offer
abbrev pub HaveOffers : BookContents → ℕ → Type 0
HaveOffers book later = (k : ℕ) → k < later → lacks_offer book (need_at book.needs (length book.needs - 1 - k)).day ≡ false

day_back : (needs : List Flow) (k : ℕ) (d : ℤ) → k < length needs → get_or (days_back needs) k d ≡ (need_at needs (length needs - 1 - k)).day
day_back needs k d within =
    let days = map (λ (need : Flow). need.day) needs in
    let long = length-map needs (λ (need : Flow). need.day) in
    let back = get_or-reverse days k d (omega arith) in
    let place : length days - 1 - k ≡ length needs - 1 - k = omega arith in
    back ∙ ap (λ n. get_or days n d) place ∙ get_or-map (λ (need : Flow). need.day) needs (length needs - 1 - k) _ d (omega arith)

pub latest_found : (book : BookContents) (later : ℕ) → later < length book.needs → HaveOffers book later → lacks_offer book (need_at book.needs (length book.needs - 1 - later)).day ≡ true
    → latest_without_offer book ≡ Some (need_at book.needs (length book.needs - 1 - later)).day
latest_found book later within before here =
    let long = length-map book.needs (λ (need : Flow). need.day) in
    let back = length-reverse (map (λ (need : Flow). need.day) book.needs) in
    let d = (need_at book.needs 0).day in
    find_at (lacks_offer book) (days_back book.needs) later d (omega arith)
    (λ k h. ap (lacks_offer book) (day_back book.needs k d (omega arith)) ∙ before k h)
    (ap (lacks_offer book) (day_back book.needs later d within) ∙ here)
    ∙ ap Some (day_back book.needs later d within)

pub latest_none : (book : BookContents) (later : ℕ) → length book.needs ≤ later → HaveOffers book later → latest_without_offer book ≡ None
latest_none book later all before =
    find_none (lacks_offer book) (days_back book.needs)
    (λ k d h.
    let long = length-map book.needs (λ (need : Flow). need.day) in
    let back = length-reverse (map (λ (need : Flow). need.day) book.needs) in
    let within : k < length book.needs = omega arith in
    ap (lacks_offer book) (day_back book.needs k d within) ∙ before k (omega arith))

pub have_more : (book : BookContents) (later : ℕ) → HaveOffers book later → lacks_offer book (need_at book.needs (length book.needs - 1 - later)).day ≡ false → HaveOffers book (later + 1)
have_more book later before here = λ k h.
    elim (cases_lt k later) [
      | inl less ↦ before k less
      | inr more ↦ (let at : k ≡ later = omega arith in ap (λ n. lacks_offer book (need_at book.needs (length book.needs - 1 - n)).day) at ∙ here)
    ]
