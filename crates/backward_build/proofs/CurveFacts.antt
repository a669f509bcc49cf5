-- The price curve, one need date after another.
use Rattle.std.proofs.Common.{◌≡◌, ◌∙◌, ℕ, zero, suc, ◌+◌, ◌-◌, ◌*◌, ◌^◌, ◌<◌, ◌≤◌, Bool, false, true, ◌&&◌, if◌then◌else◌, List, [], ◌∷◌, ◌++◌, map, take, Some, None, option_and_then, option_map, length, get_or, refl, sym, subst, ap, inl, inr, arith, ℤ, ◌≤ℤ◌, ◌<ℤ◌, int_le, All, AllPairs}
use Rattle.std.specs.Ordering.{int_eq}
use Rattle.std.proofs.Math.Nat.{mul-le-mul}
use Rattle.std.proofs.Math.Seq.{get_or-append_seam}
use Rattle.std.proofs.lemmas.Bool.{cases_lt}
use Rattle.std.proofs.lemmas.Bool.Decides.{Decides-int_eq}
use Rattle.std.proofs.lemmas.Int.{ints}
use Rattle.std.proofs.lemmas.List.{get_or_append_left, get_or_default, get_or_read, length-append, map-append}
use Rattle.std.proofs.lemmas.List.Elements.{All-append, All-cons, All-head, All-nil, All-tail}
use Rattle.std.proofs.lemmas.List.Sums.{sum_by-append, sum_by-cons}
use Rattle.std.proofs.lemmas.Simd.{map-map}
use Rattle.escrow_units.specs.Flows.{Rise}
use Rattle.escrow_units.specs.OpenDays.{open_day}
use Rattle.escrow_units.specs.SlgsTerms.{IsSettlement}
use Rattle.escrow_units.specs.declared.security.Flow.{Flow}
use Rattle.escrow_units.specs.declared.security.Slgs.{Slgs}
use Rattle.escrow_units.specs.declared.security.StepRule.TheVariants as rule
use Rattle.escrow_units.proofs.FlowFacts.{int_le-test, int_lt-test}
use Rattle.escrow_units.proofs.LastDates.{dates_before, last_dates-last}
use Rattle.escrow_units.proofs.SeriesAround.{HasDates, IsNear, counted}
use Rattle.slgs_interest.specs.Payments.{payment_dates, payment_on, slgs_schedule}
use Rattle.slgs_interest.proofs.Series.{IsPaid}
use Rattle.market_notes.specs.NoteFlows as market
use Rattle.market_notes.specs.declared.note.Note.{Note}
use Rattle.market_notes.proofs.SeriesFacts.{term}
use Rattle.offer_book.specs.Book.{BookContents, IsSecurity, IsSecurityLine}
use Rattle.offer_book.specs.Coefficients.{cost_coefficients, pay_by, pay_coefficients}
use Rattle.offer_book.specs.Schedule.{kind_rate, kind_schedule}
use Rattle.offer_book.specs.declared.coefficients.PayCoefficients.{PayCoefficients}
use Rattle.offer_book.specs.declared.coefficients.TheConstants.{COEFFICIENT_SCALE}
use Rattle.offer_book.specs.declared.line.Line.{Line}
use Rattle.offer_book.specs.declared.line.LineKind.{LineKind}
use Rattle.offer_book.specs.declared.line.LineKind.TheVariants.{Cash, Market, Security}
use Rattle.offer_book.proofs.LineFacts.{is_paid}
use Rattle.cash_table.proofs.ZipFacts.{sum_by-at_more}
use Rattle.dual_bound.specs.LeafBound.{price_on}
use Rattle.proof_tree.specs.declared.prices.TheConstants.{PRICE_SCALE}
use Rattle.dual_bound.proofs.PriceFacts.{price_on-here, price_on-later, price_on-past}
use Rattle.dual_bound.proofs.Sizes.{cost-sized, pays-sized}
use Rattle.backward_build.specs.OwnOffer.{ends_on, need_at}
use Rattle.backward_build.specs.PriceCurve.{bootstrapped_prices, first_prices, last_price, next_price, unit_paid_in, with_next_price, worth_at}
use Rattle.backward_build.specs.Span.{falls_in, span_of}
use Rattle.backward_build.specs.declared.span.Span.{Span}
use Rattle.offer_book.specs.declared.payment_days.PaymentDays.{PaymentDays}

-- the price of a day is that at the place of the first need date on or after it
pub price_on-place : (needs : List Flow) (prices : List ℕ) (day : ℤ) (place : ℕ) → length needs ≡ length prices → place < length needs
    → ((k : ℕ) (d : Flow) → k < place → (get_or needs k d).day <ℤ day) → ((d : Flow) → day ≤ℤ (get_or needs place d).day) → price_on needs prices day ≡ get_or prices place 0
price_on-place [] prices day place same within before due = absurd (omega arith)
price_on-place (need ∷ needs) [] day place same within before due = absurd (omega arith)
price_on-place (need ∷ needs) (price ∷ prices) day zero same within before due = price_on-here (need ∷ needs) (price ∷ prices) day 0 need 0 same within (due need)
price_on-place (need ∷ needs) (price ∷ prices) day (suc place) same within before due =
    price_on-later (need ∷ needs) (price ∷ prices) day 0 need same (omega arith) (before 0 need (omega arith))
    ∙ price_on-place needs prices day place (omega arith) (omega arith) (λ k d h. before (suc k) d (omega arith)) (λ d. due d)

-- after the last need date there is none
pub price_on-none : (needs : List Flow) (prices : List ℕ) (day : ℤ) → length needs ≡ length prices
    → ((k : ℕ) (d : Flow) → k < length needs → (get_or needs k d).day <ℤ day) → price_on needs prices day ≡ 0
price_on-none [] prices day same before = price_on-past [] prices day 0 (omega arith)
price_on-none (need ∷ needs) [] day same before = absurd (omega arith)
price_on-none (need ∷ needs) (price ∷ prices) day same before =
    price_on-later (need ∷ needs) (price ∷ prices) day 0 need same (omega arith) (before 0 need (omega arith))
    ∙ price_on-none needs prices day (omega arith) (λ k d h. before (suc k) d (omega arith))

-- no price is above 1 where those of the need dates aren't
pub price_on-within : (needs : List Flow) (prices : List ℕ) (day : ℤ) → All (λ price. price ≤ PRICE_SCALE) prices → price_on needs prices day ≤ PRICE_SCALE
unfolding price_on
price_on-within [] prices day small = omega arith
price_on-within (need ∷ needs) [] day small = omega arith
price_on-within (need ∷ needs) (price ∷ prices) day small =
    at (int_le day need.day) (price_on-within needs prices day (All-tail (λ (p : ℕ). p ≤ PRICE_SCALE) price prices small))
  where
    at : (t : Bool) → price_on needs prices day ≤ PRICE_SCALE → (if t then price else price_on needs prices day) ≤ PRICE_SCALE
    at true rest = All-head (λ (p : ℕ). p ≤ PRICE_SCALE) price prices small
    at false rest = rest

-- one payment more
pub worth_more : (needs : List Flow) (prices : List ℕ) (pays : List PayCoefficients) (i : ℕ) (pay : PayCoefficients) (price worth : ℕ) → i < length pays → pay ≡ get_or pays i pay
    → price ≡ price_on needs prices pay.day → worth ≡ worth_at needs prices (take i pays) → worth + price * pay.high ≡ worth_at needs prices (take (i + 1) pays)
worth_more needs prices pays i pay price worth within at is before =
    let more = sum_by-at_more (λ (p : PayCoefficients). price_on needs prices p.day * p.high) pays i pay within (λ d. get_or_read pays i pay within at d) in
    let same = ap (λ n. n * pay.high) is in
    omega (arith, more, same, before)

pub left_more : (span : Span) (pays : List PayCoefficients) (i : ℕ) (pay : PayCoefficients) (left : ℕ) (test : Bool) → i < length pays → pay ≡ get_or pays i pay
    → falls_in span pay.day ≡ test → left ≡ unit_paid_in span (take i pays) → unit_paid_in span (take (i + 1) pays) ≡ left + (if test then pay.high else 0)
left_more span pays i pay left test within at is before =
    let more = sum_by-at_more (λ (p : PayCoefficients). if falls_in span p.day then p.high else 0) pays i pay within (λ d. get_or_read pays i pay within at d) in
    let same = ap (λ (t : Bool). if t then pay.high else 0) is in
    omega (arith, more, same, before)

pub pay_small : (pays : List PayCoefficients) (i : ℕ) (pay : PayCoefficients) → i < length pays → pay ≡ get_or pays i pay → All (λ p. p.high ≤ 10 ^ 18) pays → pay.high ≤ 10 ^ 18
pay_small pays i pay within at small =
    let here = small i pay within in
    omega (arith, here, ap (λ (p : PayCoefficients). p.high) at)

pub worth_small : (needs : List Flow) (prices : List ℕ) (pays : List PayCoefficients) (i : ℕ) (pay : PayCoefficients) (price : ℕ) → i < length pays → pay ≡ get_or pays i pay
    → All (λ p. p ≤ PRICE_SCALE) prices → All (λ p. p.high ≤ 10 ^ 18) pays → price ≡ price_on needs prices pay.day → price * pay.high ≤ 10 ^ 30
worth_small needs prices pays i pay price within at prices_small pays_small is =
    let high = pay_small pays i pay within at pays_small in
    let product = mul-le-mul (price_on-within needs prices pay.day prices_small) high in
    omega (arith, ap (λ n. n * pay.high) is, product)

-- coefficients are small
pub pays_small : (days : PaymentDays) (line : Line) → IsSettlement days.settle → IsSecurityLine days line → All (λ pay. pay.high ≤ 10 ^ 18) (pay_coefficients days line)
pays_small days line h security = λ k d within.
    let sized = pays-sized days line h (inr security) k d within in
    omega (arith, sized.high, security.step_at_most)

pub cost_small : (days : PaymentDays) (line : Line) → IsSecurityLine days line → (cost_coefficients line).low ≤ 10 ^ 18
cost_small days line security = omega (arith, (cost-sized days line (inr security)).low, security.step_at_most)

-- ---- an own offer pays its principal in the span of its need date
pub falls-until : (needs : List Flow) (place : ℕ) → Rise needs → place < length needs → falls_in (span_of needs place) (need_at needs place).day ≡ true
falls-until needs zero rising within = int_le-test (need_at needs 0).day (need_at needs 0).day (same-le (need_at needs 0).day)
  where
    same-le : (day : ℤ) → day ≤ℤ day
    same-le day = omega (arith, ints)
falls-until needs (suc place) rising within =
    let order : (need_at needs place).day <ℤ (need_at needs (suc place)).day = rising place (suc place) _ (omega arith) within in
    ap (λ (t : Bool). t && int_le (need_at needs (suc place)).day (need_at needs (suc place)).day) (int_lt-test (need_at needs place).day (need_at needs (suc place)).day order)
    ∙ int_le-test (need_at needs (suc place)).day (need_at needs (suc place)).day (same-le (need_at needs (suc place)).day)
  where
    same-le : (day : ℤ) → day ≤ℤ day
    same-le day = omega (arith, ints)

-- dates that end on a day
record DatesEnd (day : ℤ) (dates : List ℤ) : Type 0 where
  before : List ℤ
  order : dates ≡ before ++ day ∷ []

slgs_dates : (slgs : Slgs) → IsPaid slgs → DatesEnd slgs.maturity (payment_dates slgs)
slgs_dates slgs p =
    let less : p.steps + 1 - 1 ≡ p.steps = omega arith in
    record {
      before = dates_before slgs.maturity rule.SameDay p.steps;
      order = p.dates ∙ rw less at (last_dates-last slgs.maturity rule.SameDay (p.steps + 1) p.base (omega arith));
    }

note_dates : (note : Note) (n : ℕ) → IsNear note.maturity note.settle → HasDates note.maturity rule.MonthEnd note.settle n → DatesEnd note.maturity (market.payment_dates note)
note_dates note n t p = record {
  before = dates_before note.maturity rule.MonthEnd (n - 1);
  order = p.dates ∙ last_dates-last note.maturity rule.MonthEnd n t.base p.some;
}

abbrev unit_cents : Span → PayCoefficients → ℕ
unit_cents span pay = if falls_in span pay.day then pay.high else 0

last_pays : (span : Span) (g : ℤ → PayCoefficients) (dates : List ℤ) (date : ℤ) → DatesEnd date dates → falls_in span (g date).day ≡ true → 0 < (g date).high → 0 < unit_paid_in span (map g dates)
last_pays span g dates date ends falls some =
    let last : unit_cents span (g date) ≡ (g date).high = ap (λ (t : Bool). if t then (g date).high else 0) falls in
    let parts = ap (λ (ds : List ℤ). unit_paid_in span (map g ds)) ends.order ∙ ap (unit_paid_in span) (map-append g ends.before (date ∷ [])) ∙ sum_by-append (unit_cents span) (map g ends.before) (g date ∷ []) in
    omega (arith, parts, sum_by-cons (unit_cents span) (g date) [], last, some)

principal-some : (interest step : ℕ) (t : Bool) → t ≡ true → 100 ≤ step → 0 < interest + COEFFICIENT_SCALE * (if t then step else 0)
principal-some interest step t is some =
    let paid = ap (λ (b : Bool). if b then step else 0) is in
    omega (arith, paid, some)

kind_pays_some : (days : PaymentDays) (kind : LineKind) (step : ℕ) (span : Span) (day : ℤ) → IsSettlement days.settle → IsSecurity days kind → 100 ≤ step → ends_on days day kind ≡ true → falls_in span day ≡ true
    → 0 < unit_paid_in span (map (pay_by (kind_rate kind) step) (kind_schedule days kind))
unfolding slgs_schedule market.note_schedule
kind_pays_some days Cash step span day h security some due falls = absurd security
kind_pays_some days (Security slgs) step span day h security some due falls =
    let at : open_day days.closed slgs.maturity ≡ day = (Decides-int_eq (open_day days.closed slgs.maturity) day).0 due in
    let test : int_eq slgs.maturity slgs.maturity ≡ true = (Decides-int_eq slgs.maturity slgs.maturity).1 refl in
    subst (λ (pays : List PayCoefficients). 0 < unit_paid_in span pays) (sym (map-map (pay_by slgs.rate.0 step) (payment_on slgs days.closed) (payment_dates slgs)))
    (last_pays span (λ date. pay_by slgs.rate.0 step (payment_on slgs days.closed date)) (payment_dates slgs) slgs.maturity (slgs_dates slgs (is_paid days slgs h security))
    (ap (falls_in span) at ∙ falls)
    (principal-some _ step (int_eq slgs.maturity slgs.maturity) test some))
kind_pays_some days (Market note) step span day h security some due falls =
    let at : open_day days.closed note.maturity ≡ day = (Decides-int_eq (open_day days.closed note.maturity) day).0 due in
    let test : int_eq note.maturity note.maturity ≡ true = (Decides-int_eq note.maturity note.maturity).1 refl in
    let t = term note security.1 in
    let p = counted note.maturity rule.MonthEnd note.settle t security.1.after in
    subst (λ (pays : List PayCoefficients). 0 < unit_paid_in span pays) (sym (map-map (pay_by note.coupon.0 step) (market.payment_on note days.closed) (market.payment_dates note)))
    (last_pays span (λ date. pay_by note.coupon.0 step (market.payment_on note days.closed date)) (market.payment_dates note) note.maturity (note_dates note p.count t p.has)
    (ap (falls_in span) at ∙ falls)
    (principal-some _ step (int_eq note.maturity note.maturity) test some))

pub own_pays_some : (days : PaymentDays) (needs : List Flow) (place : ℕ) (line : Line) → IsSettlement days.settle → Rise needs → place < length needs → IsSecurityLine days line → ends_on days (need_at needs place).day line.kind ≡ true
    → 0 < unit_paid_in (span_of needs place) (pay_coefficients days line)
own_pays_some days needs place line h rising within security due =
    kind_pays_some days line.kind line.step (span_of needs place) (need_at needs place).day h security.security security.step_at_least due (falls-until needs place rising within)

-- ---- one price more
pub first-start : (book : BookContents) → first_prices book 0 ≡ Some []
unfolding first_prices
first-start book = refl

first-step : (book : BookContents) (dates : ℕ) (prices : List ℕ) → first_prices book dates ≡ Some prices → first_prices book (dates + 1) ≡ with_next_price book prices
unfolding first_prices
first-step book dates prices had =
    let next : dates + 1 ≡ suc dates = omega arith in
    ap (first_prices book) next ∙ ap (option_and_then (with_next_price book)) had

pub first-more : (book : BookContents) (dates : ℕ) (prices : List ℕ) (price : ℕ) → first_prices book dates ≡ Some prices → next_price book prices ≡ Some price → first_prices book (dates + 1) ≡ Some (prices ++ price ∷ [])
first-more book dates prices price had found =
    first-step book dates prices had ∙ ap (option_map (λ (p : ℕ). prices ++ p ∷ [])) found

none_on : (book : BookContents) (dates more : ℕ) → first_prices book dates ≡ None → first_prices book (more + dates) ≡ None
unfolding first_prices
none_on book dates zero none = let start : 0 + dates ≡ dates = omega arith in ap (first_prices book) start ∙ none
none_on book dates (suc more) none =
    let next : suc more + dates ≡ suc (more + dates) = omega arith in
    ap (first_prices book) next ∙ ap (option_and_then (with_next_price book)) (none_on book dates more none)

-- where a date has no price, the curve has none
pub first-stop : (book : BookContents) (dates : ℕ) (prices : List ℕ) → first_prices book dates ≡ Some prices → next_price book prices ≡ None → dates < length book.needs → bootstrapped_prices book ≡ None
first-stop book dates prices had none within =
    let stopped = first-step book dates prices had ∙ ap (option_map (λ (p : ℕ). prices ++ p ∷ [])) none in
    let whole : length book.needs - (dates + 1) + (dates + 1) ≡ length book.needs = omega arith in
    ap (first_prices book) (sym whole) ∙ none_on book (dates + 1) (length book.needs - (dates + 1)) stopped

-- prices that never rise, and one more that isn't above the last
pub falling_more : (prices : List ℕ) (price : ℕ) → AllPairs (λ earlier later. later ≤ earlier) prices → All (λ p. p ≤ PRICE_SCALE) prices → price ≤ last_price prices
    → AllPairs (λ earlier later. later ≤ earlier) (prices ++ price ∷ [])
falling_more prices price falling small below = λ i j d order within.
    let long : length (prices ++ price ∷ []) ≡ length prices + 1 = length-append prices (price ∷ []) in
    let first : get_or (prices ++ price ∷ []) i d ≡ get_or prices i d = get_or_append_left prices (price ∷ []) d i (omega arith) in
    elim (cases_lt j (length prices)) [
      | inl less ↦ (let later : get_or (prices ++ price ∷ []) j d ≡ get_or prices j d = get_or_append_left prices (price ∷ []) d j less in
          omega (arith, first, later, falling i j d order less))
      | inr more ↦ (let at : j ≡ length prices = omega arith in
          let later : get_or (prices ++ price ∷ []) j d ≡ price = ap (λ k. get_or (prices ++ price ∷ []) k d) at ∙ get_or-append_seam prices price [] d in
          let last : get_or prices (length prices - 1) PRICE_SCALE ≤ get_or prices i d = last_le i d (omega arith) in
          omega (arith, first, later, last, below))
    ]
  where
    last_le : (i d : ℕ) → i < length prices → get_or prices (length prices - 1) PRICE_SCALE ≤ get_or prices i d
    last_le i d within =
        let read = get_or_default prices (length prices - 1) PRICE_SCALE d (omega arith) in
        elim (cases_lt i (length prices - 1)) [
          | inl less ↦ omega (arith, read, falling i (length prices - 1) d less (omega arith))
          | inr more ↦ (let at : i ≡ length prices - 1 = omega arith in omega (arith, read, ap (λ k. get_or prices k d) at))
        ]

pub small_more : (prices : List ℕ) (price : ℕ) → All (λ p. p ≤ PRICE_SCALE) prices → price ≤ last_price prices → All (λ p. p ≤ PRICE_SCALE) (prices ++ price ∷ [])
small_more prices price small below =
    All-append (λ p. p ≤ PRICE_SCALE) prices (price ∷ []) small (All-cons (λ p. p ≤ PRICE_SCALE) price [] (omega (arith, below, last_small prices small)) (All-nil (λ p. p ≤ PRICE_SCALE)))
  where
    last_small : (xs : List ℕ) → All (λ p. p ≤ PRICE_SCALE) xs → last_price xs ≤ PRICE_SCALE
    last_small [] h = omega arith
    last_small (x ∷ xs) h = h (length (x ∷ xs) - 1) PRICE_SCALE (omega arith)
