-- What the backward plan of a plain case costs, one need date after another.
use Rattle.std.proofs.Common.{◌≡◌, ◌∙◌, ℕ, zero, suc, ◌+◌, ◌*◌, ◌<◌, ◌≤◌, List, [], ◌∷◌, Option, map, length, take, get_or, refl, sym, ap, subst, arith, ℤ, pos, ◌<ℤ◌}
use Rattle.std.proofs.lemmas.Int.{ints}
use Rattle.std.proofs.lemmas.List.{get_or-map, length-map, take_all}
use Rattle.std.proofs.lemmas.List.Sums.{sum-map, sum_by-append, sum_by-cons, sum_by_more}
use Rattle.std.proofs.lemmas.Slice.Zip.{get_or-zip, length-zip}
use Rattle.std.specs.List.{flat_map, sum, sum_by, zip}
use Rattle.escrow_units.specs.Flows.{Rise}
use Rattle.escrow_units.specs.declared.security.Flow.{Flow}
use Rattle.day_sums.proofs.RateFacts.{at_rate}
use Rattle.offer_book.specs.Book.{BookContents, IsBook}
use Rattle.offer_book.specs.CaseBook.{cash_line}
use Rattle.offer_book.specs.Portfolio.{cost, line_cost, line_payments, payments}
use Rattle.offer_book.specs.declared.coefficients.TheConstants.{COEFFICIENT_SCALE}
use Rattle.offer_book.specs.declared.line.Line.{Line}
use Rattle.offer_book.proofs.LineFacts.{line_cost-none}
use Rattle.dual_bound.specs.LeafBound.{price_on, priced_needs}
use Rattle.proof_tree.specs.declared.prices.TheConstants.{PRICE_SCALE}
use Rattle.backward_build.specs.OwnOffer.{line_at, need_at, own_offer_of}
use Rattle.backward_build.specs.PlainCase.{least_and_step}
use Rattle.backward_build.specs.PlanLaws.{IsBackwardPlan, IsOwnOfferAt}
use Rattle.backward_build.proofs.BackwardFacts.{built_backward}
use Rattle.backward_build.proofs.FairFacts.{bootstrapped_fair}
use Rattle.backward_build.proofs.OfferFacts.{own_is}
use Rattle.backward_build.proofs.PlanFacts.{ends_once}
use Rattle.plain_case.specs.OwnOfferWorth.{IsWorthIt, own_rounding, worth_paid}
use Rattle.plain_case.specs.PlanWorth.{PlansAreWorthIt, leasts_and_steps}
use Rattle.plain_case.proofs.OwnFacts.{own_worth}
use Rattle.plain_case.proofs.OwnSums.{AreApart, AreThere, NoneOwns, all-owned, at_own, own_sum, owned-le}
use Rattle.plain_case.proofs.PurchaseFacts.{received}
use Rattle.plain_case.proofs.RateFacts.{early_price, worth-more}

abbrev no_flow : Flow
no_flow = record { day = pos 0; cents = record { 0 = 0 } }

abbrev own_of : BookContents → Flow → Option ℕ
own_of book need = own_offer_of book need.day

-- ---- amounts of lines, by number
abbrev pair_cost : Line × ℕ → ℕ
pair_cost p = line_cost p.0 p.1

abbrev pair_worth : BookContents → List ℕ → Line × ℕ → ℕ
pair_worth book prices p = worth_paid book prices (line_payments book.days p.0 p.1)

abbrev costs_of : BookContents → List ℕ → List ℕ
costs_of book plan = map pair_cost (zip book.lines plan)

abbrev worths_of : BookContents → List ℕ → List ℕ → List ℕ
worths_of book prices plan = map (pair_worth book prices) (zip book.lines plan)

abbrev roundings_of : BookContents → List ℕ
roundings_of book = map (own_rounding book) book.lines

mapped-at : (f : Line × ℕ → ℕ) (lines : List Line) (plan : List ℕ) (number : ℕ) → length plan ≡ length lines → number < length lines → get_or (map f (zip lines plan)) number 0 ≡ f (line_at lines number, get_or plan number 0)
mapped-at f lines plan number same within =
    get_or-map f (zip lines plan) number (cash_line 0, 0) 0 (omega (arith, length-zip lines plan, same, within))
    ∙ ap f (get_or-zip lines plan number _ within (omega (arith, same, within)))

rounding-at : (book : BookContents) (number : ℕ) → number < length book.lines → get_or (roundings_of book) number 0 ≡ own_rounding book (line_at book.lines number)
rounding-at book number within = get_or-map (own_rounding book) book.lines number _ 0 within

-- ---- one need date after another
-- what the first need dates come to
abbrev needs_worth : BookContents → List ℕ → ℕ → ℕ
needs_worth book prices dates = sum_by (λ p. p.0.cents.0 * p.1) (take dates (zip book.needs prices))

abbrev leasts_to : BookContents → ℕ → ℕ
leasts_to book dates = sum_by (λ need. least_and_step book.lines (own_of book need)) (take dates book.needs)

abbrev receipts_worth : BookContents → List ℕ → List ℕ → ℕ → ℕ
receipts_worth book prices plan dates = sum_by (at_rate (early_price book.needs prices dates)) (payments book plan)

abbrev SoFar : BookContents → List ℕ → List ℕ → ℕ → Type 0
SoFar book prices plan dates =
    COEFFICIENT_SCALE * PRICE_SCALE * own_sum (own_of book) (costs_of book plan) (take dates book.needs) + COEFFICIENT_SCALE * receipts_worth book prices plan dates
    ≤ COEFFICIENT_SCALE * own_sum (own_of book) (worths_of book prices plan) (take dates book.needs)
    + COEFFICIENT_SCALE * needs_worth book prices dates
    + COEFFICIENT_SCALE * PRICE_SCALE * (leasts_to book dates + own_sum (own_of book) (roundings_of book) (take dates book.needs))

added : (g gk w a h hk n b l lk r rk : ℕ) → COEFFICIENT_SCALE * PRICE_SCALE * g + COEFFICIENT_SCALE * w ≤ COEFFICIENT_SCALE * h + COEFFICIENT_SCALE * n + COEFFICIENT_SCALE * PRICE_SCALE * (l + r)
    → COEFFICIENT_SCALE * PRICE_SCALE * gk + COEFFICIENT_SCALE * a ≤ COEFFICIENT_SCALE * hk + COEFFICIENT_SCALE * b + COEFFICIENT_SCALE * PRICE_SCALE * (lk + rk)
    → COEFFICIENT_SCALE * PRICE_SCALE * (g + gk) + COEFFICIENT_SCALE * (w + a) ≤ COEFFICIENT_SCALE * (h + hk) + COEFFICIENT_SCALE * (n + b) + COEFFICIENT_SCALE * PRICE_SCALE * (l + lk + (r + rk))
added g gk w a h hk n b l lk r rk had here = omega (arith, had, here)

own_sum-more : (book : BookContents) (amounts : List ℕ) (place number : ℕ) → place < length book.needs → IsOwnOfferAt book place number
    → own_sum (own_of book) amounts (take (place + 1) book.needs) ≡ own_sum (own_of book) amounts (take place book.needs) + get_or amounts number 0
own_sum-more book amounts place number within own =
    sum_by_more (λ (need : Flow). at_own amounts (own_of book need)) book.needs place no_flow within
    ∙ ap (λ o. own_sum (own_of book) amounts (take place book.needs) + at_own amounts o) own

needs_worth-more : (book : BookContents) (prices : List ℕ) (place : ℕ) → place < length book.needs → length prices ≡ length book.needs
    → needs_worth book prices (place + 1) ≡ needs_worth book prices place + get_or prices place 0 * (need_at book.needs place).cents.0
needs_worth-more book prices place within same =
    let more = sum_by_more (λ (p : Flow × ℕ). p.0.cents.0 * p.1) (zip book.needs prices) place (no_flow, 0) (omega (arith, length-zip book.needs prices, same, within)) in
    let pair = ap (λ (p : Flow × ℕ). p.0.cents.0 * p.1) (get_or-zip book.needs prices place (no_flow, 0) within (omega (arith, same, within))) in
    omega (arith, more, pair)

leasts_to-more : (book : BookContents) (place number : ℕ) → place < length book.needs → IsOwnOfferAt book place number
    → leasts_to book (place + 1) ≡ leasts_to book place + (line_cost (line_at book.lines number) (line_at book.lines number).least + line_cost (line_at book.lines number) 1)
leasts_to-more book place number within own =
    sum_by_more (λ (need : Flow). least_and_step book.lines (own_of book need)) book.needs place no_flow within
    ∙ ap (λ o. leasts_to book place + least_and_step book.lines o) own

date-more : (book : BookContents) (prices plan : List ℕ) (place number : ℕ) → IsBook book → length prices ≡ length book.needs → length plan ≡ length book.lines → place < length book.needs → IsOwnOfferAt book place number
    → IsWorthIt book prices place (line_at book.lines number) (get_or plan number 0) (received book plan place) → SoFar book prices plan place → SoFar book prices plan (place + 1)
date-more book prices plan place number limits same long within own worth had =
    let inside = (own_is book (need_at book.needs place).day number own).within in
    let line = line_at book.lines number in
    let units = get_or plan number 0 in
    let all = added _ (line_cost line units) _ (get_or prices place 0 * received book plan place) _ (worth_paid book prices (line_payments book.days line units)) _ (get_or prices place 0 * (need_at book.needs place).cents.0)
    _ (line_cost line line.least + line_cost line 1) _ (own_rounding book line) had worth in
    let costs = own_sum-more book (costs_of book plan) place number within own ∙ ap (λ m. own_sum (own_of book) (costs_of book plan) (take place book.needs) + m) (mapped-at pair_cost book.lines plan number long inside) in
    let worths = own_sum-more book (worths_of book prices plan) place number within own ∙ ap (λ m. own_sum (own_of book) (worths_of book prices plan) (take place book.needs) + m) (mapped-at (pair_worth book prices) book.lines plan number long inside) in
    let roundings = own_sum-more book (roundings_of book) place number within own ∙ ap (λ m. own_sum (own_of book) (roundings_of book) (take place book.needs) + m) (rounding-at book number inside) in
    omega (
      arith,
      all,
      costs,
      worths,
      roundings,
      worth-more book.needs prices place (payments book plan) limits.needs.rising same within,
      needs_worth-more book prices place within same,
      leasts_to-more book place number within own,
    )

-- ---- all need dates
start : (book : BookContents) (prices plan : List ℕ) → SoFar book prices plan 0
unfolding price_on
start book prices plan = omega (arith, nothing (payments book plan))
  where
    nothing : (flows : List Flow) → sum_by (at_rate (early_price book.needs prices 0)) flows ≡ 0
    nothing [] = refl
    nothing (flow ∷ flows) = omega (arith, sum_by-cons (at_rate (early_price book.needs prices 0)) flow flows, nothing flows)

abbrev EachIsWorthIt : BookContents → List ℕ → List ℕ → Type 0
EachIsWorthIt book prices plan =
    (place number : ℕ) → place < length book.needs → IsOwnOfferAt book place number → IsWorthIt book prices place (line_at book.lines number) (get_or plan number 0) (received book plan place)

pub record HasOwn (book : BookContents) (place : ℕ) : Type 0 where
  pub number : ℕ
  pub own : IsOwnOfferAt book place number

up_to : (book : BookContents) (prices plan : List ℕ) (dates : ℕ) → IsBook book → length prices ≡ length book.needs → length plan ≡ length book.lines → ((place : ℕ) → place < length book.needs → HasOwn book place) → EachIsWorthIt book prices plan
    → dates ≤ length book.needs → SoFar book prices plan dates
up_to book prices plan zero limits same long owns worth within = start book prices plan
up_to book prices plan (suc place) limits same long owns worth within =
    let next : place + 1 ≡ suc place = omega arith in
    let inside : place < length book.needs = omega arith in
    let has = owns place inside in
    subst (SoFar book prices plan) next (date-more book prices plan place has.number limits same long inside has.own (worth place has.number inside has.own) (up_to book prices plan place limits same long owns worth (omega arith)))

-- a sum over all payments, line by line
by_line : (amount : Flow → ℕ) (flows : Line × ℕ → List Flow) (pairs : List (Line × ℕ)) → sum_by amount (flat_map flows pairs) ≡ sum_by (λ p. sum_by amount (flows p)) pairs
by_line amount flows [] = refl
by_line amount flows (p ∷ pairs) =
    omega (arith, sum_by-append amount (flows p) (flat_map flows pairs), by_line amount flows pairs, sum_by-cons (λ q. sum_by amount (flows q)) p pairs)

receipts-all : (book : BookContents) (prices plan : List ℕ) → length prices ≡ length book.needs → receipts_worth book prices plan (length book.needs) ≡ sum (worths_of book prices plan)
receipts-all book prices plan same =
    (λ i. sum_by (at_rate (λ day. price_on (take_all (length book.needs) book.needs (omega arith) i) (take_all (length book.needs) prices (omega arith) i) day)) (payments book plan))
    ∙ by_line (at_rate (price_on book.needs prices)) (λ p. line_payments book.days p.0 p.1) (zip book.lines plan)
    ∙ sym (sum-map (pair_worth book prices) (zip book.lines plan))

-- own offers of different dates are different lines, and each is there
own-apart : (book : BookContents) → Rise book.needs → AreApart (own_of book) book.needs
own-apart book rising = λ i j d order within number first second.
    let a = own_is book (get_or book.needs i d).day number first in
    let b = own_is book (get_or book.needs j d).day number second in
    let same = ends_once book.days (line_at book.lines number).kind (get_or book.needs i d).day (get_or book.needs j d).day a.due b.due in
    let later : (get_or book.needs i d).day <ℤ (get_or book.needs j d).day = rising i j d order within in
    absurd (clash _ _ same later)
  where
    clash : (x y : ℤ) → x ≡ y → x <ℤ y → ⊥
    clash x y h k = omega (arith, ints)

own-there : (book : BookContents) (count : ℕ) → count ≡ length book.lines → AreThere (own_of book) count book.needs
own-there book count is = λ k d within number own. omega (arith, is, (own_is book (get_or book.needs k d).day number own).within)

costs-count : (book : BookContents) (plan : List ℕ) (f : Line × ℕ → ℕ) → length plan ≡ length book.lines → length (map f (zip book.lines plan)) ≡ length book.lines
costs-count book plan f same = omega (arith, length-map (zip book.lines plan) f, length-zip book.lines plan, same)

-- nothing is bought of other lines
others-free : (book : BookContents) (plan : List ℕ) → IsBackwardPlan book plan → (number : ℕ) → number < length (costs_of book plan) → NoneOwns (own_of book) number book.needs → get_or (costs_of book plan) number 0 ≡ 0
others-free book plan backward number few none =
    let within : number < length book.lines = omega (arith, few, costs-count book plan pair_cost backward.permitted.same_length) in
    let nothing = backward.others number (λ place inside own. none place no_flow inside own) within in
    mapped-at pair_cost book.lines plan number backward.permitted.same_length within ∙ line_cost-none (line_at book.lines number) (get_or plan number 0) nothing

whole : (g c h w r m n l b : ℕ) → COEFFICIENT_SCALE * PRICE_SCALE * g + COEFFICIENT_SCALE * w ≤ COEFFICIENT_SCALE * h + COEFFICIENT_SCALE * n + COEFFICIENT_SCALE * PRICE_SCALE * (l + r)
    → c ≤ g → h ≤ w → r ≤ m → n ≡ b → COEFFICIENT_SCALE * PRICE_SCALE * c ≤ COEFFICIENT_SCALE * b + COEFFICIENT_SCALE * PRICE_SCALE * (l + m)
whole g c h w r m n l b all first second third same = omega (arith, all, first, second, third, same)

plan-worth : (book : BookContents) (prices plan : List ℕ) → IsBook book → length prices ≡ length book.needs → IsBackwardPlan book plan → EachIsWorthIt book prices plan
    → COEFFICIENT_SCALE * PRICE_SCALE * cost book plan ≤ COEFFICIENT_SCALE * priced_needs book.needs prices + COEFFICIENT_SCALE * PRICE_SCALE * (leasts_and_steps book + sum_by (own_rounding book) book.lines)
unfolding priced_needs
plan-worth book prices plan limits same backward worth =
    let long = backward.permitted.same_length in
    let dates = length book.needs in
    let owns : (place : ℕ) → place < length book.needs → HasOwn book place = λ place within. record { number = (backward.needs place within).number; own = (backward.needs place within).own } in
    let all = up_to book prices plan dates limits same long owns worth (omega arith) in
    let needs = take_all dates book.needs (omega arith) in
    let apart = own-apart book limits.needs.rising in
    let costs = all-owned (own_of book) book.needs (costs_of book plan) (own-there book _ (costs-count book plan pair_cost long)) (others-free book plan backward) in
    let worths = owned-le (own_of book) book.needs (worths_of book prices plan) apart (own-there book _ (costs-count book plan (pair_worth book prices) long)) in
    let roundings = owned-le (own_of book) book.needs (roundings_of book) apart (own-there book _ (length-map book.lines (own_rounding book))) in
    let g = ap (own_sum (own_of book) (costs_of book plan)) needs in
    let h = ap (own_sum (own_of book) (worths_of book prices plan)) needs in
    let r = ap (own_sum (own_of book) (roundings_of book)) needs in
    let l = ap (λ (ns : List Flow). sum_by (λ need. least_and_step book.lines (own_of book need)) ns) needs in
    let n : needs_worth book prices dates ≡ priced_needs book.needs prices = ap (λ (ps : List (Flow × ℕ)). sum_by (λ p. p.0.cents.0 * p.1) ps) (take_all dates (zip book.needs prices) (omega (arith, length-zip book.needs prices, same))) in
    omega (
      arith,
      whole (own_sum (own_of book) (costs_of book plan) (take dates book.needs)) (cost book plan) (own_sum (own_of book) (worths_of book prices plan) (take dates book.needs)) (receipts_worth book prices plan dates)
          (own_sum (own_of book) (roundings_of book) (take dates book.needs)) (sum_by (own_rounding book) book.lines) (needs_worth book prices dates) (leasts_to book dates) (priced_needs book.needs prices)
          all
          (omega (arith, costs, g, sum-map pair_cost (zip book.lines plan)))
          (omega (arith, worths, h, receipts-all book prices plan same))
          (omega (arith, roundings, r, sum-map (own_rounding book) book.lines))
          n,
      l,
    )

pub plan_worth : PlansAreWorthIt
plan_worth limit book limits plain =
    plan-worth book plain.prices plain.plan limits (bootstrapped_fair book plain.prices limits plain.curve).dates (built_backward book plain.plan limits plain.built) (own_worth limit book limits plain)
