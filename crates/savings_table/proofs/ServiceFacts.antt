-- What old bonds pay where they aren't called, and how much that is.
use Rattle.std.proofs.Common.{◌≡◌, ◌∙◌, refl, sym, ap, arith, ℕ, zero, suc, ◌+◌, ◌*◌, ◌<◌, ◌≤◌, List, [], ◌∷◌, ◌++◌, length, take, get_or, Bool, true, false, ℤ, ◌≤ℤ◌, ◌<ℤ◌}
use Rattle.std.specs.Prelude.{All, IfSome, Option, Some, None, filter, int_le, int_lt, if◌then◌else◌, sum_by}
use Rattle.std.specs.List.{flat_map}
use Rattle.std.proofs.Math.Nat.{mul-le-mul_left, mul-le-mul_right}
use Rattle.std.proofs.lemmas.Int.{ints}
use Rattle.std.proofs.lemmas.List.{map-append, take_all, take_more}
use Rattle.std.proofs.lemmas.List.Elements.{All-append, All-head, All-nil, All-tail, All-weaker}
use Rattle.std.proofs.lemmas.List.Sums.{count_by-le-length, length-filter, sum_by-cons}
use Rattle.escrow_units.specs.Calendar.{IsBaseDay, IsSeriesDate, half_back_of, years_after_of}
use Rattle.escrow_units.specs.CalendarLaws.{DatesAfterAreLater, SeriesFalls, SeriesStartsAtMaturity}
use Rattle.escrow_units.specs.Flows.{FallWithin, total}
use Rattle.escrow_units.specs.Rounding.{near}
use Rattle.escrow_units.specs.Series.{dates_after_of, series_from, series_of}
use Rattle.escrow_units.specs.declared.security.Flow.{Flow}
use Rattle.escrow_units.specs.declared.security.StepRule.TheVariants as rule
use Rattle.escrow_units.proofs.FlowFacts.{int_le-test}
use Rattle.escrow_units.proofs.RoundingFacts.{near-IsNearest}
use Rattle.day_sums.specs.Summed.{on}
use Rattle.day_sums.proofs.Uniqueness.{fall-within, keep-total}
use Rattle.issue_schedule.specs.IssueTerms.{HasNeeds, IsBond, IsCall}
use Rattle.issue_schedule.specs.Needs.{accrued, bond_needs, call_price, called_needs, held_needs, half_coupon, interest, interest_dates, needs_of}
use Rattle.issue_schedule.specs.declared.issue.Bond.{Bond}
use Rattle.issue_schedule.specs.declared.issue.Call.{Call}
use Rattle.issue_schedule.specs.declared.issue.Issue.{Issue}
use Rattle.issue_schedule.proofs.InterestFacts.{all_on, total-all_on}
use Rattle.issue_schedule.proofs.NeedFacts.{bond-within, needs-total, total-append}
use Rattle.savings_table.specs.OldService.{old_service_of}

-- ---- a bond that isn't called pays on all dates of its series after settlement: none is after maturity

all-pass : (last : ℤ) (dates : List ℤ) → All (λ date. date ≤ℤ last) dates → filter (λ date. int_le date last) dates ≡ dates
all-pass last [] all = refl
all-pass last (date ∷ dates) all =
    rw (int_le-test date last (All-head (λ (d : ℤ). d ≤ℤ last) date dates all))
    (ap (λ (ds : List ℤ). date ∷ ds) (all-pass last dates (All-tail (λ (d : ℤ). d ≤ℤ last) date dates all)))

step-by : (start : SeriesStartsAtMaturity) (fall : SeriesFalls) (maturity date : ℤ) (k : ℕ) → IsBaseDay maturity → k ≤ 84 → date ≡ half_back_of maturity k rule.SameDay
    → date ≤ℤ maturity
step-by start fall maturity date zero base few back =
    let first = start maturity rule.SameDay (omega (arith, ints, base.0), omega (arith, ints, base.1)) in
    omega (arith, ints, back, first)
step-by start fall maturity date (suc k) base few back =
    let first = start maturity rule.SameDay (omega (arith, ints, base.0), omega (arith, ints, base.1)) in
    let less = fall maturity rule.SameDay 0 (suc k) base (omega arith) few in
    omega (arith, ints, back, first, less)

pub held-dates : (after : DatesAfterAreLater) (start : SeriesStartsAtMaturity) (fall : SeriesFalls) (settle maturity : ℤ) → IsBaseDay maturity
    → interest_dates settle maturity maturity ≡ dates_after_of maturity rule.SameDay settle
held-dates after start fall settle maturity base =
    all-pass maturity (dates_after_of maturity rule.SameDay settle)
    (All-weaker (λ (date : ℤ). IsSeriesDate maturity rule.SameDay date × (settle <ℤ date)) (λ (date : ℤ). date ≤ℤ maturity)
    (λ date is. step-by start fall maturity date is.0.steps base is.0.few is.0.back) (dates_after_of maturity rule.SameDay settle) (after maturity rule.SameDay settle base).series)

-- the principal and half the coupon on the first dates
abbrev pub held_by : Bond → List ℤ → List Flow
held_by bond dates = on bond.maturity bond.principal.0 ∷ all_on (half_coupon bond) dates

pub held-more : (bond : Bond) (dates : List ℤ) (i : ℕ) (d : ℤ) (flows more : List Flow) → i < length dates → flows ≡ held_by bond (take i dates)
    → more ≡ flows ++ on (get_or dates i d) (half_coupon bond) ∷ [] → more ≡ held_by bond (take (i + 1) dates)
held-more bond dates i d flows more short are is =
    let date = get_or dates i d in
    is ∙ (ap (λ (fs : List Flow). fs ++ on date (half_coupon bond) ∷ []) are
    ∙ ap (λ (fs : List Flow). on bond.maturity bond.principal.0 ∷ fs)
    (sym (ap (all_on (half_coupon bond)) (take_more dates i d short) ∙ map-append (λ (day : ℤ). on day (half_coupon bond)) (take i dates) (date ∷ []))))

pub held-end : (settle : ℤ) (bond : Bond) (dates : List ℤ) (i : ℕ) (flows : List Flow) → length dates ≤ i → flows ≡ held_by bond (take i dates)
    → dates ≡ interest_dates settle bond.maturity bond.maturity → flows ≡ held_needs settle bond
held-end settle bond dates i flows all are same = are ∙ ap (held_by bond) (take_all i dates all ∙ same)

-- ---- and how much: a call costs at least a tenth of the principal, so it pays at most some 138 times what it pays with a call

length-series : (maturity : ℤ) (n : ℕ) → length (series_from maturity rule.SameDay n) ≡ n + 1
unfolding series_from
length-series maturity zero = refl
length-series maturity (suc n) = omega (arith, length-series maturity n)

few-dates : (settle last maturity : ℤ) → length (interest_dates settle last maturity) ≤ 85
unfolding dates_after_of
few-dates settle last maturity =
    let after = filter (int_lt settle) (series_of maturity rule.SameDay) in
    omega (
      arith,
      length-filter (λ (date : ℤ). int_le date last) after,
      count_by-le-length (λ (date : ℤ). int_le date last) after,
      length-filter (int_lt settle) (series_of maturity rule.SameDay),
      count_by-le-length (int_lt settle) (series_of maturity rule.SameDay),
      length-series maturity 84,
    )

-- 85 half-coupons come to at most 12.75 times the principal and 42.5 cents
coupons-at-most : (n principal coupon : ℕ) → n ≤ 85 → coupon ≤ 30_000 → 4 * (n * near (principal * coupon) 200_000) ≤ 51 * principal + 170
coupons-at-most n principal coupon few within =
    let half = near (principal * coupon) 200_000 in
    let dates = mul-le-mul_right half few in
    let most = mul-le-mul_left principal within in
    let nearest = (near-IsNearest (principal * coupon) 200_000 (omega arith)).above in
    omega (arith, dates, most, nearest)

held-total : (settle : ℤ) (bond : Bond)
    → total (held_needs settle bond) ≡ bond.principal.0 + length (interest_dates settle bond.maturity bond.maturity) * half_coupon bond
held-total settle bond =
    omega (arith, sum_by-cons (λ (f : Flow). f.cents.0) (on bond.maturity bond.principal.0) (interest settle bond.maturity bond), total-all_on (half_coupon bond) (interest_dates settle bond.maturity bond.maturity))

held-at-most : (settle : ℤ) (bond : Bond) → IsBond settle bond → 4 * total (held_needs settle bond) ≤ 55 * bond.principal.0 + 170
held-at-most settle bond is =
    let n = length (interest_dates settle bond.maturity bond.maturity) in
    let most = coupons-at-most n bond.principal.0 bond.coupon.0 (few-dates settle bond.maturity bond.maturity) is.coupon in
    omega (arith, held-total settle bond, most)

-- the price of a call is at least a tenth of the principal, but for rounding
call-at-least : (bond : Bond) (call : Call) (least : 1_000_000_000 ≤ call.price.0) → bond.principal.0 ≤ 10 * call_price bond call + 5
call-at-least bond call least =
    let tenth = mul-le-mul_left bond.principal.0 least in
    let nearest = (near-IsNearest (bond.principal.0 * call.price.0) 10_000_000_000 (omega arith)).below in
    omega (arith, tenth, nearest)

by-test : (settle : ℤ) (bond : Bond) (call : Call) (held : Bool) (least : 1_000_000_000 ≤ call.price.0)
    → bond.principal.0 ≤ 10 * total (if held then held_needs settle bond else called_needs settle bond call) + 5
by-test settle bond call true least = omega (arith, sum_by-cons (λ (f : Flow). f.cents.0) (on bond.maturity bond.principal.0) (interest settle bond.maturity bond))
by-test settle bond call false least =
    omega (arith, sum_by-cons (λ (f : Flow). f.cents.0) (on call.day (call_price bond call)) (accrued bond call.day ++ interest settle call.day bond), call-at-least bond call least)

principal-at-most : (settle : ℤ) (call : Option Call) (bond : Bond) → IfSome call (IsCall settle) → bond.principal.0 ≤ 10 * total (bond_needs settle call bond) + 5
principal-at-most settle None bond calls = omega (arith, held-total settle bond)
principal-at-most settle (Some call) bond calls = by-test settle bond call (int_le bond.maturity call.day) calls.least

bond-at-most : (settle : ℤ) (call : Option Call) (bond : Bond) → IfSome call (IsCall settle) → IsBond settle bond
    → 4 * total (bond_needs settle None bond) ≤ 550 * total (bond_needs settle call bond) + 445
bond-at-most settle call bond calls is = omega (arith, held-at-most settle bond is, principal-at-most settle call bond calls)

bonds-at-most : (settle : ℤ) (call : Option Call) (bonds : List Bond) → IfSome call (IsCall settle) → All (IsBond settle) bonds
    → 4 * total (flat_map (bond_needs settle None) bonds) ≤ 550 * total (flat_map (bond_needs settle call) bonds) + 445 * length bonds
bonds-at-most settle call [] calls all = omega arith
bonds-at-most settle call (bond ∷ bonds) calls all =
    omega (
      arith,
      total-append (bond_needs settle None bond) (flat_map (bond_needs settle None) bonds),
      total-append (bond_needs settle call bond) (flat_map (bond_needs settle call) bonds),
      bond-at-most settle call bond calls (All-head (IsBond settle) bond bonds all),
      bonds-at-most settle call bonds calls (All-tail (IsBond settle) bond bonds all),
    )

-- all of them come to at most 2 * 10^15 cents
pub service-fits : (issue : Issue) → HasNeeds issue → length issue.bonds ≤ 1_048_576
    → total (flat_map (bond_needs issue.settle None) issue.bonds) ≤ 2_000_000_000_000_000
service-fits issue has few =
    omega (
      arith,
      total-append issue.direct (flat_map (bond_needs issue.settle issue.call) issue.bonds),
      has.limit,
      bonds-at-most issue.settle issue.call issue.bonds has.call has.bonds,
    )

pub service-limit : (issue : Issue) → HasNeeds issue → length issue.bonds ≤ 1_048_576 → total (old_service_of issue.settle issue.bonds) ≤ 2_000_000_000_000_000
unfolding needs_of
service-limit issue has few = rw (keep-total (flat_map (bond_needs issue.settle None) issue.bonds)) (service-fits issue has few)

-- ---- the days of the old service

abbrev IsWithin : ℤ → ℤ → Flow → Type 0
IsWithin from to flow = (from ≤ℤ flow.day) × (flow.day ≤ℤ to)

bonds-within : (settle : ℤ) (bonds : List Bond) → All (IsBond settle) bonds
    → FallWithin settle (years_after_of settle 40) (flat_map (bond_needs settle None) bonds)
bonds-within settle [] all = All-nil (IsWithin settle (years_after_of settle 40))
bonds-within settle (bond ∷ bonds) all =
    All-append (IsWithin settle (years_after_of settle 40)) (bond_needs settle None bond) (flat_map (bond_needs settle None) bonds)
    (bond-within settle None bond tt (All-head (IsBond settle) bond bonds all)) (bonds-within settle bonds (All-tail (IsBond settle) bond bonds all))

pub service-within : (settle : ℤ) (bonds : List Bond) → All (IsBond settle) bonds → FallWithin settle (years_after_of settle 40) (old_service_of settle bonds)
unfolding needs_of
service-within settle bonds all =
    fall-within settle (years_after_of settle 40) (flat_map (bond_needs settle None) bonds) (bonds-within settle bonds all)

pub service-total : (settle : ℤ) (bonds : List Bond) → total (old_service_of settle bonds) ≡ sum_by (λ bond. total (bond_needs settle None bond)) bonds
service-total settle bonds = omega (arith, needs-total settle None [] bonds)
