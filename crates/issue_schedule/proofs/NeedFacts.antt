-- What direct needs and bonds need, together.
use Rattle.std.proofs.Common.{◌≡◌, ◌∙◌, refl, sym, ap, arith, ℕ, ◌+◌, ◌<◌, ◌≤◌, List, [], ◌∷◌, ◌++◌, length, take, get_or, append_assoc, Bool, true, false, ℤ}
use Rattle.std.specs.Prelude.{All, IfSome, Option, Some, None, int_le, int_lt, sum_by, ◌≤ℤ◌, if◌then◌else◌}
use Rattle.std.specs.List.{flat_map}
use Rattle.std.specs.Ordering.{int_eq}
use Rattle.std.proofs.lemmas.Int.{ints}
use Rattle.std.proofs.lemmas.List.{append-nil, take_all, take_more}
use Rattle.std.proofs.lemmas.List.Concat.{flat_map-append}
use Rattle.std.proofs.lemmas.List.Elements.{All-nil, All-cons, All-head, All-tail, All-append, All-filter, All-map, All-weaker, filter_passes}
use Rattle.std.proofs.lemmas.List.Sums.{sum_by-append, sum_by-cons, sum_by_more_le}
use Rattle.escrow_units.specs.declared.limits.TheConstants.{AMOUNT_LIMIT}
use Rattle.escrow_units.specs.Calendar.{years_after_of}
use Rattle.escrow_units.specs.Flows.{total, FallWithin}
use Rattle.escrow_units.specs.Series.{dates_after_of, series_of}
use Rattle.escrow_units.specs.declared.security.StepRule.TheVariants as rule
use Rattle.escrow_units.specs.declared.security.Flow.{Flow}
use Rattle.day_sums.specs.Summed.{on, summed}
use Rattle.day_sums.proofs.Uniqueness.{are-sums, fall-within, in-steps, keep-total}
use Rattle.issue_schedule.specs.declared.issue.Bond.{Bond}
use Rattle.issue_schedule.specs.declared.issue.Call.{Call}
use Rattle.issue_schedule.specs.declared.issue.Issue.{Issue}
use Rattle.issue_schedule.specs.IssueTerms.{HasNeeds, IsBond, IsCall, IsDirect}
use Rattle.issue_schedule.specs.NeedLaws.{NeedsAreAboveZero, NeedsFallWithin, NeedsKeepTotal, NeedsRise}
use Rattle.issue_schedule.specs.Needs.{accrued, accrued_since, all_needs, bond_needs, call_price, called_needs, held_needs, half_coupon, interest, interest_dates, needs_of, period_start}

pub total-append : (front back : List Flow) → total (front ++ back) ≡ total front + total back
total-append front back = sum_by-append (λ (f : Flow). f.cents.0) front back

bonds-total : (f : Bond → List Flow) (bonds : List Bond) → total (flat_map f bonds) ≡ sum_by (λ bond. total (f bond)) bonds
bonds-total f [] = refl
bonds-total f (bond ∷ bonds) = omega (arith, total-append (f bond) (flat_map f bonds), bonds-total f bonds, sum_by-cons (λ (b : Bond). total (f b)) bond bonds)

-- what is summed so far, with one more bond, is within all
pub bond-fits : (f : Bond → List Flow) (direct : List Flow) (bonds : List Bond) (i : ℕ) (d : Bond) (sums : List Flow) (limit : ℕ) → i < length bonds
    → sums ≡ summed (direct ++ flat_map f (take i bonds)) → total (direct ++ flat_map f bonds) ≤ limit
    → total sums + total (f (get_or bonds i d)) ≤ limit
bond-fits f direct bonds i d sums limit short are all =
    let kept = ap total are ∙ (keep-total (direct ++ flat_map f (take i bonds)) ∙ total-append direct (flat_map f (take i bonds))) in
    let more = sum_by_more_le (λ (b : Bond). total (f b)) bonds i d short in
    omega (arith, kept, all, more, total-append direct (flat_map f bonds), bonds-total f bonds, bonds-total f (take i bonds))

-- one more bond
pub bond-more : (f : Bond → List Flow) (direct : List Flow) (bonds : List Bond) (i : ℕ) (d : Bond) (sums more : List Flow) → i < length bonds
    → sums ≡ summed (direct ++ flat_map f (take i bonds)) → more ≡ summed (sums ++ f (get_or bonds i d))
    → more ≡ summed (direct ++ flat_map f (take (i + 1) bonds))
bond-more f direct bonds i d sums more short are is =
    let last = f (get_or bonds i d) in
    let before = flat_map f (take i bonds) in
    let one : flat_map f (get_or bonds i d ∷ []) ≡ last = append-nil last in
    let bonds_more : flat_map f (take (i + 1) bonds) ≡ before ++ last =
    ap (flat_map f) (take_more bonds i d short) ∙ (flat_map-append f (take i bonds) (get_or bonds i d ∷ []) ∙ ap (λ (fs : List Flow). before ++ fs) one) in
    is ∙ (ap (λ (fs : List Flow). summed (fs ++ last)) are
    ∙ (in-steps (direct ++ before) last
    ∙ ap (λ (fs : List Flow). summed fs) (append_assoc direct before last ∙ sym (ap (λ (fs : List Flow). direct ++ fs) bonds_more))))

pub all-summed : (settle : ℤ) (call : Option Call) (direct : List Flow) (bonds : List Bond) (sums : List Flow) (i : ℕ) → length bonds ≤ i
    → sums ≡ summed (direct ++ flat_map (bond_needs settle call) (take i bonds)) → sums ≡ needs_of settle call direct bonds
unfolding needs_of
all-summed settle call direct bonds sums i all are =
    are ∙ ap (λ (bs : List Bond). summed (direct ++ flat_map (bond_needs settle call) bs)) (take_all i bonds all)

pub needs-total : NeedsKeepTotal
unfolding needs_of
needs-total settle call direct bonds =
    let f = bond_needs settle call in
    omega (arith, keep-total (all_needs settle call direct bonds), total-append direct (flat_map f bonds), bonds-total f bonds)

pub needs-above : NeedsAreAboveZero
unfolding needs_of
needs-above settle call direct bonds = (are-sums (all_needs settle call direct bonds)).above

pub needs-rise : NeedsRise
unfolding needs_of
needs-rise settle call direct bonds = (are-sums (all_needs settle call direct bonds)).rise

-- a day from one to another
abbrev pub IsWithin : ℤ → ℤ → ℤ → Type 0
IsWithin from to day = (from ≤ℤ day) × (day ≤ℤ to)

-- the dates of interest come after settlement and up to the last day
dates-within : (settle last to maturity : ℤ) → last ≤ℤ to → All (IsWithin settle to) (interest_dates settle last maturity)
unfolding dates_after_of
dates-within settle last to maturity by =
    let after = All-filter (λ (date : ℤ). int_le date last) (λ (date : ℤ). int_lt settle date ≡ true) (dates_after_of maturity rule.SameDay settle)
    (filter_passes (int_lt settle) (series_of maturity rule.SameDay)) in
    let early = filter_passes (λ (date : ℤ). int_le date last) (dates_after_of maturity rule.SameDay settle) in
    λ k d less. (omega (arith, ints, after k d less), omega (arith, ints, early k d less, by))

interest-within : (settle last to : ℤ) (bond : Bond) → last ≤ℤ to → FallWithin settle to (interest settle last bond)
interest-within settle last to bond by =
    All-map (λ (f : Flow). IsWithin settle to f.day) (λ (date : ℤ). on date (half_coupon bond)) (interest_dates settle last bond.maturity)
    (dates-within settle last to bond.maturity by)

held-within : (settle to : ℤ) (bond : Bond) → IsWithin settle to bond.maturity → FallWithin settle to (held_needs settle bond)
held-within settle to bond within =
    All-cons (λ (f : Flow). IsWithin settle to f.day) (on bond.maturity bond.principal.0) (interest settle bond.maturity bond) within
    (interest-within settle bond.maturity to bond within.1)

accrued-at : (settle to day : ℤ) (bond : Bond) (none : Bool) → IsWithin settle to day
    → FallWithin settle to (if none then [] else on day (accrued_since bond (period_start bond.maturity day) day) ∷ [])
accrued-at settle to day bond true within = All-nil (λ (f : Flow). IsWithin settle to f.day)
accrued-at settle to day bond false within =
    All-cons (λ (f : Flow). IsWithin settle to f.day) (on day (accrued_since bond (period_start bond.maturity day) day)) [] within
    (All-nil (λ (f : Flow). IsWithin settle to f.day))

called-within : (settle to : ℤ) (bond : Bond) (call : Call) → IsWithin settle to call.day → FallWithin settle to (called_needs settle bond call)
called-within settle to bond call within =
    All-cons (λ (f : Flow). IsWithin settle to f.day) (on call.day (call_price bond call)) (accrued bond call.day ++ interest settle call.day bond) within
    (All-append (λ (f : Flow). IsWithin settle to f.day) (accrued bond call.day) (interest settle call.day bond)
    (accrued-at settle to call.day bond (int_eq (period_start bond.maturity call.day) call.day) within)
    (interest-within settle call.day to bond within.1))

at-test : (settle to : ℤ) (bond : Bond) (call : Call) (held : Bool) → IsWithin settle to bond.maturity → IsWithin settle to call.day
    → FallWithin settle to (if held then held_needs settle bond else called_needs settle bond call)
at-test settle to bond call true matures called = held-within settle to bond matures
at-test settle to bond call false matures called = called-within settle to bond call called

pub bond-within : (settle : ℤ) (call : Option Call) (bond : Bond) → IfSome call (IsCall settle) → IsBond settle bond
    → FallWithin settle (years_after_of settle 40) (bond_needs settle call bond)
bond-within settle None bond calls is = held-within settle (years_after_of settle 40) bond (omega (arith, ints, is.maturity.after), is.maturity.by)
bond-within settle (Some call) bond calls is =
    at-test settle (years_after_of settle 40) bond call (int_le bond.maturity call.day) (omega (arith, ints, is.maturity.after), is.maturity.by)
    (omega (arith, ints, calls.day.after), calls.day.by)

bonds-within : (settle : ℤ) (call : Option Call) (bonds : List Bond) → IfSome call (IsCall settle) → All (IsBond settle) bonds
    → FallWithin settle (years_after_of settle 40) (flat_map (bond_needs settle call) bonds)
bonds-within settle call [] calls all = All-nil (λ (f : Flow). IsWithin settle (years_after_of settle 40) f.day)
bonds-within settle call (bond ∷ bonds) calls all =
    All-append (λ (f : Flow). IsWithin settle (years_after_of settle 40) f.day) (bond_needs settle call bond) (flat_map (bond_needs settle call) bonds)
    (bond-within settle call bond calls (All-head (IsBond settle) bond bonds all)) (bonds-within settle call bonds calls (All-tail (IsBond settle) bond bonds all))

pub needs-within : NeedsFallWithin
unfolding needs_of
needs-within issue has =
    let to = years_after_of issue.settle 40 in
    fall-within issue.settle to (all_needs issue.settle issue.call issue.direct issue.bonds)
    (All-append (λ (f : Flow). IsWithin issue.settle to f.day) issue.direct (flat_map (bond_needs issue.settle issue.call) issue.bonds)
    (All-weaker (IsDirect issue.settle) (λ (f : Flow). IsWithin issue.settle to f.day) (λ f is. (is.from, is.by)) issue.direct has.direct)
    (bonds-within issue.settle issue.call issue.bonds has.call has.bonds))

pub needs-limit : (issue : Issue) → HasNeeds issue → total (needs_of issue.settle issue.call issue.direct issue.bonds) ≤ AMOUNT_LIMIT
unfolding needs_of
needs-limit issue has = rw (keep-total (all_needs issue.settle issue.call issue.direct issue.bonds)) has.limit
