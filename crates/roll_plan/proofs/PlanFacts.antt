-- What holds of a portfolio with its rolls.
use Rattle.std.proofs.Common.{◌≡◌, ◌∙◌, ℕ, zero, suc, ◌+◌, ◌*◌, ◌^◌, pos, ◌+ℤ◌, ◌<◌, ◌≤◌, min, refl, sym, ap, subst, arith, ℤ, ◌≤ℤ◌, ◌<ℤ◌, inl, inr, List, [], ◌∷◌, ◌++◌, length, get_or, Option, Some, None}
use Rattle.std.specs.List.{All, AllPairs, Any}
use Rattle.std.proofs.lemmas.Bool.{cases_lt}
use Rattle.std.proofs.lemmas.Int.{ints}
use Rattle.std.proofs.lemmas.List.{get_or_default}
use Rattle.std.proofs.lemmas.List.Elements.{All-append, All-head, All-map, All-nil, All-tail}
use Rattle.std.proofs.lemmas.List.Sums.{sum_by-append, sum_by-cons}
use Rattle.escrow_units.specs.Calendar.{IsBaseDay, years_after_of}
use Rattle.escrow_units.specs.DayNumber.{IsDayNumber}
use Rattle.escrow_units.specs.SlgsTerms.{IsSettlement}
use Rattle.escrow_units.specs.Flows.{FallWithinFortyYears, total}
use Rattle.escrow_units.specs.OpenDays.{Closings}
use Rattle.escrow_units.specs.declared.security.Flow.{Flow}
use Rattle.escrow_units.specs.declared.security.Terms.{Terms}
use Rattle.escrow_units.proofs.SeriesFacts.{years_after_of-none}
use Rattle.escrow_units.proofs.YearFacts.{settlement-base, years-follow, years_after_of-passes}
use Rattle.day_sums.specs.Table.{SpanSums}
use Rattle.roll_plan.specs.Steps.{AreInOrder}
use Rattle.day_sums.specs.Summed.{cents_on, on, summed, total_by}
use Rattle.day_sums.proofs.Uniqueness.{here-same, keep-total_by, on-cons}
use Rattle.offer_book.specs.Book.{BookContents, IsBook}
use Rattle.offer_book.specs.Portfolio.{IsPermitted, Meets, payments, security_flows}
use Rattle.cash_table.specs.Balances.{AreBalances, IsCashDay, balances_of}
use Rattle.cash_table.specs.Receipts.{cents_by}
use Rattle.cash_table.specs.declared.day_balances.Balance.{Balance}
use Rattle.cash_table.proofs.BalanceLaws.{any_later, some_on}
use Rattle.cash_table.proofs.DayFacts.{met_on_every_day, total_by-at_most}
use Rattle.cash_table.proofs.BalanceFacts.{total_by-parts}
use Rattle.cash_table.proofs.FlowFacts.{flows_at_most, flows_within}
use Rattle.cash_table.proofs.PaymentFacts.{payments_at_most}
use Rattle.roll_plan.specs.Rolls.{AreRolls, AreRollsOf, StillMeet, returned, taken}
use Rattle.roll_plan.specs.declared.planning.Roll.{Roll}
use Rattle.roll_plan.specs.Steps.{lessened_by}
use Rattle.roll_plan.proofs.MoveFacts.{rolled_flows, together}
use Rattle.roll_plan.proofs.SumFacts.{ComeBack, come_back}

-- an entry falls within 40 years of settlement
at_flow : (settle day : ℤ) (flows : List Flow) → FallWithinFortyYears settle flows → Any (λ (flow : Flow). flow.day ≡ day) flows → (settle ≤ℤ day) × (day ≤ℤ years_after_of settle 40)
at_flow settle day flows within (k, x, short, here, falls) =
    subst (λ (z : ℤ). (settle ≤ℤ z) × (z ≤ℤ years_after_of settle 40)) (ap (λ (f : Flow). f.day) here ∙ falls) (within k x short)

cash_day_within : (book : BookContents) (plan : List ℕ) (day : ℤ) → IsBook book → IsCashDay book plan day → (book.days.settle ≤ℤ day) × (day ≤ℤ years_after_of book.days.settle 40)
cash_day_within book plan day limits is = elim is [
  | inl settles ↦ subst (λ (z : ℤ). (book.days.settle ≤ℤ z) × (z ≤ℤ years_after_of book.days.settle 40)) (sym settles) (itself book.days.settle, years-follow book.days.settle limits.settlement)
  | inr other ↦ elim other [
    | inl need ↦ at_flow book.days.settle day book.needs limits.needs.within need
    | inr pays ↦ at_flow book.days.settle day (security_flows book plan) (flows_within book plan limits) pays
  ]
]
  where
    itself : (a : ℤ) → a ≤ℤ a
    itself a = omega (arith, ints)

pub entry_within : (book : BookContents) (plan : List ℕ) (entries : List Balance) (k : ℕ) (d : Balance) → IsBook book → AreBalances book plan entries → k < length entries
    → (book.days.settle ≤ℤ (get_or entries k d).day) × ((get_or entries k d).day ≤ℤ years_after_of book.days.settle 40)
entry_within book plan entries k d limits are within = cash_day_within book plan (get_or entries k d).day limits (are.days k d within)

-- and what is left on it is small
pub entry_small : (book : BookContents) (plan : List ℕ) (entries : List Balance) (k : ℕ) (d : Balance) → IsBook book → IsPermitted book plan → AreBalances book plan entries → k < length entries
    → (get_or entries k d).balance.0 ≤ 10 ^ 16
entry_small book plan entries k d limits permitted are within =
    omega (arith, are.balanced k d within, total_by-at_most (get_or entries k d).day (payments book plan), payments_at_most book plan limits permitted)

-- a roll comes back by the next day on which cash moves
pub each_comes_back : (book : BookContents) (plan : List ℕ) (terms : Terms) (closed : Closings) (entries : List Balance) (flows : List Flow) (rolls : List Roll) (k : ℕ) (d : Balance) → AreRolls closed terms entries flows rolls
    → k < length entries → All (ComeBack (get_or entries k d).day) rolls
each_comes_back book plan terms closed entries flows rolls k d are within = λ i r here. ((are.allowed i r here).0.later, (are.allowed i r here).0.first k d within)

-- on the day of an entry no more is taken than is left
entry_covers : (book : BookContents) (plan : List ℕ) (terms : Terms) (entries : List Balance) (rolls : List Roll) (s : ℤ) → AreBalances book plan entries
    → AreRolls book.days.closed terms entries (security_flows book plan) rolls → Any (λ (entry : Balance). entry.day ≡ s) entries
    → total_by s (book.needs ++ taken rolls) ≤ total_by s (payments book plan ++ returned rolls)
entry_covers book plan terms entries rolls s balances are (k, e, within, at, falls) =
    let same : (get_or entries k e).day ≡ s = ap (λ (b : Balance). b.day) at ∙ falls in
    let entry = get_or entries k e in
    let bounded = are.each k e within in
    let least : min entry.balance.0 (cents_on entry.day (security_flows book plan) + cents_on entry.day (returned rolls)) ≤ entry.balance.0 = omega arith in
    subst (λ (z : ℤ). total_by z (book.needs ++ taken rolls) ≤ total_by z (payments book plan ++ returned rolls)) same
    (omega (
      arith,
      sum_by-append (cents_by entry.day) book.needs (taken rolls),
      sum_by-append (cents_by entry.day) (payments book plan) (returned rolls),
      balances.balanced k e within,
      come_back entry.day rolls (each_comes_back book plan terms book.days.closed entries (security_flows book plan) rolls k e are within),
      bounded.within,
      least,
    ))

pub still_meet : (book : BookContents) (plan : List ℕ) (terms : Terms) (entries : List Balance) (rolls : List Roll) → AreBalances book plan entries
    → AreRolls book.days.closed terms entries (security_flows book plan) rolls → StillMeet book plan rolls
still_meet book plan terms entries rolls balances are = λ t.
    let covered : (s : ℤ) → Any (λ (entry : Balance). entry.day ≡ s) entries → total_by s (book.needs ++ taken rolls) ≤ total_by s (payments book plan ++ returned rolls) =
    λ s there. entry_covers book plan terms entries rolls s balances are there in
    let all : All (λ (flow : Flow). total_by flow.day (book.needs ++ taken rolls) ≤ total_by flow.day (payments book plan ++ returned rolls)) (book.needs ++ taken rolls) =
    All-append (λ (flow : Flow). total_by flow.day (book.needs ++ taken rolls) ≤ total_by flow.day (payments book plan ++ returned rolls)) book.needs (taken rolls)
    (λ k d within. covered (get_or book.needs k d).day (balances.complete (get_or book.needs k d).day (inr (inl (k, get_or book.needs k d, within, get_or_default book.needs k (get_or book.needs k d) d within, refl)))))
    (All-map (λ (flow : Flow). total_by flow.day (book.needs ++ taken rolls) ≤ total_by flow.day (payments book plan ++ returned rolls)) (λ (roll : Roll). on roll.day roll.cents.0) rolls
    (λ k r within. covered (get_or rolls k r).day (are.allowed k r within).0.from)) in
    omega (
      arith,
      met_on_every_day (book.needs ++ taken rolls) (payments book plan ++ returned rolls) t (λ k d within by. all k d within),
      sum_by-append (cents_by t) book.needs (taken rolls),
      sum_by-append (cents_by t) (payments book plan) (returned rolls),
    )

pub nothing_rolled : (book : BookContents) (plan : List ℕ) → Meets book plan → StillMeet book plan []
nothing_rolled book plan meets = λ t. omega (arith, meets t)

-- no more is taken from a day than comes on it
pub taken_within : (closed : Closings) (terms : Terms) (entries : List Balance) (flows : List Flow) (rolls : List Roll) (day : ℤ) → AreRolls closed terms entries flows rolls
    → cents_on day (taken rolls) ≤ cents_on day flows + cents_on day (returned rolls)
taken_within closed terms entries flows rolls day are = elim (cases_lt 0 (cents_on day (taken rolls))) [
  | inl some ↦ on_roll (taken_roll rolls (some_on day (taken rolls) some))
  | inr none ↦ omega (arith, none)
]
  where
    taken_roll : (others : List Roll) → Any (λ (flow : Flow). flow.day ≡ day) (taken others) → Any (λ (roll : Roll). roll.day ≡ day) others
    taken_roll [] (k, x, within, at, falls) = absurd (omega (arith, within))
    taken_roll (roll ∷ others) (zero, x, within, at, falls) = (0, roll, omega arith, refl, ap (λ (f : Flow). f.day) at ∙ falls)
    taken_roll (roll ∷ others) (suc k, x, within, at, falls) =
        any_later (λ (r : Roll). r.day ≡ day) roll others (taken_roll others (k, x, omega (arith, within), at, falls))

    at_entry : Any (λ (entry : Balance). entry.day ≡ day) entries → cents_on day (taken rolls) ≤ cents_on day flows + cents_on day (returned rolls)
    at_entry (k, e, within, at, falls) =
        let same : (get_or entries k e).day ≡ day = ap (λ (b : Balance). b.day) at ∙ falls in
        let entry = get_or entries k e in
        let least : min entry.balance.0 (cents_on entry.day flows + cents_on entry.day (returned rolls)) ≤ cents_on entry.day flows + cents_on entry.day (returned rolls) = omega arith in
        subst (λ (z : ℤ). cents_on z (taken rolls) ≤ cents_on z flows + cents_on z (returned rolls)) same (omega (arith, (are.each k e within).within, least))

    on_roll : Any (λ (roll : Roll). roll.day ≡ day) rolls → cents_on day (taken rolls) ≤ cents_on day flows + cents_on day (returned rolls)
    on_roll (k, r, within, at, falls) =
        at_entry (subst (λ (z : ℤ). Any (λ (entry : Balance). entry.day ≡ z) entries) (ap (λ (x : Roll). x.day) at ∙ falls) (are.allowed k r within).0.from)

-- the entries of a portfolio, beside what its securities pay
pub in_order : (book : BookContents) (plan : List ℕ) (paid : SpanSums) (entries : List Balance) → IsBook book → IsPermitted book plan → AreBalances book plan entries
    → paid ≡ record { from = book.days.settle; to = years_after_of book.days.settle 40; sums = security_flows book plan } → AreInOrder paid entries
in_order book plan paid entries limits permitted are is =
    subst (λ (s : SpanSums). AreInOrder s entries) (sym is) (record {
      some = nonempty (are.complete book.days.settle (inl refl));
      rise = are.rise;
      from = λ k d within. (entry_within book plan entries k d limits are within).0;
      to = λ k d within. (entry_within book plan entries k d limits are within).1;
      base = λ k d within.
          let there = entry_within book plan entries k d limits are within in
          settlement-base book.days.settle (get_or entries k d).day limits.settlement there.0 there.1;
      small = λ k d within. entry_small book plan entries k d limits permitted are within;
      paid_small = omega (arith, flows_at_most book plan limits permitted);
    })
  where
    nonempty : {day : ℤ} → Any (λ (entry : Balance). entry.day ≡ day) entries → 1 ≤ length entries
    nonempty (k, e, within, at, falls) = omega (arith, within)

pub on_at_most : (day : ℤ) (flows : List Flow) → cents_on day flows ≤ total flows
on_at_most day flows = omega (arith, total_by-parts day flows, total_by-at_most day flows)

-- ---- how much is rolled in all
-- rolls on so many days take at most so many days
count_days : (rolls : List Roll) (from to : ℤ) → AllPairs (λ (earlier later : Roll). earlier.day <ℤ later.day) rolls → All (λ (roll : Roll). (from ≤ℤ roll.day) × (roll.day ≤ℤ to)) rolls → from ≤ℤ (to +ℤ pos 1)
    → (from +ℤ pos (length rolls)) ≤ℤ (to +ℤ pos 1)
count_days [] from to rise within order = omega (arith, ints, order)
count_days (roll ∷ rolls) from to rise within order =
    let first = All-head (λ (r : Roll). (from ≤ℤ r.day) × (r.day ≤ℤ to)) roll rolls within in
    let rest = All-tail (λ (r : Roll). (from ≤ℤ r.day) × (r.day ≤ℤ to)) roll rolls within in
    let later : All (λ (r : Roll). ((roll.day +ℤ pos 1) ≤ℤ r.day) × (r.day ≤ℤ to)) rolls = λ k r here. (after roll.day (get_or rolls k r).day (rise 0 (suc k) r (omega arith) (omega (arith, here))), (rest k r here).1) in
    let less = count_days rolls (roll.day +ℤ pos 1) to (λ i j r less here. rise (suc i) (suc j) r (omega (arith, less)) (omega (arith, here))) later (omega (arith, ints, first.1)) in
    omega (arith, ints, less, first.0)
  where
    after : (a b : ℤ) → a <ℤ b → (a +ℤ pos 1) ≤ℤ b
    after a b less = omega (arith, ints, less)

-- each of them takes at most what securities pay in all
sum_small : (rolls : List Roll) → All (λ (roll : Roll). roll.cents.0 ≤ 69 * 10 ^ 13) rolls → total (taken rolls) ≤ length rolls * (69 * 10 ^ 13)
sum_small [] small = omega arith
sum_small (roll ∷ rolls) small =
    omega (
      arith,
      sum_by-cons (λ (f : Flow). f.cents.0) (on roll.day roll.cents.0) (taken rolls),
      All-head (λ (r : Roll). r.cents.0 ≤ 69 * 10 ^ 13) roll rolls small,
      sum_small rolls (All-tail (λ (r : Roll). r.cents.0 ≤ 69 * 10 ^ 13) roll rolls small),
    )

one_of_all : (rolls : List Roll) (k : ℕ) (d : Roll) → k < length rolls → (get_or rolls k d).cents.0 ≤ cents_on (get_or rolls k d).day (taken rolls)
one_of_all [] k d within = absurd (omega (arith, within))
one_of_all (roll ∷ rolls) zero d within =
    omega (arith, on-cons roll.day (on roll.day roll.cents.0) (taken rolls), here-same roll.day (on roll.day roll.cents.0) refl)
one_of_all (roll ∷ rolls) (suc k) d within =
    omega (arith, on-cons (get_or rolls k d).day (on roll.day roll.cents.0) (taken rolls), one_of_all rolls k d (omega (arith, within)))

-- what is taken by a day isn't more than what securities pay and rolls bring back by it
taken_by_day : (flows : List Flow) (rolls : List Roll) (t : ℤ) → ((day : ℤ) → cents_on day (taken rolls) ≤ cents_on day flows + cents_on day (returned rolls))
    → total_by t (taken rolls) ≤ total_by t flows + total_by t (returned rolls)
taken_by_day flows rolls t within =
    let moved = lessened_by (summed (taken rolls ++ [])) (summed (flows ++ returned rolls)) in
    let are = rolled_flows flows rolls moved within refl in
    omega (
      arith,
      ap (total_by t) (together flows rolls moved are),
      keep-total_by t (moved ++ taken rolls),
      keep-total_by t (flows ++ returned rolls),
      sum_by-append (cents_by t) moved (taken rolls),
      sum_by-append (cents_by t) flows (returned rolls),
    )

-- what is known of the rolls of a portfolio, whichever the denominations are
pub record AreKnown (book : BookContents) (plan : List ℕ) (rolls : List Roll) : Type 0 where
  pub within : (day : ℤ) → cents_on day (taken rolls) ≤ cents_on day (security_flows book plan) + cents_on day (returned rolls)
  pub from : FallWithinFortyYears book.days.settle (taken rolls)
  pub to : FallWithinFortyYears book.days.settle (returned rolls)
  pub order : All (λ (roll : Roll). roll.day <ℤ roll.next) rolls
  pub small : total (taken rolls) ≤ 14_641 * (69 * 10 ^ 13)

at_entry_day : (book : BookContents) (plan : List ℕ) (entries : List Balance) (day : ℤ) → IsBook book → AreBalances book plan entries → Any (λ (entry : Balance). entry.day ≡ day) entries
    → (book.days.settle ≤ℤ day) × (day ≤ℤ years_after_of book.days.settle 40)
at_entry_day book plan entries day limits balances (k, e, within, at, falls) =
    subst (λ (z : ℤ). (book.days.settle ≤ℤ z) × (z ≤ℤ years_after_of book.days.settle 40)) (ap (λ (b : Balance). b.day) at ∙ falls) (entry_within book plan entries k e limits balances within)

each_small : (book : BookContents) (plan : List ℕ) (terms : Terms) (entries : List Balance) (rolls : List Roll) (k : ℕ) (d : Roll) → IsBook book → IsPermitted book plan → AreBalances book plan entries
    → AreRolls book.days.closed terms entries (security_flows book plan) rolls → k < length rolls → (get_or rolls k d).cents.0 ≤ 69 * 10 ^ 13
each_small book plan terms entries rolls k d limits permitted balances are within = by_entry (are.allowed k d within).0.from
  where
    by_entry : Any (λ (entry : Balance). entry.day ≡ (get_or rolls k d).day) entries → (get_or rolls k d).cents.0 ≤ 69 * 10 ^ 13
    by_entry (i, e, here, at, falls) =
        let same : (get_or entries i e).day ≡ (get_or rolls k d).day = ap (λ (b : Balance). b.day) at ∙ falls in
        let back = come_back (get_or entries i e).day rolls (each_comes_back book plan terms book.days.closed entries (security_flows book plan) rolls i e are here) in
        let taken_all = taken_by_day (security_flows book plan) rolls (get_or entries i e).day (λ day. taken_within book.days.closed terms entries (security_flows book plan) rolls day are) in
        let one = one_of_all rolls k d within in
        let on_day : cents_on (get_or entries i e).day (taken rolls) ≡ cents_on (get_or rolls k d).day (taken rolls) = ap (λ (z : ℤ). cents_on z (taken rolls)) same in
        omega (arith, back, taken_all, one, on_day, total_by-at_most (get_or entries i e).day (security_flows book plan), flows_at_most book plan limits permitted)

known_rolls : (book : BookContents) (plan : List ℕ) (terms : Terms) (entries : List Balance) (rolls : List Roll) → IsBook book → IsPermitted book plan → AreBalances book plan entries
    → AreRolls book.days.closed terms entries (security_flows book plan) rolls → AreKnown book plan rolls
known_rolls book plan terms entries rolls limits permitted balances are =
    let days : All (λ (roll : Roll). (book.days.settle ≤ℤ roll.day) × (roll.day ≤ℤ years_after_of book.days.settle 40)) rolls =
    λ k d within. at_entry_day book plan entries (get_or rolls k d).day limits balances (are.allowed k d within).0.from in
    let count = count_days rolls book.days.settle (years_after_of book.days.settle 40) are.rise days (order book.days.settle (years_after_of book.days.settle 40) (years-follow book.days.settle limits.settlement)) in
    let few : length rolls ≤ 14_641 = few_days (length rolls) book.days.settle (years_after_of book.days.settle 40) count (most_days book.days.settle limits.settlement) in
    let sum = sum_small rolls (λ k d within. each_small book plan terms entries rolls k d limits permitted balances are within) in
    record {
      within = λ day. taken_within book.days.closed terms entries (security_flows book plan) rolls day are;
      from = All-map (λ (flow : Flow). (book.days.settle ≤ℤ flow.day) × (flow.day ≤ℤ years_after_of book.days.settle 40)) (λ (roll : Roll). on roll.day roll.cents.0) rolls days;
      to = All-map (λ (flow : Flow). (book.days.settle ≤ℤ flow.day) × (flow.day ≤ℤ years_after_of book.days.settle 40)) (λ (roll : Roll). on roll.next roll.cents.0) rolls
          (λ k d within. at_entry_day book plan entries (get_or rolls k d).next limits balances (are.allowed k d within).0.to);
      order = λ k d within. (are.allowed k d within).0.later;
      small = omega (arith, sum, few);
    }
  where
    order : (a b : ℤ) → a ≤ℤ b → a ≤ℤ (b +ℤ pos 1)
    order a b le = omega (arith, ints, le)

    most_days : (settle : ℤ) → IsSettlement settle → years_after_of settle 40 ≤ℤ (settle +ℤ pos 14_640)
    most_days settle h =
        let own : IsDayNumber settle = (omega (arith, ints, h.0), omega (arith, ints, h.1)) in
        let from : IsBaseDay settle = (h.0, omega (arith, ints, h.1)) in
        let none = years_after_of-none settle own in
        let forty = years_after_of-passes settle 0 40 from (omega arith) in
        omega (arith, ints, none, forty.most)

    few_days : (n : ℕ) (a b : ℤ) → (a +ℤ pos n) ≤ℤ (b +ℤ pos 1) → b ≤ℤ (a +ℤ pos 14_640) → n ≤ 14_641
    few_days n a b le far = omega (arith, ints, le, far)

pub known : (book : BookContents) (plan : List ℕ) (terms : Option Terms) (rolls : List Roll) → IsBook book → IsPermitted book plan → AreBalances book plan (balances_of book plan) → AreRollsOf book plan terms rolls
    → AreKnown book plan rolls
known book plan None rolls limits permitted balances is = subst (AreKnown book plan) (sym is) (record {
  within = λ day. omega arith;
  from = All-nil (λ (flow : Flow). (book.days.settle ≤ℤ flow.day) × (flow.day ≤ℤ years_after_of book.days.settle 40));
  to = All-nil (λ (flow : Flow). (book.days.settle ≤ℤ flow.day) × (flow.day ≤ℤ years_after_of book.days.settle 40));
  order = All-nil (λ (roll : Roll). roll.day <ℤ roll.next);
  small = omega arith;
})
known book plan (Some terms) rolls limits permitted balances are = known_rolls book plan terms (balances_of book plan) rolls limits permitted balances are
