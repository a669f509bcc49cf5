-- Rolls of entries, one after another.
use Rattle.std.proofs.Common.{◌≡◌, ◌∙◌, ℕ, suc, ◌+◌, ◌<◌, ◌≤◌, min, refl, sym, ap, subst, arith, ℤ, ◌≤ℤ◌, ◌<ℤ◌, ◌⊎◌, inl, inr, List, [], ◌∷◌, ◌++◌, length, get_or}
use Rattle.std.specs.List.{All, AllPairs, Any}
use Rattle.std.proofs.lemmas.Bool.{cases_lt}
use Rattle.std.proofs.lemmas.Int.{ints}
use Rattle.std.proofs.lemmas.List.Elements.{All-head, All-nil, All-push, All-tail}
use Rattle.std.proofs.lemmas.List.{get_or_default}
use Rattle.std.proofs.lemmas.List.Kept.{AllPairs-cons}
use Rattle.escrow_units.specs.OpenDays.{Closings}
use Rattle.escrow_units.specs.declared.security.Flow.{Flow}
use Rattle.escrow_units.specs.declared.security.Terms.{Terms}
use Rattle.day_sums.specs.Summed.{cents_on}
use Rattle.cash_table.specs.declared.day_balances.Balance.{Balance}
use Rattle.roll_plan.specs.Rolls.{AreRolls, IsNext, IsRolledOn, IsRollTerm, MayRoll, free_on, returned, taken}
use Rattle.roll_plan.specs.Steps.{IsMostRolled}
use Rattle.roll_plan.specs.declared.planning.Roll.{Roll}
use Rattle.roll_plan.proofs.SumFacts.{none_returned, none_taken, returned_apart, returned_here, taken_apart, taken_here}

-- what is read within a list doesn't go by the default
any_default : {X : Type 0} (xs : List X) (k : ℕ) (d e : X) → k < length xs → get_or xs k d ≡ get_or xs k e
any_default xs k d e within = get_or_default xs k d e within

abbrev pub EntriesRise : List Balance → Type 0
EntriesRise entries = AllPairs (λ earlier later. earlier.day <ℤ later.day) entries

-- a later day is further on in the list
pub further : (entries : List Balance) (i j : ℕ) (d : Balance) → EntriesRise entries → i < length entries → j < length entries → (get_or entries i d).day <ℤ (get_or entries j d).day → i < j
further entries i j d rise there here less = elim (cases_lt i j) [
  | inl before ↦ before
  | inr not ↦ elim (cases_lt j i) [
    | inl after ↦ absurd (both (get_or entries i d).day (get_or entries j d).day less (rise j i d after there))
    | inr not_after ↦
        let same : i ≡ j = omega (arith, not, not_after) in
        absurd (never (get_or entries j d).day (subst (λ n. (get_or entries n d).day <ℤ (get_or entries j d).day) same less))
  ]
]
  where
    both : (a b : ℤ) → a <ℤ b → b <ℤ a → ⊥
    both a b p q = absurd (omega (arith, ints, p, q))

    never : (a : ℤ) → a <ℤ a → ⊥
    never a p = absurd (omega (arith, ints, p))

-- the entry after another is the next
pub next_after : (entries : List Balance) (p : ℕ) (d : Balance) → EntriesRise entries → p + 1 < length entries → IsNext entries (get_or entries p d).day (get_or entries (p + 1) d).day
next_after entries p d rise within = record {
  from = (p, get_or entries p d, omega (arith, within), same p (omega (arith, within)), refl);
  to = (p + 1, get_or entries (p + 1) d, within, same (p + 1) within, refl);
  later = rise p (p + 1) d (omega arith) within;
  first = λ k e here less.
      let at : (get_or entries k e).day ≡ (get_or entries k d).day = ap (λ (b : Balance). b.day) (any_default entries k e d here) in
      let there : (get_or entries p d).day <ℤ (get_or entries k d).day = subst (λ (day : ℤ). (get_or entries p d).day <ℤ day) at less in
      subst (λ (day : ℤ). (get_or entries (p + 1) d).day ≤ℤ day) (sym at) (from_next k here (further entries p k d rise (omega (arith, within)) here there));
}
  where
    same : (k : ℕ) → k < length entries → get_or entries k (get_or entries k d) ≡ get_or entries k d
    same k here = any_default entries k (get_or entries k d) d here

    weaker : (a b : ℤ) → a <ℤ b → a ≤ℤ b
    weaker a b less = omega (arith, ints, less)

    itself : (a : ℤ) → a ≤ℤ a
    itself a = omega (arith, ints)

    from_next : (k : ℕ) → k < length entries → p < k → (get_or entries (p + 1) d).day ≤ℤ (get_or entries k d).day
    from_next k here after = elim (cases_lt (p + 1) k) [
      | inl beyond ↦ weaker (get_or entries (p + 1) d).day (get_or entries k d).day (rise (p + 1) k d beyond here)
      | inr not ↦
          let one : p + 1 ≡ k = omega (arith, after, not) in
          subst (λ n. (get_or entries (p + 1) d).day ≤ℤ (get_or entries n d).day) one (itself (get_or entries (p + 1) d).day)
    ]

-- there is one next day
pub one_next : (entries : List Balance) (day next other : ℤ) → IsNext entries day next → IsNext entries day other → next ≡ other
one_next entries day next other a b = same next other (by next other a.first b.to b.later) (by other next b.first a.to a.later)
  where
    by : (n m : ℤ) → All (λ (entry : Balance). day <ℤ entry.day → n ≤ℤ entry.day) entries → Any (λ (entry : Balance). entry.day ≡ m) entries → day <ℤ m → n ≤ℤ m
    by n m first (k, e, here, at, falls) later =
        let is : (get_or entries k e).day ≡ m = ap (λ (x : Balance). x.day) at ∙ falls in
        subst (λ (z : ℤ). n ≤ℤ z) is (first k e here (subst (λ (z : ℤ). day <ℤ z) (sym is) later))

    same : (n m : ℤ) → n ≤ℤ m → m ≤ℤ n → n ≡ m
    same n m p q = omega (arith, ints, p, q)

-- what is rolled on the day of an entry that has a next one
pub rolled_on : (closed : Closings) (terms : Terms) (entries : List Balance) (p : ℕ) (d : Balance) (free cents : ℕ) → EntriesRise entries → p + 1 < length entries
    → IsMostRolled closed terms (get_or entries p d).day (get_or entries (p + 1) d).day free cents → IsRolledOn closed terms entries (get_or entries p d).day free cents
rolled_on closed terms entries p d free cents rise within is =
    let follows = next_after entries p d rise within in
    record {
      within = is.within;
      subscribed = is.subscribed;
      most = λ next may.
          let same = one_next entries (get_or entries p d).day next (get_or entries (p + 1) d).day may.0 follows in
          is.most (subst (λ (to : ℤ). IsRollTerm closed (get_or entries p d).day to) same may.1);
      none = λ never. is.none (λ term. never (get_or entries (p + 1) d).day (follows, term));
    }

-- and nothing on the last one's
pub rolled_last : (closed : Closings) (terms : Terms) (entries : List Balance) (p : ℕ) (d : Balance) (free cents : ℕ) → EntriesRise entries → p + 1 ≡ length entries → cents ≡ 0
    → IsRolledOn closed terms entries (get_or entries p d).day free cents
rolled_last closed terms entries p d free cents rise last none = record {
  within = omega (arith, none);
  subscribed = inl none;
  most = λ next may. absurd (past may.0.to may.0.later);
  none = λ never. none;
}
  where
    past : {next : ℤ} → Any (λ (entry : Balance). entry.day ≡ next) entries → (get_or entries p d).day <ℤ next → ⊥
    past (k, e, here, at, falls) later =
        let is = ap (λ (x : Balance). x.day) (any_default entries k d e here ∙ at) ∙ falls in
        absurd (omega (arith, further entries p k d rise (omega (arith, last)) here (subst (λ (z : ℤ). (get_or entries p d).day <ℤ z) (sym is) later), here, last))

-- ---- lists of rolls with one more
pub rise_more : (rolls : List Roll) (roll : Roll) → AllPairs (λ (earlier later : Roll). earlier.day <ℤ later.day) rolls → All (λ (r : Roll). r.day <ℤ roll.day) rolls
    → AllPairs (λ (earlier later : Roll). earlier.day <ℤ later.day) (rolls ++ roll ∷ [])
rise_more [] roll rise before = λ i j d less within. absurd (omega (arith, less, within))
rise_more (r ∷ rolls) roll rise before =
    AllPairs-cons (λ (earlier later : Roll). earlier.day <ℤ later.day) r (rolls ++ roll ∷ [])
    (All-push (λ (other : Roll). r.day <ℤ other.day) rolls roll (λ k d within. rise 0 (suc k) d (omega arith) (omega (arith, within))) (All-head (λ (x : Roll). x.day <ℤ roll.day) r rolls before))
    (rise_more rolls roll (λ i j d less within. rise (suc i) (suc j) d (omega (arith, less)) (omega (arith, within))) (All-tail (λ (x : Roll). x.day <ℤ roll.day) r rolls before))

-- ---- the rolls up to an entry, from which so much comes back on it
pub record AreRollsTo (closed : Closings) (terms : Terms) (entries : List Balance) (flows : List Flow) (p back : ℕ) (rolls : List Roll) : Type 0 where
  pub rise : AllPairs (λ (earlier later : Roll). earlier.day <ℤ later.day) rolls
  pub some : All (λ (roll : Roll). 1 ≤ roll.cents.0) rolls
  pub allowed : All (λ (roll : Roll). MayRoll closed entries roll.day roll.next) rolls
  pub by : (d : Balance) → All (λ (roll : Roll). roll.next ≤ℤ (get_or entries p d).day) rolls
  pub comes : (d : Balance) → cents_on (get_or entries p d).day (returned rolls) ≡ back
  pub each : (k : ℕ) (d : Balance) → k < p → IsRolledOn closed terms entries (get_or entries k d).day (free_on flows rolls (get_or entries k d)) (cents_on (get_or entries k d).day (taken rolls))

pub rolls_start : (closed : Closings) (terms : Terms) (entries : List Balance) (flows : List Flow) → AreRollsTo closed terms entries flows 0 0 []
rolls_start closed terms entries flows = record {
  rise = λ i j d less within. absurd (omega (arith, within));
  some = All-nil (λ (roll : Roll). 1 ≤ roll.cents.0);
  allowed = All-nil (λ (roll : Roll). MayRoll closed entries roll.day roll.next);
  by = λ d. All-nil (λ (roll : Roll). roll.next ≤ℤ (get_or entries 0 d).day);
  comes = λ d. refl;
  each = λ k d less. absurd (omega (arith, less));
}

-- rolls before an entry's day
before_day : (rolls : List Roll) (day : ℤ) (closed : Closings) (entries : List Balance) → All (λ (roll : Roll). MayRoll closed entries roll.day roll.next) rolls → All (λ (roll : Roll). roll.next ≤ℤ day) rolls
    → All (λ (roll : Roll). roll.day <ℤ day) rolls
before_day rolls day closed entries allowed by = λ k d within. earlier _ _ (allowed k d within).0.later (by k d within)
  where
    earlier : (a b : ℤ) → a <ℤ b → b ≤ℤ day → a <ℤ day
    earlier a b less le = omega (arith, ints, less, le)

sooner : (rolls : List Roll) (day later : ℤ) → day <ℤ later → All (λ (roll : Roll). roll.next ≤ℤ day) rolls → All (λ (roll : Roll). roll.next <ℤ later) rolls
sooner rolls day later less by = λ k d within. strict _ (by k d within)
  where
    strict : (a : ℤ) → a ≤ℤ day → a <ℤ later
    strict a le = omega (arith, ints, less, le)

same_rolled : (closed : Closings) (terms : Terms) (entries : List Balance) (day : ℤ) (free free' cents cents' : ℕ) → free ≡ free' → cents ≡ cents' → IsRolledOn closed terms entries day free cents
    → IsRolledOn closed terms entries day free' cents'
same_rolled closed terms entries day free free' cents cents' one two is = subst (λ n. IsRolledOn closed terms entries day n cents') one (subst (λ n. IsRolledOn closed terms entries day free n) two is)

-- a step on which nothing is rolled
pub rolls_none : (closed : Closings) (terms : Terms) (entries : List Balance) (flows : List Flow) (p back : ℕ) (rolls : List Roll) (d : Balance) → EntriesRise entries → p + 1 < length entries
    → AreRollsTo closed terms entries flows p back rolls
    → IsMostRolled closed terms (get_or entries p d).day (get_or entries (p + 1) d).day (min (get_or entries p d).balance.0 (cents_on (get_or entries p d).day flows + back)) 0
    → AreRollsTo closed terms entries flows (p + 1) 0 rolls
rolls_none closed terms entries flows p back rolls d rise within had is =
    let less = rise p (p + 1) d (omega arith) within in
    record {
      rise = had.rise;
      some = had.some;
      allowed = had.allowed;
      by = λ e. λ k r here. subst (λ (b : Balance). (get_or rolls k r).next ≤ℤ b.day) (any_default entries (p + 1) d e within) (weaker _ _ _ (had.by d k r here) less);
      comes = λ e. ap (λ (b : Balance). cents_on b.day (returned rolls)) (any_default entries (p + 1) e d within) ∙ none_returned (get_or entries (p + 1) d).day rolls (sooner rolls (get_or entries p d).day (get_or entries (p + 1) d).day less (had.by d));
      each = λ k e short. elim (cases_lt k p) [
        | inl before ↦ had.each k e before
        | inr not ↦
            let same : p ≡ k = omega (arith, short, not) in
            subst (λ n. IsRolledOn closed terms entries (get_or entries n e).day (free_on flows rolls (get_or entries n e)) (cents_on (get_or entries n e).day (taken rolls))) same
            (subst (λ (b : Balance). IsRolledOn closed terms entries b.day (free_on flows rolls b) (cents_on b.day (taken rolls))) (any_default entries p d e (omega (arith, within)))
            (same_rolled closed terms entries (get_or entries p d).day _ _ _ _ (ap (λ n. min (get_or entries p d).balance.0 (cents_on (get_or entries p d).day flows + n)) (sym (had.comes d)))
            (sym (none_taken (get_or entries p d).day rolls (before_day rolls (get_or entries p d).day closed entries had.allowed (had.by d))))
            (rolled_on closed terms entries p d _ 0 rise within is)))
      ];
    }
  where
    weaker : (a b c : ℤ) → a ≤ℤ b → b <ℤ c → a ≤ℤ c
    weaker a b c p q = omega (arith, ints, p, q)

-- and one on which something is
pub rolls_more : (closed : Closings) (terms : Terms) (entries : List Balance) (flows : List Flow) (p back cents : ℕ) (rolls : List Roll) (roll : Roll) (d : Balance) → EntriesRise entries → p + 1 < length entries
    → AreRollsTo closed terms entries flows p back rolls → roll.day ≡ (get_or entries p d).day → roll.next ≡ (get_or entries (p + 1) d).day → roll.cents.0 ≡ cents → 1 ≤ cents
    → IsMostRolled closed terms (get_or entries p d).day (get_or entries (p + 1) d).day (min (get_or entries p d).balance.0 (cents_on (get_or entries p d).day flows + back)) cents
    → AreRollsTo closed terms entries flows (p + 1) cents (rolls ++ roll ∷ [])
rolls_more closed terms entries flows p back cents rolls roll d rise within had from to amount some is =
    let day = (get_or entries p d).day in
    let next = (get_or entries (p + 1) d).day in
    let less : day <ℤ next = rise p (p + 1) d (omega arith) within in
    let before = before_day rolls day closed entries had.allowed (had.by d) in
    record {
      rise = rise_more rolls roll had.rise (subst (λ (z : ℤ). All (λ (r : Roll). r.day <ℤ z) rolls) (sym from) before);
      some = All-push (λ (r : Roll). 1 ≤ r.cents.0) rolls roll had.some (omega (arith, amount, some));
      allowed = All-push (λ (r : Roll). MayRoll closed entries r.day r.next) rolls roll had.allowed
          (subst (λ (z : ℤ). MayRoll closed entries z roll.next) (sym from) (subst (λ (z : ℤ). MayRoll closed entries day z) (sym to) (next_after entries p d rise within, is.some some)));
      by = λ e. subst (λ (b : Balance). All (λ (r : Roll). r.next ≤ℤ b.day) (rolls ++ roll ∷ [])) (any_default entries (p + 1) d e within)
          (All-push (λ (r : Roll). r.next ≤ℤ next) rolls roll (λ k r here. weaker _ day next (had.by d k r here) less) (subst (λ (z : ℤ). roll.next ≤ℤ z) to (itself roll.next)));
      comes = λ e. ap (λ (b : Balance). cents_on b.day (returned (rolls ++ roll ∷ []))) (any_default entries (p + 1) e d within)
          ∙ returned_here next rolls roll to ∙ omega (arith, none_returned next rolls (sooner rolls day next less (had.by d)), amount);
      each = λ k e short. elim (cases_lt k p) [
        | inl earlier ↦
            let here = rise k p e earlier (omega (arith, within)) in
            let at : (get_or entries p e).day ≡ day = ap (λ (b : Balance). b.day) (any_default entries p e d (omega (arith, within))) in
            let gone : (get_or entries k e).day <ℤ roll.day = subst (λ (z : ℤ). (get_or entries k e).day <ℤ z) (at ∙ sym from) here in
            let back_later : (get_or entries k e).day <ℤ roll.next = far (get_or entries k e).day roll.day roll.next gone (subst (λ (z : ℤ). z <ℤ roll.next) (sym from) (subst (λ (z : ℤ). day <ℤ z) (sym to) less)) in
            same_rolled closed terms entries (get_or entries k e).day _ _ _ _
            (ap (λ n. min (get_or entries k e).balance.0 (cents_on (get_or entries k e).day flows + n)) (sym (returned_apart (get_or entries k e).day rolls roll back_later)))
            (sym (taken_apart (get_or entries k e).day rolls roll gone))
            (had.each k e earlier)
        | inr not ↦
            let same : p ≡ k = omega (arith, short, not) in
            let later : day <ℤ roll.next = subst (λ (z : ℤ). day <ℤ z) (sym to) less in
            subst (λ n. IsRolledOn closed terms entries (get_or entries n e).day (free_on flows (rolls ++ roll ∷ []) (get_or entries n e)) (cents_on (get_or entries n e).day (taken (rolls ++ roll ∷ [])))) same
            (subst (λ (b : Balance). IsRolledOn closed terms entries b.day (free_on flows (rolls ++ roll ∷ []) b) (cents_on b.day (taken (rolls ++ roll ∷ [])))) (any_default entries p d e (omega (arith, within)))
            (same_rolled closed terms entries day _ _ _ _
            (ap (λ n. min (get_or entries p d).balance.0 (cents_on day flows + n)) (sym (returned_apart day rolls roll later ∙ had.comes d)))
            (sym (taken_here day rolls roll from ∙ omega (arith, none_taken day rolls before, amount)))
            (rolled_on closed terms entries p d _ cents rise within is)))
      ];
    }
  where
    weaker : (a b c : ℤ) → a ≤ℤ b → b <ℤ c → a ≤ℤ c
    weaker a b c p q = omega (arith, ints, p, q)

    far : (a b c : ℤ) → a <ℤ b → b <ℤ c → a <ℤ c
    far a b c p q = omega (arith, ints, p, q)

    itself : (a : ℤ) → a ≤ℤ a
    itself a = omega (arith, ints)

-- up to the last entry they are all
pub rolls_end : (closed : Closings) (terms : Terms) (entries : List Balance) (flows : List Flow) (p back : ℕ) (rolls : List Roll) → EntriesRise entries → p + 1 ≡ length entries
    → AreRollsTo closed terms entries flows p back rolls → AreRolls closed terms entries flows rolls
rolls_end closed terms entries flows p back rolls rise last had = record {
  rise = had.rise;
  some = had.some;
  allowed = had.allowed;
  each = λ k e short. elim (cases_lt k p) [
    | inl before ↦ had.each k e before
    | inr not ↦
        let same : p ≡ k = omega (arith, short, not, last) in
        subst (λ n. IsRolledOn closed terms entries (get_or entries n e).day (free_on flows rolls (get_or entries n e)) (cents_on (get_or entries n e).day (taken rolls))) same
        (rolled_last closed terms entries p e _ _ rise last (none_taken (get_or entries p e).day rolls (before_day rolls (get_or entries p e).day closed entries had.allowed (had.by e))))
  ];
}

-- one step from an entry to the next
pub rolls_next : (closed : Closings) (terms : Terms) (entries : List Balance) (flows : List Flow) (p back cents free : ℕ) (rolls more : List Roll) (entry next : Balance) → EntriesRise entries → p + 1 < length entries
    → entry ≡ get_or entries p entry → next ≡ get_or entries (p + 1) next → AreRollsTo closed terms entries flows p back rolls → IsMostRolled closed terms entry.day next.day free cents
    → free ≡ min entry.balance.0 (cents_on entry.day flows + back)
    → ((cents ≡ 0) × (more ≡ rolls)) ⊎ ((1 ≤ cents) × (more ≡ rolls ++ record { day = entry.day; next = next.day; cents = record { 0 = cents } } ∷ []))
    → AreRollsTo closed terms entries flows (p + 1) cents more
rolls_next closed terms entries flows p back cents free rolls more entry next rise within at to had is most came =
    let here : entry ≡ get_or entries p entry = at in
    let there : next ≡ get_or entries (p + 1) entry = to ∙ any_default entries (p + 1) next entry within in
    let from : entry.day ≡ (get_or entries p entry).day = ap (λ (b : Balance). b.day) here in
    let until : next.day ≡ (get_or entries (p + 1) entry).day = ap (λ (b : Balance). b.day) there in
    let room : free ≡ min (get_or entries p entry).balance.0 (cents_on (get_or entries p entry).day flows + back) = most ∙ ap (λ (b : Balance). min b.balance.0 (cents_on b.day flows + back)) here in
    let rolled : IsMostRolled closed terms (get_or entries p entry).day (get_or entries (p + 1) entry).day (min (get_or entries p entry).balance.0 (cents_on (get_or entries p entry).day flows + back)) cents =
    subst (λ n. IsMostRolled closed terms (get_or entries p entry).day (get_or entries (p + 1) entry).day n cents) room
    (subst (λ (z : ℤ). IsMostRolled closed terms (get_or entries p entry).day z free cents) until (subst (λ (z : ℤ). IsMostRolled closed terms z next.day free cents) from is)) in
    elim came [
      | inl none ↦
          subst (λ (l : List Roll). AreRollsTo closed terms entries flows (p + 1) cents l) (sym none.1)
          (subst (λ n. AreRollsTo closed terms entries flows (p + 1) n rolls) (sym none.0)
          (rolls_none closed terms entries flows p back rolls entry rise within had
          (subst (λ n. IsMostRolled closed terms (get_or entries p entry).day (get_or entries (p + 1) entry).day (min (get_or entries p entry).balance.0 (cents_on (get_or entries p entry).day flows + back)) n) none.0 rolled)))
      | inr some ↦
          subst (λ (l : List Roll). AreRollsTo closed terms entries flows (p + 1) cents l) (sym some.1)
          (rolls_more closed terms entries flows p back cents rolls (record { day = entry.day; next = next.day; cents = record { 0 = cents } }) entry rise within had from until refl some.0 rolled)
    ]
