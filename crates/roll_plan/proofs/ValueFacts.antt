-- The rolls of entries, one after another, as they are computed.
use Rattle.std.proofs.Common.{◌≡◌, ◌∙◌, ℕ, ◌+◌, ◌<◌, ◌≤◌, refl, sym, ap, arith, true, nat_lt, List, [], ◌∷◌, ◌++◌, length, get_or, drop, ◌⊎◌, inl, inr}
use Rattle.std.proofs.lemmas.Bool.{cases_lt}
use Rattle.std.proofs.lemmas.List.{append-nil, append_assoc, drop_all, drop_more, get_or_default}
use Rattle.escrow_units.specs.OpenDays.{Closings}
use Rattle.escrow_units.specs.declared.security.Flow.{Flow}
use Rattle.escrow_units.specs.declared.security.Terms.{Terms}
use Rattle.cash_table.specs.declared.day_balances.Balance.{Balance}
use Rattle.roll_plan.specs.RollsOf.{roll_of, rolled_on, rolls_along, rolls_from}
use Rattle.roll_plan.specs.declared.planning.Roll.{Roll}

-- the rolls up to an entry, from which so much comes back on it, and those of this entry and the entries behind it, are all
abbrev pub AreAllWith : Closings → Terms → List Balance → List Flow → ℕ → ℕ → List Roll → Type 0
AreAllWith closed terms entries flows p back rolls =
    (d : Balance) → rolls ++ rolls_from closed terms flows back (get_or entries p d) (drop (p + 1) entries) ≡ rolls_along closed terms flows entries

pub value_start : (closed : Closings) (terms : Terms) (entries : List Balance) (flows : List Flow) → 0 < length entries → AreAllWith closed terms entries flows 0 0 []
value_start closed terms [] flows some = absurd (omega (arith, some))
value_start closed terms (entry ∷ entries) flows some = λ d. refl

-- the rolls of an entry that has a next one, and of those behind it
pub value_step : (closed : Closings) (terms : Terms) (entries : List Balance) (flows : List Flow) (p back : ℕ) (d : Balance) → p + 1 < length entries
    → rolls_from closed terms flows back (get_or entries p d) (drop (p + 1) entries)
    ≡ roll_of (get_or entries p d) (get_or entries (p + 1) d) (rolled_on closed terms flows back (get_or entries p d) (get_or entries (p + 1) d))
    ++ rolls_from closed terms flows (rolled_on closed terms flows back (get_or entries p d) (get_or entries (p + 1) d)) (get_or entries (p + 1) d) (drop (p + 1 + 1) entries)
unfolding rolls_from
value_step closed terms entries flows p back d within =
    ap (λ (l : List Balance). rolls_from closed terms flows back (get_or entries p d) l) (drop_more entries (p + 1) d within)

-- one step from an entry to the next
pub value_next : (closed : Closings) (terms : Terms) (entries : List Balance) (flows : List Flow) (p back cents : ℕ) (rolls more : List Roll) (entry next : Balance) → p + 1 < length entries
    → entry ≡ get_or entries p entry → next ≡ get_or entries (p + 1) next → AreAllWith closed terms entries flows p back rolls → cents ≡ rolled_on closed terms flows back entry next
    → more ≡ rolls ++ roll_of entry next cents → AreAllWith closed terms entries flows (p + 1) cents more
value_next closed terms entries flows p back cents rolls more entry next within at to had amount came = λ d.
    let here : get_or entries p d ≡ entry = get_or_default entries p d entry (omega (arith, within)) ∙ sym at in
    let there : get_or entries (p + 1) d ≡ next = get_or_default entries (p + 1) d next within ∙ sym to in
    let same : rolled_on closed terms flows back (get_or entries p d) (get_or entries (p + 1) d) ≡ cents =
    ap (λ (b : Balance). rolled_on closed terms flows back b (get_or entries (p + 1) d)) here ∙ ap (rolled_on closed terms flows back entry) there ∙ sym amount in
    let step : rolls_from closed terms flows back (get_or entries p d) (drop (p + 1) entries)
    ≡ roll_of entry next cents ++ rolls_from closed terms flows cents (get_or entries (p + 1) d) (drop (p + 1 + 1) entries) =
    value_step closed terms entries flows p back d within
    ∙ ap (λ n. roll_of (get_or entries p d) (get_or entries (p + 1) d) n ++ rolls_from closed terms flows n (get_or entries (p + 1) d) (drop (p + 1 + 1) entries)) same
    ∙ ap (λ (b : Balance). roll_of b (get_or entries (p + 1) d) cents ++ rolls_from closed terms flows cents (get_or entries (p + 1) d) (drop (p + 1 + 1) entries)) here
    ∙ ap (λ (b : Balance). roll_of entry b cents ++ rolls_from closed terms flows cents (get_or entries (p + 1) d) (drop (p + 1 + 1) entries)) there in
    ap (λ (l : List Roll). l ++ rolls_from closed terms flows cents (get_or entries (p + 1) d) (drop (p + 1 + 1) entries)) came
    ∙ append_assoc rolls (roll_of entry next cents) (rolls_from closed terms flows cents (get_or entries (p + 1) d) (drop (p + 1 + 1) entries))
    ∙ ap (λ (l : List Roll). rolls ++ l) (sym step)
    ∙ had d

above : (n : ℕ) → 1 ≤ n → nat_lt 0 n ≡ true
above n some = grind arith

-- one roll, where something is rolled
one_roll : (entry next : Balance) (n : ℕ) → 1 ≤ n → roll_of entry next n ≡ record { day = entry.day; next = next.day; cents = record { 0 = n } } ∷ []
one_roll entry next n some = rw (above n some) refl

-- with nothing or something rolled
pub roll_came : (entry next : Balance) (cents : ℕ) (rolls more : List Roll) → ((cents ≡ 0) × (more ≡ rolls)) ⊎ ((1 ≤ cents) × (more ≡ rolls ++ record { day = entry.day; next = next.day; cents = record { 0 = cents } } ∷ []))
    → more ≡ rolls ++ roll_of entry next cents
roll_came entry next cents rolls more came = elim came [
  | inl none ↦ none.1 ∙ sym (append-nil rolls) ∙ ap (λ n. rolls ++ roll_of entry next n) (sym none.0)
  | inr some ↦ some.1 ∙ ap (λ (l : List Roll). rolls ++ l) (sym (one_roll entry next cents some.0))
]

pub roll_kinds : (entry next : Balance) (cents : ℕ) (rolls : List Roll)
    → ((cents ≡ 0) × (rolls ++ roll_of entry next cents ≡ rolls)) ⊎ ((1 ≤ cents) × (rolls ++ roll_of entry next cents ≡ rolls ++ record { day = entry.day; next = next.day; cents = record { 0 = cents } } ∷ []))
roll_kinds entry next cents rolls = elim (cases_lt 0 cents) [
  | inl some ↦ inr (some, ap (λ (l : List Roll). rolls ++ l) (one_roll entry next cents some))
  | inr none ↦
      let is : cents ≡ 0 = omega (arith, none) in
      inl (is, ap (λ n. rolls ++ roll_of entry next n) is ∙ append-nil rolls)
]

-- up to the last entry they are all
pub value_end : (closed : Closings) (terms : Terms) (entries : List Balance) (flows : List Flow) (p back : ℕ) (rolls : List Roll) (d : Balance) → p + 1 ≡ length entries → AreAllWith closed terms entries flows p back rolls
    → rolls ≡ rolls_along closed terms flows entries
unfolding rolls_from
value_end closed terms entries flows p back rolls d last had =
    sym (append-nil rolls) ∙ ap (λ (l : List Balance). rolls ++ rolls_from closed terms flows back (get_or entries p d) l) (sym (drop_all (p + 1) entries (omega (arith, last)))) ∙ had d
