-- Sums of what rolls take away and bring back.
use Rattle.std.proofs.Common.{◌≡◌, ◌∙◌, ◌+◌, refl, sym, ap, arith, ℤ, ◌≤ℤ◌, ◌<ℤ◌, inl, inr, true, List, [], ◌∷◌, ◌++◌}
use Rattle.std.specs.List.{All, Any}
use Rattle.std.proofs.lemmas.Bool.{cases_Bool, cases_lt}
use Rattle.std.proofs.lemmas.Int.{ints, by_lt_z}
use Rattle.std.proofs.lemmas.List.{map-append}
use Rattle.std.proofs.lemmas.List.Elements.{All-head, All-tail, All-map}
use Rattle.std.proofs.lemmas.List.Sums.{sum_by-cons, sum_by_push}
use Rattle.std.specs.Ordering.{int_eq}
use Rattle.escrow_units.specs.Flows.{total}
use Rattle.escrow_units.specs.declared.security.Flow.{Flow}
use Rattle.day_sums.specs.Summed.{cents_on, on, total_by}
use Rattle.day_sums.proofs.Uniqueness.{here, here-same}
use Rattle.cash_table.specs.Receipts.{cents_by}
use Rattle.cash_table.proofs.BalanceLaws.{some_on}
use Rattle.cash_table.proofs.ReceiptFacts.{cents_by-due, cents_by-later}
use Rattle.roll_plan.specs.Rolls.{returned, taken}
use Rattle.roll_plan.specs.declared.planning.Roll.{Roll}

-- nothing is on a day on which no flow falls
fall_elsewhere : (day : ℤ) (flows : List Flow) → All (λ flow. flow.day ≡ day → ⊥) flows → Any (λ flow. flow.day ≡ day) flows → ⊥
fall_elsewhere day flows other (k, flow, within, at, falls) = other k flow within (ap (λ (f : Flow). f.day) at ∙ falls)

pub none_on : (day : ℤ) (flows : List Flow) → All (λ flow. flow.day ≡ day → ⊥) flows → cents_on day flows ≡ 0
none_on day flows other = elim (cases_lt 0 (cents_on day flows)) [
  | inl some ↦ absurd (fall_elsewhere day flows other (some_on day flows some))
  | inr none ↦ omega (arith, none)
]

apart : (a b : ℤ) → a <ℤ b → a ≡ b → ⊥
apart a b less same = absurd (omega (arith, ints, less, same))

pub none_taken : (day : ℤ) (rolls : List Roll) → All (λ roll. roll.day <ℤ day) rolls → cents_on day (taken rolls) ≡ 0
none_taken day rolls before =
    none_on day (taken rolls)
    (All-map (λ (flow : Flow). flow.day ≡ day → ⊥) (λ (roll : Roll). on roll.day roll.cents.0) rolls (λ k d within. apart _ day (before k d within)))

pub none_returned : (day : ℤ) (rolls : List Roll) → All (λ roll. roll.next <ℤ day) rolls → cents_on day (returned rolls) ≡ 0
none_returned day rolls before =
    none_on day (returned rolls)
    (All-map (λ (flow : Flow). flow.day ≡ day → ⊥) (λ (roll : Roll). on roll.next roll.cents.0) rolls (λ k d within. apart _ day (before k d within)))

-- one roll more
pub here-apart : (day : ℤ) (flow : Flow) → (flow.day ≡ day → ⊥) → here day flow ≡ 0
here-apart day flow other = elim (cases_Bool (int_eq flow.day day)) [
  | inl same ↦ absurd (other (equal flow.day day same))
  | inr not ↦ rw not refl
]
  where
    equal : (a b : ℤ) → int_eq a b ≡ true → a ≡ b
    equal a b h = grind (arith, ints)

pub taken_here : (day : ℤ) (rolls : List Roll) (roll : Roll) → roll.day ≡ day → cents_on day (taken (rolls ++ roll ∷ [])) ≡ cents_on day (taken rolls) + roll.cents.0
taken_here day rolls roll same =
    ap (cents_on day) (map-append (λ (r : Roll). on r.day r.cents.0) rolls (roll ∷ []))
    ∙ sum_by_push (here day) (taken rolls) (on roll.day roll.cents.0)
    ∙ ap (λ n. cents_on day (taken rolls) + n) (here-same day (on roll.day roll.cents.0) same)

pub taken_apart : (day : ℤ) (rolls : List Roll) (roll : Roll) → day <ℤ roll.day → cents_on day (taken (rolls ++ roll ∷ [])) ≡ cents_on day (taken rolls)
taken_apart day rolls roll later =
    ap (cents_on day) (map-append (λ (r : Roll). on r.day r.cents.0) rolls (roll ∷ []))
    ∙ omega (arith, sum_by_push (here day) (taken rolls) (on roll.day roll.cents.0), here-apart day (on roll.day roll.cents.0) (λ same. apart day roll.day later (sym same)))

pub returned_here : (day : ℤ) (rolls : List Roll) (roll : Roll) → roll.next ≡ day → cents_on day (returned (rolls ++ roll ∷ [])) ≡ cents_on day (returned rolls) + roll.cents.0
returned_here day rolls roll same =
    ap (cents_on day) (map-append (λ (r : Roll). on r.next r.cents.0) rolls (roll ∷ []))
    ∙ sum_by_push (here day) (returned rolls) (on roll.next roll.cents.0)
    ∙ ap (λ n. cents_on day (returned rolls) + n) (here-same day (on roll.next roll.cents.0) same)

pub returned_apart : (day : ℤ) (rolls : List Roll) (roll : Roll) → day <ℤ roll.next → cents_on day (returned (rolls ++ roll ∷ [])) ≡ cents_on day (returned rolls)
returned_apart day rolls roll later =
    ap (cents_on day) (map-append (λ (r : Roll). on r.next r.cents.0) rolls (roll ∷ []))
    ∙ omega (arith, sum_by_push (here day) (returned rolls) (on roll.next roll.cents.0), here-apart day (on roll.next roll.cents.0) (λ same. apart day roll.next later (sym same)))

-- what was taken by a day on which cash moves came back by it, but for what is taken on it
abbrev pub ComeBack : ℤ → Roll → Type 0
ComeBack t roll = (roll.day <ℤ roll.next) × (roll.day <ℤ t → roll.next ≤ℤ t)

one_comes_back : (t : ℤ) (roll : Roll) → ComeBack t roll → cents_by t (on roll.day roll.cents.0) ≡ cents_by t (on roll.next roll.cents.0) + here t (on roll.day roll.cents.0)
one_comes_back t roll (order, back) =
    let away = on roll.day roll.cents.0 in
    let home = on roll.next roll.cents.0 in
    by_lt_z roll.day t
    (λ earlier. omega (arith, cents_by-due t away (omega (arith, ints, earlier)), cents_by-due t home (back earlier), here-apart t away (apart roll.day t earlier)))
    (λ from. by_lt_z t roll.day
    (λ later. omega (arith, cents_by-later t away later, cents_by-later t home (omega (arith, ints, later, order)), here-apart t away (λ same. apart t roll.day later (sym same))))
    (λ by. let same : roll.day ≡ t = omega (arith, ints, from, by) in
    omega (arith, cents_by-due t away by, cents_by-later t home (omega (arith, ints, from, order)), here-same t away same)))

pub come_back : (t : ℤ) (rolls : List Roll) → All (ComeBack t) rolls → total_by t (taken rolls) ≡ total_by t (returned rolls) + cents_on t (taken rolls)
come_back t [] all = refl
come_back t (roll ∷ rolls) all =
    omega (
      arith,
      sum_by-cons (cents_by t) (on roll.day roll.cents.0) (taken rolls),
      sum_by-cons (cents_by t) (on roll.next roll.cents.0) (returned rolls),
      sum_by-cons (here t) (on roll.day roll.cents.0) (taken rolls),
      one_comes_back t roll (All-head (ComeBack t) roll rolls all),
      come_back t rolls (All-tail (ComeBack t) roll rolls all),
    )

-- and in all
pub same_total : (rolls : List Roll) → total (taken rolls) ≡ total (returned rolls)
same_total [] = refl
same_total (roll ∷ rolls) =
    omega (
      arith,
      sum_by-cons (λ (f : Flow). f.cents.0) (on roll.day roll.cents.0) (taken rolls),
      sum_by-cons (λ (f : Flow). f.cents.0) (on roll.next roll.cents.0) (returned rolls),
      same_total rolls,
    )
