-- Whether a zero-interest certificate may run from one day to another, and the most that is subscribed for, as they are computed.
use Rattle.std.proofs.Common.{◌≡◌, ℕ, ◌+◌, ◌-◌, ◌*◌, ◌/◌, ◌%◌, ◌≤◌, inl, inr, ap, subst, nat_lt, arith, ℤ, ◌≤ℤ◌, pos, ◌+ℤ◌, Bool, true, false, not, ◌&&◌, int_le, sym, ◌∙◌, refl}
use Rattle.std.proofs.lemmas.Bool.{cases_lt}
use Rattle.std.proofs.lemmas.Int.{ints}
use Rattle.std.proofs.lemmas.Nat.{div-add-mod', mod-mul-add, mod_below}
use Rattle.std.proofs.Math.Nat.{mod-zero, mul-le-mul_right, zero-mod}
use Rattle.escrow_units.specs.Calendar.{years_after_of}
use Rattle.escrow_units.specs.OpenDays.{Closings, is_closed}
use Rattle.escrow_units.specs.SlgsTerms.{shortest_term}
use Rattle.escrow_units.specs.declared.security.Terms.{Terms}
use Rattle.escrow_units.proofs.FlowFacts.{int_le-test}
use Rattle.roll_plan.specs.Rolls.{IsRollTerm, IsSubscription}
use Rattle.roll_plan.specs.Steps.{IsMostRolled}
use Rattle.roll_plan.specs.RollsOf.{is_roll_term, most_rolled, most_subscribed}

le_of : (a b : ℤ) → int_le a b ≡ true → a ≤ℤ b
le_of a b h = grind (arith, ints)

both : (a b : Bool) → (a && b) ≡ true → (a ≡ true) × (b ≡ true)
both true true h = (refl, refl)
both true false h = cc
both false b h = cc

open_of : (b : Bool) → not b ≡ true → b ≡ false
open_of true h = cc
open_of false h = refl

pub term_of : (closed : Closings) (from to : ℤ) → is_roll_term closed from to ≡ true → IsRollTerm closed from to
term_of closed from to is =
    let last = both (int_le (from +ℤ pos (shortest_term 0)) to && int_le to (years_after_of from 1) && not (is_closed closed from)) (not (is_closed closed to)) is in
    let third = both (int_le (from +ℤ pos (shortest_term 0)) to && int_le to (years_after_of from 1)) (not (is_closed closed from)) last.0 in
    let first = both (int_le (from +ℤ pos (shortest_term 0)) to) (int_le to (years_after_of from 1)) third.0 in
    record {
      least = le_of (from +ℤ pos (shortest_term 0)) to first.0;
      most = le_of to (years_after_of from 1) first.1;
      buys = open_of (is_closed closed from) third.1;
      pays = open_of (is_closed closed to) last.1;
    }

pub term_true : (closed : Closings) (from to : ℤ) → IsRollTerm closed from to → is_roll_term closed from to ≡ true
term_true closed from to is =
    rw (int_le-test (from +ℤ pos (shortest_term 0)) to is.least, int_le-test to (years_after_of from 1) is.most, is.buys, is.pays) refl

pub term_false : (closed : Closings) (from to : ℤ) → (IsRollTerm closed from to → ⊥) → is_roll_term closed from to ≡ false
term_false closed from to never = by (is_roll_term closed from to) (λ yes. never (term_of closed from to yes))
  where
    by : (b : Bool) → (b ≡ true → ⊥) → b ≡ false
    by true unlike = absurd (unlike refl)
    by false unlike = refl

-- the most that is rolled, where a certificate may run and where none may
pub rolled_where : (closed : Closings) (terms : Terms) (from to : ℤ) (free : ℕ) → IsRollTerm closed from to → most_rolled closed terms from to free ≡ most_subscribed terms free
rolled_where closed terms from to free is = rw (term_true closed from to is) refl

pub none_where : (closed : Closings) (terms : Terms) (from to : ℤ) (free : ℕ) → (IsRollTerm closed from to → ⊥) → most_rolled closed terms from to free ≡ 0
none_where closed terms from to free never = rw (term_false closed from to never) refl

-- ---- the most that may be subscribed for
-- whole steps; a step of 0 has none but nothing
whole : (free step : ℕ) → free - free % step ≡ free / step * step
whole free step = omega (arith, div-add-mod' free step)

stepless : (free step : ℕ) → step ≡ 0 → free - free % step ≡ 0
stepless free step none =
    let same : free % step ≡ free = ap (λ n. free % n) none ∙ mod-zero free in
    omega (arith, same)

whole_steps : (free step : ℕ) → (free - free % step) % step ≡ 0
whole_steps free step = elim (cases_lt 0 step) [
  | inl some ↦ ap (λ n. n % step) (whole free step ∙ sym (plus_none (free / step * step))) ∙ mod-mul-add (free / step) step 0 some
  | inr not ↦ ap (λ n. n % step) (stepless free step (omega (arith, not))) ∙ zero-mod step
]
  where
    plus_none : (n : ℕ) → n + 0 ≡ n
    plus_none n = omega arith

most_whole : (other free step : ℕ) → other % step ≡ 0 → other ≤ free → other ≤ free - free % step
most_whole other free step is within = elim (cases_lt 0 step) [
  | inl some ↦ elim (cases_lt (free / step) (other / step)) [
    | inl more ↦
        let above : (free / step + 1) * step ≤ other / step * step = mul-le-mul_right step (omega (arith, more)) in
        let parts : (free / step + 1) * step ≡ free / step * step + step = omega arith in
        absurd (omega (arith, above, parts, div-add-mod' other step, is, div-add-mod' free step, mod_below free step some, within))
    | inr less ↦
        let under : other / step * step ≤ free / step * step = mul-le-mul_right step less in
        omega (arith, under, div-add-mod' other step, is, whole free step)
  ]
  | inr not ↦
      let none : step ≡ 0 = omega (arith, not) in
      let nothing : other % step ≡ other = ap (λ n. other % n) none ∙ mod-zero other in
      omega (arith, is, nothing)
]

above_minimum : (least whole : ℕ) → nat_lt whole least ≡ false → least ≤ whole
above_minimum least whole h = grind arith

below_minimum : (least whole : ℕ) → nat_lt whole least ≡ true → whole + 1 ≤ least
below_minimum least whole h = grind arith

-- what is subscribed for, of so many cents
record IsMostSubscribed (terms : Terms) (free cents : ℕ) : Type 0 where
  within : cents ≤ free
  subscribed : IsSubscription terms cents
  most : (other : ℕ) → IsSubscription terms other → other ≤ free → other ≤ cents

most_subscribed_is : (terms : Terms) (free : ℕ) → IsMostSubscribed terms free (most_subscribed terms free)
most_subscribed_is terms free = by (nat_lt (free - free % (100 * terms.step)) (100 * terms.minimum)) refl
  where
    by : (low : Bool) → nat_lt (free - free % (100 * terms.step)) (100 * terms.minimum) ≡ low → IsMostSubscribed terms free (most_subscribed terms free)
    by true low = rw low (record {
      within = omega arith;
      subscribed = inl refl;
      most = λ other is within. elim is [
        | inl none ↦ omega (arith, none)
        | inr some ↦ absurd (omega (arith, some.0, most_whole other free (100 * terms.step) some.1 within, below_minimum (100 * terms.minimum) (free - free % (100 * terms.step)) low))
      ];
    })
    by false high = rw high (record {
      within = omega arith;
      subscribed = inr (above_minimum (100 * terms.minimum) (free - free % (100 * terms.step)) high, whole_steps free (100 * terms.step));
      most = λ other is within. elim is [
        | inl none ↦ omega (arith, none)
        | inr some ↦ most_whole other free (100 * terms.step) some.1 within
      ];
    })

-- the most that is rolled
pub most_rolled_is : (closed : Closings) (terms : Terms) (from to : ℤ) (free : ℕ) → IsMostRolled closed terms from to free (most_rolled closed terms from to free)
most_rolled_is closed terms from to free = by (is_roll_term closed from to) refl
  where
    unlike : false ≡ true → ⊥
    unlike h = cc

    by : (may : Bool) → is_roll_term closed from to ≡ may → IsMostRolled closed terms from to free (most_rolled closed terms from to free)
    by true may =
        let is = most_subscribed_is terms free in
        let term = term_of closed from to may in
        subst (IsMostRolled closed terms from to free) (sym (rolled_where closed terms from to free term)) (record {
          within = is.within;
          subscribed = is.subscribed;
          most = λ other_term. is.most;
          none = λ never. absurd (never term);
          some = λ one. term;
        })
    by false may =
        let never : IsRollTerm closed from to → ⊥ = λ term. unlike (sym may ∙ term_true closed from to term) in
        subst (IsMostRolled closed terms from to free) (sym (none_where closed terms from to free never)) (record {
          within = omega arith;
          subscribed = inl refl;
          most = λ term. absurd (never term);
          none = λ none. refl;
          some = λ one. absurd (omega (arith, one));
        })

pub rolled_within : (closed : Closings) (terms : Terms) (from to : ℤ) (free : ℕ) → most_rolled closed terms from to free ≤ free
rolled_within closed terms from to free = (most_rolled_is closed terms from to free).within
