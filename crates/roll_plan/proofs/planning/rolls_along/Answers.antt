use Rattle.std.proofs.Common.{◌≡◌, ◌∙◌, ℕ, pos, ◌+◌, ◌-◌, ◌<◌, min, ◌≤◌, ◌⊎◌, inl, inr, refl, sym, ap, subst, arith, [], ◌∷◌, ◌++◌, length, get_or}
use Rattle.day_sums.specs.Summed.{cents_on}
use Rattle.cash_table.specs.declared.day_balances.Balance.{Balance}
use Rattle.roll_plan.proofs.PlanFacts.{on_at_most}
use Rattle.roll_plan.specs.RollsOf.{most_rolled, rolled_on}
use Rattle.roll_plan.proofs.TermFacts.{rolled_within}
use Rattle.roll_plan.proofs.ValueFacts.{AreAllWith, roll_came, value_end, value_next}
use Rattle.roll_plan.proofs.planning.rolls_along.Goals as goal
use Rattle.roll_plan.proofs.planning.rolls_along.Goals.{then-back-gt0+in_ok-push, else-back-gt0}

pub overflow_add-on : goal.overflow_add-on
overflow_add-on c =
    let few = on_at_most c.index-entries-place.result.day c.args.paid.now.sums in
    omega (arith, few, c.on.ensures, c.requires.entries.paid_small, c.loop-place.invariant.small)

pub loop-place-preserved : goal.loop-place-preserved
loop-place-preserved c =
    let place = c.loop-place.place in
    let entry = c.index-entries-place.result in
    let next = c.index-entries-place-in-loop-place.result in
    let p : ℕ = place - 1 in
    let one : p + 1 ≡ place = omega (arith, c.loop-place.auto.place) in
    let within : p + 1 < length c.args.entries.now = omega (arith, one, c.loop-place-test.true) in
    let to : next ≡ get_or c.args.entries.now (p + 1) next = c.index-entries-place-in-loop-place.is ∙ ap (λ n. get_or c.args.entries.now n next) (sym one) in
    let day : (get_or c.args.entries.now place next).day ≡ next.day = ap (λ (b : Balance). b.day) (sym c.index-entries-place-in-loop-place.is) in
    let free : c.min-free.result ≡ min entry.balance.0 (cents_on entry.day c.args.paid.now.sums + c.loop-place.back) = c.min-free.ensures ∙ ap (λ n. min entry.balance.0 (n + c.loop-place.back)) c.on.ensures in
    let came : ((c.most_rolled-back.result ≡ 0) × (c.if-back-gt0.rolls.items ≡ c.loop-place.rolls.items))
    ⊎ ((1 ≤ c.most_rolled-back.result) × (c.if-back-gt0.rolls.items ≡ c.loop-place.rolls.items ++ record { day = entry.day; next = next.day; cents = record { 0 = c.most_rolled-back.result } } ∷ [])) =
    elim c.if-back-gt0.branch [
      | then-back-gt0+in_ok-push w ↦ inr (omega (arith, w.if-back-gt0.true), rw w.rolls-is (rw day at w.in_ok-push.ensures.items))
      | else-back-gt0 w ↦ inl (omega (arith, w.if-back-gt0.false), rw w.rolls-is refl)
    ] in
    let amount : c.most_rolled-back.result ≡ rolled_on c.args.closed.now c.args.terms c.args.paid.now.sums c.loop-place.back entry next =
    rw day at c.most_rolled-back.ensures ∙ ap (most_rolled c.args.closed.now c.args.terms entry.day next.day) free in
    let after_all : AreAllWith c.args.closed.now c.args.terms c.args.entries.now c.args.paid.now.sums (p + 1) c.most_rolled-back.result c.if-back-gt0.rolls.items =
    value_next c.args.closed.now c.args.terms c.args.entries.now c.args.paid.now.sums p c.loop-place.back c.most_rolled-back.result c.loop-place.rolls.items c.if-back-gt0.rolls.items entry next
    within c.index-entries-place.is to (c.loop-place.invariant.value p (sym one) (omega (arith, within))) amount
    (roll_came entry next c.most_rolled-back.result c.loop-place.rolls.items c.if-back-gt0.rolls.items came) in
    let less : c.most_rolled-back.result ≤ c.min-free.result =
    subst (λ n. n ≤ c.min-free.result) (sym c.most_rolled-back.ensures) (rolled_within c.args.closed.now c.args.terms entry.day (get_or c.args.entries.now place next).day c.min-free.result) in
    let small = c.requires.entries.small p entry (omega (arith, within)) in
    let own : entry.balance.0 ≡ (get_or c.args.entries.now p entry).balance.0 = ap (λ (b : Balance). b.balance.0) c.index-entries-place.is in
    record {
      value = λ q same there.
          let here : p + 1 ≡ q = omega (arith, same, one) in
          subst (λ n. AreAllWith c.args.closed.now c.args.terms c.args.entries.now c.args.paid.now.sums n c.most_rolled-back.result c.if-back-gt0.rolls.items) here after_all;
      small = omega (arith, less, free, small, own);
    }

pub returns : goal.returns
returns c =
    let all = length c.args.entries.now in
    let p : ℕ = all - 1 in
    let some = c.requires.entries.some in
    let last : p + 1 ≡ all = omega (arith, some) in
    let place : c.loop-place.place ≡ p + 1 = omega (arith, c.loop-place.auto.place-end some, c.loop-place-test.false, last) in
    value_end c.args.closed.now c.args.terms c.args.entries.now c.args.paid.now.sums p c.loop-place.back c.loop-place.rolls.items (record { day = pos 0; receipts = record { 0 = 0 }; needs = record { 0 = 0 }; balance = record { 0 = 0 } }) last
    (c.loop-place.invariant.value p place (omega (arith, last)))
