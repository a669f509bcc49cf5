-- The rolls of entries, as they are computed, obey the rules of rolls.
use Rattle.std.proofs.Common.{◌≡◌, ◌∙◌, ℕ, zero, suc, ◌+◌, ◌<◌, ◌≤◌, min, refl, sym, ap, subst, arith, List, [], ◌∷◌, ◌++◌, length, get_or, drop, Option, Some, None}
use Rattle.std.proofs.lemmas.List.{append-nil, append_assoc, drop_all, get_or_default}
use Rattle.std.proofs.lemmas.List.Elements.{All-nil}
use Rattle.escrow_units.specs.OpenDays.{Closings}
use Rattle.escrow_units.specs.declared.security.Flow.{Flow}
use Rattle.escrow_units.specs.declared.security.Terms.{Terms}
use Rattle.day_sums.specs.Summed.{cents_on}
use Rattle.offer_book.specs.Book.{BookContents, IsBook}
use Rattle.offer_book.specs.Portfolio.{Meets, security_flows}
use Rattle.cash_table.specs.Balances.{balances_of}
use Rattle.cash_table.specs.declared.day_balances.Balance.{Balance}
use Rattle.cash_table.proofs.BalanceLaws.{are_balances}
use Rattle.roll_plan.specs.Rolls.{AreRolls, AreRollsOf, MayRoll, StillMeet}
use Rattle.roll_plan.specs.RollsOf.{most_rolled, roll_of, rolls_along, rolls_from, rolls_of}
use Rattle.roll_plan.specs.declared.planning.Roll.{Roll}
use Rattle.roll_plan.proofs.PlanFacts.{nothing_rolled, still_meet}
use Rattle.roll_plan.proofs.RollFacts.{AreRollsTo, EntriesRise, rolls_end, rolls_next, rolls_start}
use Rattle.roll_plan.proofs.TermFacts.{most_rolled_is}
use Rattle.roll_plan.proofs.ValueFacts.{roll_kinds, value_step}

-- from an entry on, with the rolls up to it
rolls_on : (closed : Closings) (terms : Terms) (entries : List Balance) (flows : List Flow) (n p back : ℕ) (rolls : List Roll) (d : Balance) → EntriesRise entries → p + 1 + n ≡ length entries
    → AreRollsTo closed terms entries flows p back rolls → AreRolls closed terms entries flows (rolls ++ rolls_from closed terms flows back (get_or entries p d) (drop (p + 1) entries))
unfolding rolls_from
rolls_on closed terms entries flows zero p back rolls d rise room had =
    let last : p + 1 ≡ length entries = omega (arith, room) in
    let all : rolls ++ rolls_from closed terms flows back (get_or entries p d) (drop (p + 1) entries) ≡ rolls =
    ap (λ (l : List Balance). rolls ++ rolls_from closed terms flows back (get_or entries p d) l) (drop_all (p + 1) entries (omega (arith, last))) ∙ append-nil rolls in
    subst (AreRolls closed terms entries flows) (sym all) (rolls_end closed terms entries flows p back rolls rise last had)
rolls_on closed terms entries flows (suc n) p back rolls d rise room had =
    let within : p + 1 < length entries = omega (arith, room) in
    let entry = get_or entries p d in
    let next = get_or entries (p + 1) d in
    let free = min entry.balance.0 (cents_on entry.day flows + back) in
    let cents = most_rolled closed terms entry.day next.day free in
    let more = rolls ++ roll_of entry next cents in
    let after : AreRollsTo closed terms entries flows (p + 1) cents more =
    rolls_next closed terms entries flows p back cents free rolls more entry next rise within (get_or_default entries p d entry (omega (arith, within))) (get_or_default entries (p + 1) d next within) had
    (most_rolled_is closed terms entry.day next.day free) refl (roll_kinds entry next cents rolls) in
    let all : rolls ++ rolls_from closed terms flows back entry (drop (p + 1) entries) ≡ more ++ rolls_from closed terms flows cents next (drop (p + 1 + 1) entries) =
    ap (λ (l : List Roll). rolls ++ l) (value_step closed terms entries flows p back d within) ∙ sym (append_assoc rolls (roll_of entry next cents) (rolls_from closed terms flows cents next (drop (p + 1 + 1) entries))) in
    subst (AreRolls closed terms entries flows) (sym all) (rolls_on closed terms entries flows n (p + 1) cents more d rise (omega (arith, room)) after)

pub are_rolls : (closed : Closings) (terms : Terms) (entries : List Balance) (flows : List Flow) → EntriesRise entries → AreRolls closed terms entries flows (rolls_along closed terms flows entries)
are_rolls closed terms [] flows rise = record {
  rise = λ i j d less within. absurd (omega (arith, within));
  some = All-nil (λ (roll : Roll). 1 ≤ roll.cents.0);
  allowed = All-nil (λ (roll : Roll). MayRoll closed [] roll.day roll.next);
  each = λ k d within. absurd (omega (arith, within));
}
are_rolls closed terms (entry ∷ entries) flows rise =
    rolls_on closed terms (entry ∷ entries) flows (length entries) 0 0 [] entry rise (omega arith) (rolls_start closed terms (entry ∷ entries) flows)

-- those of a portfolio
pub are_rolls_of : (book : BookContents) (plan : List ℕ) (terms : Option Terms) → IsBook book → Meets book plan → AreRollsOf book plan terms (rolls_of book plan terms)
are_rolls_of book plan None limits meets = refl
are_rolls_of book plan (Some terms) limits meets =
    are_rolls book.days.closed terms (balances_of book plan) (security_flows book plan) (are_balances book plan limits meets).rise

pub rolls_still_meet : (book : BookContents) (plan : List ℕ) (terms : Option Terms) → IsBook book → Meets book plan → StillMeet book plan (rolls_of book plan terms)
rolls_still_meet book plan None limits meets = nothing_rolled book plan meets
rolls_still_meet book plan (Some terms) limits meets =
    still_meet book plan terms (balances_of book plan) (rolls_of book plan (Some terms)) (are_balances book plan limits meets) (are_rolls_of book plan (Some terms) limits meets)
