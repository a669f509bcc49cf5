-- What flows become where the rolls of a portfolio are made.
use Rattle.std.proofs.Common.{◌≡◌, ◌≤ℤ◌, ℕ, sym, ap, subst, ℤ, List, [], ◌++◌, Option}
use Rattle.std.proofs.lemmas.List.{append-nil}
use Rattle.std.proofs.lemmas.List.Elements.{All-append}
use Rattle.escrow_units.specs.Calendar.{years_after_of}
use Rattle.escrow_units.specs.Flows.{FallWithinFortyYears, total}
use Rattle.escrow_units.specs.declared.security.Flow.{Flow}
use Rattle.escrow_units.specs.declared.security.Terms.{Terms}
use Rattle.day_sums.specs.Summed.{summed}
use Rattle.day_sums.proofs.SumFacts.{above-summed}
use Rattle.day_sums.proofs.Uniqueness.{fall-within}
use Rattle.offer_book.specs.Book.{BookContents, IsBook}
use Rattle.offer_book.specs.Portfolio.{IsPermitted, Meets, security_cost, security_flows}
use Rattle.cash_table.proofs.BalanceLaws.{are_balances}
use Rattle.cash_table.proofs.FlowFacts.{flows_within}
use Rattle.roll_plan.specs.RolledFlows.{AreRolledFlows, YieldsNoMore}
use Rattle.roll_plan.specs.Rolls.{AreRollsOf, returned, taken}
use Rattle.roll_plan.specs.RollsOf.{moved_by}
use Rattle.roll_plan.specs.Steps.{lessened_by}
use Rattle.roll_plan.specs.declared.planning.Roll.{Roll}
use Rattle.roll_plan.proofs.MoveFacts.{moved_days, rolled_flows, same_sum}
use Rattle.roll_plan.proofs.PlanFacts.{known}
use Rattle.roll_plan.proofs.YieldFacts.{yields_no_more}

pub both_within : (settle : ℤ) (flows more : List Flow) → FallWithinFortyYears settle flows → FallWithinFortyYears settle more → FallWithinFortyYears settle (summed (flows ++ more))
both_within settle flows more a b =
    fall-within settle (years_after_of settle 40) (flows ++ more) (All-append (λ (flow : Flow). (settle ≤ℤ flow.day) × (flow.day ≤ℤ years_after_of settle 40)) flows more a b)

-- what is so of the rolled flows of a portfolio
pub record AreMoved (book : BookContents) (plan : List ℕ) (rolls : List Roll) (moved : List Flow) : Type 0 where
  pub flows : AreRolledFlows (security_flows book plan) rolls moved
  pub total : total moved ≡ total (security_flows book plan)
  pub yields : YieldsNoMore book.days.settle (security_cost book plan) (security_flows book plan) moved
  pub within : FallWithinFortyYears book.days.settle moved

pub moved_are : (book : BookContents) (plan : List ℕ) (terms : Option Terms) (rolls : List Roll) → IsBook book → IsPermitted book plan → Meets book plan → AreRollsOf book plan terms rolls
    → AreMoved book plan rolls (moved_by (security_flows book plan) rolls)
moved_are book plan terms rolls limits permitted meets are =
    let settle = book.days.settle in
    let flows = security_flows book plan in
    let moved = moved_by flows rolls in
    let k = known book plan terms rolls limits permitted (are_balances book plan limits meets) are in
    let same : moved ≡ lessened_by (summed (taken rolls ++ [])) (summed (flows ++ returned rolls)) =
    ap (λ (l : List Flow). lessened_by (summed l) (summed (flows ++ returned rolls))) (sym (append-nil (taken rolls))) in
    let rolled = rolled_flows flows rolls moved k.within same in
    let within : FallWithinFortyYears settle moved =
    subst (FallWithinFortyYears settle) (sym same)
    (moved_days (λ day. (settle ≤ℤ day) × (day ≤ℤ years_after_of settle 40)) (summed (taken rolls ++ [])) (summed (flows ++ returned rolls)) (both_within settle flows (returned rolls) (flows_within book plan limits) k.to)) in
    record {
      flows = rolled;
      total = same_sum flows rolls moved rolled;
      yields = yields_no_more settle (security_cost book plan) flows rolls moved limits.settlement (above-summed _) (flows_within book plan limits) within k.from k.to k.order rolled;
      within = within;
    }
