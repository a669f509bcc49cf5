use Rattle.std.proofs.Common.{◌≡◌, refl, sym, subst, Option, Some, None}
use Rattle.std.specs.Prelude.{IsNone}
use Rattle.cash_table.specs.Reach.{IsInReach}
use Rattle.branch_search.proofs.NoneFacts.{plain-ended}
use Rattle.branch_search.proofs.OutcomeFacts.{outcome-ended}
use Rattle.branch_search.specs.Parts.{SearchContents}
use Rattle.branch_search.specs.Search.{IsOutcome, searched}
use Rattle.branch_search.proofs.searching.search_from.Goals as goal

pub returns-clause-plain : goal.returns-clause-plain
returns-clause-plain g c =
    let case = searched c.args.book.now c.args.limit.0 c.args.allowance.0 c.args.budget in
    let outcome : IsOutcome case c.run_from.result = subst (λ (s : SearchContents). IsOutcome s.case c.run_from.result) c.in_ok-search.ensures c.run_from.ensures in
    plain-ended case c.run_from.result c.line_count.ensures.limits c.requires.limit_from c.requires.limit_to (outcome-ended case c.run_from.result outcome)

pub returns-clause-outcome : goal.returns-clause-outcome
returns-clause-outcome g c = subst (λ (s : SearchContents). IsOutcome s.case c.run_from.result) c.in_ok-search.ensures c.run_from.ensures

pub run_from-requires-clause-reach : goal.run_from-requires-clause-reach
run_from-requires-clause-reach g c = subst (λ (s : SearchContents). IsInReach s.case.book) (sym c.in_ok-search.ensures) (c.day_out_of_reach.ensures.none.0 (is-none c.day_out_of_reach.result c.in_default.not-Some))
  where
    is-none : {X : Type 0} → (o : Option X) → ((x : X) → o ≡ Some x → ⊥) → IsNone o
    is-none None not-some = refl
    is-none (Some x) not-some = absurd (not-some x refl)
