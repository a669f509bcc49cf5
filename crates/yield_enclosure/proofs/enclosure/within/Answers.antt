use Rattle.std.proofs.Common.{rules, ◌≡◌, ◌≤◌, false, List, IfOk, subst}
use Rattle.escrow_units.specs.PresentValue.{IndexedFlow}
use Rattle.escrow_units.specs.Flows.{indexed}
use Rattle.fixed_powers.specs.PresentValues.{HasLaterAmount}
use Rattle.yield_enclosure.specs.YieldAnswers.{AreDearerBelow}
use Rattle.yield_enclosure.proofs.enclosure.within.Goals as goal

pub returns-clause-refusal : goal.returns-clause-refusal
returns-clause-refusal c =
    let same : c.in_ok-timeline.timeline ≡ indexed c.args.settle c.args.flows.now = search rules in
    subst (λ (flows : List IndexedFlow). IfOk c.is_covered_within.result (λ yes. yes ≡ false → 1 ≤ c.args.limit.0 → c.args.limit.0 ≤ 3_000_000_000 → HasLaterAmount flows → AreDearerBelow flows c.args.cost.0 c.args.limit.0)) same c.is_covered_within.ensures.refusal
