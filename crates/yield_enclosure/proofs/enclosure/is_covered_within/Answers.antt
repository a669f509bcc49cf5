use Rattle.std.proofs.Common.{rules, ◌∙◌, ◌<◌, ◌≤◌, ◌*◌, sym}
use Rattle.fixed_powers.specs.DiscountPowers.{one}
use Rattle.fixed_powers.specs.PresentValues.{present_value}
use Rattle.fixed_powers.specs.declared.side.Side.TheVariants.{Low}
use Rattle.yield_enclosure.proofs.EndFacts.{if_ok, within-at_limit, within-above_most, refused-dearer, refused-worth, is_dearer}
use Rattle.yield_enclosure.proofs.enclosure.is_covered_within.Goals as goal

pub returns-then-branch-clause-refusal : goal.returns-then-branch-clause-refusal
returns-then-branch-clause-refusal c =
    let worth : one * c.args.cost.0 ≤ present_value Low 3_000_000_000 c.args.flows.now = search rules in
    λ _ some most later. refused-worth c.args.flows.now c.args.cost.0 c.args.limit.0 c.requires.near some most later worth

pub returns-then-limit-clause-value : goal.returns-then-limit-clause-value
returns-then-limit-clause-value c =
    let less : present_value Low 3_000_000_000 c.args.flows.now < one * c.args.cost.0 = search rules in
    let above : 3_000_000_000 < c.args.limit.0 = search rules in
    within-above_most c.args.flows.now c.args.cost.0 c.args.limit.0 c.requires.near c.requires.covered less above

pub returns-clause-value : goal.returns-clause-value
returns-clause-value c =
    let less : present_value Low 3_000_000_000 c.args.flows.now < one * c.args.cost.0 = search rules in
    let same = within-at_limit c.args.flows.now c.args.cost.0 c.args.limit.0 c.requires.near c.requires.covered less in
    if_ok c.is_no_dearer.result (λ yes is. is ∙ same) c.is_no_dearer.ensures

pub returns-clause-refusal : goal.returns-clause-refusal
returns-clause-refusal c =
    if_ok c.is_no_dearer.result
    (λ yes is no some most later. refused-dearer c.args.flows.now c.args.cost.0 c.args.limit.0 c.requires.near some most (is_dearer c.args.flows.now c.args.cost.0 c.args.limit.0 (sym is ∙ no)))
    c.is_no_dearer.ensures
