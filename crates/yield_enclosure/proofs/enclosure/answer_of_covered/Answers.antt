use Rattle.std.proofs.Common.{rules, ◌<◌, ◌≤◌, ◌+◌, ◌*◌}
use Rattle.fixed_powers.specs.DiscountPowers.{one}
use Rattle.fixed_powers.specs.PresentValues.{present_value}
use Rattle.fixed_powers.specs.declared.side.Side.TheVariants.{Low}
use Rattle.fixed_powers.proofs.PresentValueFacts.{low_value-encloses}
use Rattle.yield_enclosure.specs.YieldAnswers.{IsLowerEnd, IsUpperEnd}
use Rattle.yield_enclosure.proofs.EndFacts.{less-at-most, lower_end-lt, ends_are, between-covered}
use Rattle.yield_enclosure.proofs.enclosure.answer_of_covered.Goals as goal

pub returns-in_default-clause-meaning : goal.returns-in_default-clause-meaning
returns-in_default-clause-meaning c =
    let worth : one * c.args.cost.0 ≤ present_value Low 3_000_000_000 c.args.flows.now = search rules in
    low_value-encloses 3_000_000_000 c.args.flows.now c.args.cost.0 worth

pub upper_end-requires-clause-less : goal.upper_end-requires-clause-less
upper_end-requires-clause-less c =
    let told : (c.in-Some.greatest < 3_000_000_000) × (present_value Low (c.in-Some.greatest + 1) c.args.flows.now < one * c.args.cost.0) = search rules in
    less-at-most c.args.flows.now c.args.cost.0 c.in-Some.greatest told.0 told.1

pub upper_end-requires-clause-below : goal.upper_end-requires-clause-below
upper_end-requires-clause-below c =
    let told : (c.in-Some.greatest < 3_000_000_000) × (present_value Low (c.in-Some.greatest + 1) c.args.flows.now < one * c.args.cost.0) = search rules in
    let less = less-at-most c.args.flows.now c.args.cost.0 c.in-Some.greatest told.0 told.1 in
    let lower : IsLowerEnd c.args.flows.now c.args.cost.0 c.in_ok-end.end.lo.0 = search rules in
    lower_end-lt c.args.flows.now c.args.cost.0 c.in_ok-end.end.lo.0 less lower

pub returns-clause-value : goal.returns-clause-value
returns-clause-value c =
    let told : (c.in-Some.greatest < 3_000_000_000) × (present_value Low (c.in-Some.greatest + 1) c.args.flows.now < one * c.args.cost.0) = search rules in
    let less = less-at-most c.args.flows.now c.args.cost.0 c.in-Some.greatest told.0 told.1 in
    let lower : IsLowerEnd c.args.flows.now c.args.cost.0 c.in_ok-end.end.lo.0 = search rules in
    let upper : IsUpperEnd c.args.flows.now c.args.cost.0 c.in_ok-hi.hi.0 = search rules in
    between-covered c.args.flows.now c.args.cost.0 c.in_ok-end.end.lo c.in_ok-hi.hi c.requires.near c.requires.covered less lower upper

pub returns-clause-meaning : goal.returns-clause-meaning
returns-clause-meaning c =
    let told : (c.in-Some.greatest < 3_000_000_000) × (present_value Low (c.in-Some.greatest + 1) c.args.flows.now < one * c.args.cost.0) = search rules in
    let less = less-at-most c.args.flows.now c.args.cost.0 c.in-Some.greatest told.0 told.1 in
    let lower : IsLowerEnd c.args.flows.now c.args.cost.0 c.in_ok-end.end.lo.0 = search rules in
    let upper : IsUpperEnd c.args.flows.now c.args.cost.0 c.in_ok-hi.hi.0 = search rules in
    ends_are c.args.flows.now c.args.cost.0 c.in_ok-end.end.lo.0 c.in_ok-hi.hi.0 c.requires.near c.requires.covered less lower upper
