use Rattle.std.proofs.Common.{rules, ◌<◌, ◌+◌, ◌*◌, ℕ, arith}
use Rattle.fixed_powers.specs.DiscountPowers.{one}
use Rattle.fixed_powers.specs.PresentValues.{present_value}
use Rattle.fixed_powers.specs.declared.side.Side.TheVariants.{Low}
use Rattle.fixed_powers.proofs.PresentValueFacts.{value-at_zero}
use Rattle.yield_enclosure.proofs.EndFacts.{worth-below}
use Rattle.yield_enclosure.proofs.enclosure.lower_end.Goals as goal

pub loop-worth-init : goal.loop-worth-init
loop-worth-init c = record {
  order = omega arith;
  within = omega arith;
  worth = omega (arith, value-at_zero Low c.args.flows.now, c.requires.covered);
  greatest = λ n enough. let below = worth-below c.args.flows.now c.args.cost.0 (c.args.greatest + 1) n c.requires.less enough in omega (arith, below);
  dearer = search rules;
}

pub loop-worth-preserved : goal.loop-worth-preserved
loop-worth-preserved c =
    let middle : ℕ = c.next_by_guess-middle.result in
    let fails : present_value Low middle c.args.flows.now < one * c.args.cost.0 = search rules in
    record {
      order = omega arith;
      within = omega arith;
      worth = c.loop-worth.invariant.worth;
      greatest = λ n enough. let below = worth-below c.args.flows.now c.args.cost.0 middle n fails enough in omega (arith, below);
      dearer = c.loop-worth.invariant.dearer;
    }
