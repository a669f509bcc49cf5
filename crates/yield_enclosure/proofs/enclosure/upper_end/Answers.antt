use Rattle.std.proofs.Common.{rules, ◌<◌, ◌+◌, ◌*◌, arith}
use Rattle.fixed_powers.specs.DiscountPowers.{one}
use Rattle.fixed_powers.specs.PresentValues.{present_value}
use Rattle.fixed_powers.specs.declared.side.Side.TheVariants.{High}
use Rattle.yield_enclosure.proofs.EndFacts.{second-no_dearer, lower-le-upper, dearer-lt}
use Rattle.yield_enclosure.proofs.enclosure.upper_end.Goals as goal

pub returns-then-branch : goal.returns-then-branch
returns-then-branch c = record {
  no_dearer = search rules;
  least = λ n enough. lower-le-upper c.args.flows.now c.args.cost.0 c.args.end.lo.0 n c.requires.near c.requires.covered c.requires.less c.requires.lower enough;
}

pub returns-then-branch-2 : goal.returns-then-branch-2
returns-then-branch-2 c =
    let dearer : one * c.args.cost.0 < present_value High c.args.end.lo.0 c.args.flows.now = search rules in
    record {
      no_dearer = search rules;
      least = λ n enough. let above = dearer-lt c.args.flows.now c.args.cost.0 c.args.end.lo.0 n dearer enough in omega (arith, above);
    }

pub returns : goal.returns
returns c =
    let dearer : one * c.args.cost.0 < present_value High (c.args.end.lo.0 + 1) c.args.flows.now = search rules in
    record {
      no_dearer = second-no_dearer c.args.flows.now c.args.cost.0 c.args.end.lo.0 c.requires.near c.requires.less c.requires.lower;
      least = λ n enough. let above = dearer-lt c.args.flows.now c.args.cost.0 (c.args.end.lo.0 + 1) n dearer enough in omega (arith, above);
    }
