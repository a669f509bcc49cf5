use Rattle.std.proofs.Common.{rules, ◌<◌, ◌^◌, arith}
use Rattle.fixed_powers.specs.PresentValues.{present_value}
use Rattle.fixed_powers.proofs.PresentValueFacts.{value-within}
use Rattle.yield_enclosure.proofs.timeline.Timeline.present_value.Goals as goal

pub worth-requires-clause-room : goal.worth-requires-clause-room
worth-requires-clause-room c =
    let room : present_value c.args.side c.args.n.0 c.args.self.now < 2 ^ 128 = omega (arith, value-within c.args.side c.args.n.0 c.args.self.now, c.requires.cents) in
    search rules
