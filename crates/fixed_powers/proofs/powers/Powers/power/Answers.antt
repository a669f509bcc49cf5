use Rattle.std.proofs.Common.{◌≡◌, arith}
use Rattle.std.proofs.lemmas.Grind.{common_steps}
use Rattle.fixed_powers.specs.DiscountPowers.{power_of}
use Rattle.fixed_powers.proofs.PowerFacts.{power-encloses, power-within}
use Rattle.fixed_powers.proofs.powers.Powers.power.Goals as goal

pub returns-clause-encloses : goal.returns-clause-encloses
returns-clause-encloses c =
    let value : c.index.result.now ≡ power_of c.args.self.now.side c.args.self.now.yield_units c.args.d = grind (arith, common_steps, c.self.invariant.1 c.args.d) in
    power-encloses c.args.self.now.side c.args.self.now.yield_units c.args.d c.index.result.now value

pub returns-clause-within : goal.returns-clause-within
returns-clause-within c =
    let value : c.index.result.now ≡ power_of c.args.self.now.side c.args.self.now.yield_units c.args.d = grind (arith, common_steps, c.self.invariant.1 c.args.d) in
    power-within c.args.self.now.side c.args.self.now.yield_units c.args.d c.index.result.now value
