use Rattle.fixed_powers.proofs.PowerFacts.{power_of-encloses}
use Rattle.fixed_powers.proofs.powers.Powers.make.Goals as goal

pub returns-in-Ok-clause-encloses : goal.returns-in-Ok-clause-encloses
returns-in-Ok-clause-encloses c = λ d within. power_of-encloses c.args.side c.args.n.0 d
