use Rattle.fixed_powers.proofs.PowerFacts.{power_of-encloses}
use Rattle.fixed_powers.proofs.laws.powers_enclose.Goals as goal

pub returns : goal.returns
returns c = power_of-encloses
